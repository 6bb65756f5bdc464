-- A RUN OF CALLS: its own numbers, exactly when (rule 148), and demand 3 of a run over every tape that a load leaves (rule 147).
-- Assumes nothing but that bytes are below 256.
use Prim.Native.Nat.{ℕ, ◌+◌, ◌*◌, ◌<◌}
use native.Mathlib.Omega.{arith}
use borrow.Author.Tests.{lt-ltb, le-ltb, ne_eqb}
use mathlib.Core.Path.{◌≡◌, refl, ◌∙◌}
use mathlib.Core.Bool.{Bool, true}
use mathlib.Core.Logic.Iff
use mathlib.Core.Logic.{◌↔◌, ◌⊎◌, inl, inr, ⊎_elim}
use mathlib.Core.List.{List}
use lib.ListN.{length}
use Rattle.std.specs.Prelude.{Result, Ok, Err}
use Rattle.law_base.proofs.Numbers.{lt_or_ge}
use Rattle.refusals.specs.Refusals.{no_position, no_room, bad_row, answer_no}
use Rattle.law_pulses.specs.Play.{calls, sum, Positive, Demanded}
use Rattle.load_blocks.specs.Does.{lent_of}
use Rattle.load_tape.specs.declared.Format.{Format}
use Rattle.load_tape.specs.Load.{load_named, Leaves, loaded_as}
use Rattle.play_entries.specs.Places.{Tape}
use Rattle.play_entries.specs.Mounted.{tape_of}
use Rattle.play_walk.specs.declared.Position.{Position}
use Rattle.play_walk.specs.Heads.{ahead, told_reached}
use Rattle.play_walk.specs.declared.Fault.{Fault}
use Rattle.play_walk.specs.declared.Fault.TheVariants.{NotValid, NotFormed}
use Rattle.play_deck.specs.Deck.{all_fine, judged, valid_at, play_measured}
use Rattle.play_deck.specs.Calls.{position_in}
use Rattle.host_run.specs.Rows.{answer_row}
use Rattle.host_run.specs.Runs.{room_for, checked, run_answer, room_no, run_no, run_table, answers_of, tallied}
use Rattle.host_run.proofs.Told.{run-calls}
use Rattle.law_every_load.specs.Sizes.{Bytes}
use Rattle.law_promises.specs.Numbers.{Unformed, Invalid}
use Rattle.law_promises.proofs.Positions.{judged_9, judged_11}
use Rattle.law_promises.proofs.Playing.{loaded_demand_3}

module _ (w : Tape) (q : Position) (ns table : List ℕ) where
  -- fewer words than the calls' rows have
  abbrev Short : Type 0
  Short = length table < length ns * answer_row.width

  room_ways : (room_no ns table ≡ 0) ⊎ ((room_no ns table ≡ no_room) × Short)
  unfolding room_for
  room_ways =
      let n = length ns * answer_row.width in
      ⊎_elim (λ h. inr (rw (lt-ltb (length table) n h), h)) (λ h. inl (rw (le-ltb (length table) n h))) (lt_or_ge (length table) n)

  run_9 : (c : Result (Unit {0}) Fault) → (answer_no (checked c (room_for ns table)) ≡ no_position) ↔ (c ≡ Err NotValid)
  unfolding checked
  run_9 (Ok u) = (
    λ e. ⊎_elim (λ z. absurd (omega (arith, e, z))) (λ z. absurd (omega (arith, e, z.0))) room_ways,
    λ e. let z : ◌≡◌ {A = ℕ} 0 1 = cc in absurd (omega arith),
  )
  run_9 (Err NotValid) = (λ e. refl, λ e. refl)
  run_9 (Err NotFormed) = (λ e. absurd (omega arith), λ e. let z : ◌≡◌ {A = ℕ} 0 1 = cc in absurd (omega arith))

  run_11 : (c : Result (Unit {0}) Fault) → (answer_no (checked c (room_for ns table)) ≡ bad_row) ↔ (c ≡ Err NotFormed)
  unfolding checked
  run_11 (Ok u) = (
    λ e. ⊎_elim (λ z. absurd (omega (arith, e, z))) (λ z. absurd (omega (arith, e, z.0))) room_ways,
    λ e. let z : ◌≡◌ {A = ℕ} 0 1 = cc in absurd (omega arith),
  )
  run_11 (Err NotValid) = (λ e. absurd (omega arith), λ e. let z : ◌≡◌ {A = ℕ} 0 1 = cc in absurd (omega arith))
  run_11 (Err NotFormed) = (λ e. refl, λ e. refl)

  run_10 : (c : Result (Unit {0}) Fault) → (answer_no (checked c (room_for ns table)) ≡ no_room) ↔ ((c ≡ all_fine) × Short)
  unfolding checked room_for
  run_10 (Ok u) = (
    λ e. ⊎_elim (λ z. absurd (omega (arith, e, z))) (λ z. (refl, z.1)) room_ways,
    λ h. rw (lt-ltb (length table) (length ns * answer_row.width) h.1),
  )
  run_10 (Err NotValid) = (λ e. absurd (omega arith), λ h. let e = h.0 in let z : ◌≡◌ {A = ℕ} 0 1 = cc in absurd (omega arith))
  run_10 (Err NotFormed) = (λ e. absurd (omega arith), λ h. let e = h.0 in let z : ◌≡◌ {A = ℕ} 0 1 = cc in absurd (omega arith))

  pub given_9_run : (run_no w q ns table ≡ no_position) ↔ Invalid w q
  unfolding run_answer
  given_9_run = Iff.trans (run_9 (judged w q)) (judged_9 w q)

  pub given_11_run : (run_no w q ns table ≡ bad_row) ↔ Unformed w q.block
  unfolding run_answer
  given_11_run = Iff.trans (run_11 (judged w q)) (judged_11 w q)

  pub given_10_run : (run_no w q ns table ≡ no_room) ↔ ((judged w q ≡ all_fine) × Short)
  unfolding run_answer
  given_10_run = run_10 (judged w q)

  -- a refused run writes nothing
  pub run-stays : (measured : Bool) → 0 < run_no w q ns table → run_table measured w q ns table ≡ table
  unfolding run_table
  run-stays measured h = rw (ne_eqb (run_no w q ns table) 0 (λ z. omega (arith, h, z)))

-- tables of B and N words, the tape s, the model; the load's answer is a tape of `count` blocks, and the tables at exit are bt and tt
module _ (B N : ℕ) (s : List ℕ) (model : ℕ) {f : Format} {count k : ℕ} {bt tt : List ℕ} (b : Bytes s)
    (l : Leaves B N (load_named (lent_of B N) s model) (Ok (loaded_as f count k)) bt tt) where
  abbrev w : Tape
  w = tape_of s tt bt count

  -- DEMAND 3 OF A RUN: its answers, tallied, are what the list says
  pub loaded_run : (q : Position) (n : ℕ) (ms : List ℕ) → valid_at w q ≡ true → 0 < n → Positive ms
      → (tallied (play_measured w q n) (answers_of (play_measured w) (position_in q (play_measured w q n)) ms)
      ≡ told_reached w w (calls (ahead w q) n ms))
      × Demanded (ahead w q) (n + sum ms) (calls (ahead w q) n ms)
  loaded_run q n ms v p h =
      let d = loaded_demand_3 B N s model b l q n ms v p h in
      (run-calls w q n ms ∙ d.0, d.1)
