-- THE LINES OF A RUN'S ROWS are its text; so are those of a start that is refused. Assumes nothing.
use Prim.Native.Nat.{ℕ, suc, ◌*◌, ◌≤◌}
use native.Mathlib.Nat.{mul-suc}
use native.Mathlib.Omega.{arith}
use mathlib.Core.Path.{◌≡◌, refl, sym, ap, ◌∙◌}
use mathlib.Core.Bool.{Bool, true, false}
use mathlib.Core.List.{List, [], ◌∷◌, ◌++◌}
use lib.ListN.{length, length-append}
use borrow.Author.Tests.{le-ltb}
use Rattle.text_out.specs.Out.{refused_line}
use Rattle.law_base.specs.Rules.{◌⇒◌, ◌∣◌}
use Rattle.std.specs.Prelude.{Result, Ok, Err}
use Rattle.refusals.specs.declared.Refusal.{Refusal}
use Rattle.refusals.specs.Refusals.{number, answer_no}
use Rattle.rows.specs.Table.{put_all, rows_of}
use Rattle.play_entries.specs.Places.{Tape}
use Rattle.play_walk.specs.declared.Position.{Position}
use Rattle.play_walk.specs.declared.Reached.{Reached}
use Rattle.play_walk.specs.declared.Fault.{Fault}
use Rattle.play_walk.specs.declared.Fault.TheVariants.{NotValid, NotFormed}
use Rattle.play_walk.specs.Heads.{fault_no, ended_in}
use Rattle.play_deck.specs.Deck.{judged, unless, play_measured, play_source, block_at}
use Rattle.play_deck.specs.Calls.{position_in}
use Rattle.host_run.specs.Rows.{answer_row, call_row}
use Rattle.host_run.specs.Runs.{player_of, run_rows, room_for, checked, run_answer, run_no, run_table}
use Rattle.text_trace.specs.Lines.{measured_line, source_line, line_of}
use Rattle.text_trace.proofs.Lengths.{line_length}
use Rattle.prog_calls.specs.Answers.{place_in}
use Rattle.prog_calls.specs.Trace.{ends_run, run_text}
use Rattle.prog_calls.specs.Inner.{line_in, lines_in, same_lines}
use Rattle.prog_calls.proofs.ReadBack.{place_back, reached-back}
use Rattle.prog_calls.specs.Playback.{counts_in}
use Rattle.prog_calls.proofs.Saying.{counts_length}
use Rattle.prog_calls.proofs.Rows.{put_read}

module _ (m : Bool) (w : Tape) where
  abbrev Play : Position → ℕ → Result Reached Fault
  Play = player_of m w

  -- THE LINES OF ITS ROWS
  pub rows_said : (q : Position) (ns : List ℕ) → lines_in m w (run_rows Play q ns) ≡ run_text m w q ns
  unfolding lines_in line_in run_rows run_text
  rows_said q [] = refl
  rows_said q (n ∷ ns) =
      let r = Play q n in
      let rest = lines_in m w (run_rows Play (position_in q r) ns) in
      ap (λ (x : Result Reached Fault). line_of m x (block_at w (place_in (call_row q r))) ++ (ends_run m x ⇒ [] ∣ rest)) (reached-back q r)
      ∙ ap (λ (p : Position). line_of m r (block_at w p) ++ (ends_run m r ⇒ [] ∣ rest)) (place_back q r)
      ∙ ap (λ (t : List ℕ). line_of m r (block_at w (position_in q r)) ++ (ends_run m r ⇒ [] ∣ t)) (rows_said (position_in q r) ns)

  pub run_length : (q : Position) (ns : List ℕ) → length (run_rows Play q ns) ≡ length ns
  unfolding run_rows
  run_length q [] = refl
  run_length q (n ∷ ns) = ap suc (run_length (position_in q (Play q n)) ns)

  -- no longer than 256 bytes a call
  pub run-most : (q : Position) (ns : List ℕ) → length (run_text m w q ns) ≤ 256 * length ns
  unfolding run_text
  run-most q [] = omega arith
  run-most q (n ∷ ns) =
      let r = Play q n in
      let rest = run_text m w (position_in q r) ns in
      simp (length-append, mul-suc)
      (omega (arith, line_length m r (block_at w (position_in q r)), fewer (ends_run m r) rest, run-most (position_in q r) ns))
    where
      fewer : (b : Bool) (t : List ℕ) → length (b ⇒ [] ∣ t) ≤ length t
      fewer true t = omega arith
      fewer false t = omega arith

  -- nor than 256,000 of a description's
  pub calls_most : (q : Position) (s : List ℕ) (n : ℕ) → n ≤ 1000 → length (run_text m w q (counts_in s n)) ≤ 256000
  calls_most q s n h = omega (arith, run-most q (counts_in s n), counts_length s n)

  -- every call has the same answer, and the head stays
  module _ (q : Position) (r : Result Reached Fault) (same : (n : ℕ) → Play q n ≡ r) (stays : position_in q r ≡ q) (on : ends_run m r ≡ false) where
    all_same : (ns : List ℕ) → run_text m w q ns ≡ same_lines (length ns) (line_of m r (block_at w q))
    unfolding run_text same_lines
    all_same [] = refl
    all_same (n ∷ ns) =
        ap (λ (x : Result Reached Fault). line_of m x (block_at w (position_in q x)) ++ (ends_run m x ⇒ [] ∣ run_text m w (position_in q x) ns)) (same n)
        ∙ ap (λ (p : Position). line_of m r (block_at w p) ++ (ends_run m r ⇒ [] ∣ run_text m w p ns)) stays
        ∙ ap (λ (b : Bool). line_of m r (block_at w q) ++ (b ⇒ [] ∣ run_text m w q ns)) on
        ∙ ap (λ (t : List ℕ). line_of m r (block_at w q) ++ t) (all_same ns)

-- a refused call's line, that the run goes on, and each call of a start that is refused
refused_line_is : (m : Bool) (f : Fault) (b : Result ℕ Fault) → line_of m (Err f) b ≡ refused_line (fault_no f)
unfolding line_of measured_line source_line
refused_line_is true f b = refl
refused_line_is false f b = refl

refused_on : (m : Bool) (f : Fault) → ends_run m (Err f) ≡ false
unfolding ends_run ended_in
refused_on true f = refl
refused_on false f = refl

never : (m : Bool) (w : Tape) (q : Position) (f : Fault) → judged w q ≡ Err f → (n : ℕ) → player_of m w q n ≡ Err f
unfolding player_of play_measured play_source unless
never true w q f e n = rw e
never false w q f e n = rw e

never_ok : {why : Refusal} {u : Unit {0}} → ◌≡◌ {A = Result (Unit {0}) Refusal} (Err why) (Ok u) → ⊥
never_ok e = let z : ◌≡◌ {A = ℕ} 0 1 = cc in absurd (omega arith)

-- WHAT A RUN LEFT, by what it answered
module _ (m : Bool) (w : Tape) (q : Position) (ns table : List ℕ) (h : length ns * answer_row.width ≤ length table) where
  answered : (c : Result (Unit {0}) Fault) → judged w q ≡ c → run_answer w q ns table ≡ checked c (Ok tt)
  unfolding run_answer room_for
  answered c j = rw (j, le-ltb (length table) (length ns * answer_row.width) h)

  -- a start that is refused: so is each call
  pub refused_said : (why : Refusal) → Err why ≡ run_answer w q ns table → same_lines (length ns) (refused_line (number why)) ≡ run_text m w q ns
  unfolding checked position_in
  refused_said why e = by_check (judged w q) refl
    where
      each : (f : Fault) → judged w q ≡ Err f → number why ≡ fault_no f
          → same_lines (length ns) (refused_line (number why)) ≡ run_text m w q ns
      each f j k =
          ap (λ (x : ℕ). same_lines (length ns) (refused_line x)) k
          ∙ ap (same_lines (length ns)) (sym (refused_line_is m f (block_at w q)))
          ∙ sym (all_same m w q (Err f) (never m w q f j) refl (refused_on m f) ns)

      number_is : (c : Result (Unit {0}) Fault) → judged w q ≡ c → number why ≡ answer_no (checked c (Ok tt))
      number_is c j = ap answer_no (e ∙ answered c j)

      by_check : (c : Result (Unit {0}) Fault) → judged w q ≡ c → same_lines (length ns) (refused_line (number why)) ≡ run_text m w q ns
      by_check (Ok u) j = absurd (never_ok (e ∙ answered (Ok u) j))
      by_check (Err NotValid) j = each NotValid j (number_is (Err NotValid) j)
      by_check (Err NotFormed) j = each NotFormed j (number_is (Err NotFormed) j)

  -- rows that were played: the table's lines are the run's
  pub played_said : (after : List ℕ) (u : Unit {0}) → Ok u ≡ run_answer w q ns table → after ≡ run_table m w q ns table
      → lines_in m w (rows_of answer_row after (length ns)) ≡ run_text m w q ns
  unfolding run_table
  played_said after u e x =
      let z : run_no w q ns table ≡ 0 = ap answer_no (sym e) in
      let rs = run_rows (player_of m w) q ns in
      let y : after ≡ put_all answer_row table 0 rs = x ∙ rw z in
      ap (λ (t : List ℕ). lines_in m w (rows_of answer_row t (length ns))) y
      ∙ ap (lines_in m w) (put_read answer_row rs table (length ns) (run_length m w q ns) h)
      ∙ rows_said m w q ns
