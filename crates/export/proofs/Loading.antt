-- A load as a host gets it: 10 first, else the load's own answer and tables. Assumes nothing.
use Prim.Native.Nat.{ℕ, ◌<◌, ◌≤◌}
use native.Mathlib.Omega.{arith}
use mathlib.Core.Path.{◌≡◌, sym, ap, ◌∙◌}
use mathlib.Core.List.{List}
use lib.ListN.{length}
use borrow.Author.Tests.{le-leb, lt-leb, le-ltb, lt-ltb}
use Rattle.refusals.specs.Refusals.{tape_bad, no_room}
use Rattle.text_out.specs.Out.{told}
use Rattle.load_source.specs.Source.{Load}
use Rattle.load_tape.specs.declared.Loaded.{Loaded}
use Rattle.std.specs.Prelude.{Result, Ok, Err}
use Rattle.load_tape.specs.declared.NotLoaded.{NotLoaded}
use Rattle.load_tape.specs.declared.NotLoaded.TheVariants.{Unread, Refused}
use Rattle.load_tape.specs.Load.{Leaves, answer_of, block_table, tone_table}
use Rattle.host_answers.specs.Answers.{number_of, values_of, both_words, of_loaded}
use Rattle.export.specs.Export.{load_number, load_table}
use Rattle.host_answers.proofs.Telling.{tell_refused, number_stands}

-- with three words the number is the load's own: they hold a tape's answer, and a refusal's number always stands
whole : (a : Result Loaded NotLoaded) (row : List ℕ) → 3 ≤ length row → number_of (of_loaded a) row ≡ (of_loaded a).no
unfolding number_of
whole (Ok l) row h = rw (le-leb 3 (length row) h)
whole (Err (Unread f g)) row h = sym (number_stands tape_bad (both_words f g) row)
whole (Err (Refused k)) row h = sym (tell_refused k row).0

-- a shorter row is not written
unwritten : (a : Result Loaded NotLoaded) (row : List ℕ) → length row < 3 → row ≡ values_of (of_loaded a) row
unfolding values_of both_words told
unwritten (Ok l) row h = rw (lt-leb 3 (length row) h)
unwritten (Err (Unread f g)) row h = rw (lt-leb 8 (length row) (omega arith))
unwritten (Err (Refused k)) row h = (tell_refused k row).1

pub load_short : (l : Load) (B N : ℕ) (bs ts row : List ℕ) → length row < 3
    → (◌≡◌ {A = ℕ} no_room (load_number (answer_of l) row))
    × ((bs ≡ load_table row bs (block_table B l))
    × ((ts ≡ load_table row ts (tone_table N l)) × (row ≡ values_of (of_loaded (answer_of l)) row)))
unfolding load_number load_table
load_short l B N bs ts row h =
    (rw (lt-ltb (length row) 3 h), (rw (lt-ltb (length row) 3 h), (rw (lt-ltb (length row) 3 h), unwritten (answer_of l) row h)))

pub load_told : (l : Load) (B N : ℕ) (bs ts row : List ℕ) {a : Result Loaded NotLoaded} {bs' ts' row' : List ℕ} {k : ℕ} → 3 ≤ length row
    → Leaves B N l a bs' ts'
    → (k ≡ number_of (of_loaded a) row) × (row' ≡ values_of (of_loaded a) row)
    → (k ≡ load_number (answer_of l) row)
    × ((bs' ≡ load_table row bs (block_table B l))
    × ((ts' ≡ load_table row ts (tone_table N l)) × (row' ≡ values_of (of_loaded (answer_of l)) row)))
unfolding load_number load_table
load_told l B N bs ts row {a} h q e =
    let n = e.0 ∙ whole a row h ∙ ap (λ (x : Result Loaded NotLoaded). (of_loaded x).no) q.answer in
    let r = e.1 ∙ ap (λ (x : Result Loaded NotLoaded). values_of (of_loaded x) row) q.answer in
    (rw (le-ltb (length row) 3 h) n, (rw (le-ltb (length row) 3 h) q.blocks, (rw (le-ltb (length row) 3 h) q.tones, r)))
