-- WORDS THAT NAME NO POSITION are refused as a position of their block that isn't valid; rows of words, by computation. Assumes nothing.
use Prim.Native.Nat.{ℕ, ◌≤◌, ◌<◌}
use mathlib.Core.Path.{◌≡◌, refl, ap, ◌∙◌}
use mathlib.Core.Bool.{Bool, true, false, not}
use mathlib.Core.List.{List, [], ◌∷◌, ◌++◌, map}
use mathlib.Core.Logic.{⊎_elim}
use lib.Dec.{leb, eqb}
use borrow.Author.Tests.{le-leb, lt-leb, lt-ltb, le-ltb}
use Rattle.law_base.specs.Rules.{◌⇒◌, ◌∣◌}
use Rattle.law_base.proofs.Numbers.{lt_or_ge}
use Rattle.refusals.specs.Refusals.{no_position, bad_row}
use Rattle.rows.specs.Well.{well_ranges, well_tone, well_numbers, well_cases, well_tones, well_block}
use Rattle.rows.proofs.Samples.{row_words}
use Rattle.play_entries.specs.Places.{Tape}
use Rattle.play_entries.specs.Mounted.{overfull, well_row, tape_of}
use Rattle.play_walk.specs.declared.Position.{Position}
use Rattle.std.specs.Prelude.{Result, Err}
use Rattle.play_walk.specs.declared.Reached.{Reached}
use Rattle.play_walk.specs.declared.Fault.{Fault}
use Rattle.play_walk.specs.declared.Fault.TheVariants.{NotValid, NotFormed}
use Rattle.play_walk.specs.Heads.{reached_no, walk_from}
use Rattle.play_deck.specs.Deck.{at_start, ruled_out, ill_formed, valid_at, judged, unless, stays, play_measured, source_from, play_source}
use Rattle.play_deck.specs.Deck.{number_for, block_of, block_at}
use Rattle.host_words.specs.Words.{unhalved, phase_from, span_from, joined, position_from}
use Rattle.export.specs.Export.{misplaced_no, with_place, measured_at}

-- the check of a position that isn't valid, by three tests: the count, whether its block is past it, its row
abbrev check_by : Bool → Bool → Bool → Result (Unit {0}) Fault
check_by over past well = over ⇒ Err NotFormed ∣ past ⇒ Err NotValid ∣ well ⇒ Err NotValid ∣ Err NotFormed

-- its number, of a player and of a position's block
abbrev number_by : Bool → Bool → Bool → ℕ
number_by over past well = over ⇒ bad_row ∣ past ⇒ no_position ∣ well ⇒ no_position ∣ bad_row

player_by : (o p r : Bool) (x : Result Reached Fault) → reached_no (unless (check_by o p r) x) ≡ number_by o p r
unfolding reached_no unless
player_by true p r x = refl
player_by false true r x = refl
player_by false false true x = refl
player_by false false false x = refl

block-by : (o p r : Bool) (w : Tape) (q : Position) → number_for (block_of w q (check_by o p r)) ≡ number_by o p r
unfolding number_for block_of
block-by true p r w q = refl
block-by false true r w q = refl
block-by false false true w q = refl
block-by false false false w q = refl

module _ (w : Tape) (q : Position) (bad : valid_at w q ≡ false) where
  past_count : w.count ≤ q.block → judged w q ≡ check_by (overfull w) true (well_row w q.block)
  unfolding judged ruled_out ill_formed
  past_count h = rw (bad, le-leb w.count q.block h, le-ltb q.block w.count h) (of (overfull w) (at_start q))
    where
      of : (o s : Bool)
          → ◌≡◌ {A = Result (Unit {0}) Fault} (o ⇒ Err NotFormed ∣ not s ⇒ Err NotValid ∣ Err NotValid) (o ⇒ Err NotFormed ∣ Err NotValid)
      of true s = refl
      of false true = refl
      of false false = refl

  below_count : q.block < w.count → judged w q ≡ check_by (overfull w) false (well_row w q.block)
  unfolding judged ruled_out ill_formed
  below_count h = rw (bad, lt-leb w.count q.block h, lt-ltb q.block w.count h) (of (overfull w) (well_row w q.block))
    where
      of : (o r : Bool)
          → ◌≡◌ {A = Result (Unit {0}) Fault} (o ⇒ Err NotFormed ∣ not r ⇒ Err NotFormed ∣ Err NotValid) (check_by o false r)
      of true r = refl
      of false true = refl
      of false false = refl

  judged-by : judged w q ≡ check_by (overfull w) (leb w.count q.block) (well_row w q.block)
  judged-by =
      ⊎_elim (λ h. rw (lt-leb w.count q.block h) (below_count h)) (λ h. rw (le-leb w.count q.block h) (past_count h))
      (lt_or_ge q.block w.count)

  -- SO ALL THREE refuse it as words that name no position, of which the first is its block number
  pub misplaced_measured : (n : ℕ) (ws : List ℕ) → reached_no (play_measured w q n) ≡ misplaced_no w (q.block ∷ ws)
  unfolding play_measured misplaced_no
  misplaced_measured n ws =
      ap (λ (c : Result (Unit {0}) Fault). reached_no (unless c (eqb n 0 ⇒ stays w q ∣ walk_from w q n))) judged-by
      ∙ player_by (overfull w) (leb w.count q.block) (well_row w q.block) (eqb n 0 ⇒ stays w q ∣ walk_from w q n)

  pub misplaced_source : (n : ℕ) (ws : List ℕ) → reached_no (play_source w q n) ≡ misplaced_no w (q.block ∷ ws)
  unfolding play_source misplaced_no
  misplaced_source n ws =
      ap (λ (c : Result (Unit {0}) Fault). reached_no (unless c (eqb n 0 ⇒ stays w q ∣ source_from w q n))) judged-by
      ∙ player_by (overfull w) (leb w.count q.block) (well_row w q.block) (eqb n 0 ⇒ stays w q ∣ source_from w q n)

  pub misplaced_block : (ws : List ℕ) → number_for (block_at w q) ≡ misplaced_no w (q.block ∷ ws)
  unfolding misplaced_no
  misplaced_block ws =
      ap (λ (c : Result (Unit {0}) Fault). number_for (block_of w q c)) judged-by
      ∙ block-by (overfull w) (leb w.count q.block) (well_row w q.block) w q

-- A TABLE: over a row of two cycles and one whose endless flag is 2, a count, words, and the number that a player's call of them has
abbrev rows : List ℕ
rows = row_words (0 ∷ 1 ∷ []) ++ row_words (0 ∷ 0 ∷ 0 ∷ 0 ∷ 0 ∷ 0 ∷ 0 ∷ 0 ∷ 2 ∷ [])

abbrev on : ℕ → Tape
on count = tape_of [] (2 ∷ 100 ∷ 100 ∷ 0 ∷ []) rows count

abbrev named : List (ℕ × List ℕ × ℕ)
named =
    (3, (2 ∷ 5 ∷ 0 ∷ 0 ∷ 0 ∷ 0 ∷ 0 ∷ []), bad_row)  -- the count first
    ∷ (2, (2 ∷ 5 ∷ 0 ∷ 0 ∷ 0 ∷ 0 ∷ 0 ∷ []), no_position)  -- at the count
    ∷ (2, (1 ∷ 5 ∷ 0 ∷ 0 ∷ 0 ∷ 0 ∷ 0 ∷ []), bad_row)  -- the bad row before the phase
    ∷ (2, (1 ∷ 3 ∷ 0 ∷ 0 ∷ 0 ∷ 1 ∷ 1 ∷ []), bad_row)
    ∷ (2, (0 ∷ 5 ∷ 0 ∷ 0 ∷ 0 ∷ 0 ∷ 0 ∷ []), no_position)
    ∷ (2, (1 ∷ 0 ∷ 0 ∷ 0 ∷ 0 ∷ 0 ∷ []), bad_row)  -- six words: the first is the block's number
    ∷ (2, (0 ∷ 0 ∷ 0 ∷ 0 ∷ 0 ∷ 0 ∷ []), no_position)
    ∷ (2, (1 ∷ []), bad_row)
    ∷ (2, (2 ∷ []), no_position)
    ∷ (2, [], no_position)  -- none at all
    ∷ (3, [], bad_row)
    ∷ []

pub words_refused : map (λ e. (measured_at (on e.0) e.1 1).no) named ≡ map (λ e. e.2) named
unfolding with_place misplaced_no position_from joined phase_from unhalved span_from well_row well_block well_ranges well_numbers well_cases well_tones
    well_tone
words_refused = refl
