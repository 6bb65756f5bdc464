-- A TAPE WHOSE ROWS ARE ALL WELL FORMED is not cut, and its valid positions pass the checks. Assumes nothing.
use native.Mathlib.Omega.{arith}
use borrow.Author.Tests.{le-ltb, lt-leb}
use mathlib.Core.Path.{◌≡◌, refl}
use mathlib.Core.Bool.{Bool, true, false, ◌&&◌, ◌||◌}
use mathlib.Core.Logic.{⊎_elim}
use lib.Dec.{ltb, leb}
use Rattle.law_base.proofs.Numbers.{lt_or_ge}
use Rattle.law_pulses.specs.Play.{Answer}
use Rattle.law_pulses.specs.Source.{is_ended}
use Rattle.rows.specs.Table.{capacity_of}
use Rattle.rows.specs.Rows.{block, block_most}
use Rattle.play_entries.specs.Entries.{Label}
use Rattle.play_entries.specs.Places.{Tape, valid, has_in, length_in, remains}
use Rattle.play_walk.specs.declared.Position.{Position}
use Rattle.play_walk.specs.Heads.{told_reached, walked}
use Rattle.play_entries.proofs.Formed.{not-both}
use Rattle.play_entries.specs.Mounted.{WholeTape}
use Rattle.play_deck.specs.Deck.{all_fine, at_start, ruled_out, ill_formed, valid_at, judged}

or_false : (a b : Bool) → (a || b) ≡ true → b ≡ false → a ≡ true
or_false true b e f = refl
or_false false b e f = absurd (not-both e f)

and_not : (a : Bool) → (a && false) ≡ false
and_not true = refl
and_not false = refl

ruled_out_lem : (w : Tape) (q : Position) → valid_at w q ≡ true → ruled_out w q ≡ false
unfolding ruled_out valid
ruled_out_lem w q v =
    ⊎_elim
    (λ l. rw (lt-leb w.count q.block l))
    (λ g.
    let e : (ltb q.block w.count && (has_in w q.block q.phase && remains q.left (length_in w q.block q.phase)))
    ≡ false = rw (le-ltb q.block w.count g) in
    rw (or_false (at_start q) _ v e) (and_not (leb w.count q.block)))
    (lt_or_ge q.block w.count)

ill_formed_lem : (w : Tape) → WholeTape w → (q : Position) → ill_formed w q ≡ false
unfolding ill_formed
ill_formed_lem w whole q =
    ⊎_elim
    (λ l. rw (whole.rows q.block l) (and_not (ltb q.block w.count)))
    (λ g. rw (le-ltb q.block w.count g))
    (lt_or_ge q.block w.count)

-- on the whole tape no walk meets a bad row
pub all_walked : (w : Tape) (a : Answer Label) → walked w w a ≡ told_reached w w a
unfolding walked
all_walked w a = rw (le-ltb w.count w.count (omega arith), and_not (is_ended a.tells))

module _ (w : Tape) (whole : WholeTape w) where
  -- a valid position passes the checks
  pub whole_fine : (q : Position) → valid_at w q ≡ true → judged w q ≡ all_fine
  unfolding judged
  whole_fine q v = rw (le-ltb (capacity_of block block_most w.blocks) w.count whole.lent, ruled, row, v)
    where
      ruled : ruled_out w q ≡ false
      ruled = ruled_out_lem w q v

      row : ill_formed w q ≡ false
      row = ill_formed_lem w whole q
