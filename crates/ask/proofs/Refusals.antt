-- WHEN A QUERY IS REFUSED: what a row that is answered says of the tape and the block. Assumes nothing.
use Rattle.std.specs.Prelude.{Result, Ok, Err}
use Rattle.std.proofs.Common.{◌≡◌, ℕ, ◌≤◌, ◌<◌, Bool, true, false, leb, refl, sym}
use borrow.Author.Tests.{lt-leb, ltb-false, leb-false}
use Rattle.law_base.specs.Rules.{◌⇒◌, ◌∣◌}
use Rattle.refusals.specs.declared.Refusal.{Refusal}
use Rattle.refusals.specs.declared.Refusal.TheVariants.{NoBlock, BadRow}
use Rattle.rows.specs.declared.Block.{Block}
use Rattle.rows.specs.Table.{capacity_of}
use Rattle.rows.specs.Rows.{block, block_most}
use Rattle.play_entries.specs.Places.{Tape, block_in}
use Rattle.play_entries.specs.Mounted.{overfull, well_row}
use Rattle.ask.specs.Queries.{asked, told_of}

-- the tests of a query, tried in order
record Tests (t b w : Bool) (x r : Block) : Type 0 where
  pub few : t ≡ false
  pub there : b ≡ false
  pub well : w ≡ true
  pub row : x ≡ r

all_passed : (t b w : Bool) (x r : Block) → (t ⇒ Err BadRow ∣ b ⇒ Err NoBlock ∣ w ⇒ Ok x ∣ Err BadRow) ≡ Ok r → Tests t b w x r
all_passed true b w x r e = cc
all_passed false true w x r e = cc
all_passed false false true x r e = record { few = refl; there = refl; well = refl; row = cc }
all_passed false false false x r e = cc

-- a query about block i that is answered by row r: the count is lent, the block is one of it, and its row, which is r, is well formed
pub record Answerable (w : Tape) (i : ℕ) (r : Block) : Type 0 where
  pub few : w.count ≤ capacity_of block block_most w.blocks
  pub there : i < w.count
  pub well : well_row w i ≡ true
  pub row : block_in w i ≡ r

module _ (w : Tape) (i : ℕ) where
  pub answerable : (r : Block) → Ok r ≡ asked w i → Answerable w i r
  unfolding asked
  answerable r e =
      let t = all_passed (overfull w) (leb w.count i) (well_row w i) (block_in w i) r (sym e) in
      record { few = ltb-false _ _ t.few; there = leb-false _ _ t.there; well = t.well; row = t.row }

  -- a row that is lent and well formed is answered
  pub asked_well : overfull w ≡ false → i < w.count → well_row w i ≡ true → asked w i ≡ Ok (block_in w i)
  unfolding asked
  asked_well f g h = rw (f, lt-leb w.count i g, h)

-- what is told of a row that a query was refused, or given
pub number-refused : {A : Type 0} (f : Block → A) (k : Refusal) {m : Result Block Refusal} → Err k ≡ m → Err k ≡ told_of f m
unfolding told_of
number-refused f k e = rw (← e)

pub number-given : {A : Type 0} (f : Block → A) (r : Block) {m : Result Block Refusal} {x : A} → Ok r ≡ m → x ≡ f r → Ok x ≡ told_of f m
unfolding told_of
number-given f r e y = rw (← e, y)
