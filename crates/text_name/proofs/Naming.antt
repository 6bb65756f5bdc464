-- What a well-formed row gives the writers of names, and how long a name is. Assumes nothing.
use mathlib.Core.Path.{◌≡◌}
use mathlib.Core.Bool.{true}
use mathlib.Core.List.{List}
use Prim.Native.Nat.{ℕ, ◌+◌, ◌≤◌}
use lib.ListN.{get_or}
use lib.Dec.{eqb}
use borrow.Author.Tests.{eqb-true}
use Rattle.law_base.proofs.Tests.{first}
use Rattle.rows.specs.declared.Block.{Block}
use Rattle.rows.specs.Well.{well_block}
use Rattle.text_name.specs.Names.{is_header}
use Rattle.rows.proofs.WellLaws.{block_clauses}
use Rattle.rows.proofs.WellLaws.{ranges_inside}

-- a header has 19 bytes
pub header_size : (s : List ℕ) (r : Block) → is_header s r ≡ true → r.size ≡ 19
unfolding is_header
header_size s r e = eqb-true r.size 19 (first (eqb r.size 19) (eqb (get_or s r.start 0) 0) e)

-- what `put_name` asks is so of a well-formed row
pub inside_tape : (tape : ℕ) (tones : List ℕ) (r : Block) → well_block tape tones r ≡ true
    → (r.start + r.size ≤ tape) × (r.text + r.chars ≤ tape)
inside_tape tape tones r e = let i = ranges_inside tape tones r (block_clauses tape tones r e).ranges in (i.bytes, i.name)
