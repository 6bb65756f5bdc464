-- The loops of `whole.too_many_bits`.
use Rattle.load_source.specs.Source.{too_many_bits}
use Rattle.rows.specs.Rows.{block}
use Rattle.rows.specs.Table.{table_of}
use Rattle.rows.specs.declared.Block.{Block}
use lib.ListN.{length, drop}
use mathlib.Core.List.{List}
use Prim.Native.Nat.{ℕ}
use mathlib.Core.Path.{◌≡◌}
use Rattle.load_source.proofs.whole.too_many_bits.Given as goal

abbrev pub invariant-loop-i : goal.invariant-loop-i
invariant-loop-i l =
    (B : ℕ) (rs : List Block) → l.n ≡ length rs → l.blocks ≡ table_of block rs B → too_many_bits (drop l.i rs) ≡ too_many_bits rs
