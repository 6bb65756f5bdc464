-- What a well-formed row of a mounted tape may be played from: its bytes, its tone rows and its numbers. Assumes nothing.
use Prim.Native.Nat.{ℕ, ◌+◌, ◌≤◌}
use native.Mathlib.Omega.{arith}
use mathlib.Core.Path.{◌≡◌}
use mathlib.Core.Bool.{true}
use mathlib.Core.List.{List}
use lib.ListN.{length}
use Rattle.rows.specs.declared.Block.{Block}
use Rattle.rows.specs.Table.{capacity_of}
use Rattle.rows.specs.Rows.{tone, tone_most}
use Rattle.rows.specs.Well.{well_tones, well_numbers, well_block}
use Rattle.rows.proofs.WellLaws.{block_clauses, ranges_inside}
use Rattle.play_entries.specs.Mounted.{tape_size}

pub record LentRow (tape tones : List ℕ) (r : Block) : Type 0 where
  pub bytes : r.start + r.size ≤ length tape
  pub few : r.start + r.size ≤ 1048576
  pub rows : r.tone + r.tones ≤ capacity_of tone tone_most tones
  pub numbers : well_numbers r ≡ true
  pub each : well_tones tones r.tone r.tones ≡ true

pub row_lent : (tape tones : List ℕ) (r : Block) → well_block (tape_size tape) tones r ≡ true → LentRow tape tones r
row_lent tape tones r w =
    let c = block_clauses (tape_size tape) tones r w in
    let x = ranges_inside (tape_size tape) tones r c.ranges in
    record { bytes = omega arith; few = omega arith; rows = x.rows; numbers = c.numbers; each = c.rows }
