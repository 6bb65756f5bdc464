-- What a row's pause comes to at most, where it ends. Assumes nothing.
use Rattle.std.proofs.Common.{◌≡◌, ◌≢◌, ◌≤◌, true}
use Rattle.rows.specs.declared.Block.{Block}
use Rattle.rows.specs.Well.{well_numbers}
use Rattle.rows.proofs.WellLaws.{numbers-most}

pub pause_fits : (r : Block) → well_numbers r ≡ true → r.endless ≢ 1 → r.pause ≤ 229372500
pause_fits r e n = (numbers-most r e).pause n
