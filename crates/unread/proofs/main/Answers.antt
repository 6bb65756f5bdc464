-- `main` meets its contract. Lengths of the arrays are by a law, as lists of so many are not to be computed. Assumes nothing.
use native.Mathlib.Omega.{arith}
use mathlib.Core.Path.{sym}
use Rattle.prog_unread.specs.Report.{full_blocks, full_tones}
use Rattle.law_base.proofs.Parts.{zeros-counted}
use Rattle.unread.proofs.main.Goals as goal

pub slice_bounds-print-end : goal.slice_bounds-print-end
slice_bounds-print-end c = zeros-counted 1048578

pub slice_bounds-print-end-2 : goal.slice_bounds-print-end-2
slice_bounds-print-end-2 c = zeros-counted full_blocks

pub slice_bounds-print-end-3 : goal.slice_bounds-print-end-3
slice_bounds-print-end-3 c = zeros-counted full_tones

pub print-requires : goal.print-requires
print-requires c =
    record { blocks_len = (sym (zeros-counted full_blocks), sym (zeros-counted full_tones)); in_bounds = omega arith }
