-- `main` meets its contract. Lengths of the arrays are by a law, as lists of so many are not to be computed. Assumes nothing.
use Rattle.prog_unread.specs.Report.{full_blocks, full_tones}
use Rattle.law_base.proofs.Parts.{zeros-counted}
use Rattle.gate_unread.proofs.main.Goals as goal

pub slice_bounds-load_all-end : goal.slice_bounds-load_all-end
slice_bounds-load_all-end c = zeros-counted 1048577

pub slice_bounds-load_all-end-2 : goal.slice_bounds-load_all-end-2
slice_bounds-load_all-end-2 c = zeros-counted full_blocks

pub slice_bounds-load_all-end-3 : goal.slice_bounds-load_all-end-3
slice_bounds-load_all-end-3 c = zeros-counted full_tones
