-- `print` meets its contract: every line that is asked for is one of the dump's, and fits. Assumes nothing.
use native.Mathlib.Omega.{arith}
use Rattle.law_base.proofs.Parts.{take_counted}
use Rattle.text_out.proofs.Writing.{fitted_most}
use Rattle.dump.specs.Dumped.{FirstHeard}
use Rattle.dump.proofs.Hearing.{more_lines}
use Rattle.dump.proofs.print.Goals as goal

pub slice_bounds-write_all-end : goal.slice_bounds-write_all-end
unfolding FirstHeard
slice_bounds-write_all-end c = fitted_most c.first-opening.ensures.line

pub slice_bounds-write_all-end-2 : goal.slice_bounds-write_all-end-2
unfolding FirstHeard
slice_bounds-write_all-end-2 c = take_counted _ _ (fitted_most c.first-opening.ensures.line)

pub line-k-requires : goal.line-k-requires
unfolding FirstHeard
line-k-requires c =
    record { dumping = record { blocks = c.first-opening.ensures.blocks; tones = c.first-opening.ensures.tones }; i_in_bounds = more_lines c.args.input.now c.first-opening.ensures (omega arith); tones_len = (omega arith, omega arith) }

pub slice_bounds-write_all-end-in-loop-i : goal.slice_bounds-write_all-end-in-loop-i
slice_bounds-write_all-end-in-loop-i c = fitted_most c.line-k.ensures

pub slice_bounds-write_all-end-in-loop-i-2 : goal.slice_bounds-write_all-end-in-loop-i-2
slice_bounds-write_all-end-in-loop-i-2 c = take_counted _ _ (fitted_most c.line-k.ensures)
