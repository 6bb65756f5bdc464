-- `print` meets its contract: every row that a load leaves is ready, and its line fits. Assumes nothing.
use native.Mathlib.Omega.{arith}
use lib.ListN.{length}
use Rattle.law_base.proofs.Parts.{take_counted}
use Rattle.text_out.proofs.Writing.{fitted_most}
use Rattle.prog_tape.proofs.Lines.{line_left}
use Rattle.gate_replay.proofs.print.Goals as goal

pub slice_bounds-write_all-end : goal.slice_bounds-write_all-end
slice_bounds-write_all-end c = fitted_most c.begin-opening.ensures.line

pub slice_bounds-write_all-end-2 : goal.slice_bounds-write_all-end-2
slice_bounds-write_all-end-2 c = take_counted _ _ (fitted_most c.begin-opening.ensures.line)

pub block_line-k-requires : goal.block_line-k-requires
block_line-k-requires c =
    let a = c.args in
    record {
      ready_line = (line_left (length a.blocks.now) (length a.tones.now) a.tape.now a.model
          (λ j. (c.type_inv.tape j).fits) c.begin-opening.ensures.blocks c.begin-opening.ensures.tones c.loop-i.i
          (omega (arith, c.begin-opening.ensures.more))).ready;
      tones_in_bounds = omega arith;
    }

pub slice_bounds-write_all-end-in-loop-i : goal.slice_bounds-write_all-end-in-loop-i
slice_bounds-write_all-end-in-loop-i c = fitted_most c.block_line-k.ensures

pub slice_bounds-write_all-end-in-loop-i-2 : goal.slice_bounds-write_all-end-in-loop-i-2
slice_bounds-write_all-end-in-loop-i-2 c = take_counted _ _ (fitted_most c.block_line-k.ensures)
