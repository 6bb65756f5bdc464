-- `put_refusals` meets its contract: each turn writes the line once more. Assumes nothing.
use native.Mathlib.Omega.{arith}
use Rattle.text_out.specs.Out.{refused_line}
use Rattle.text_out.proofs.Writing.{refused_line_length}
use Rattle.text_out.proofs.Loops.{goes_on}
use Rattle.prog_calls.proofs.Saying.{same_next, same_over}
use Rattle.prog_calls.proofs.put_refusals.Goals as goal

pub loop-preserved : goal.loop-preserved
loop-preserved c =
    let line = refused_line c.args.k in
    let next = same_next line c.args.n c.loop.counter c.loop-test.true in
    goes_on 1 c.loop.invariant next (omega (arith, refused_line_length c.args.k)) c.refused_line.ensures

pub returns : goal.returns
returns c = same_over (refused_line c.args.k) c.args.n c.loop.invariant (omega arith)
