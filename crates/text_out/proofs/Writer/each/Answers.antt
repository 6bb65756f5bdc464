-- Each turn of `each` writes the text of one byte more. Assumes nothing.
use Rattle.text_out.proofs.Loops.{spells_on, spells_over}
use Rattle.text_out.proofs.Writer.each.Goals as goal

pub loop-b-preserved : goal.loop-b-preserved
loop-b-preserved g c = spells_on c.loop-b.invariant c.loop-b-test.true c.put.ensures.written c.put.ensures.few

pub returns : goal.returns
returns g c = spells_over c.loop-b.invariant c.loop-b-test.false
