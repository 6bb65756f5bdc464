-- The loop of `each`.
use Rattle.text_out.proofs.Loops.{Spells}
use Rattle.text_out.proofs.Writer.each.Given as goal

abbrev pub invariant-loop-b : goal.invariant-loop-b
invariant-loop-b g l = Spells g.S.Spelling.text g.S.Spelling.most l.initial.self l.s l.b-index l.self
