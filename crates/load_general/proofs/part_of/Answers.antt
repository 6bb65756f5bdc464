-- `part_of` meets its contract. Assumes nothing.
use mathlib.Core.Path.{sym, ◌∙◌}
use Rattle.load_general.proofs.Parts.{rowed, rowed_all, rowed_none}
use Rattle.load_general.proofs.part_of.Goals as goal

pub returns-then-given : goal.returns-then-given
returns-then-given c = λ row e. sym (rowed_all (rowed row 0 c.args.n) (sym e ∙ c.if-given.true))

pub returns-else-given : goal.returns-else-given
returns-else-given c = λ row e. sym (rowed_none (rowed row 0 c.args.n) (sym e ∙ c.if-given.false))
