-- `refuse` meets its contract. Assumes nothing.
use Rattle.load_tape.proofs.Leaving.{refusal_leaves}
use Rattle.load_tape.proofs.refuse.Goals as goal

pub returns : goal.returns
returns c = refusal_leaves c.args.why c.blank.ensures c.blank-2.ensures
