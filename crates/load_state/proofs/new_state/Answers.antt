-- `new_state` meets its contract. Assumes nothing.
use Rattle.load_state.proofs.Laws.{start_holds}
use Rattle.load_state.proofs.new_state.Goals as goal

pub returns : goal.returns
returns c = start_holds
