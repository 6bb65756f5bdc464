-- `block_time` meets its contract: a row that is answered is within its limits. Assumes nothing.
use Rattle.ask.proofs.Loads.{asked_limits}
use Rattle.ask.proofs.block_time.Goals as goal

pub row_lasts-requires : goal.row_lasts-requires
row_lasts-requires c = asked_limits _ _ _ c.in_ok-r.ensures
