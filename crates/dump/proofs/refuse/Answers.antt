-- `refuse` meets its contract: zeros, and the line. Assumes nothing.
use Rattle.load_tape.specs.Load.{block_table, tone_table}
use Rattle.dump.specs.Dumped.{FirstRefused}
use Rattle.dump.proofs.Hearing.{opens-no}
use Rattle.dump.proofs.refuse.Goals as goal

pub returns : goal.returns
unfolding block_table tone_table FirstRefused
returns c =
    λ s. opens-no s c.blank.ensures c.blank-2.ensures c.put_first.ensures.fitted c.put_first.ensures.more_value
