-- `stop_block` meets its contract. Assumes nothing.
use Rattle.load_blocks.proofs.Laws.{does-silent}
use Rattle.load_blocks.specs.Sounds.{ends_in_stop}
use Rattle.load_stops.proofs.stop_block.Goals as goal

pub returns : goal.returns
returns c =
    λ tape tt. does-silent tape _ ends_in_stop 1 c.stop_row.ensures (c.no_tone.ensures tt)
