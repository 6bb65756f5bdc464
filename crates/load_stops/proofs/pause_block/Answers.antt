-- `pause_block` meets its contract. Assumes nothing.
use borrow.Author.Tests.{eq-eqb, ne_eqb}
use Rattle.load_blocks.proofs.Laws.{does-silent}
use Rattle.load_blocks.specs.Sounds.{ends_after, ends_in_stop}
use Rattle.load_blocks.specs.Blocks.{pause_sound}
use Rattle.load_stops.proofs.pause_block.Goals as goal

pub returns-then-pause-eq0 : goal.returns-then-pause-eq0
unfolding pause_sound
returns-then-pause-eq0 c =
    λ tape tt. rw (eq-eqb _ _ c.if-pause-eq0.true) (does-silent tape _ ends_in_stop 1 c.stop_row.ensures (c.no_tone.ensures tt))

pub returns : goal.returns
unfolding pause_sound
returns c =
    λ tape tt. rw (ne_eqb _ _ c.if-pause-eq0.false)
    (does-silent tape _ (ends_after _) 0 c.bare_row.ensures (c.no_tone-2.ensures tt))
