-- `no_tone` meets its contract. Assumes nothing.
use Rattle.load_blocks.proofs.Laws.{rows_none}
use Rattle.load_blocks.proofs.no_tone.Goals as goal

pub returns : goal.returns
returns c =
    let a = c.args in
    λ tt B N t h. rw (rows_none a.r t h) (c.add_block.ensures B N tt t h)
