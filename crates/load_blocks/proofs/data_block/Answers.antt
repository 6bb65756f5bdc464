-- `data_block` meets its contract: the row is born of its tone rows, its bits and what they sound. Assumes nothing.
use mathlib.Core.List.{[], ◌∷◌}
use Rattle.load_blocks.proofs.Laws.{does_born, two_and_data}
use Rattle.load_blocks.specs.Blocks.{data_sound}
use Rattle.load_blocks.proofs.data_block.Goals as goal

pub returns : goal.returns
returns c =
    let a = c.args in
    does_born a.tape.now a.origin (data_sound (a.pilot ∷ a.sync ∷ []) a.bits a.pause) c.data_row-r.ensures
    (two_and_data a.tape.now a.pilot a.sync _ c.tone_figure.ensures.value c.tone_figure-2.ensures.value
    c.data_figure.ensures.value c.with_sound.ensures) c.add_rows.ensures
