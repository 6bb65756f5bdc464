-- `block_line` meets its contract: the row is well formed, its name short, and its line fits. Assumes nothing.
use Rattle.std.proofs.Common.{rules}
use Rattle.text_listing.proofs.Lines.{row_short}
use Rattle.prog_tape.proofs.Room.{line_well, line_fits}
use Rattle.prog_tape.proofs.block_line.Goals as goal

pub put_line-requires-clause-r_value : goal.put_line-requires-clause-r_value
put_line-requires-clause-r_value c = line_well c.requires.ready_line c.row_at.ensures

pub put_line-requires-clause-r_len_bound : goal.put_line-requires-clause-r_len_bound
put_line-requires-clause-r_len_bound c = row_short c.requires.ready_line.row c.row_at.ensures

pub returns : goal.returns
returns c =
    let a = c.args in
    line_fits a.tape.now a.tones.now a.blocks.now a.i c.row_at.result c.requires.ready_line
    c.row_at.ensures c.requires.tones_in_bounds (search rules)
