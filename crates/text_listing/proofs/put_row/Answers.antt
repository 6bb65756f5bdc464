-- `put_row` meets its contract: its two parts make the line. Assumes nothing.
use Rattle.text_listing.proofs.Texts.{row_written}
use Rattle.text_listing.proofs.put_row.Goals as goal

pub returns-clause-by_index : goal.returns-clause-by_index
returns-clause-by_index c =
    let a = c.args in
    λ tones n.
    row_written a.tape.now tones a.blocks.now n a.i _ _ c.row_at-r.ensures c.row_lasts.ensures c.put_head.ensures c.put_tail.ensures
