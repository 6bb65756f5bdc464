-- `put_part` meets its contract: the flat table is the 256 texts one after the other, by one computation. Assumes nothing.
use Rattle.text_codes.specs.Encoding.{table, flat_texts}
use Rattle.text_codes.proofs.put_part.Goals as goal

pub slice_bounds-bytes-end : goal.slice_bounds-bytes-end
unfolding table flat_texts
slice_bounds-bytes-end c = c.requires.1

pub returns : goal.returns
unfolding table flat_texts
returns c = c.bytes.ensures
