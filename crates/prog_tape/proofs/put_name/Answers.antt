-- `put_name` meets its contract: the scratch bytes hold the whole name, so their part is the name. Assumes nothing.
use native.Mathlib.Omega.{arith}
use Rattle.text_listing.proofs.Showing.{name_over, part_over}
use Rattle.prog_tape.proofs.put_name.Goals as goal

pub slice_bounds-put_hex-end : goal.slice_bounds-put_hex-end
slice_bounds-put_hex-end c =
    part_over c.over-name.ensures.bytes c.over-name.ensures.at c.put_name.ensures (omega (arith, c.requires))

pub returns : goal.returns
returns c =
    rw (name_over c.over-name.ensures.bytes c.over-name.ensures.at c.put_name.ensures (omega (arith, c.requires))) at c.put_hex.ensures
