-- `archive` meets its contract: the body of 32 ends inside the tape. Assumes nothing.
use lib.Seq.{length-take-le}
use mathlib.Core.Path.{sym}
use Rattle.cut_fields.proofs.Runs.{field_inside}
use Rattle.cut_bodies.proofs.archive.Goals as goal

pub slice_bounds-tape-end : goal.slice_bounds-tape-end
slice_bounds-tape-end c =
    let t = c.in_ok-end.ensures.tape in
    rw t (sym (length-take-le _ _ (field_inside c.number.new.self.tape.now _ _ (sym c.in_ok-end.ensures.past))))
