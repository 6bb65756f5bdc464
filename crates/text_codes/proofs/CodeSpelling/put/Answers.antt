-- `put` meets its contract: the part between the two offsets is the text. Assumes nothing.
use native.Mathlib.Omega.{arith}
use Rattle.text_codes.proofs.Codes.{part, code_length}
use Rattle.text_codes.proofs.CodeSpelling.put.Goals as goal

pub put_part-requires : goal.put_part-requires
put_part-requires c =
    let p = part c.args.code c.from-k.ensures (omega arith) c.start_of-a.ensures c.start_of-e.ensures in
    (p.order, p.inside, omega (arith, p.short))

pub returns : goal.returns
returns c =
    let p = part c.args.code c.from-k.ensures (omega arith) c.start_of-a.ensures c.start_of-e.ensures in
    let w = c.put_part.ensures in
    record { written = rw (← p.is) w; few = omega (arith, (rw p.is at w.wrote.count), code_length c.args.code) }
