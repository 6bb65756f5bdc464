-- `begin` meets its contract: a load, and what its answer says. Assumes nothing.
use Rattle.prog_tape.proofs.Lines.{opens}
use Rattle.prog_tape.proofs.begin.Goals as goal

pub returns : goal.returns
returns c =
    let a = c.args in
    opens a.tape.now c.load-loaded.ensures c.put_first.ensures.fitted c.put_first.ensures.more_value
