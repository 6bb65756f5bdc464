-- `say_unread` meets its contract: a load, and the report of its answer. Assumes nothing.
use Rattle.prog_unread.proofs.say_unread.Goals as goal

pub returns : goal.returns
returns c =
    let left = c.load-loaded.ensures in
    record { fitted = rw left.answer at c.put_report.ensures; blocks_after = left.blocks; tones_after = left.tones }
