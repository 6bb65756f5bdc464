-- `glyvrask_load` meets its contract: 10 first, else the load. Assumes nothing.
use Rattle.std.proofs.Common.{length, arith}
use Rattle.load_blocks.specs.Does.{lent_of}
use Rattle.load_tape.specs.Load.{load_named}
use Rattle.export.proofs.Loading.{load_short, load_told}
use Rattle.export.proofs.glyvrask_load.Goals as goal

pub returns-then-answer-lt3 : goal.returns-then-answer-lt3
returns-then-answer-lt3 c =
    let a = c.args in
    let h = load_short (load_named (lent_of (length a.blocks.now) (length a.tones.now)) a.tape.now a.model) _ _ _ _
    a.answer.now (omega arith) in
    record { value = h.0; blocks_after = h.1.0; tones_after = h.1.1.0; answer_after = h.1.1.1 }

pub returns : goal.returns
returns c =
    let h = load_told _ _ _ _ _ c.args.answer.now (omega arith) c.load.ensures
    (c.tell_answer.ensures.value, c.tell_answer.ensures.answer_after) in
    record { value = h.0; blocks_after = h.1.0; tones_after = h.1.1.0; answer_after = h.1.1.1 }
