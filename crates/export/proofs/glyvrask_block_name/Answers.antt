-- `glyvrask_block_name` meets its contract: the name told where there is a word for its length. Assumes nothing.
use Rattle.std.proofs.Common.{arith}
use Rattle.export.proofs.Naming.{name_unwritten, name_written}
use Rattle.export.proofs.glyvrask_block_name.Goals as goal

pub returns-then-answer-lt1 : goal.returns-then-answer-lt1
returns-then-answer-lt1 c =
    let h = name_unwritten _ _ _ c.args.answer.now (omega arith) c.block_size.ensures
    (c.tell_answer.ensures.value, c.tell_answer.ensures.answer_after) in
    record { value = h.0; out_after = h.1.0; answer_after = h.1.1 }

pub returns : goal.returns
returns c =
    let h = name_written _ _ _ c.args.answer.now (omega arith) (c.block_name.ensures.value, c.block_name.ensures.out_after)
    (c.tell_answer-2.ensures.value, c.tell_answer-2.ensures.answer_after) in
    record { value = h.0; out_after = h.1.0; answer_after = h.1.1 }
