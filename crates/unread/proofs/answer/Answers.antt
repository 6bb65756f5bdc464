-- `answer` meets its contract: each return is one rule. Assumes nothing.
use native.Mathlib.Omega.{arith}
use Rattle.unread.proofs.Hearing.{says_none, says_tape}
use Rattle.unread.proofs.answer.Goals as goal

pub returns-then-input-eq0 : goal.returns-then-input-eq0
returns-then-input-eq0 c =
    says_none c.args.input.now (omega arith) c.put_report.ensures

pub returns : goal.returns
returns c =
    says_tape c.args.input.now (omega arith) c.requires.blocks_len.0 c.requires.blocks_len.1 c.model_of-model.ensures
    c.say_unread.ensures.fitted
