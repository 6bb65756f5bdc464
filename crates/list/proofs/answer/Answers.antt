-- `answer` meets its contract: each return is one rule. Assumes nothing.
use native.Mathlib.Omega.{arith}
use Rattle.list.proofs.Hearing.{says_none, says_tape}
use Rattle.list.proofs.answer.Goals as goal

pub returns-then-input-eq0 : goal.returns-then-input-eq0
returns-then-input-eq0 c =
    let a = c.args in
    let h = says_none a.input.now (omega arith) c.say_refused.ensures in
    record { prefix_len = h.0; out_after = h.1 }

pub returns : goal.returns
returns c =
    let a = c.args in
    let h = says_tape a.input.now (omega arith) c.model_of-model.ensures c.say.ensures in
    record { prefix_len = h.0; out_after = h.1 }
