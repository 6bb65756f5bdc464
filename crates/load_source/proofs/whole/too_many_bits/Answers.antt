-- `too_many_bits` meets its contract. Assumes nothing.
use Rattle.load_source.proofs.Judged.{bits_turn, bits_none}
use native.Mathlib.Omega.{arith}
use mathlib.Core.Path.{sym, ◌∙◌}
use Rattle.load_source.proofs.whole.too_many_bits.Goals as goal

pub returns-then-too_many : goal.returns-then-too_many
returns-then-too_many c =
    λ B rs k e. sym (rw c.if-too_many.true at (bits_turn B rs c.loop-i.i e (omega arith) c.row_at.ensures c.too_many.ensures))
    ∙ c.loop-i.invariant B rs k e

pub loop-i-preserved : goal.loop-i-preserved
loop-i-preserved c =
    λ B rs k e. sym (rw c.if-too_many.false at (bits_turn B rs c.loop-i.i e (omega arith) c.row_at.ensures c.too_many.ensures))
    ∙ c.loop-i.invariant B rs k e

pub returns : goal.returns
returns c = λ B rs k e. sym (bits_none rs c.loop-i.i (omega arith)) ∙ c.loop-i.invariant B rs k e
