-- `data_time` meets its contract: the bytes before the last by their one-bits, and the last by its own bits. Assumes nothing.
use Prim.Native.Nat.{ℕ, ◌+◌, ◌-◌, ◌*◌}
use native.Mathlib.Omega.{arith}
use mathlib.Core.Path.{sym, ap, ap₂, ◌∙◌}
use mathlib.Core.Bool.{false}
use Rattle.play_entries.specs.Counted.{bits_time}
use Rattle.play_entries.specs.Entries.{data_of}
use Rattle.play_entries.proofs.Bounds.{bytes-most-time}
use Rattle.play_entries.proofs.Counted.{data_counted}
use Rattle.play_times.proofs.data_time.Goals as goal

pub overflow_add-result : goal.overflow_add-result
unfolding data_of
overflow_add-result c =
    let a = c.args in
    let n = a.r.size - 1 in
    let k = c.counted_time.ensures ∙ ap (λ (k : ℕ). bits_time a.r k (8 * n)) c.ones.ensures in
    let e = data_counted a.tape.now (λ i. (c.type_inv.tape i).fits) 0 a.r false n (omega arith) in
    omega (arith, k, c.byte_time.ensures 0 false, e, bytes-most-time a.tape.now 0 a.r false a.r.size c.requires.r_value (omega arith))

pub returns : goal.returns
returns c =
    let a = c.args in
    let n = a.r.size - 1 in
    λ b d. ap₂ (λ (x y : ℕ). x + y) (c.counted_time.ensures
    ∙ ap (λ (k : ℕ). bits_time a.r k (8 * n)) c.ones.ensures) (c.byte_time.ensures b d)
    ∙ sym (data_counted a.tape.now (λ i. (c.type_inv.tape i).fits) b a.r d n (omega arith))
