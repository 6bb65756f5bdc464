-- `low_first` meets its contract. Assumes nothing.
use Prim.Native.Nat.{◌≤◌, ◌<◌, ◌+◌, ◌-◌, ◌^◌, ℕ}
use mathlib.Core.Path.{◌≡◌, refl}
use mathlib.Core.List.{List}
use lib.ListN.{get_or}
use native.Mathlib.Omega.{arith}
use Rattle.cut_fields.specs.Field.{le_at}
use Rattle.cut_fields.proofs.Le.{le_more, le_step}
use Rattle.cut_fields.proofs.low_first.Goals as goal

-- with a byte left to read, the bytes read so far are three at most
small : (s : List ℕ) → ((i : ℕ) → get_or s i 0 < 256) → (at i width value : ℕ) → width ≤ 4 → 0 < i
    → value ≡ le_at s (at + i) (width - i) → value < 2 ^ 24
small s b at i width value m z e = omega (arith, le_more s b (at + i) (width - i) (omega arith))

pub loop-i-init : goal.loop-i-init
unfolding le_at
loop-i-init c =
    let a = c.args in
    let e : a.width - a.width ≡ 0 = omega arith in
    rw e refl

pub overflow_mul-value : goal.overflow_mul-value
overflow_mul-value c =
    let a = c.args in let l = c.loop-i in
    omega (arith, small a.tape.now (λ i. (c.type_inv.tape i).fits) a.at l.i a.width l.value (omega arith) (omega arith) l.invariant)

pub overflow_add-value : goal.overflow_add-value
overflow_add-value c =
    let a = c.args in let l = c.loop-i in
    omega (
      arith,
      small a.tape.now (λ i. (c.type_inv.tape i).fits) a.at l.i a.width l.value (omega arith) (omega arith) l.invariant,
      c.type_inv.tape (a.at + (l.i - 1)),
    )

pub loop-i-preserved : goal.loop-i-preserved
loop-i-preserved c =
    let a = c.args in
    let e : (c.loop-i.i - 1) + 1 ≡ c.loop-i.i = omega arith in
    let s = le_step a.tape.now a.at (c.loop-i.i - 1) a.width (omega arith) in
    cc
