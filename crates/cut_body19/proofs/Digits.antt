-- The binary digits of a number are those that its leading zeros leave. Assumes nothing.
use Prim.Native.Nat.{ℕ, zero, suc, ◌-◌, ◌/◌, ◌^◌, ◌≤◌, ◌<◌}
use mathlib.Core.Path.{◌≡◌}
use mathlib.Core.Logic.{⊎_elim}
use native.Mathlib.Omega.{arith}
use native.Mathlib.Nat.{pow-suc}
use borrow.Author.Tests.{ne_eqb}
use Rattle.std.specs.Int.Count.{count_leading_zeros, leading_unique}
use Rattle.std.proofs.lemmas.Bool.{cases_lt}
use Rattle.cut_grammar.specs.Grammar.{binary_digits}
use Rattle.cut_grammar.proofs.Turns.{digits_zero}

-- the top digit of a number that is not 0, of f digits at the most
record Top (f n j : ℕ) : Type 0 where
  digits : binary_digits f n ≡ suc j
  low : 2 ^ j ≤ n
  high : n < 2 ^ suc j
  fits : j < f

top : (f n : ℕ) → 0 < n → n < 2 ^ f → (j : ℕ) × Top f n j
unfolding binary_digits
top zero n z h = absurd (omega arith)
top (suc f) n z h =
    let p = pow-suc 2 f in
    ⊎_elim
    (λ (a : 0 < n / 2).
    let t = top f (n / 2) a (omega arith) in
    let l = t.1.low in
    let u = t.1.high in
    let d = t.1.digits in
    let i = t.1.fits in (
      suc t.0,
      record {
        digits = rw (ne_eqb n 0 (λ e. omega arith), d) (omega arith);
        low = omega (arith, pow-suc 2 t.0);
        high = omega (arith, pow-suc 2 (suc t.0));
        fits = omega arith;
      },
    ))
    (λ (a : n / 2 ≤ 0).
    let i : n / 2 ≡ 0 = omega arith in (
      0,
      record {
        digits = rw (ne_eqb n 0 (λ e. omega arith), i, digits_zero f) (omega arith);
        low = omega arith;
        high = omega arith;
        fits = omega arith;
      },
    ))
    (cases_lt 0 (n / 2))

pub digits_left : (n : ℕ) → n < 2 ^ 32 → 32 - count_leading_zeros 32 n ≡ binary_digits 32 n
digits_left n h =
    ⊎_elim
    (λ (a : 0 < n).
    let t = top 32 n a h in
    let l = t.1.low in
    let u = t.1.high in
    let d = t.1.digits in
    let i = t.1.fits in
    let r = leading_unique 32 n (32 - suc t.0) (suc t.0) (omega arith) u (omega (arith, pow-suc 2 t.0)) in
    omega arith)
    (λ (a : n ≤ 0).
    let e : n ≡ 0 = omega arith in
    let r = leading_unique 32 n 32 0 (omega arith) (omega arith) (omega arith) in
    let d : binary_digits 32 n ≡ 0 = rw e (digits_zero 32) in
    omega arith)
    (cases_lt 0 n)
