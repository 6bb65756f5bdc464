-- The number of a field, over its width. Assumes nothing but that bytes are below 256.
use Prim.Native.Nat.{ℕ, zero, suc, ◌+◌, ◌*◌, ◌-◌, ◌^◌, ◌<◌}
use mathlib.Core.List.{List}
use mathlib.Core.Path.{◌≡◌}
use native.Mathlib.Omega.{arith}
use native.Mathlib.Nat.{pow-suc}
use lib.ListN.{get_or}
use Rattle.cut_fields.specs.Field.{le_at}

-- w bytes spell a number below 256 to the w
pub le_small : (s : List ℕ) → ((i : ℕ) → get_or s i 0 < 256) → (p w : ℕ) → le_at s p w < 256 ^ w
unfolding le_at
le_small s h p zero = omega arith
le_small s h p (suc w) = omega (arith, h p, le_small s h (p + 1) w, pow-suc 256 w)

-- at three bytes or fewer there is room for one more in 32 bits
pub le_more : (s : List ℕ) → ((i : ℕ) → get_or s i 0 < 256) → (p w : ℕ) → w < 4 → le_at s p w < 2 ^ 24
le_more s h p zero l = omega (arith, le_small s h p 0)
le_more s h p (suc zero) l = omega (arith, le_small s h p 1)
le_more s h p (suc (suc zero)) l = omega (arith, le_small s h p 2)
le_more s h p (suc (suc (suc zero))) l = omega (arith, le_small s h p 3)
le_more s h p (suc (suc (suc (suc w)))) l = omega arith

-- one byte more at the low end
pub le_step : (s : List ℕ) (p k w : ℕ) → k < w
    → le_at s (p + k) (w - k) ≡ le_at s (p + (k + 1)) (w - (k + 1)) * 256 + get_or s (p + k) 0
unfolding le_at
le_step s p k w h =
    let e : w - k ≡ suc (w - (k + 1)) = omega arith in
    let q : p + k + 1 ≡ p + (k + 1) = omega arith in
    rw (e, q)
