-- Facts of numbers that several crates cite. Assumes nothing.
use Prim.Native.Nat.{ℕ, ◌+◌, ◌-◌, ◌≤◌, ◌<◌}
use mathlib.Core.Path.{◌≡◌, refl, sym}
use mathlib.Core.Bool.{Bool, true, false}
use mathlib.Core.Logic.{◌⊎◌, inl, inr}
use native.Mathlib.Omega.{arith}
use lib.Dec.{ltb, leb}
use borrow.Author.Tests.{ltb-true, ltb-false, le-leb, lt-leb, leb-true, leb-false}

-- of two numbers, the one is below the other or not
pub lt_or_ge : (a b : ℕ) → (a < b) ⊎ (b ≤ a)
lt_or_ge a b = by_cases (ltb a b) refl
  where
    by_cases : (t : Bool) → ltb a b ≡ t → (a < b) ⊎ (b ≤ a)
    by_cases true e = inl (ltb-true a b e)
    by_cases false e = inr (ltb-false a b e)

-- the test of room by a difference is the test by a sum
pub leb_sub : (p n m : ℕ) → p ≤ m → leb n (m - p) ≡ leb (p + n) m
leb_sub p n m h = by_cases (leb n (m - p)) refl
  where
    by_cases : (t : Bool) → leb n (m - p) ≡ t → t ≡ leb (p + n) m
    by_cases true e = sym (le-leb (p + n) m (omega (arith, leb-true n (m - p) e)))
    by_cases false e = sym (lt-leb (p + n) m (omega (arith, leb-false n (m - p) e)))
