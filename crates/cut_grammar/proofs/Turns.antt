-- One turn of each loop, as a law of its definition. Assumes nothing.
use Prim.Native.Nat.{ℕ, zero, suc, ◌-◌, ◌<◌}
use native.Mathlib.Omega.{arith}
use mathlib.Core.Path.{◌≡◌, refl, sym}
use mathlib.Core.List.{List}
use Rattle.std.specs.Prelude.{Ok, Err}
use Rattle.cut_fields.specs.Field.{Cursor}
use Rattle.cut_fields.specs.Field.{field_at}
use Rattle.cut_fields.specs.Run.{times}
use Rattle.cut_fields.specs.declared.Short.{Short}
use Rattle.cut_fields.proofs.Runs.{times-stopped, stopped, field_stuck, each_stuck, groups_stuck}
use Rattle.cut_grammar.specs.Grammar.{counted_at, texts_at, binary_digits}

-- 0 has no digits
pub digits_zero : (f : ℕ) → binary_digits f 0 ≡ 0
unfolding binary_digits
digits_zero zero = refl
digits_zero (suc f) = refl

-- the texts after one of them
pub texts_more : (s : List ℕ) (c : Cursor) (n : ℕ) → 0 < n
    → texts_at s c n ≡ texts_at s (counted_at s (field_at s c 1).cursor 1).cursor (n - 1)
unfolding texts_at times
texts_more s c zero h = absurd (omega arith)
texts_more s (Ok p) (suc n) h = let e : suc n - 1 ≡ n = omega arith in rw e
texts_more s (Err x) (suc n) h =
    unfold counted_at field_at in sym (times-stopped (λ c. (counted_at s (field_at s c 1).cursor 1).cursor) (suc n - 1) stopped)

pub texts_none : (s : List ℕ) (c : Cursor) (n : ℕ) → n ≡ 0 → texts_at s c n ≡ c
unfolding texts_at times
texts_none s c n z = rw z refl

-- nothing is read behind a field that came up short
module _ (s : List ℕ) (e : Short) where
  pub counted_stuck : (w : ℕ) → (counted_at s (Err e) w).cursor ≡ Err e
  unfolding counted_at
  counted_stuck w = rw (field_stuck s e w) (rw (field_stuck s e 0) refl)

  pub texts_stuck : (n : ℕ) → texts_at s (Err e) n ≡ Err e
  unfolding texts_at
  texts_stuck n = times-stopped (λ c. (counted_at s (field_at s c 1).cursor 1).cursor) n stopped

-- for a reader's early exits
pub ruleset stuck = (field_stuck, counted_stuck, each_stuck, groups_stuck, texts_stuck)
