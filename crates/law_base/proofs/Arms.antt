-- The laws of a `match` on a number: where no arm has it, and in or out of a range. Assumes nothing.
use mathlib.Core.Path.{◌≡◌, refl}
use mathlib.Core.Bool.{true, false, and-false}
use mathlib.Core.List.{List, [], ◌∷◌}
use Prim.Native.Nat.{ℕ, suc, ◌≤◌, ◌<◌}
use native.Mathlib.Omega.{arith}
use lib.Dec.{leb}
use borrow.Author.Tests.{ne_eqb, le-leb, lt-leb}
use Rattle.law_base.specs.Arms.{Arm, lookup, between}

-- no arm has x, as a match says it: one fact after the other, the last one outermost
abbrev pub NoneAfter : {A : Type 0} → Type 0 → List (Arm A) → ℕ → Type 0
NoneAfter P [] x = P
NoneAfter P (a ∷ more) x = NoneAfter (P × (x ≡ a.key → ⊥)) more x

abbrev pub None : {A : Type 0} → List (Arm A) → ℕ → Type 0
None arms x = NoneAfter (Unit {0}) arms x

first_fact : {A : Type 0} (P : Type 0) (arms : List (Arm A)) (x : ℕ) → NoneAfter P arms x → P
first_fact P [] x h = h
first_fact P (a ∷ more) x h = (first_fact (P × (x ≡ a.key → ⊥)) more x h).0

none_after : {A : Type 0} (P : Type 0) (arms : List (Arm A)) (x : ℕ) (d : A) → NoneAfter P arms x → lookup arms x d ≡ d
none_after P [] x d h = refl
none_after P (a ∷ more) x d h =
    rw (ne_eqb x a.key (first_fact (P × (x ≡ a.key → ⊥)) more x h).1) (none_after (P × (x ≡ a.key → ⊥)) more x d h)

-- where no arm has x, the default is found
pub lookup-none : {A : Type 0} (arms : List (Arm A)) (x : ℕ) (d : A) → None arms x → lookup arms x d ≡ d
lookup-none arms x d h = none_after (Unit {0}) arms x d h

pub between_in : (a b x : ℕ) → a ≤ x → x < suc b → between a b x ≡ true
between_in a b x h k = rw (le-leb a x h, le-leb x b (omega arith))

pub between_below : (a b x : ℕ) → x < a → between a b x ≡ false
between_below a b x h = rw (lt-leb _ _ h)

pub between_above : (a b x : ℕ) → b < x → between a b x ≡ false
between_above a b x h = rw (lt-leb _ _ h) (and-false (leb a x))
