-- A `match` on a number: keys and values as a table in the source's order, and ranges. Definitions alone; assumes nothing.
use Rattle.std.specs.Prelude.{Bool, cond, ◌&&◌, List, [], ◌∷◌, ℕ, eqb, leb}

infix 80 ◌▸◌
pub record Arm (A : Type 0) : Type 0 where
  pub key : ℕ
  pub val : A

abbrev pub ◌▸◌ : {A : Type 0} → ℕ → A → Arm A
◌▸◌ k v = record { key = k; val = v }

-- the value of the first arm that has x, else d
abbrev pub lookup : {A : Type 0} → List (Arm A) → ℕ → A → A
lookup [] x d = d
lookup (a ∷ more) x d = cond (eqb x a.key) a.val (lookup more x d)

-- a range arm, `a..=b`
abbrev pub between : ℕ → ℕ → ℕ → Bool
between a b x = leb a x && leb x b
