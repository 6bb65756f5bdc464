-- THE COMPOSITION: a run of finite entries before a list holds the head or is passed whole. Assumes nothing.
use mathlib.Core.Path.{◌≡◌, refl, ap, ◌∙◌}
use mathlib.Core.List.{List, [], ◌∷◌, ◌++◌}
use Prim.Native.Nat.{ℕ, ◌+◌, ◌-◌, ◌<◌}
use native.Mathlib.Omega.{arith}
use Rattle.law_pulses.specs.Play.{Entry, pulse, endless, rest, over, time, comes_to, Finite}
use Rattle.law_pulses.proofs.Steps.{rest-past}

module _ {A : Type 0} where
  pub time_append : (xs ys : List (Entry A)) → Finite xs → time (xs ++ ys) ≡ time xs + time ys
  unfolding time Finite
  time_append [] ys f = omega arith
  time_append (endless a v ∷ xs) ys f = absurd f
  time_append (pulse a v t ∷ xs) ys f = omega (arith, time_append xs ys f)

  pub finite_append : (xs ys : List (Entry A)) → Finite xs → Finite ys → Finite (xs ++ ys)
  unfolding Finite
  finite_append [] ys f g = g
  finite_append (endless a v ∷ xs) ys f g = absurd f
  finite_append (pulse a v t ∷ xs) ys f g = finite_append xs ys f g

  pub comes_append : (xs ys : List (Entry A)) → Finite xs → comes_to (xs ++ ys) ≡ comes_to ys
  unfolding comes_to Finite
  comes_append [] ys f = refl
  comes_append (endless a v ∷ xs) ys f = absurd f
  comes_append (pulse a v t ∷ xs) ys f = comes_append xs ys f

  pub rest-after : (xs ys : List (Entry A)) (n : ℕ) → Finite xs → time xs < n → rest (xs ++ ys) n ≡ rest ys (n - time xs)
  unfolding time Finite
  rest-after [] ys n f h = ap (rest ys) (omega arith)
  rest-after (endless a v ∷ xs) ys n f h = absurd f
  rest-after (pulse a v t ∷ xs) ys n f h =
      rest-past a v t (xs ++ ys) n (omega arith) (omega arith) ∙ rest-after xs ys (n - t) f (omega arith) ∙ ap (rest ys) (omega arith)

  pub over-after : (xs ys : List (Entry A)) (n : ℕ) → Finite xs → over (xs ++ ys) n ≡ over ys (n - time xs)
  unfolding time Finite over
  over-after [] ys n f = ap (over ys) (omega arith)
  over-after (endless a v ∷ xs) ys n f = absurd f
  over-after (pulse a v t ∷ xs) ys n f = over-after xs ys (n - t) f ∙ ap (over ys) (omega arith)
