-- Entries no longer than the count left are dropped by whole runs: the source's play need not step over each. Assumes nothing.
use mathlib.Core.Path.{◌≡◌, ◌∙◌}
use mathlib.Core.List.{List, [], ◌∷◌, ◌++◌}
use Prim.Native.Nat.{ℕ, zero, suc, ◌+◌, ◌≤◌, ◌<◌}
use native.Mathlib.Omega.{arith}
use Rattle.law_pulses.specs.Play.{Entry, pulse, endless, time}
use Rattle.law_pulses.specs.Runs.{run}
use Rattle.law_pulses.proofs.Ahead.{drops, drops_past}

module _ {A : Type 0} where
  -- each entry is a pulse no longer than d
  unfoldable pub Within : List (Entry A) → ℕ → Type 0
  Within [] d = Unit
  Within (endless a v ∷ es) d = ⊥
  Within (pulse a v t ∷ es) d = (t ≤ d) × Within es d

  -- THE JUMP of the source's play
  pub drops_run : (xs ys : List (Entry A)) (d : ℕ) → Within xs d → drops (xs ++ ys) d ≡ time xs + drops ys d
  unfolding Within time
  drops_run [] ys d w = omega arith
  drops_run (endless a v ∷ xs) ys d w = absurd w
  drops_run (pulse a v t ∷ xs) ys d w = drops_past a v t (xs ++ ys) d w.0 ∙ omega (arith, drops_run xs ys d w.1)

  within_append : (xs ys : List (Entry A)) (d : ℕ) → Within xs d → Within ys d → Within (xs ++ ys) d
  unfolding Within
  within_append [] ys d f g = g
  within_append (endless a v ∷ xs) ys d f g = absurd f
  within_append (pulse a v t ∷ xs) ys d f g = (f.0, within_append xs ys d f.1 g)

  pub run-within : (item : ℕ → List (Entry A)) (d p m : ℕ) → ((i : ℕ) → p ≤ i → i < p + m → Within (item i) d)
      → Within (run item p m) d
  unfolding Within run
  run-within item d p zero h = tt
  run-within item d p (suc m) h =
      within_append (item p) (run item (p + 1) m) d (h p (omega arith) (omega arith))
      (run-within item d (p + 1) m (λ i l g. h i (omega arith) (omega arith)))
