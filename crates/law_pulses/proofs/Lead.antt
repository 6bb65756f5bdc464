-- How a player goes on: what is left to play of one list is what is left of another, with the entries counted. Assumes nothing.
use mathlib.Core.Path.{◌≡◌, refl, ap, ◌∙◌}
use mathlib.Core.List.{List, ◌∷◌, ◌++◌}
use Prim.Native.Nat.{ℕ, ◌+◌, ◌-◌, ◌≤◌, ◌<◌}
use native.Mathlib.Omega.{arith}
use lib.ListN.{length, length-append}
use Rattle.law_pulses.specs.Play.{Level, Entry, pulse, rest, over, time, Finite}
use Rattle.law_pulses.proofs.Steps.{rest-past, over-pulse}
use Rattle.law_pulses.proofs.Joined.{rest-after, over-after}

-- n T-states from es, j entries counted before, are m from fs, i counted before
pub record Leads {A : Type 0} (es : List (Entry A)) (n j : ℕ) (fs : List (Entry A)) (m i : ℕ) : Type 0 where
  pub rests : rest es n ≡ rest fs m
  pub overs : over es n ≡ over fs m
  pub counts : j + length es ≡ i + length fs

module _ {A : Type 0} where
  pub lead_here : (es : List (Entry A)) (n j : ℕ) → Leads es n j es n j
  lead_here es n j = record { rests = refl; overs = refl; counts = refl }

  pub lead_on : {es fs gs : List (Entry A)} {n j m i l h : ℕ} → Leads es n j fs m i → Leads fs m i gs l h → Leads es n j gs l h
  lead_on a b = record { rests = a.rests ∙ b.rests; overs = a.overs ∙ b.overs; counts = a.counts ∙ b.counts }

  -- the count and the T-states by equal numbers
  pub lead_as : {es fs : List (Entry A)} {n j m i : ℕ} (m' i' : ℕ) → m ≡ m' → i ≡ i' → Leads es n j fs m i
      → Leads es n j fs m' i'
  lead_as {fs = fs} m' i' p q a =
      record { rests = a.rests ∙ ap (rest fs) p; overs = a.overs ∙ ap (over fs) p; counts = omega (arith, a.counts) }

  pub lead_by : {es fs gs : List (Entry A)} {n j m i : ℕ} → fs ≡ gs → Leads es n j fs m i → Leads es n j gs m i
  lead_by {m = m} {i = i} p a =
      record {
        rests = a.rests ∙ ap (λ (r : List (Entry A)). rest r m) p;
        overs = a.overs ∙ ap (λ (r : List (Entry A)). over r m) p;
        counts = a.counts ∙ ap (λ (r : List (Entry A)). i + length r) p;
      }

  -- an entry that is spent whole
  pub lead_pulse : (a : A) (v : Level) (t : ℕ) (es : List (Entry A)) (n j : ℕ) → 0 < n → t ≤ n
      → Leads (pulse a v t ∷ es) n j es (n - t) (j + 1)
  lead_pulse a v t es n j p h = record { rests = rest-past a v t es n p h; overs = over-pulse a v t es n; counts = omega arith }

  -- a run of entries, jumped over
  pub lead_run : (xs ys : List (Entry A)) (n j : ℕ) → Finite xs → time xs < n
      → Leads (xs ++ ys) n j ys (n - time xs) (j + length xs)
  lead_run xs ys n j f h =
      record { rests = rest-after xs ys n f h; overs = over-after xs ys n f; counts = omega (arith, length-append xs ys) }
