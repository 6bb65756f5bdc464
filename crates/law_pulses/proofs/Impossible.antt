-- What demand 3 excludes, each with the smallest list that shows it. Assumes a label a.
use mathlib.Core.Path.{◌≡◌, sym, ap, ◌∙◌}
use mathlib.Core.List.{List, [], ◌∷◌}
use Prim.Native.Nat.{ℕ}
use native.Mathlib.Omega.{arith}
use lib.ListN.{length}
use Rattle.law_pulses.specs.Play.{Entry, pulse, low, Answer, rest, answer, counted_on, calls, Positive, Meets}
use Rattle.law_pulses.proofs.Demand.{meets_one}

module _ {A : Type 0} (a : A) (run : List (Entry A) → ℕ → List ℕ → Answer A) (meets : Meets run) where
  -- a player that stays put
  pub no_staying : ((es : List (Entry A)) (n : ℕ) (ns : List ℕ) → (run es n ns).place ≡ es) → ⊥
  unfolding calls answer rest Positive
  no_staying stays =
      let es = pulse a low 1 ∷ [] in
      let m = meets_one run meets es 1 [] (omega arith) tt in
      omega (arith, ap length (sym (stays es 1 []) ∙ ap (λ (r : Answer A). r.place) m))

  -- one that plays only the first call of a cutting
  pub no_first_only : ((es : List (Entry A)) (n : ℕ) (ns : List ℕ) → (run es n ns).place ≡ (run es n []).place) → ⊥
  unfolding calls counted_on answer rest Positive
  no_first_only first =
      let es = pulse a low 2 ∷ [] in
      let one = meets_one run meets es 1 [] (omega arith) tt in
      let two = meets_one run meets es 1 (1 ∷ []) (omega arith) (omega arith, tt) in
      omega (
        arith,
        ap length (ap (λ (r : Answer A). r.place) (sym two) ∙ first es 1 (1 ∷ []) ∙ ap (λ (r : Answer A). r.place) one),
      )

  -- an invented entry count, one that does not come from the list
  pub no_invented : (count : ℕ → List ℕ → ℕ)
      → ((es : List (Entry A)) (n : ℕ) (ns : List ℕ) → (run es n ns).passed ≡ count n ns) → ⊥
  unfolding calls answer rest Positive
  no_invented count counts =
      let es = pulse a low 1 ∷ [] in
      let none = meets_one run meets [] 1 [] (omega arith) tt in
      let one = meets_one run meets es 1 [] (omega arith) tt in
      omega (arith, counts [] 1 [], counts es 1 [], ap (λ (r : Answer A). r.passed) none, ap (λ (r : Answer A). r.passed) one)
