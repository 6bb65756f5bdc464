-- The laws by which play is used: one entry at a time, and one cut of the T-states. Assumes nothing.
use mathlib.Core.Path.{◌≡◌, refl, sym, ap, subst, ◌∙◌}
use mathlib.Core.Logic.{⊎_elim}
use mathlib.Core.List.{List, [], ◌∷◌}
use Prim.Native.Nat.{ℕ, zero, suc, ◌+◌, ◌-◌, ◌≤◌, ◌<◌}
use native.Mathlib.Nat.{eq-zero-or-pos, sub-zero, zero-add, zero-sub}
use native.Mathlib.Omega.{arith}
use lib.ListN.{length}
use borrow.Author.Tests.{lt-ltb, le-ltb, ne_eqb}
use Rattle.law_base.proofs.Numbers.{lt_or_ge}
use Rattle.law_pulses.specs.Play.{Level, Entry, pulse, endless, rest, over, time}

module _ {A : Type 0} where
  pub rest-nil : (n : ℕ) → rest {A = A} [] n ≡ []
  unfolding rest
  rest-nil n = refl

  pub rest-stop : (a : A) (v : Level) (es : List (Entry A)) (n : ℕ) → rest (endless a v ∷ es) n ≡ endless a v ∷ es
  unfolding rest
  rest-stop a v es n = refl

  pub rest-zero : (es : List (Entry A)) → rest es 0 ≡ es
  unfolding rest
  rest-zero [] = refl
  rest-zero (endless a v ∷ es) = refl
  rest-zero (pulse a v t ∷ es) = refl

  pub rest-here : (a : A) (v : Level) (t : ℕ) (es : List (Entry A)) (n : ℕ) → n < t
      → rest (pulse a v t ∷ es) n ≡ pulse a v (t - n) ∷ es
  unfolding rest
  rest-here a v t es zero h = ap (λ (k : ℕ). pulse a v k ∷ es) (sym (sub-zero t))
  rest-here a v t es (suc n) h = rw (ne_eqb (suc n) 0 (omega arith), lt-ltb (suc n) t h)

  pub rest-past : (a : A) (v : Level) (t : ℕ) (es : List (Entry A)) (n : ℕ) → 0 < n → t ≤ n
      → rest (pulse a v t ∷ es) n ≡ rest es (n - t)
  unfolding rest
  rest-past a v t es n p h = rw (ne_eqb n 0 (omega arith), le-ltb n t h)

  -- what holds of the three ways on from a pulse holds of rest
  pub rest_ways : (P : List (Entry A) → Type 0) (a : A) (v : Level) (t : ℕ) (es : List (Entry A)) (n : ℕ)
      → (n ≡ 0 → P (pulse a v t ∷ es))
      → (n < t → P (pulse a v (t - n) ∷ es))
      → (0 < n → t ≤ n → P (rest es (n - t)))
      → P (rest (pulse a v t ∷ es) n)
  rest_ways P a v t es n none here past =
      ⊎_elim
      (λ z. subst P (sym (ap (rest (pulse a v t ∷ es)) z ∙ rest-zero _)) (none z))
      (λ p. ⊎_elim (λ l. rw (rest-here a v t es n l) (here l)) (λ g. rw (rest-past a v t es n p g) (past p g)) (lt_or_ge n t))
      (eq-zero-or-pos n)

  pub over-pulse : (a : A) (v : Level) (t : ℕ) (es : List (Entry A)) (n : ℕ) → over (pulse a v t ∷ es) n ≡ over es (n - t)
  unfolding over
  over-pulse a v t es n = refl

  pub over_zero : (es : List (Entry A)) → over es 0 ≡ 0
  unfolding over
  over_zero [] = refl
  over_zero (endless a v ∷ es) = refl
  over_zero (pulse a v t ∷ es) = ap (over es) (omega arith) ∙ over_zero es

  -- where T-states found no entry, none is left
  pub over-rest : (es : List (Entry A)) (n : ℕ) → 0 < over es n → rest es n ≡ []
  unfolding over
  over-rest [] n h = rest-nil n
  over-rest (endless a v ∷ es) n h = absurd (omega arith)
  over-rest (pulse a v t ∷ es) n h =
      ⊎_elim
      (λ l. rest-past a v t es n (omega arith) (omega arith) ∙ over-rest es (n - t) h)
      (λ g. let z : over es (n - t) ≡ 0 = ap (over es) (omega arith) ∙ over_zero es in absurd (omega arith))
      (lt_or_ge t n)

  pub time-pulse : (a : A) (v : Level) (t : ℕ) (es : List (Entry A)) → time (pulse a v t ∷ es) ≡ t + time es
  unfolding time
  time-pulse a v t es = refl

  pub length_rest : (es : List (Entry A)) (n : ℕ) → length (rest es n) ≤ length es
  length_rest [] n = rw rest-nil (omega arith)
  length_rest (endless a v ∷ es) n = rw rest-stop (omega arith)
  length_rest (pulse a v t ∷ es) n =
      rest_ways (λ r. length r ≤ suc (length es)) a v t es n
      (λ z. omega arith) (λ l. omega arith) (λ p g. omega (arith, length_rest es (n - t)))

  -- THE CUT: m T-states and then n are m + n T-states
  pub rest_cut : (es : List (Entry A)) (m n : ℕ) → rest es (m + n) ≡ rest (rest es m) n
  rest_cut [] m n = simp rest-nil
  rest_cut (endless a v ∷ es) m n = simp rest-stop
  rest_cut (pulse a v t ∷ es) m n =
      rest_ways (λ r. rest (pulse a v t ∷ es) (m + n) ≡ rest r n) a v t es m
      (λ z. ap (rest (pulse a v t ∷ es)) (omega arith))
      (λ l. rest_ways (λ r. rest (pulse a v t ∷ es) (m + n) ≡ r) a v (t - m) es n
      (λ z. rest-here a v t es (m + n) (omega arith) ∙ ap (λ (k : ℕ). pulse a v k ∷ es) (omega arith))
      (λ k. rest-here a v t es (m + n) (omega arith) ∙ ap (λ (k : ℕ). pulse a v k ∷ es) (omega arith))
      (λ p g. rest-past a v t es (m + n) (omega arith) (omega arith) ∙ ap (rest es) (omega arith)))
      (λ p g. rest-past a v t es (m + n) (omega arith) (omega arith) ∙ ap (rest es) (omega arith) ∙ rest_cut es (m - t) n)

  pub over_cut : (es : List (Entry A)) (m n : ℕ) → over es (m + n) ≡ over es m + over (rest es m) n
  unfolding over
  over_cut [] m n = rw rest-nil
  over_cut (endless a v ∷ es) m n = rw rest-stop
  over_cut (pulse a v t ∷ es) m n =
      rest_ways (λ r. over es (m + n - t) ≡ over es (m - t) + over r n) a v t es m
      (λ z. rw (z, zero-add, zero-sub, over_zero, zero-add))
      (λ l.
      let e : over es (m + n - t) ≡ over es (n - (t - m)) = ap (over es) (omega arith) in
      let z : over es (m - t) ≡ 0 = ap (over es) (omega arith) ∙ over_zero es in
      e ∙ sym (zero-add _) ∙ ap (λ (k : ℕ). k + over es (n - (t - m))) (sym z))
      (λ p g. ap (over es) (omega arith) ∙ over_cut es (m - t) n)
