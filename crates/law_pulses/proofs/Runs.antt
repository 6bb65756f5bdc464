-- The laws of a run of items: cut in two, its length and its time. Assumes nothing.
use mathlib.Core.Path.{◌≡◌, sym, ap, ap₂, ◌∙◌}
use mathlib.Core.List.{List, [], ◌++◌, append_assoc, append-nil}
use Prim.Native.Nat.{ℕ, zero, suc, ◌+◌, ◌-◌, ◌*◌, ◌≤◌, ◌<◌}
use native.Mathlib.Nat.{suc-mul, zero-mul}
use native.Mathlib.Omega.{arith}
use lib.ListN.{length, length-append}
use Rattle.law_pulses.specs.Play.{Entry, time, Finite}
use Rattle.law_pulses.specs.Runs.{run}
use Rattle.law_pulses.proofs.Joined.{time_append, finite_append}

module _ {A : Type 0} (item : ℕ → List (Entry A)) where
  pub run_split : (p k m : ℕ) → run item p (k + m) ≡ run item p k ++ run item (p + k) m
  unfolding run
  run_split p zero m =
      let z : zero + m ≡ m = omega arith in
      let q : p ≡ p + 0 = omega arith in
      ap₂ (run item) q z
  run_split p (suc k) m =
      let z : suc k + m ≡ suc (k + m) = omega arith in
      let q : p + 1 + k ≡ p + suc k = omega arith in
      ap (run item p) z
      ∙ ap (λ (r : List (Entry A)). item p ++ r) (run_split (p + 1) k m ∙ ap (λ (x : ℕ). run item (p + 1) k ++ run item x m) q)
      ∙ sym (append_assoc (item p) (run item (p + 1) k) (run item (p + suc k) m))

  -- of n items, those from p on: item p and those after it, or none
  pub run_next : (p n : ℕ) → p < n → run item p (n - p) ≡ item p ++ run item (p + 1) (n - (p + 1))
  unfolding run
  run_next p n h = let e : n - p ≡ suc (n - (p + 1)) = omega arith in ap (run item p) e

  pub run_none : (p n : ℕ) → n ≤ p → run item p (n - p) ≡ []
  unfolding run
  run_none p n h = let e : n - p ≡ 0 = omega arith in ap (run item p) e

  -- items of c pulses each
  pub run_length : (c p m : ℕ) → ((i : ℕ) → p ≤ i → i < p + m → length (item i) ≡ c) → length (run item p m) ≡ m * c
  unfolding run
  run_length c p zero h = sym (zero-mul c)
  run_length c p (suc m) h =
      omega (
        arith,
        length-append (item p) (run item (p + 1) m),
        h p (omega arith) (omega arith),
        run_length c (p + 1) m (λ i l g. h i (omega arith) (omega arith)),
        suc-mul m c,
      )

  module _ (finite : (i : ℕ) → Finite (item i)) where
    pub run_finite : (p m : ℕ) → Finite (run item p m)
    unfolding run Finite
    run_finite p zero = tt
    run_finite p (suc m) = finite_append (item p) (run item (p + 1) m) (finite p) (run_finite (p + 1) m)

    -- items of c T-states each: the time by one product
    pub run-time : (c p m : ℕ) → ((i : ℕ) → p ≤ i → i < p + m → time (item i) ≡ c) → time (run item p m) ≡ m * c
    unfolding run time
    run-time c p zero h = sym (zero-mul c)
    run-time c p (suc m) h =
        omega (
          arith,
          time_append (item p) (run item (p + 1) m) (finite p),
          h p (omega arith) (omega arith),
          run-time c (p + 1) m (λ i l g. h i (omega arith) (omega arith)),
          suc-mul m c,
        )

    -- one item more
    pub run_time_next : (m : ℕ) → time (run item 0 (m + 1)) ≡ time (run item 0 m) + time (item m)
    unfolding run
    run_time_next m =
        let z : 0 + m ≡ m = omega arith in
        ap time (run_split 0 m 1)
        ∙ time_append (run item 0 m) (item (0 + m) ++ []) (run_finite 0 m)
        ∙ ap (λ (r : List (Entry A)). time (run item 0 m) + time r) (append-nil (item (0 + m)) ∙ ap item z)

    -- items of at most c T-states each
    pub run-time-most : (c p m : ℕ) → ((i : ℕ) → p ≤ i → i < p + m → time (item i) ≤ c) → time (run item p m) ≤ m * c
    unfolding run time
    run-time-most c p zero h = omega arith
    run-time-most c p (suc m) h =
        omega (
          arith,
          time_append (item p) (run item (p + 1) m) (finite p),
          h p (omega arith) (omega arith),
          run-time-most c (p + 1) m (λ i l g. h i (omega arith) (omega arith)),
          suc-mul m c,
        )
