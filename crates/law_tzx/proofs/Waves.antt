-- Waves played again and again: cycles of two equal halves are pulses, pulses of 0 are not heard, bits of the last byte. Assumes nothing.
use Prim.Native.Nat.{ℕ, zero, suc, ◌+◌, ◌*◌, ◌/◌, ◌%◌, ◌≤◌, ◌<◌, max}
use native.Mathlib.Omega.{arith}
use mathlib.Core.Path.{◌≡◌, refl, sym, ap, ap₂, ◌∙◌}
use mathlib.Core.Bool.{true, false, ◌||◌}
use mathlib.Core.List.{List, [], ◌∷◌, ◌++◌, append_assoc, append-nil}
use lib.Dec.{ltb, leb, eqb}
use borrow.Author.Tests.{ltb-true, leb-true, eqb-true, ne_eqb}
use Rattle.law_base.specs.Arms.{between}
use Rattle.law_base.proofs.Tests.{first, second, other}
use Rattle.law_tzx.specs.Format.{PulseLength, each, again, data_pulses, bits_said, lasting}
use Rattle.law_tzx.specs.Kept.{even_count}
use Rattle.law_tzx.proofs.Lengths.{long, long_append}

-- two truths
pub differ : true ≡ false → ⊥
differ e = let z : ◌≡◌ {A = ℕ} 0 1 = cc in omega arith

-- k items, then m
pub each_split : (f : ℕ → List ℕ) (p k m : ℕ) → each f p (k + m) ≡ each f p k ++ each f (p + k) m
unfolding each
each_split f p zero m =
    let z : zero + m ≡ m = omega arith in
    let q : p ≡ p + 0 = omega arith in
    ap₂ (each f) q z
each_split f p (suc k) m =
    let z : suc k + m ≡ suc (k + m) = omega arith in
    let q : p + 1 + k ≡ p + suc k = omega arith in
    ap (each f p) z
    ∙ ap (λ (r : List ℕ). f p ++ r) (each_split f (p + 1) k m ∙ ap (λ (x : ℕ). each f (p + 1) k ++ each f x m) q)
    ∙ sym (append_assoc (f p) (each f (p + 1) k) (each f (p + suc k) m))

-- items that sound the same
pub each_same : (f g : ℕ → List ℕ) (p n : ℕ) → ((i : ℕ) → p ≤ i → i < p + n → long (f i) ≡ long (g i))
    → long (each f p n) ≡ long (each g p n)
unfolding each
each_same f g p zero h = refl
each_same f g p (suc n) h =
    long_append (f p) (each f (p + 1) n)
    ∙ ap₂ (λ (x y : List PulseLength). x ++ y) (h p (omega arith) (omega arith))
    (each_same f g (p + 1) n (λ i k l. h i (omega arith) (omega arith)))
    ∙ sym (long_append (g p) (each g (p + 1) n))

-- items that are not heard
pub each_none : (f : ℕ → List ℕ) (p n : ℕ) → ((i : ℕ) → long (f i) ≡ []) → long (each f p n) ≡ []
unfolding each lasting
each_none f p zero h = refl
each_none f p (suc n) h =
    long_append (f p) (each f (p + 1) n) ∙ ap₂ (λ (x y : List PulseLength). x ++ y) (h p) (each_none f (p + 1) n h)

-- the same wave, wherever it is counted from
again_from : (w : List ℕ) (p q n : ℕ) → each (λ i. w) p n ≡ each (λ i. w) q n
unfolding each
again_from w p q zero = refl
again_from w p q (suc n) = ap (λ (r : List ℕ). w ++ r) (again_from w (p + 1) (q + 1) n)

pub again_more : (w : List ℕ) (n : ℕ) → again (suc n) w ≡ w ++ again n w
unfolding each
again_more w n = ap (λ (r : List ℕ). w ++ r) (again_from w 1 0 n)

-- a wave, once
pub once : (w : List ℕ) → again 1 w ≡ w
unfolding each
once w = append-nil w

again-none : (v w : List ℕ) → again 0 v ≡ again 0 w
unfolding each
again-none v w = refl

-- m cycles of two equal halves are 2 m pulses
pub cycles-pulses : (x m : ℕ) → again m (x ∷ x ∷ []) ≡ again (m * 2) (x ∷ [])
cycles-pulses x zero = again-none (x ∷ x ∷ []) (x ∷ [])
cycles-pulses x (suc m) =
    let e : suc m * 2 ≡ suc (suc (m * 2)) = omega arith in
    again_more (x ∷ x ∷ []) m
    ∙ ap (λ (r : List ℕ). x ∷ x ∷ r) (cycles-pulses x m)
    ∙ ap (λ (r : List ℕ). x ∷ r) (sym (again_more (x ∷ []) (m * 2)))
    ∙ sym (again_more (x ∷ []) (suc (m * 2)))
    ∙ ap (λ (k : ℕ). again k (x ∷ [])) (sym e)

pub record Even (n : ℕ) : Type 0 where
  pub some : 0 < n
  pub even : n % 2 ≡ 0

pub even_of : (n : ℕ) → even_count n ≡ true → Even n
unfolding even_count
even_of n e =
    record { some = ltb-true 0 n (first (ltb 0 n) (eqb (n % 2) 0) e); even = eqb-true (n % 2) 0 (second (ltb 0 n) (eqb (n % 2) 0) e) }

-- pulses of 0
pub zero-none : (k : ℕ) → long (again k (0 ∷ [])) ≡ []
unfolding lasting
zero-none k = each_none (λ i. 0 ∷ []) 0 k (λ i. refl)

pub zeros-none : (k : ℕ) → long (again k (0 ∷ 0 ∷ [])) ≡ []
unfolding lasting
zeros-none k = each_none (λ i. 0 ∷ 0 ∷ []) 0 k (λ i. refl)

-- A PILOT in cycles, half its pulses rounded up, one at the least: the same where the pulses are 0, or even in number and some
pub pilot_same : (x n : ℕ) → (eqb x 0 || even_count n) ≡ true
    → long (again (max 1 ((n + 1) / 2)) (x ∷ x ∷ [])) ≡ long (again n (x ∷ []))
pilot_same zero n e = zeros-none (max 1 ((n + 1) / 2)) ∙ sym (zero-none n)
pilot_same (suc x) n e =
    let h = even_of n (other (eqb (suc x) 0) (even_count n) e (ne_eqb (suc x) 0 (omega arith))) in
    let q : max 1 ((n + 1) / 2) * 2 ≡ n = omega (arith, h.some, h.even) in
    ap long (cycles-pulses (suc x) (max 1 ((n + 1) / 2)) ∙ ap (λ (k : ℕ). again k (suc x ∷ [])) q)

-- where 1 to 8 bits of the last byte are said, one at the least is what is said
pub data_same : (s : List ℕ) (off one last from size : ℕ) → bits_said last size ≡ true
    → data_pulses s off one (max 1 last) from size ≡ data_pulses s off one last from size
unfolding bits_said data_pulses each
data_same s off one last from zero e = refl
data_same s off one last from (suc n) e =
    let b = other (eqb (suc n) 0) (between 1 8 last) e (ne_eqb (suc n) 0 (omega arith)) in
    let l : 1 ≤ last = leb-true 1 last (first (leb 1 last) (leb last 8) b) in
    let q : max 1 last ≡ last = omega arith in
    ap (λ (u : ℕ). data_pulses s off one u from (suc n)) q
