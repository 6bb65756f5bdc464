-- 19's data of one bit a symbol: bits byte by byte are bits one after the other, and the source reading's numbers are the format's.
-- Assumes nothing.
use Prim.Native.Nat.{ℕ, zero, suc, ◌+◌, ◌*◌, ◌-◌, ◌/◌, ◌%◌, ◌^◌, ◌≤◌, ◌<◌, max}
use native.Mathlib.Omega.{arith}
use mathlib.Core.Path.{◌≡◌, refl, sym, ap, ap₂, ◌∙◌}
use mathlib.Core.Bool.{Bool, true, false}
use mathlib.Core.List.{List, ◌++◌, append-nil, append_assoc}
use lib.ListN.{get_or}
use lib.Dec.{eqb}
use borrow.Author.Tests.{eq-eqb, ne_eqb, eqb-true, eqb-false}
use Rattle.law_base.specs.Rules.{◌⇒◌, ◌∣◌}
use Rattle.cut_grammar.specs.declared.GeneralizedData.{GeneralizedData}
use Rattle.load_general.specs.General.{used_bits, symbol_number}
use Rattle.play_entries.specs.Entries.{bit_of}
use Rattle.law_tzx.specs.Format.{each, bit_pulses, bits_in, byte_pulses, data_pulses, bit_at, group_at, data_number}
use Rattle.law_tzx.proofs.Waves.{each_split}

-- the same items, wherever they are counted from
pub each_move : (f g : ℕ → List ℕ) (p q n : ℕ) → ((k : ℕ) → k < n → f (p + k) ≡ g (q + k)) → each f p n ≡ each g q n
unfolding each
each_move f g p q zero h = refl
each_move f g p q (suc n) h =
    let a : p + 0 ≡ p = omega arith in
    let b : q + 0 ≡ q = omega arith in
    ap₂ (λ (x y : List ℕ). x ++ y) (ap f (sym a) ∙ h 0 (omega arith) ∙ ap g b)
    (each_move f g (p + 1) (q + 1) n (λ k l.
    let c : p + 1 + k ≡ p + suc k = omega arith in
    let d : q + 1 + k ≡ q + suc k = omega arith in
    ap f c ∙ h (suc k) (omega arith) ∙ ap g (sym d)))

none_more : (f g : ℕ → List ℕ) (p q : ℕ) → each f p 0 ≡ each g q 0
unfolding each
none_more f g p q = refl

one_more : (f : ℕ → List ℕ) (p n : ℕ) → each f p (suc n) ≡ f p ++ each f (p + 1) n
unfolding each
one_more f p n = refl

pub single : (f : ℕ → List ℕ) (p : ℕ) → each f p 1 ≡ f p
unfolding each
single f p = append-nil (f p)

module _ (h : ℕ → ℕ → List ℕ) where
  -- bit i of all bits
  abbrev all : ℕ → List ℕ
  all i = h (i / 8) (i % 8)

  -- the first n bits of byte p
  byte_bits : (p n : ℕ) → n ≤ 8 → each (h p) 0 n ≡ each all (p * 8) n
  byte_bits p n l =
      each_move (h p) all 0 (p * 8) n (λ k m.
      let z : 0 + k ≡ k = omega arith in
      let a : (p * 8 + k) / 8 ≡ p = omega arith in
      let b : (p * 8 + k) % 8 ≡ k = omega arith in
      ap (h p) z ∙ sym (ap₂ h a b))

  -- whole bytes
  bytes_bits : (p m : ℕ) → each (λ pos. each (h pos) 0 8) p m ≡ each all (p * 8) (m * 8)
  bytes_bits p zero = none_more (λ pos. each (h pos) 0 8) all p (p * 8)
  bytes_bits p (suc m) =
      let e : suc m * 8 ≡ 8 + m * 8 = omega arith in
      let q : (p + 1) * 8 ≡ p * 8 + 8 = omega arith in
      one_more (λ pos. each (h pos) 0 8) p m
      ∙ ap₂ (λ (x y : List ℕ). x ++ y) (byte_bits p 8 (omega arith))
      (bytes_bits (p + 1) m ∙ ap (λ (k : ℕ). each all k (m * 8)) q)
      ∙ sym (ap (each all (p * 8)) e ∙ each_split all (p * 8) 8 (m * 8))

  -- m whole bytes, and a last one of `used` bits
  last_bits_lem : (m used : ℕ) → used ≤ 8
      → each (λ pos. each (h pos) 0 (bits_in used (suc m) pos)) 0 (suc m) ≡ each all 0 (m * 8 + used)
  unfolding bits_in
  last_bits_lem m used l =
      let f : ℕ → List ℕ = λ pos. each (h pos) 0 (bits_in used (suc m) pos) in
      let e : suc m ≡ m + 1 = omega arith in
      let z : 0 + m ≡ m = omega arith in
      let zz : 0 + m * 8 ≡ m * 8 = omega arith in
      let whole : each f 0 m ≡ each (λ pos. each (h pos) 0 8) 0 m =
      each_move f (λ pos. each (h pos) 0 8) 0 0 m (λ k n.
      let q : eqb (0 + k + 1) (suc m) ≡ false = ne_eqb (0 + k + 1) (suc m) (omega arith) in
      ap (λ (b : Bool). each (h (0 + k)) 0 (b ⇒ used ∣ 8)) q) in
      let final : each f m 1 ≡ each all (m * 8) used =
      single f m ∙ ap (λ (b : Bool). each (h m) 0 (b ⇒ used ∣ 8)) (eq-eqb (m + 1) (suc m) (omega arith)) ∙ byte_bits m used l in
      ap (each f 0) e
      ∙ each_split f 0 m 1
      ∙ ap₂ (λ (x y : List ℕ). x ++ y) (whole ∙ bytes_bits 0 m) (ap (λ (k : ℕ). each f k 1) z ∙ final)
      ∙ sym (each_split all 0 (m * 8) used ∙ ap (λ (k : ℕ). each all 0 (m * 8) ++ each all k used) zz)

-- the bits over: 1 to 8, and with the whole bytes' they are all
last_few : (n : ℕ) → 0 < n → (max 1 (used_bits n) ≤ 8) × (((n + 7) / 8 - 1) * 8 + max 1 (used_bits n) ≡ n)
unfolding used_bits
last_few n h = by_cases (eqb (n % 8) 0) refl
  where
    by_cases : (b : Bool) → eqb (n % 8) 0 ≡ b
        → (max 1 (b ⇒ 8 ∣ n % 8) ≤ 8) × (((n + 7) / 8 - 1) * 8 + max 1 (b ⇒ 8 ∣ n % 8) ≡ n)
    by_cases true q = let z : n % 8 ≡ 0 = eqb-true (n % 8) 0 q in (omega arith, omega arith)
    by_cases false q = let z = eqb-false (n % 8) 0 q in (omega arith, omega arith)

-- ORDINARY DATA of n bits: the bytes that hold them, the last one's bits as many as are over
pub data_flat : (s : List ℕ) (off one from n : ℕ) → 0 < n
    → data_pulses s off one (max 1 (used_bits n)) from ((n + 7) / 8) ≡ each (λ i. bit_pulses off one (bit_at s from i)) 0 n
unfolding data_pulses byte_pulses bit_at
data_flat s off one from n h =
    let h' : ℕ → ℕ → List ℕ = λ pos k. bit_pulses off one (bit_of (get_or s (from + pos) 0) k) in
    let m = (n + 7) / 8 - 1 in
    let used = max 1 (used_bits n) in
    let e : (n + 7) / 8 ≡ suc m = omega arith in
    let b = last_few n h in
    ap (λ (k : ℕ). each (λ pos. each (h' pos) 0 (bits_in used k pos)) 0 k) e
    ∙ last_bits_lem h' m used b.0
    ∙ ap (λ (k : ℕ). each (λ i. h' (i / 8) (i % 8)) 0 k) b.1

-- where a symbol is one bit, the numbers are bits
module _ (s : List ℕ) (g : GeneralizedData) (e : g.nb ≡ 1) where
  pub number_bit : (i : ℕ) → data_number s g i ≡ bit_at s g.from i
  unfolding data_number group_at
  number_bit i =
      let z : i * 1 ≡ i = omega arith in
      let b = bit_at s g.from (i * 1) in
      let o : b * 1 + 0 ≡ b = omega arith in
      ap (λ (n : ℕ). group_at s g.from (i * n) n) e ∙ o ∙ ap (bit_at s g.from) z

  -- the source reading's
  pub single_bit : (i : ℕ) → symbol_number s g (i * g.nb) 0 ≡ bit_at s g.from i
  unfolding symbol_number bit_at
  single_bit i =
      let z : i * 1 ≡ i = omega arith in
      let m : 7 - i % 8 - 0 ≡ 7 - i % 8 = omega arith in
      ap (λ (n : ℕ). get_or s (g.from + i * n / 8) 0 / 2 ^ (7 - i * n % 8 - 0) % 2 ^ n) e
      ∙ ap (λ (k : ℕ). get_or s (g.from + k / 8) 0 / 2 ^ (7 - k % 8 - 0) % 2) z
      ∙ ap (λ (k : ℕ). get_or s (g.from + i / 8) 0 / 2 ^ k % 2) m

  pub second_bit : (i : ℕ) → symbol_number s g (2 * i * g.nb) 1 ≡ bit_at s g.from (2 * i + 1)
  unfolding symbol_number bit_at
  second_bit i =
      let z : 2 * i * 1 ≡ 2 * i = omega arith in
      let a : 2 * i / 8 ≡ (2 * i + 1) / 8 = omega arith in
      let m : 7 - 2 * i % 8 - 1 ≡ 7 - (2 * i + 1) % 8 = omega arith in
      ap (λ (n : ℕ). get_or s (g.from + 2 * i * n / 8) 0 / 2 ^ (7 - 2 * i * n % 8 - 1) % 2 ^ n) e
      ∙ ap (λ (k : ℕ). get_or s (g.from + k / 8) 0 / 2 ^ (7 - k % 8 - 1) % 2) z
      ∙ ap₂ (λ (p k : ℕ). get_or s (g.from + p) 0 / 2 ^ k % 2) a m

pub bit_small : (s : List ℕ) (from i : ℕ) → bit_at s from i < 2
unfolding bit_at
bit_small s from i = omega arith

-- items two by two
pub each_pairs : (f : ℕ → List ℕ) (p n : ℕ) → each (λ i. f (2 * i) ++ f (2 * i + 1)) p n ≡ each f (2 * p) (n * 2)
each_pairs f p zero = none_more (λ i. f (2 * i) ++ f (2 * i + 1)) f p (2 * p)
each_pairs f p (suc n) =
    let a : 2 * (p + 1) ≡ 2 * p + 1 + 1 = omega arith in
    let b : suc n * 2 ≡ suc (suc (n * 2)) = omega arith in
    one_more (λ i. f (2 * i) ++ f (2 * i + 1)) p n
    ∙ append_assoc (f (2 * p)) (f (2 * p + 1)) (each (λ i. f (2 * i) ++ f (2 * i + 1)) (p + 1) n)
    ∙ ap (λ (r : List ℕ). f (2 * p) ++ (f (2 * p + 1) ++ r)) (each_pairs f (p + 1) n ∙ ap (λ (k : ℕ). each f k (n * 2)) a)
    ∙ sym
    (ap (each f (2 * p)) b ∙ one_more f (2 * p) (suc (n * 2)) ∙ ap (λ (r : List ℕ). f (2 * p) ++ r) (one_more f (2 * p + 1) (n * 2)))
