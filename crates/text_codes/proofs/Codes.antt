-- The part of the flat table between a code's two offsets is the code's text, at most 9 bytes. Assumes nothing.
use mathlib.Core.Path.{◌≡◌, refl, sym, ap, ◌∙◌}
use mathlib.Core.List.{List, [], ◌∷◌, ◌++◌, append_assoc}
use Prim.Native.Nat.{ℕ, zero, suc, ◌+◌, ◌-◌, ◌<◌, ◌≤◌, max}
use native.Mathlib.Nat.{not-suc-le-zero, le_of_suc-le-suc}
use native.Mathlib.Omega.{arith}
use native.Mathlib.Numerals.{add-one}
use lib.ListN.{length, length-append, length-drop, get_or, take, drop}
use lib.Seq.{take_at, drop_at, length-take-le}
use Rattle.text_codes.specs.Encoding.{table, encoded, flat_texts, offsets}

-- s from a to e is the text of ts at k
record Cut (ts : List (List ℕ)) (s : List ℕ) (k a e : ℕ) : Type 0 where
  order : a ≤ e
  inside : e ≤ length s
  is : take (e - a) (drop a s) ≡ get_or ts k []

first_offset : (a : ℕ) (ts : List (List ℕ)) → get_or (offsets a ts) 0 0 ≡ a
unfolding offsets
first_offset a [] = refl
first_offset a (t ∷ ts) = refl

-- for any texts, after any bytes p
cut : (p : List ℕ) (n : ℕ) (ts : List (List ℕ)) (k : ℕ) → length p ≡ n → k < length ts
    → Cut ts (p ++ flat_texts ts) k (get_or (offsets n ts) k 0) (get_or (offsets n ts) (suc k) 0)
unfolding offsets flat_texts
cut p n [] k e h = absurd (not-suc-le-zero h)
cut p n (t ∷ ts) zero e h =
    let l : length t ≡ (n + length t) - n = omega arith in
    rw (first_offset (n + length t) ts) (record {
      order = omega arith;
      inside = simp length-append (omega arith);
      is = rw (drop_at p (t ++ flat_texts ts) n e, take_at t (flat_texts ts) ((n + length t) - n) l);
    })
cut p n (t ∷ ts) (suc k) e h =
    let l : length (p ++ t) ≡ n + length t = rw length-append (omega arith) in
    let q = cut (p ++ t) (n + length t) ts k l (le_of_suc-le-suc h) in
    rw (← append_assoc p t (flat_texts ts)) (record { order = q.order; inside = q.inside; is = q.is })

codes : length table ≡ 256
unfolding table
codes = refl

abbrev longest : List (List ℕ) → ℕ
longest [] = 0
longest (t ∷ ts) = max (length t) (longest ts)

no_longer : (ts : List (List ℕ)) (k : ℕ) → length (get_or ts k []) ≤ longest ts
no_longer [] k = omega arith
no_longer (t ∷ ts) zero = omega arith
no_longer (t ∷ ts) (suc k) = omega (arith, no_longer ts k)

nine : longest table ≡ 9
unfolding table
nine = refl

pub code_length : (k : ℕ) → length (encoded k) ≤ 9
unfolding encoded
code_length k = omega (arith, no_longer table k, nine)

-- the text of code k, where a and e are the offsets that the code read
pub record CodeText (k a e : ℕ) : Type 0 where
  pub order : a ≤ e
  pub inside : e ≤ length (flat_texts table)
  pub short : e - a ≤ 9
  pub is : take (e - a) (drop a (flat_texts table)) ≡ encoded k

pub part : (code : ℕ) {k a e : ℕ} → k ≡ code → code < 256 → a ≡ get_or (offsets 0 table) k 0
    → e ≡ get_or (offsets 0 table) (k + 1) 0 → CodeText code a e
unfolding encoded
part code {k} {a} {e} w h p q =
    let c : Cut table (flat_texts table) code a e = rw (p, q, w, add-one) (cut [] 0 table code refl (rw codes h)) in
    let l : length (take (e - a) (drop a (flat_texts table))) ≡ e - a =
    length-take-le (e - a) (drop a (flat_texts table)) (rw length-drop (omega (arith, c.inside))) in
    let m : e - a ≡ length (encoded code) = sym l ∙ ap length c.is in
    record { order = c.order; inside = c.inside; short = omega (arith, m, code_length code); is = c.is }
