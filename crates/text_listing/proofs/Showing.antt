-- A NAME AS IT PRINTS: one code point of it, and that it grows no longer. Assumes nothing.
use Prim.Native.Nat.{ℕ, suc, ◌+◌, ◌≤◌, ◌<◌}
use native.Mathlib.Omega.{arith}
use mathlib.Core.Path.{◌≡◌, refl, sym, ap, ◌∙◌}
use mathlib.Core.Bool.{Bool, true, false, ◌&&◌, ◌||◌}
use mathlib.Core.List.{List, [], ◌∷◌}
use mathlib.Core.Logic.{⊎_elim}
use lib.ListN.{length, get_or, take, drop, drop_of_length-le}
use lib.Seq.{drop-cons, drop-drop, take-length, take-append-le}
use lib.Dec.{ltb, eqb}
use borrow.Author.Tests.{lt-ltb, le-ltb}
use Rattle.law_base.specs.Rules.{◌⇒◌, ◌∣◌}
use Rattle.law_base.proofs.Numbers.{lt_or_ge}
use Rattle.text_out.specs.declared.Writer.{Writer}
use Rattle.text_out.specs.Out.{Wrote}
use Rattle.text_out.specs.Writes.{Writes}
use Rattle.text_out.proofs.Writing.{wrote_counted, wrote_whole, over_wrote}
use Rattle.text_out.proofs.Loops.{Goes, goes_none, goes_on, goes_over, byte_here}
use Rattle.text_listing.specs.Shown.{shown, is_c1, printed, width}

-- the last byte, a code point of two bytes, and a byte that another follows
shown_last : (b : ℕ) → shown (b ∷ []) ≡ printed false b ∷ []
unfolding shown
shown_last b = by_cases (ltb b 32 || eqb b 127)
  where
    by_cases : (t : Bool) → (t ⇒ (0x3F ∷ []) ∣ (b ∷ [])) ≡ (t ⇒ 0x3F ∣ b) ∷ []
    by_cases true = refl
    by_cases false = refl

shown-first : (b c : ℕ) (bs : List ℕ)
    → shown (b ∷ c ∷ bs) ≡ printed (eqb b 0xC2 && ltb c 0xA0) b ∷ shown (drop (width (eqb b 0xC2 && ltb c 0xA0)) (b ∷ c ∷ bs))
unfolding shown
shown-first b c bs = by_cases (eqb b 0xC2 && ltb c 0xA0) (ltb b 32 || eqb b 127)
  where
    by_cases : (t u : Bool)
        → (t ⇒ 0x3F ∷ shown bs ∣ u ⇒ 0x3F ∷ shown (c ∷ bs) ∣ b ∷ shown (c ∷ bs))
        ≡ (t ⇒ 0x3F ∣ u ⇒ 0x3F ∣ b) ∷ shown (drop (width t) (b ∷ c ∷ bs))
    by_cases true u = refl
    by_cases false true = refl
    by_cases false false = refl

-- the code point at i, and what follows it
pub shown_at : (s : List ℕ) (i : ℕ) → i < length s
    → shown (drop i s) ≡ printed (is_c1 s i) (get_or s i 0) ∷ shown (drop (i + width (is_c1 s i)) s)
unfolding shown
shown_at s i h = ⊎_elim more last (lt_or_ge (i + 1) (length s))
  where
    more : i + 1 < length s → shown (drop i s) ≡ printed (is_c1 s i) (get_or s i 0) ∷ shown (drop (i + width (is_c1 s i)) s)
    more k =
        let c = get_or s (i + 1) 0 in
        let t = eqb (get_or s i 0) 0xC2 && ltb c 0xA0 in
        let next = ap (λ (l : List ℕ). get_or s i 0 ∷ l) (drop-cons s (i + 1) 0 k) in
        let two : drop i s ≡ get_or s i 0 ∷ c ∷ drop (suc (i + 1)) s = byte_here s i h ∙ next in
        rw (lt-ltb (i + 1) (length s) k) (
        ap shown two
        ∙ shown-first (get_or s i 0) c (drop (suc (i + 1)) s)
        ∙ ap (λ (l : List ℕ). printed t (get_or s i 0) ∷ shown (drop (width t) l)) (sym two)
        ∙ ap (λ (l : List ℕ). printed t (get_or s i 0) ∷ shown l) (drop-drop (width t) i s))

    last : length s ≤ i + 1 → shown (drop i s) ≡ printed (is_c1 s i) (get_or s i 0) ∷ shown (drop (i + width (is_c1 s i)) s)
    last k =
        let none : drop (i + 1) s ≡ [] = drop_of_length-le s k in
        let alone = byte_here s i h ∙ ap (λ (l : List ℕ). get_or s i 0 ∷ l) none in
        rw (le-ltb (i + 1) (length s) k, none) (ap shown alone ∙ shown_last (get_or s i 0))

-- it lies in the name
pub c1_inside : (s : List ℕ) (i : ℕ) → i < length s → i + width (is_c1 s i) ≤ length s
c1_inside s i h = ⊎_elim (λ k. rw (lt-ltb (i + 1) (length s) k) (either (eqb (get_or s i 0) 0xC2 && ltb (get_or s (i + 1) 0) 0xA0) k))
    (λ k. rw (le-ltb (i + 1) (length s) k) (omega arith)) (lt_or_ge (i + 1) (length s))
  where
    either : (t : Bool) → i + 1 < length s → i + width t ≤ length s
    either true k = omega arith
    either false k = omega arith

-- and takes one byte at least
pub width_some : (t : Bool) → 0 < width t
width_some true = omega arith
width_some false = omega arith

-- no name grows longer
pub shown-length : (s : List ℕ) → length (shown s) ≤ length s
unfolding shown
shown-length [] = omega arith
shown-length (b ∷ []) = by_cases (ltb b 32 || eqb b 127)
  where
    by_cases : (t : Bool) → length (t ⇒ (0x3F ∷ []) ∣ (b ∷ [])) ≤ 1
    by_cases true = omega arith
    by_cases false = omega arith
shown-length (b ∷ c ∷ bs) = by_cases (eqb b 0xC2 && ltb c 0xA0) (ltb b 32 || eqb b 127) (shown-length bs) (shown-length (c ∷ bs))
  where
    by_cases : (t u : Bool) → length (shown bs) ≤ length bs → length (shown (c ∷ bs)) ≤ length (c ∷ bs)
        → length (t ⇒ 0x3F ∷ shown bs ∣ u ⇒ 0x3F ∷ shown (c ∷ bs) ∣ b ∷ shown (c ∷ bs)) ≤ length (b ∷ c ∷ bs)
    by_cases true u p q = omega arith
    by_cases false true p q = omega arith
    by_cases false false p q = omega arith

-- THE WRITING, code point by code point
pub record Shows (w₀ : Writer) (s : List ℕ) (i : ℕ) (w : Writer) : Type 0 where
  pub inside : i ≤ length s
  pub goes : Goes (λ j. shown (drop j s)) 1 w₀ i w

pub shows_none : (w : Writer) (s : List ℕ) → Shows w s 0 w
shows_none w s = record { inside = omega arith; goes = goes_none _ 1 w }

pub shows_on : {w₀ w v : Writer} {s : List ℕ} {i b k : ℕ} {c1 : Bool} → Shows w₀ s i w → i < length s
    → c1 ≡ is_c1 s i → b ≡ printed c1 (get_or s i 0) → k ≡ width c1 → Writes w (b ∷ []) v → Shows w₀ s (i + k) v
shows_on {s = s} {i = i} {b = b} {k} {c1} g h e p q w =
    let z : k ≡ width (is_c1 s i) = q ∙ ap width e in
    let y : b ≡ printed (is_c1 s i) (get_or s i 0) = p ∙ ap (λ (t : Bool). printed t (get_or s i 0)) e in
    let split : b ∷ shown (drop (i + k) s) ≡ shown (drop i s) =
    ap (λ (x : ℕ). x ∷ shown (drop (i + k) s)) y
    ∙ ap (λ (x : ℕ). printed (is_c1 s i) (get_or s i 0) ∷ shown (drop (i + x) s)) z
    ∙ sym (shown_at s i h) in
    let some = width_some (is_c1 s i) in
    record { inside = omega (arith, c1_inside s i h, z); goes = goes_on k g.goes (sym split) (omega (arith, z)) w }

pub shows_over : {w₀ w : Writer} {s : List ℕ} {i : ℕ} → Shows w₀ s i w → length s ≤ i → Writes w₀ (shown s) w
unfolding shown
shows_over {s = s} g h = goes_over g.goes (ap shown (drop_of_length-le s h))

-- a text that was written into lent bytes, read back from them
pub name_part : {d d1 t : List ℕ} {n : ℕ} → Wrote d 0 t d1 n → length t ≤ length d → take n d1 ≡ t
name_part {d} {d1} {t} {n} p h =
    ap (λ (x : ℕ). take x d1) (wrote_counted p) ∙ ap (take (length t)) (wrote_whole p h)
    ∙ take-append-le (length t) t (drop (length t) d) (omega arith) ∙ take-length t

pub part_length : {d d1 t : List ℕ} {n : ℕ} → Wrote d 0 t d1 n → length t ≤ length d → n ≡ length (take n d1)
part_length p h = wrote_counted p ∙ sym (ap length (name_part p h))

-- the same of a writer over these bytes
pub name_over : {w v : Writer} {d t : List ℕ} → w.out.now ≡ d → w.at ≡ 0 → Writes w t v → length t ≤ length d → take v.at v.out.now ≡ t
name_over e z p h = name_part (over_wrote e z p) h

pub part_over : {w v : Writer} {d t : List ℕ} → w.out.now ≡ d → w.at ≡ 0 → Writes w t v → length t ≤ length d
    → v.at ≡ length (take v.at v.out.now)
part_over e z p h = part_length (over_wrote e z p) h
