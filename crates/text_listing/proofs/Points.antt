-- WHAT IS SHOWN of the UTF-8 of code points is the UTF-8 of these, each as it is shown. Assumes nothing.
use Prim.Native.Nat.{ℕ, ◌+◌, ◌/◌, ◌%◌, ◌≤◌, ◌<◌}
use native.Mathlib.Omega.{arith}
use mathlib.Core.Path.{◌≡◌, refl, sym, ap, ◌∙◌}
use mathlib.Core.Bool.{Bool, true, false, ◌&&◌, ◌||◌, false≢true}
use mathlib.Core.List.{List, [], ◌∷◌, ◌++◌, map}
use mathlib.Core.Logic.{◌⊎◌, inl, inr, ⊎_elim}
use lib.ListN.{length, drop}
use lib.Dec.{ltb, leb, eqb}
use borrow.Author.Tests.{lt-ltb, le-ltb, ltb-true, ltb-false, leb-true, leb-false, eq-eqb, ne_eqb}
use Rattle.law_base.specs.Rules.{◌⇒◌, ◌∣◌}
use Rattle.law_base.proofs.Numbers.{lt_or_ge}
use Rattle.law_base.proofs.Tests.{first, second}
use Rattle.text_out.specs.Out.{each_byte}
use Rattle.text_listing.specs.Shown.{shown, printed, width}
use Rattle.text_listing.specs.Points.{bytes_of, is_scalar, are_scalars, Utf8, is_control, shown_point}
use Rattle.text_listing.proofs.Showing.{shown_at}
use Rattle.text_listing.proofs.Utf8.{one, two, three, four}

-- what a first byte prints as, by the byte behind it
shown-first : (b c : ℕ) (bs : List ℕ) → (t : Bool) → (eqb b 0xC2 && ltb c 0xA0) ≡ t
    → shown (b ∷ c ∷ bs) ≡ printed t b ∷ shown (drop (0 + width t) (b ∷ c ∷ bs))
shown-first b c bs t e =
    shown_at (b ∷ c ∷ bs) 0 (omega arith) ∙ rw (lt-ltb 1 (length (b ∷ c ∷ bs)) (omega arith), e)

-- a byte that begins no code point from 128 to 159
shown_byte : (b : ℕ) (bs : List ℕ) → (b ≡ 0xC2 → ⊥) → shown (b ∷ bs) ≡ printed false b ∷ shown bs
unfolding shown
shown_byte b [] n = shown_at (b ∷ []) 0 (omega arith)
shown_byte b (c ∷ bs) n = shown-first b c bs false (rw (ne_eqb b 0xC2 n))

-- of these, a byte above ASCII, and bytes above ASCII one after the other
shown-high : (b : ℕ) (bs : List ℕ) → 128 ≤ b → (b ≡ 0xC2 → ⊥) → shown (b ∷ bs) ≡ b ∷ shown bs
shown-high b bs h n = shown_byte b bs n ∙ rw (le-ltb b 32 (omega arith), ne_eqb b 127 (λ e. omega arith))

data High : List ℕ → Type 0 where
  none : High []
  and : (b : ℕ) {bs : List ℕ} → 128 ≤ b → (b ≡ 0xC2 → ⊥) → High bs → High (b ∷ bs)

shown_highs : {hs : List ℕ} (bs : List ℕ) → High hs → shown (hs ++ bs) ≡ hs ++ shown bs
shown_highs bs none = refl
shown_highs bs (and b {bs = hs} h n more) = shown-high b (hs ++ bs) h n ∙ ap (λ (l : List ℕ). b ∷ l) (shown_highs bs more)

-- C2 and a byte from A0 on: a code point from 160 to 191
shown-pair : (c : ℕ) (bs : List ℕ) → 0xA0 ≤ c → (c ≡ 0xC2 → ⊥) → shown (0xC2 ∷ c ∷ bs) ≡ 0xC2 ∷ c ∷ shown bs
shown-pair c bs h n =
    shown-first 0xC2 c bs false (rw (le-ltb c 0xA0 h)) ∙ ap (λ (l : List ℕ). 0xC2 ∷ l) (shown-high c bs (omega arith) n)

-- what a test for two ranges says of a number
in_range : (p a b c : ℕ) → (ltb p a || (leb b p && leb p c)) ≡ true → (p < a) ⊎ ((b ≤ p) × (p ≤ c))
in_range p a b c e = of (ltb p a) refl e
  where
    of : (t : Bool) → ltb p a ≡ t → (t || (leb b p && leb p c)) ≡ true → (p < a) ⊎ ((b ≤ p) × (p ≤ c))
    of true f g = inl (ltb-true p a f)
    of false f g = inr (leb-true b p (first (leb b p) (leb p c) g), leb-true p c (second (leb b p) (leb p c) g))

out_of_range : (p a b c : ℕ) → (ltb p a || (leb b p && leb p c)) ≡ false → (a ≤ p) × ((p < b) ⊎ (c < p))
out_of_range p a b c e = of (ltb p a) (leb b p) (leb p c) refl refl refl e
  where
    of : (t u v : Bool) → ltb p a ≡ t → leb b p ≡ u → leb p c ≡ v → (t || (u && v)) ≡ false
        → (a ≤ p) × ((p < b) ⊎ (c < p))
    of true u v f g h e = absurd (false≢true (sym e))
    of false false v f g h e = (ltb-false p a f, inl (leb-false b p g))
    of false true false f g h e = (ltb-false p a f, inr (leb-false p c h))
    of false true true f g h e = absurd (false≢true (sym e))

-- HOW A CODE POINT IS SHOWN
data Sort (p : ℕ) : ℕ → Type 0 where
  low : p < 32 → Sort p 63
  plain : 32 ≤ p → p < 127 → Sort p p
  high : 127 ≤ p → p < 160 → Sort p 63
  above : 160 ≤ p → Sort p p

sort : (p : ℕ) → Sort p (shown_point p)
unfolding shown_point is_control
sort p = of (is_control p) refl
  where
    of : (t : Bool) → is_control p ≡ t → Sort p (t ⇒ 63 ∣ p)
    of true e = ⊎_elim (λ h. low (omega arith)) (λ h. high (omega arith) (omega arith)) (in_range p _ _ _ e)
    of false e = let o = out_of_range p _ _ _ e in ⊎_elim (λ h. plain (omega arith) (omega arith)) (λ h. above (omega arith)) o.1

-- ONE CODE POINT, whatever follows it
module _ (p : ℕ) (bs : List ℕ) where
  abbrev Shows : ℕ → Type 0
  Shows q = shown (bytes_of p ++ bs) ≡ bytes_of q ++ shown bs

  below_32 : p < 32 → Shows 63
  below_32 h =
      rw (one p (omega arith), one 63 (omega arith)) (shown_byte p bs (λ e. omega arith) ∙ rw (lt-ltb p 32 h))

  below_127 : 32 ≤ p → p < 127 → Shows p
  below_127 h k =
      rw (one p (omega arith)) (shown_byte p bs (λ e. omega arith) ∙ rw (le-ltb p 32 h, ne_eqb p 127 (λ e. omega arith)))

  below_128 : 127 ≤ p → p < 128 → Shows 63
  below_128 h k =
      rw (one p k, one 63 (omega arith))
      (shown_byte p bs (λ e. omega arith) ∙ rw (le-ltb p 32 (omega arith), eq-eqb p 127 (omega arith)))

  below_160 : 128 ≤ p → p < 160 → Shows 63
  below_160 h k =
      rw (two p h (omega arith), one 63 (omega arith))
      (shown-first (0xC0 + p / 64) (0x80 + p % 64) bs true
      (rw (eq-eqb (0xC0 + p / 64) 0xC2 (omega arith), lt-ltb (0x80 + p % 64) 0xA0 (omega arith))))

  below_192 : 160 ≤ p → p < 192 → Shows p
  below_192 h k =
      let c2 : 0xC0 + p / 64 ≡ 0xC2 = omega arith in
      rw (two p (omega arith) (omega arith), c2) (shown-pair (0x80 + p % 64) bs (omega arith) (λ e. omega arith))

  below_2048 : 192 ≤ p → p < 2048 → Shows p
  below_2048 h k =
      rw (two p (omega arith) k)
      (shown_highs bs (and (0xC0 + p / 64) (omega arith) (λ e. omega arith) (and (0x80 + p % 64) (omega arith) (λ e. omega arith) none)))

  below_65536 : 2048 ≤ p → p < 65536 → Shows p
  below_65536 h k =
      rw (three p h k)
      (shown_highs bs
      (and (0xE0 + p / 4096) (omega arith) (λ e. omega arith)
      (and (0x80 + p / 64 % 64) (omega arith) (λ e. omega arith)
      (and (0x80 + p % 64) (omega arith) (λ e. omega arith) none))))

  from_65536 : 65536 ≤ p → Shows p
  from_65536 h =
      rw (four p h)
      (shown_highs bs
      (and (0xF0 + p / 262144) (omega arith) (λ e. omega arith)
      (and (0x80 + p / 4096 % 64) (omega arith) (λ e. omega arith)
      (and (0x80 + p / 64 % 64) (omega arith) (λ e. omega arith)
      (and (0x80 + p % 64) (omega arith) (λ e. omega arith) none)))))

  as_shown : {q : ℕ} → Sort p q → Shows q
  as_shown (low h) = below_32 h
  as_shown (plain h k) = below_127 h k
  as_shown (high h k) = ⊎_elim (below_128 h) (λ m. below_160 m k) (lt_or_ge p 128)
  as_shown (above h) =
      ⊎_elim (below_192 h)
      (λ k. ⊎_elim (below_2048 k)
      (λ m. ⊎_elim (below_65536 m) from_65536 (lt_or_ge p 65536)) (lt_or_ge p 2048)) (lt_or_ge p 192)

-- ANY CODE POINTS: no limit is asked of them
pub shown-each : (ps : List ℕ) → shown (each_byte bytes_of ps) ≡ each_byte bytes_of (map shown_point ps)
unfolding shown each_byte
shown-each [] = refl
shown-each (p ∷ ps) = as_shown p (each_byte bytes_of ps) (sort p) ∙ ap (λ (l : List ℕ). bytes_of (shown_point p) ++ l) (shown-each ps)

-- one that is shown is a scalar value too
shown_scalar : (p : ℕ) → is_scalar p ≡ true → is_scalar (shown_point p) ≡ true
unfolding is_scalar shown_point
shown_scalar p e = either (is_control p)
  where
    either : (t : Bool) → is_scalar (t ⇒ 63 ∣ p) ≡ true
    either true = refl
    either false = e

shown_scalars : (ps : List ℕ) → are_scalars ps ≡ true → are_scalars (map shown_point ps) ≡ true
unfolding are_scalars
shown_scalars [] e = refl
shown_scalars (p ∷ ps) e =
    rw (shown_scalar p (first (is_scalar p) (are_scalars ps) e)) (shown_scalars ps (second (is_scalar p) (are_scalars ps) e))

-- WHAT IS SHOWN of the UTF-8 of code points is the UTF-8 of these, each as it is shown
pub shown_points : {bytes points : List ℕ} → Utf8 bytes points → Utf8 (shown bytes) (map shown_point points)
shown_points {points = points} u = record { whole = ap shown u.whole ∙ shown-each points; scalars = shown_scalars points u.scalars }
