-- Laws of what is written: writes one after the other are one write of the whole text, and how long a text is. Assumes nothing.
use mathlib.Core.Path.{◌≡◌, refl, sym, ap, subst, ◌∙◌}
use mathlib.Core.Bool.{Bool, true, false}
use mathlib.Core.List.{List, [], ◌∷◌, ◌++◌}
use Prim.Native.Nat.{ℕ, zero, suc, ◌+◌, ◌/◌, ◌%◌, ◌*◌, ◌^◌, ◌<◌, ◌≤◌}
use native.Mathlib.Nat.{add-zero, add-suc, suc-add, add_assoc, mul-suc, div-lt_iff_lt-mul, pow-suc}
use native.Mathlib.Omega.{arith}
use lib.ListN.{length, length-append, drop, set}
use lib.Seq.{sets, length-sets, sets-eq}
use lib.Dec.{ltb}
use borrow.Author.Tests.{lt-ltb, le-ltb, le-leb, lt-leb}
use Rattle.law_base.specs.Rules.{◌⇒◌, ◌∣◌}
use Rattle.text_out.specs.declared.Writer.{Writer}
use Rattle.text_out.specs.Writes.{Writes}
use Rattle.text_out.specs.Out.{Wrote, digits, decimal, latin1, each_byte, refused_text, refused_line, fits, told, Fitted}

pub sets_append : (d s t : List ℕ) (at : ℕ) → sets d at (s ++ t) ≡ sets (sets d at s) (at + length s) t
sets_append d [] t at = rw add-zero
sets_append d (a ∷ s) t at = rw (add-suc, ← suc-add at (length s)) (sets_append (set d at a) s t (suc at))

pub wrote_nothing : (d : List ℕ) (at : ℕ) → Wrote d at [] d at
wrote_nothing d at = record { count = sym (add-zero at); bytes = refl }

pub wrote_then : {d d1 d2 s t : List ℕ} {at r1 r2 : ℕ} → Wrote d at s d1 r1 → Wrote d1 r1 t d2 r2 → Wrote d at (s ++ t) d2 r2
wrote_then {d} {d1} {d2} {s} {t} {at} {r1} {r2} p q = record {
  count = q.count ∙ ap (λ (n : ℕ). n + length t) p.count ∙ add_assoc at (length s) (length t)
      ∙ sym (ap (λ (n : ℕ). at + n) (length-append s t));
  bytes = q.bytes ∙ ap (λ (n : ℕ). sets d1 n t) p.count ∙ ap (λ (l : List ℕ). sets l (at + length s) t) p.bytes
      ∙ sym (sets_append d s t at);
}

-- WRITERS: one that writes nothing, and one text after the other
pub writes_nothing : (w : Writer) → Writes w [] w
writes_nothing w = record { same = refl; wrote = wrote_nothing w.out.now w.at }

pub then : {w v u : Writer} {s t : List ℕ} → Writes w s v → Writes v t u → Writes w (s ++ t) u
then p q = record { same = q.same ∙ p.same; wrote = wrote_then p.wrote q.wrote }

pub same_len : {d d1 s : List ℕ} {at r : ℕ} → Wrote d at s d1 r → length d1 ≡ length d
same_len {d} {d1} {s} {at} p = ap length p.bytes ∙ length-sets d at s

-- a write from 0 on that has room leaves the text, and the bytes after it as they were
pub wrote_whole : {d d1 t : List ℕ} {r : ℕ} → Wrote d 0 t d1 r → length t ≤ length d → d1 ≡ t ++ drop (length t) d
wrote_whole {d} {d1} {t} p h =
    let z : 0 + length t ≡ length t = omega arith in
    let h2 : 0 + length t ≤ length d = omega arith in
    p.bytes ∙ sets-eq t d 0 h2 ∙ ap (λ (n : ℕ). t ++ drop n d) z

-- A DRY RUN AND THE RUN: a dry run counts the text;
-- lent bytes that it says suffice then have the text told, and others are too short for it
pub wrote_counted : {d d1 t : List ℕ} {n : ℕ} → Wrote d 0 t d1 n → n ≡ length t
wrote_counted {d} {d1} {t} p = omega (arith, p.count)

pub dry_told : {dry dry' out out' t : List ℕ} {n n' : ℕ} → Wrote dry 0 t dry' n → Wrote out 0 t out' n'
    → n ≤ length out → Fitted t out out' n
unfolding told
dry_told {out = out} {t = t} p q h =
    let r : fits t out ≡ true = le-leb (length t) (length out) (omega (arith, wrote_counted p)) in
    record { count = wrote_counted p; room = r; bytes = wrote_whole q (omega (arith, wrote_counted p)) ∙ rw r }

pub dry_short : {dry dry' t : List ℕ} {n : ℕ} (out : List ℕ) → Wrote dry 0 t dry' n → length out < n
    → (fits t out ≡ false) × (told t out ≡ out)
unfolding told
dry_short {t = t} out p h =
    let r : fits t out ≡ false = lt-leb (length t) (length out) (omega (arith, wrote_counted p)) in
    (r, rw r)

-- what a writer over lent bytes leaves of them, from their front
pub over_wrote : {w v : Writer} {d t : List ℕ} → w.out.now ≡ d → w.at ≡ 0 → Writes w t v → Wrote d 0 t v.out.now v.at
over_wrote {w} {v} {d} {t} e z p =
    subst (λ (l : List ℕ). Wrote l 0 t v.out.now v.at) e (subst (λ (n : ℕ). Wrote w.out.now n t v.out.now v.at) z p.wrote)

-- a text that was written into bytes that have room for it, and how many of these it takes
module _ {t out out' : List ℕ} {n : ℕ} where
  pub wrote_fitted : Wrote out 0 t out' n → length t ≤ length out → Fitted t out out' n
  wrote_fitted w h = dry_told w w (omega (arith, wrote_counted w))

  pub fitted_most : Fitted t out out' n → n ≤ length out'
  unfolding told
  fitted_most f =
      let e : out' ≡ t ++ drop (length t) out = f.bytes ∙ rw f.room in
      omega (arith, f.count, ap length e, length-append t (drop (length t) out))

-- one more digit is at most one more byte
one_more : (b : Bool) (f x y : ℕ) (l : List ℕ) → length l ≤ f → length (b ⇒ (x ∷ []) ∣ l ++ (y ∷ [])) ≤ suc f
one_more true f x y l h = omega arith
one_more false f x y l h = simp length-append (omega arith)

digits-length : (f n : ℕ) → length (digits f n) ≤ f
unfolding digits
digits-length zero n = omega arith
digits-length (suc f) n = one_more (ltb n 10) f (48 + n) (48 + n % 10) (digits f (n / 10)) (digits-length f (n / 10))

pub decimal-length : (n : ℕ) → length (decimal n) ≤ 20
unfolding decimal
decimal-length n = digits-length 20 n

-- by which a chain of writers is one write of their texts, in order, and stays below a bound
pub ruleset composed = (sets_append, length-append, decimal-length)

pub refused_length : (k : ℕ) → length (refused_text k) ≤ 28
unfolding refused_text
refused_length k = simp length-append (omega (arith, decimal-length k))

pub refused_line_length : (k : ℕ) → length (refused_line k) ≤ 29
unfolding refused_line
refused_line_length k = simp length-append (omega (arith, refused_length k))

-- more digits allowed change nothing where the number has no more
digits_more : (f n : ℕ) → n < 10 ^ suc f → digits (suc (suc f)) n ≡ digits (suc f) n
unfolding digits
digits_more zero n h =
    let h2 : n < 10 = h in
    rw (lt-ltb n 10 h2)
digits_more (suc f) n h =
    ap (λ (l : List ℕ). ltb n 10 ⇒ ((48 + n) ∷ []) ∣ l ++ ((48 + n % 10) ∷ []))
    (digits_more f (n / 10) ((div-lt_iff_lt-mul (omega arith)).1 (rw (← pow-suc 10 (suc f)) h)))

digits_step : (n : ℕ) → 10 ≤ n → n < 2 ^ 64 → digits 20 n ≡ digits 20 (n / 10) ++ ((48 + n % 10) ∷ [])
unfolding digits
digits_step n h k =
    let small : n / 10 < 10 ^ 19 = omega arith in
    rw (le-ltb n 10 h) (ap (λ (l : List ℕ). l ++ ((48 + n % 10) ∷ [])) (sym (digits_more 18 (n / 10) small)))

pub latin1-length : (b : ℕ) → length (latin1 b) ≤ 2
unfolding latin1
latin1-length b = cases (ltb b 128)
  where
    cases : (x : Bool) → length (x ⇒ (b ∷ []) ∣ ((192 + b / 64) ∷ (128 + b % 64) ∷ [])) ≤ 2
    cases true = omega arith
    cases false = omega arith

-- a text for each byte, where no byte's text is longer than k
pub each-length : (f : ℕ → List ℕ) (k : ℕ) → ((b : ℕ) → length (f b) ≤ k) → (s : List ℕ)
    → length (each_byte f s) ≤ k * length s
unfolding each_byte
each-length f k h [] = omega arith
each-length f k h (b ∷ s) = simp (length-append, mul-suc) (omega (arith, h b, each-length f k h s))

-- the digits of a number: those of its tenth, and the last one
pub decimal_one : (n : ℕ) → n < 10 → decimal n ≡ (48 + n) ∷ []
unfolding decimal digits
decimal_one n h = rw (lt-ltb n 10 h)

pub decimal_more : (n : ℕ) → 10 ≤ n → n < 2 ^ 64 → decimal n ≡ decimal (n / 10) ++ ((48 + n % 10) ∷ [])
unfolding decimal
decimal_more n h k = digits_step n h k
