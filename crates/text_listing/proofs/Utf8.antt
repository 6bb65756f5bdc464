-- UTF-8: bytes are the UTF-8 of one list of code points at most, and what texts it is made of. Assumes nothing.
use Prim.Native.Nat.{ℕ, ◌+◌, ◌-◌, ◌*◌, ◌/◌, ◌%◌, ◌≤◌, ◌<◌}
use native.Mathlib.Omega.{arith}
use mathlib.Core.Path.{◌≡◌, refl, sym, ap, ap₂, ◌∙◌}
use mathlib.Core.Bool.{Bool, true, false}
use mathlib.Core.List.{List, [], ◌∷◌, ◌++◌, map, append-nil, append_assoc}
use mathlib.Core.Logic.{⊎_elim}
use lib.ListN.{length, get_or, drop}
use lib.Seq.{drop_at}
use lib.Dec.{ltb}
use borrow.Author.Tests.{lt-ltb, le-ltb}
use Rattle.law_base.specs.Rules.{◌⇒◌, ◌∣◌}
use Rattle.law_base.proofs.Numbers.{lt_or_ge}
use Rattle.law_base.proofs.Tests.{first, second}
use Rattle.text_out.specs.Out.{each_byte}
use Rattle.text_listing.specs.Points.{bytes_of, is_scalar, are_scalars, Utf8}

-- the standard's own examples (table 3-4)
pub standard-examples
    : map bytes_of (0x4D ∷ 0x430 ∷ 0x4E8C ∷ 0x10302 ∷ [])
    ≡ (0x4D ∷ []) ∷ (0xD0 ∷ 0xB0 ∷ []) ∷ (0xE4 ∷ 0xBA ∷ 0x8C ∷ []) ∷ (0xF0 ∷ 0x90 ∷ 0x8C ∷ 0x82 ∷ []) ∷ []
unfolding bytes_of
standard-examples = refl

-- a code point's bytes, by how many they are
pub one : (p : ℕ) → p < 0x80 → bytes_of p ≡ p ∷ []
unfolding bytes_of
one p h = rw (lt-ltb p 0x80 h)

pub two : (p : ℕ) → 0x80 ≤ p → p < 0x800 → bytes_of p ≡ (0xC0 + p / 64) ∷ (0x80 + p % 64) ∷ []
unfolding bytes_of
two p h k = rw (le-ltb p 0x80 h, lt-ltb p 0x800 k)

pub three : (p : ℕ) → 0x800 ≤ p → p < 0x10000
    → bytes_of p ≡ (0xE0 + p / 4096) ∷ (0x80 + p / 64 % 64) ∷ (0x80 + p % 64) ∷ []
unfolding bytes_of
three p h k = rw (le-ltb p 0x80 (omega arith), le-ltb p 0x800 h, lt-ltb p 0x10000 k)

pub four : (p : ℕ) → 0x10000 ≤ p
    → bytes_of p ≡ (0xF0 + p / 262144) ∷ (0x80 + p / 4096 % 64) ∷ (0x80 + p / 64 % 64) ∷ (0x80 + p % 64) ∷ []
unfolding bytes_of
four p h = rw (le-ltb p 0x80 (omega arith), le-ltb p 0x800 (omega arith), le-ltb p 0x10000 h)

-- THE FIRST CODE POINT of bytes, read back
abbrev point_of : ℕ → ℕ → ℕ → ℕ → ℕ
point_of a b c d =
    ltb a 0x80 ⇒ a
    ∣ ltb a 0xE0 ⇒ ((a - 0xC0) * 64 + (b - 0x80))
    ∣ ltb a 0xF0 ⇒ ((a - 0xE0) * 4096 + (b - 0x80) * 64 + (c - 0x80))
    ∣ ((a - 0xF0) * 262144 + (b - 0x80) * 4096 + (c - 0x80) * 64 + (d - 0x80))

abbrev first_point : List ℕ → ℕ
first_point bs = point_of (get_or bs 0 0) (get_or bs 1 0) (get_or bs 2 0) (get_or bs 3 0)

by_64 : (p : ℕ) → p ≡ p / 262144 * 262144 + p / 4096 % 64 * 4096 + p / 64 % 64 * 64 + p % 64
by_64 p =
    let a : p ≡ p / 64 * 64 + p % 64 = omega arith in
    let b : p / 64 ≡ p / 4096 * 64 + p / 64 % 64 = omega arith in
    let c : p / 4096 ≡ p / 262144 * 64 + p / 4096 % 64 = omega arith in
    omega (arith, a, b, c)

first_back : (p : ℕ) (bs : List ℕ) → first_point (bytes_of p ++ bs) ≡ p
first_back p bs =
    ⊎_elim (λ h. rw (one p h, lt-ltb p 0x80 h))
    (λ h.
    ⊎_elim (λ k. rw (two p h k, le-ltb (0xC0 + p / 64) 0x80 (omega arith), lt-ltb (0xC0 + p / 64) 0xE0 (omega arith)) (omega arith))
    (λ k. ⊎_elim (λ m. let a = 0xE0 + p / 4096 in
    rw (three p k m, le-ltb a 0x80 (omega arith), le-ltb a 0xE0 (omega arith), lt-ltb a 0xF0 (omega arith)) (omega arith))
    (λ m. let a = 0xF0 + p / 262144 in
    rw (four p m, le-ltb a 0x80 (omega arith), le-ltb a 0xE0 (omega arith), le-ltb a 0xF0 (omega arith)) (omega (arith, by_64 p)))
    (lt_or_ge p 0x10000)) (lt_or_ge p 0x800)) (lt_or_ge p 0x80)

some_bytes : (p : ℕ) (bs : List ℕ) → bytes_of p ++ bs ≡ [] → ⊥
some_bytes p bs e =
    ⊎_elim (λ h. none (one p h))
    (λ h. ⊎_elim (λ k. none (two p h k))
    (λ k. ⊎_elim (λ m. none (three p k m)) (λ m. none (four p m)) (lt_or_ge p 0x10000)) (lt_or_ge p 0x800)) (lt_or_ge p 0x80)
  where
    none : {a : ℕ} {rest : List ℕ} → bytes_of p ≡ a ∷ rest → ⊥
    none {a} {rest} f =
        let z : length (a ∷ (rest ++ bs)) ≡ 0 = ap length (sym (ap (λ (l : List ℕ). l ++ bs) f) ∙ e) in
        omega arith

-- SO BYTES ARE THE UTF-8 OF ONE LIST of code points at most
each_one : (ps qs : List ℕ) → each_byte bytes_of ps ≡ each_byte bytes_of qs → ps ≡ qs
unfolding each_byte
each_one [] [] e = refl
each_one [] (q ∷ qs) e = absurd (some_bytes q (each_byte bytes_of qs) (sym e))
each_one (p ∷ ps) [] e = absurd (some_bytes p (each_byte bytes_of ps) e)
each_one (p ∷ ps) (q ∷ qs) e =
    let same : p ≡ q = sym (first_back p (each_byte bytes_of ps)) ∙ ap first_point e ∙ first_back q (each_byte bytes_of qs) in
    let n = length (bytes_of p) in
    let m : length (bytes_of q) ≡ n = ap (λ (x : ℕ). length (bytes_of x)) (sym same) in
    let rest : each_byte bytes_of ps ≡ each_byte bytes_of qs =
    sym (drop_at (bytes_of p) (each_byte bytes_of ps) n refl) ∙ ap (drop n) e ∙ drop_at (bytes_of q) (each_byte bytes_of qs) n m in
    ap₂ (λ (x : ℕ) (l : List ℕ). x ∷ l) same (each_one ps qs rest)

pub points_one : {bytes ps qs : List ℕ} → Utf8 bytes ps → Utf8 bytes qs → ps ≡ qs
points_one {ps = ps} {qs} u v = each_one ps qs (sym u.whole ∙ v.whole)

-- LAWS OF UTF-8 TEXTS: none, one behind the other, one of two, ASCII
pub utf8-none : Utf8 [] []
unfolding each_byte are_scalars
utf8-none = record { whole = refl; scalars = refl }

each_join : (ps qs : List ℕ) → each_byte bytes_of ps ++ each_byte bytes_of qs ≡ each_byte bytes_of (ps ++ qs)
unfolding each_byte
each_join [] qs = refl
each_join (p ∷ ps) qs =
    append_assoc (bytes_of p) (each_byte bytes_of ps) (each_byte bytes_of qs) ∙ ap (λ (l : List ℕ). bytes_of p ++ l) (each_join ps qs)

scalars_join : (ps qs : List ℕ) → are_scalars ps ≡ true → are_scalars qs ≡ true → are_scalars (ps ++ qs) ≡ true
unfolding are_scalars
scalars_join [] qs e f = f
scalars_join (p ∷ ps) qs e f =
    rw (first (is_scalar p) (are_scalars ps) e) (scalars_join ps qs (second (is_scalar p) (are_scalars ps) e) f)

pub utf8_join : {a b p q : List ℕ} → Utf8 a p → Utf8 b q → Utf8 (a ++ b) (p ++ q)
utf8_join {p = p} {q} u v = record {
  whole = ap₂ (λ (x y : List ℕ). x ++ y) u.whole v.whole ∙ each_join p q;
  scalars = scalars_join p q u.scalars v.scalars;
}

pub utf8_rule : {a b p q : List ℕ} (t : Bool) → Utf8 a p → Utf8 b q → Utf8 (t ⇒ a ∣ b) (t ⇒ p ∣ q)
utf8_rule true u v = u
utf8_rule false u v = v

pub utf8_one : (p : ℕ) {bytes : List ℕ} → bytes ≡ bytes_of p → is_scalar p ≡ true → Utf8 bytes (p ∷ [])
unfolding each_byte are_scalars
utf8_one p e f = record { whole = e ∙ sym (append-nil (bytes_of p)); scalars = rw f }

pub utf8-plain : (p : ℕ) → p < 0x80 → Utf8 (p ∷ []) (p ∷ [])
unfolding is_scalar
utf8-plain p h = utf8_one p (sym (one p h)) (rw (lt-ltb p 0xD800 (omega arith)))
