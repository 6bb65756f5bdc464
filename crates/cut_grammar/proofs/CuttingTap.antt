-- A block of a TAP moves the place forward, stays inside the tape, and is decided by its own bytes. Assumes nothing.
use Prim.Native.Nat.{ℕ, ◌+◌, ◌≤◌, ◌<◌}
use mathlib.Core.Path.{◌≡◌, refl, sym, ap, ◌∙◌}
use mathlib.Core.List.{List}
use mathlib.Core.Logic.{⊎_elim}
use native.Mathlib.Omega.{arith}
use native.Mathlib.Nat.{le_refl}
use lib.ListN.{length, take, length-take}
use borrow.Author.Tests.{le-leb, lt-leb, eq-eqb, ne_eqb}
use Rattle.law_base.proofs.Numbers.{lt_or_ge}
use Rattle.std.specs.Prelude.{Ok, Err}
use Rattle.cut_fields.specs.Field.{Cursor, Read}
use Rattle.cut_grammar.specs.Grammar.{Span}
use Rattle.cut_fields.specs.Field.{field_at, place_of}
use Rattle.cut_grammar.specs.declared.TakenTap.TheVariants as tap
use Rattle.cut_grammar.specs.Grammar.{counted_at}
use Rattle.cut_grammar.specs.Cut.{tap_block, tap_at}
use Rattle.cut_grammar.specs.Ends.{StandsIn, stands, stuck}
use Rattle.cut_grammar.proofs.Layouts.{OwnRead, OwnPlace, field_past, field_forward, field_own, place_own}

-- the tests before a block
pub tap_there : (s : List ℕ) (at : ℕ) → at + 1 < length s
    → tap_at s at ≡ tap_block (counted_at s (Ok at) 2) (counted_at s (Ok at) 2).cursor
unfolding tap_at
tap_there s at h = rw (lt-leb (length s) at (omega arith), ne_eqb (at + 1) (length s) (λ e. omega arith))

pub tap_lone : (s : List ℕ) (at : ℕ) → at + 1 ≡ length s → tap_at s at ≡ tap.Lone
unfolding tap_at
tap_lone s at h = rw (lt-leb (length s) at (omega arith), eq-eqb (at + 1) (length s) h)

pub tap_end : (s : List ℕ) (at : ℕ) → length s ≤ at → tap_at s at ≡ tap.End
unfolding tap_at
tap_end s at h = rw (le-leb (length s) at h)

not_end : {from size next : ℕ} → tap.End ≡ tap.Block from size next → ⊥
not_end e = let z : ◌≡◌ {A = ℕ} 0 1 = cc in omega arith

not_lone : {from size next : ℕ} → tap.Lone ≡ tap.Block from size next → ⊥
not_lone e = let z : ◌≡◌ {A = ℕ} 0 1 = cc in omega arith

-- a block is one whose cursor stands past it
block_at : (d : Span) (c : Cursor) {from size next : ℕ} → tap_block d c ≡ tap.Block from size next → c ≡ Ok next
unfolding tap_block
block_at d (Ok p) e = cc
block_at d (Err x) e = absurd (let z : ◌≡◌ {A = ℕ} 0 1 = cc in omega arith)

stands_at : {a b next : ℕ} {c : Cursor} → StandsIn a b c → c ≡ Ok next → (a ≤ next) × (next ≤ b)
stands_at {next = next} (stands {p} h t) e = let i : p ≡ next = cc in (omega arith, omega arith)
stands_at stuck e = absurd (let z : ◌≡◌ {A = ℕ} 0 1 = cc in omega arith)

-- a length and as many bytes, from the length's field
span_of : List ℕ → Read → Span
span_of s r = record { from = place_of r.cursor; size = r.value; cursor = (field_at s r.cursor r.value).cursor }

end_own : {l m next : ℕ} {x y : Cursor} → OwnPlace l m x y → x ≡ Ok next → next ≤ m → y ≡ x
end_own (OwnPlace.same h) e k = refl
end_own (OwnPlace.beyond i) e k = let r = stands_at i e in absurd (omega (arith, r.0))

span_own : (s : List ℕ) (m : ℕ) {next : ℕ} {x y : Read} → OwnRead (length s) m x y → (span_of s x).cursor ≡ Ok next → next ≤ m
    → span_of (take m s) y ≡ span_of s x
unfolding span_of
span_own s m (OwnRead.same {v} {p} h) e k = let q = end_own (place_own (field_own v s m p h)) e k in rw q
span_own s m (OwnRead.beyond {x} i) e k =
    let r = stands_at (field_forward x.value s (m + 1) x.cursor i) e in absurd (omega (arith, r.0))

module _ (s : List ℕ) (at : ℕ) {from size next : ℕ} (e : tap_at s at ≡ tap.Block from size next) where
  inside : at + 1 < length s
  inside =
      ⊎_elim
      (λ (h : at + 1 < length s). h)
      (λ (h : length s ≤ at + 1).
      absurd
      (⊎_elim
      (λ (k : at < length s). let i : at + 1 ≡ length s = omega arith in not_lone (sym (tap_lone s at i) ∙ e))
      (λ (k : length s ≤ at). not_end (sym (tap_end s at k) ∙ e))
      (lt_or_ge at (length s))))
      (lt_or_ge (at + 1) (length s))

  past : (counted_at s (Ok at) 2).cursor ≡ Ok next
  past = block_at (counted_at s (Ok at) 2) (counted_at s (Ok at) 2).cursor (sym (tap_there s at inside) ∙ e)

  -- forward, and inside the tape
  pub tap_forward : (at + 2 ≤ next) × (next ≤ length s)
  unfolding counted_at
  tap_forward =
      let r = field_at s (Ok at) 2 in
      stands_at (field_forward r.value s (at + 2) r.cursor (field_past s (at + 2) at 2 (le_refl (at + 2)))) past

  -- decided by its own bytes
  pub tap_own : (m : ℕ) → next ≤ m → tap_at (take m s) at ≡ tap_at s at
  unfolding counted_at span_of
  tap_own m h =
      let f = tap_forward in
      let i = inside in
      let l : at + 1 < length (take m s) = rw length-take (omega (arith, f.0, f.1)) in
      let q : counted_at (take m s) (Ok at) 2 ≡ counted_at s (Ok at) 2 = span_own s m (field_own 2 s m at (omega (arith, f.0))) past h in
      tap_there (take m s) at l ∙ ap (λ (d : Span). tap_block d d.cursor) q ∙ sym (tap_there s at i)
