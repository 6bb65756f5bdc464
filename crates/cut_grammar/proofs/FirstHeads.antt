-- THE FIRST FIELD THAT IS NOT ALL THERE, of the head of a TZX and of a block of a TAP. Assumes nothing.
use Prim.Native.Nat.{ℕ, ◌+◌, ◌≤◌, ◌<◌}
use mathlib.Core.Path.{◌≡◌, sym, ◌∙◌}
use mathlib.Core.Bool.{Bool, true, false}
use mathlib.Core.List.{List}
use mathlib.Core.Logic.{◌↔◌, ⊎_elim}
use native.Mathlib.Omega.{arith}
use lib.ListN.{length, get_or}
use borrow.Author.Tests.{le-leb, lt-leb}
use Rattle.law_base.specs.Rules.{◌⇒◌, ◌∣◌}
use Rattle.law_base.proofs.Numbers.{lt_or_ge}
use Rattle.cut_fields.specs.Field.{number_at, place_of}
use Rattle.cut_fields.proofs.Runs.{field_there, field_short}
use Rattle.cut_grammar.specs.declared.TakenTap.TheVariants as tap
use Rattle.cut_grammar.specs.declared.Heading.TheVariants as head
use Rattle.cut_grammar.specs.Grammar.{counted_at}
use Rattle.cut_grammar.specs.Cut.{signature, starts_at, head_at, tap_block, tap_at}
use Rattle.cut_grammar.specs.Trace.{Field, counted_trace, head_trace}
use Rattle.cut_grammar.specs.Trace.{tap_trace, FirstShort, this, later, AllThere, nil, cons}
use Rattle.cut_grammar.proofs.CuttingTap.{tap_there, tap_lone, tap_end, tap_forward}

-- the head's one field, and its test
head_back : (s : List ℕ) {f : Field} → FirstShort (head_trace s) f → head_at s ≡ head.Short f.place f.width
unfolding head_trace head_at
head_back s (this t) = rw (lt-leb 10 (length s) (omega arith))
head_back s {f = f} (later _ x8) = elim x8 [ ]

head_short : (s : List ℕ) {p w : ℕ} → head_at s ≡ head.Short p w → (length s < 10) × ((p ≡ 0) × (w ≡ 10))
unfolding head_at
head_short s {p} {w} r =
    ⊎_elim
    (λ (h : length s < 10). let q : head.Short 0 10 ≡ head.Short p w = rw (lt-leb 10 (length s) h) at r in
    let a : p ≡ 0 = cc in let b : w ≡ 10 = cc in (h, (a, b)))
    (λ (h : 10 ≤ length s). absurd (by_sign (starts_at s 0 signature) (rw (le-leb 10 (length s) h) at r)))
    (lt_or_ge (length s) 10)
  where
    by_sign : (t : Bool) → (t ⇒ head.Version (get_or s 8 0) (get_or s 9 0) ∣ head.BadSignature) ≡ head.Short p w → ⊥
    by_sign true e = let z : ◌≡◌ {A = ℕ} 0 1 = cc in omega arith
    by_sign false e = let z : ◌≡◌ {A = ℕ} 0 1 = cc in omega arith

-- THE HEAD OF A TZX IS SHORT EXACTLY WHERE ITS ONE FIELD IS NOT ALL THERE
pub head_first : (s : List ℕ) (p w : ℕ)
    → (head_at s ≡ head.Short p w) ↔ FirstShort (head_trace s) (record { place = p; width = w; end = length s })
unfolding head_trace
head_first s p w =
    (λ r. let x = head_short s r in rw (x.1.0, x.1.1) (this x.0), λ m. head_back s m)

-- the length of a TAP's block is there where two bytes are left, so its data alone can be short
tap_data : (s : List ℕ) (at : ℕ) → at + 1 < length s → length s < at + 2 + number_at s at 2
    → tap_at s at ≡ tap.Short (at + 2) (number_at s at 2)
unfolding counted_at tap_block
tap_data s at h t =
    tap_there s at h ∙ rw (field_there s 2 at (omega arith), field_short s (number_at s at 2) (at + 2) t)

tap_full : (s : List ℕ) (at : ℕ) → at + 1 < length s → at + 2 + number_at s at 2 ≤ length s
    → tap_at s at ≡ tap.Block (at + 2) (number_at s at 2) (at + 2 + number_at s at 2)
unfolding counted_at tap_block place_of
tap_full s at h t =
    tap_there s at h ∙ rw (field_there s 2 at (omega arith), field_there s (number_at s at 2) (at + 2) t)

record ShortTap (s : List ℕ) (at p w : ℕ) : Type 0 where
  two : at + 1 < length s
  place : p ≡ at + 2
  width : w ≡ number_at s at 2
  over : length s < at + 2 + number_at s at 2

tap_short : (s : List ℕ) (at : ℕ) {p w : ℕ} → tap_at s at ≡ tap.Short p w → ShortTap s at p w
tap_short s at {p} {w} r =
    ⊎_elim
    (λ (h : at + 1 < length s).
    ⊎_elim
    (λ (t : length s < at + 2 + number_at s at 2). let q = sym (tap_data s at h t) ∙ r in
    let a : p ≡ at + 2 = cc in let b : w ≡ number_at s at 2 = cc in record { two = h; place = a; width = b; over = t })
    (λ (t : at + 2 + number_at s at 2 ≤ length s). absurd (no_block (sym (tap_full s at h t) ∙ r)))
    (lt_or_ge (length s) (at + 2 + number_at s at 2)))
    (λ (h : length s ≤ at + 1).
    ⊎_elim
    (λ (t : at < length s). let i : at + 1 ≡ length s = omega arith in absurd (no_lone (sym (tap_lone s at i) ∙ r)))
    (λ (t : length s ≤ at). absurd (no_end (sym (tap_end s at t) ∙ r)))
    (lt_or_ge at (length s)))
    (lt_or_ge (at + 1) (length s))
  where
    no_block : {a n next : ℕ} → tap.Block a n next ≡ tap.Short p w → ⊥
    no_block e = let z : ◌≡◌ {A = ℕ} 0 1 = cc in omega arith

    no_lone : tap.Lone ≡ tap.Short p w → ⊥
    no_lone e = let z : ◌≡◌ {A = ℕ} 0 1 = cc in omega arith

    no_end : tap.End ≡ tap.Short p w → ⊥
    no_end e = let z : ◌≡◌ {A = ℕ} 0 1 = cc in omega arith

tap_back : (s : List ℕ) (at : ℕ) → at + 1 < length s → {f : Field} → FirstShort (tap_trace s at) f
    → tap_at s at ≡ tap.Short f.place f.width
unfolding tap_trace counted_trace
tap_back s at h (this t) = absurd (omega arith)
tap_back s at h (later t (this u)) = tap_data s at h u
tap_back s at h {f = f} (later t (later _ x12)) = elim x12 [ ]

-- A BLOCK OF A TAP IS SHORT EXACTLY AT THE FIRST OF ITS FIELDS THAT IS NOT ALL THERE, where two bytes or more are left
pub tap_first : (s : List ℕ) (at p w : ℕ) → (tap_at s at ≡ tap.Short p w)
    ↔ ((at + 1 < length s) × FirstShort (tap_trace s at) (record { place = p; width = w; end = length s }))
unfolding tap_trace counted_trace
tap_first s at p w = (
  λ r. let x = tap_short s at r in
      let h : at + 2 ≤ length s = omega (arith, x.two) in
      (x.two, rw (x.place, x.width) (later h (this x.over))),
  λ m. tap_back s at m.0 m.1,
)

-- and that field is its data: from behind the length on, as many bytes as it says
pub tap_place : (s : List ℕ) (at : ℕ) {p w : ℕ} → tap_at s at ≡ tap.Short p w → (p ≡ at + 2) × (w ≡ number_at s at 2)
tap_place s at r = let x = tap_short s at r in (x.place, x.width)

-- it begins at or before the tape's end and reaches past it
pub tap_inside : (s : List ℕ) (at : ℕ) {p w : ℕ} → tap_at s at ≡ tap.Short p w → (p ≤ length s) × (length s < p + w)
tap_inside s at r =
    let x = tap_short s at r in
    (rw x.place (omega (arith, x.two)), rw (x.place, x.width) x.over)

-- A BLOCK OF A TAP HAS ALL ITS FIELDS
pub tap_there_all : (s : List ℕ) (at : ℕ) {from size next : ℕ} → tap_at s at ≡ tap.Block from size next
    → AllThere (tap_trace s at)
unfolding tap_trace counted_trace
tap_there_all s at {from} {size} {next} e =
    let m = tap_forward s at e in
    let h : at + 2 ≤ length s = omega (arith, m.0, m.1) in
    ⊎_elim
    (λ (t : length s < at + 2 + number_at s at 2). absurd (not_short (sym (tap_data s at (omega arith) t) ∙ e)))
    (λ (t : at + 2 + number_at s at 2 ≤ length s). cons h (cons t nil))
    (lt_or_ge (length s) (at + 2 + number_at s at 2))
  where
    not_short : {p w : ℕ} → tap.Short p w ≡ tap.Block from size next → ⊥
    not_short q = let z : ◌≡◌ {A = ℕ} 0 1 = cc in omega arith
