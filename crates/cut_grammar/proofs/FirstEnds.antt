-- WHERE A SHORT FIELD'S BYTES END: with the tape, but inside a 32 with its body. Assumes nothing.
use Prim.Native.Nat.{ℕ, zero, suc, ◌+◌, ◌≤◌, ◌<◌}
use mathlib.Core.Path.{◌≡◌, refl, ◌∙◌}
use mathlib.Core.Bool.{Bool, true, false}
use mathlib.Core.List.{List, [], ◌∷◌}
use mathlib.Core.Logic.{◌⊎◌, inl, inr, ⊎_elim}
use native.Mathlib.Omega.{arith}
use lib.ListN.{length, take, length-take}
use lib.Dec.{leb}
use Rattle.law_base.specs.Rules.{◌⇒◌, ◌∣◌}
use Rattle.cut_fields.specs.Field.{number_at}
use Rattle.cut_grammar.specs.declared.Taken.TheVariants as taken
use Rattle.cut_grammar.specs.Grammar.{Passed, bytes, fields, groups, texts, Layout, number, counted, here, pass, within, fitting}
use Rattle.cut_grammar.specs.Grammar.{whole, unknown}
use Rattle.cut_grammar.specs.Kinds.{kind10, kind11, kind12, kind13, kind14, stream19, kind19, kind20, kind21, kind22, kind24, kind25}
use Rattle.cut_grammar.specs.Kinds.{kind_2a, kind30, kind31, info32, kind32, kind33, kind35, kind_5a, unread, kinds, kind_of}
use Rattle.cut_grammar.specs.Cut.{cut_at}
use Rattle.cut_grammar.specs.Trace.{Field, each_trace, groups_trace, counted_trace, texts_trace, pass_trace, trace}
use Rattle.cut_grammar.specs.Trace.{FirstShort, this, later}
use Rattle.cut_grammar.proofs.Others.{EveryRow, no_more, ◌&◌, found_row}
use Rattle.cut_grammar.proofs.First.{cut_first, short-inside, short_end}

-- a layout without a body of its own length, whatever it reads
abbrev Open : Layout → Type 0
Open (number w rest) = (v : ℕ) → Open (rest v)
Open (counted w rest) = (p n : ℕ) → Open (rest p n)
Open (here rest) = (p : ℕ) → Open (rest p)
Open (pass part rest) = Open rest
Open (within n inner) = ⊥
Open (fitting bits rest) = Open rest
Open (whole piece) = Unit {0}
Open (unknown described) = Unit {0}

-- fields that are all read from bytes that end at l
data EndAt (l : ℕ) : List Field → Type 0 where
  no_field : EndAt l []
  so : {p w : ℕ} {fs : List Field} → EndAt l fs → EndAt l (record { place = p; width = w; end = l } ∷ fs)

module _ (s : List ℕ) {k : ℕ → List Field} (f : (p : ℕ) → EndAt (length s) (k p)) where
  each_end : (n w p : ℕ) → EndAt (length s) (each_trace s n w k p)
  unfolding each_trace
  each_end zero w p = f p
  each_end (suc n) w p = so (each_end n w (p + w))

  texts_end : (n p : ℕ) → EndAt (length s) (texts_trace s n k p)
  unfolding texts_trace counted_trace
  texts_end zero p = f p
  texts_end (suc n) p = so (so (so (texts_end n _)))

groups_end : (s : List ℕ) {k : ℕ → List Field} → ((p : ℕ) → EndAt (length s) (k p)) → (n h j w p : ℕ)
    → EndAt (length s) (groups_trace s n h j w k p)
unfolding groups_trace
groups_end s f zero h j w p = f p
groups_end s f (suc n) h j w p = so (each_end s (groups_end s f n h j w) j w (p + h))

pass_end : (s : List ℕ) {k : ℕ → List Field} → ((p : ℕ) → EndAt (length s) (k p)) → (part : Passed) (p : ℕ)
    → EndAt (length s) (pass_trace part s k p)
unfolding pass_trace
pass_end s f (bytes n) p = so (f (p + n))
pass_end s f (fields n w) p = each_end s f n w p
pass_end s f (groups n h j w) p = groups_end s f n h j w p
pass_end s f (texts n) p = texts_end s f n p

open_end : (l : Layout) → Open l → (s : List ℕ) (p : ℕ) → EndAt (length s) (trace l s p)
unfolding trace counted_trace
open_end (number w rest) o s p = so (open_end (rest (number_at s p w)) (o (number_at s p w)) s (p + w))
open_end (counted w rest) o s p =
    so (so (open_end (rest (p + w) (number_at s p w)) (o (p + w) (number_at s p w)) s (p + w + number_at s p w)))
open_end (here rest) o s p = open_end (rest p) (o p) s p
open_end (pass part rest) o s p = pass_end s (open_end rest o s) part p
open_end (within n inner) o s p = absurd o
open_end (fitting bits rest) o s p = by_cases (leb bits 4294967295) (open_end rest o s p)
  where
    by_cases : (t : Bool) {fs : List Field} → EndAt (length s) fs → EndAt (length s) (t ⇒ fs ∣ [])
    by_cases true h = h
    by_cases false h = no_field
open_end (whole piece) o s p = no_field
open_end (unknown described) o s p = no_field

first_end : {l : ℕ} {fs : List Field} {f : Field} → EndAt l fs → FirstShort fs f → f.end ≡ l
first_end (so m) (this t) = refl
first_end (so m) (later t n) = first_end m n
first_end {l = l} {f = f} no_field x3 = elim x3 [ ]

-- of all rows of the grammar's table, 32's alone has a body of its own length
data Row : ℕ → Layout → Type 0 where
  free : {kind : ℕ} (l : Layout) → Open l → Row kind l
  bodied : Row 0x32 kind32

row_open : {kind : ℕ} {l : Layout} → Row kind l → (kind ≡ 0x32 → ⊥) → Open l
row_open (free l o) n = o
row_open bodied n = absurd (n refl)

each_row : (full : ℕ) → EveryRow Row (kinds full)
unfolding kinds kind10 kind11 kind12 kind13 kind14 stream19 kind19 kind20 kind21 kind22 kind24 kind25
    kind_2a kind30 kind31 kind33 kind35 kind_5a
each_row full =
    free kind10 (λ _ _ _. tt) &
    free kind11 (λ _ _ _ _ _ _ _ _ _ _. tt) &
    free kind12 (λ _ _. tt) &
    free kind13 (λ _ _. tt) &
    free kind14 (λ _ _ _ _ _ _. tt) &
    free (kind19 full) (λ _ _ _ _ _ _ _ _ _ _ _ _. tt) &
    free kind20 (λ _. tt) &
    free kind21 (λ _ _. tt) &
    free kind22 tt &
    free unread tt &
    free kind24 (λ _. tt) &
    free kind25 tt &
    free kind_2a (λ _. tt) &
    free unread tt &
    free kind30 (λ _ _. tt) &
    free kind31 (λ _ _ _. tt) &
    bodied &
    free kind33 (λ _. tt) &
    free unread tt &
    free kind35 (λ _ _. tt) &
    free unread tt &
    free kind_5a tt &
    no_more

other_open : (full kind : ℕ) → (kind ≡ 0x32 → ⊥) → Open (kind_of full kind)
unfolding kind_of
other_open full kind = row_open (found_row Row (kinds full) kind (unknown _) (each_row full) (free (unknown _) tt))

-- in a 32: the length and the body itself are read from the tape, what stands in the body from the body
end_32 : (s : List ℕ) (q : ℕ) {f : Field} → FirstShort (trace kind32 s q) f
    → (f.end ≡ length s) ⊎ (f.end ≡ q + 2 + number_at s q 2)
unfolding trace kind32
end_32 s q (this t) = inl refl
end_32 s q (later t (this u)) = inl refl
end_32 s q (later t (later u m)) =
    let e = first_end (open_end info32 (unfold info32 in λ _. tt) (take (q + 2 + number_at s q 2) s) (q + 2)) m in
    inr (e ∙ rw length-take (omega arith))

lookup_32 : (full : ℕ) → kind_of full 0x32 ≡ kind32
unfolding kind_of kinds
lookup_32 full = refl

-- A PIECE'S SHORT FIELD begins at or before the end of its bytes and reaches past it: the tape's end, or the end of a 32's body
pub cut_short_inside : (s : List ℕ) (at full : ℕ) {k p w : ℕ} → cut_at s at full ≡ taken.Short k p w
    → (e : ℕ) × ((p ≤ e) × ((e < p + w) × ((e ≤ length s) × (((k ≡ 0x32 → ⊥) → e ≡ length s)
    × (k ≡ 0x32 → (e ≡ length s) ⊎ (e ≡ at + 3 + number_at s (at + 1) 2))))))
cut_short_inside s at full {k} {p} {w} r =
    let x = (cut_first s at full k p w).0 r in
    let h = x.0 in
    let e = x.1.1.0 in
    let m = x.1.1.1 in
    let i = short-inside (kind_of full k) s (at + 1) (omega arith) m in
    let j = short_end (kind_of full k) s (at + 1) (omega arith) m in
    (e, (i.0, (i.1, (j, (λ n. first_end (open_end (kind_of full k) (other_open full k n) s (at + 1)) m, in_32 e m)))))
  where
    in_32 : (e : ℕ) → FirstShort (trace (kind_of full k) s (at + 1)) (record { place = p; width = w; end = e })
        → k ≡ 0x32 → (e ≡ length s) ⊎ (e ≡ at + 3 + number_at s (at + 1) 2)
    in_32 e m q =
        ⊎_elim
        (λ (a : e ≡ length s). inl a)
        (λ (a : e ≡ at + 1 + 2 + number_at s (at + 1) 2). inr (omega arith))
        (end_32 s (at + 1) (rw (q, lookup_32 full) at m))
