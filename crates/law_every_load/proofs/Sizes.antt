-- What is cut from a tape is sized: one induction over layouts, then each kind's layout. Assumes nothing but that bytes are below 256.
use Prim.Native.Nat.{ℕ, ◌+◌, ◌^◌, ◌≤◌, ◌<◌}
use mathlib.Core.Path.{◌≡◌, refl, sym, ap, ◌∙◌}
use mathlib.Core.Bool.{Bool, true, false}
use mathlib.Core.List.{List}
use mathlib.Core.Logic.{⊎_elim}
use native.Mathlib.Omega.{arith}
use native.Mathlib.Nat.{le_refl}
use lib.ListN.{length, get_or, take, length-take, get_or-eq_default}
use lib.Seq.{get_or-take}
use lib.Dec.{leb, eqb}
use Rattle.law_base.proofs.Numbers.{lt_or_ge}
use Rattle.law_base.specs.Rules.{◌⇒◌, ◌∣◌}
use Rattle.std.specs.Prelude.{Ok, Err}
use Rattle.cut_fields.specs.Field.{Cursor, came_short, le_at, number_at, field_at, place_of}
use Rattle.cut_fields.proofs.Le.{le_small}
use Rattle.cut_fields.proofs.Runs.{field_there, field_short}
use Rattle.cut_grammar.specs.declared.Piece.{Piece}
use Rattle.cut_grammar.specs.declared.Whole.{Whole}
use Rattle.cut_grammar.specs.declared.NotCut.{NotCut}
use Rattle.cut_grammar.specs.declared.NotCut.TheVariants.{Overflow}
use Rattle.cut_grammar.specs.declared.Taken.TheVariants as taken
use Rattle.cut_grammar.specs.declared.TakenTap.{TakenTap}
use Rattle.cut_grammar.specs.declared.TakenTap.TheVariants as tap
use Rattle.cut_grammar.specs.Grammar.{Layout, number, counted, here, pass, within, fitting, whole, unknown, counted_at, pass_at, whole_at}
use Rattle.cut_grammar.specs.Grammar.{Body, whole_body, sealed, enclosed, fitting_at, unknown_at, read_at}
use Rattle.cut_grammar.specs.Kinds.{kind10, kind11, kind12, kind13, kind14, stream19, kind19, kind20, kind21, kind22, kind24, kind25}
use Rattle.cut_grammar.specs.Kinds.{kind_2a, kind30, kind31, info32, kind32, kind33, kind35, kind_5a, unread, kinds, kind_of}
use Rattle.cut_grammar.specs.Cut.{taken_as, cut_at, tap_block, tap_at}
use Rattle.cut_grammar.proofs.Layouts.{forward}
use Rattle.cut_grammar.proofs.Bodies.{whole_same}
use Rattle.cut_grammar.proofs.Cutting.{cut_there, cut_inside}
use Rattle.cut_grammar.proofs.Others.{Every, no_more, ◌&◌, found_every, unnamed}
use Rattle.cut_grammar.specs.Ends.{Ends, ends, none, short, wide, stuck}
use Rattle.load_source.specs.Source.{full}
use Rattle.load_source.proofs.Rest.{cut_fit}
use Rattle.law_every_load.specs.Sizes.{Bytes, Range, Numbers, Sized}

-- a field of w bytes has a number below 256 to the w
number_small : (s : List ℕ) → Bytes s → (p w : ℕ) → number_at s p w < 256 ^ w
unfolding number_at
number_small s b p w = by_cases (leb w 4)
  where
    by_cases : (t : Bool) → (t ⇒ le_at s p w ∣ 0) < 256 ^ w
    by_cases true = le_small s b p w
    by_cases false = omega (arith, le_small s b p w)

field_small : (s : List ℕ) → Bytes s → (c : Cursor) (w : ℕ) → (field_at s c w).value < 256 ^ w
unfolding field_at
field_small s b (Ok p) w =
    ⊎_elim
    (λ (t : length s < p + w). rw (field_short s w p t) (omega (arith, le_small s b p w)))
    (λ (t : p + w ≤ length s). rw (field_there s w p t) (number_small s b p w))
    (lt_or_ge (length s) (p + w))
field_small s b (Err e) w = omega (arith, le_small s b 0 w)

-- a field past which a cursor stands is inside the tape
field-ends : (s : List ℕ) (c : Cursor) (w : ℕ) {e : ℕ} → (field_at s c w).cursor ≡ Ok e → place_of c + w ≤ length s
unfolding field_at place_of
field-ends s (Ok p) w {e} q =
    ⊎_elim
    (λ (t : length s < p + w). let z : ◌≡◌ {A = Cursor} (came_short p w) (Ok e) = sym (rw (field_short s w p t)) ∙ q in
    absurd (cc))
    (λ (t : p + w ≤ length s). t)
    (lt_or_ge (length s) (p + w))
field-ends s (Err e) w q = absurd (cc)

counted-inside : (s : List ℕ) (c : Cursor) (w : ℕ) {e : ℕ} → (counted_at s c w).cursor ≡ Ok e
    → (counted_at s c w).from + (counted_at s c w).size ≤ length s
unfolding counted_at
counted-inside s c w q = field-ends s (field_at s c w).cursor (field_at s c w).value q

counted_small : (s : List ℕ) → Bytes s → (c : Cursor) (w : ℕ) → (counted_at s c w).size < 256 ^ w
unfolding counted_at
counted_small s b c w = field_small s b c w

counted_range : (s : List ℕ) → Bytes s → (c : Cursor) (w : ℕ) {most e : ℕ} → (counted_at s c w).cursor ≡ Ok e
    → length s ≤ most → Range most (256 ^ w) (counted_at s c w).from (counted_at s c w).size
counted_range s b c w q h = record { inside = omega (arith, counted-inside s c w q); small = counted_small s b c w }

-- the first bytes of a tape are bytes
take-bytes : (s : List ℕ) → Bytes s → (n : ℕ) → Bytes (take n s)
take-bytes s b n i =
    ⊎_elim
    (λ (h : i < n). rw (get_or-take n s i 0 h) (b i))
    (λ (h : n ≤ i). let l : length (take n s) ≤ i = rw length-take (omega arith) in
    rw (get_or-eq_default (take n s) 0 l) (omega arith))
    (lt_or_ge i n)

-- an answer of which a whole piece has P
data Gives (P : Piece → Type 0) : Body → Type 0 where
  has : {x : Whole} → P x.piece → Gives P (Ok x)
  nothing : {e : NotCut} → Gives P (Err e)

module _ {P : Piece → Type 0} where
  gives_piece : {b : Body} {x : Piece} {p : ℕ} → Gives P b → b ≡ whole_body x p → P x
  gives_piece (has h) e = let i = (whole_same e).0 in rw i at h
  gives_piece nothing e = absurd (cc)

  -- a reading that came up short gives no piece
  gives_none : {n : ℕ} {b : Body} → Ends (n + 1) n b → Gives P b
  gives_none (ends h k) = absurd (omega arith)
  gives_none none = nothing
  gives_none short = nothing
  gives_none wide = nothing

  whole_gives : (x : Piece) (c : Cursor) → P x → Gives P (whole_at x c)
  unfolding whole_at
  whole_gives x (Ok p) h = has h
  whole_gives x (Err e) h = nothing

  unknown_gives : (described : Bool) (c : Cursor) → Gives P (unknown_at described c)
  unknown_gives described (Ok p) = nothing
  unknown_gives described (Err e) = nothing

  sealed_gives : (end : ℕ) {b : Body} → Gives P b → Gives P (sealed end b)
  unfolding sealed
  sealed_gives end (has h) = has h
  sealed_gives end nothing = nothing

  enclosed_gives : (inner : ℕ → Body) (c : Cursor) → ((end : ℕ) → Gives P (inner end)) → Gives P (enclosed inner c)
  unfolding enclosed
  enclosed_gives inner (Ok end) h = sealed_gives end (h end)
  enclosed_gives inner (Err e) h = nothing

  fitting_gives : (bits : ℕ) (c : Cursor) (rest : Body) → Gives P rest → Gives P (fitting_at bits c rest)
  unfolding fitting_at
  fitting_gives bits (Ok p) rest h = by_cases (leb bits 4294967295)
    where
      by_cases : (t : Bool) → Gives P (t ⇒ rest ∣ Err (Overflow p))
      by_cases true = h
      by_cases false = nothing
  fitting_gives bits (Err e) rest h = h

-- A LAYOUT ALLOWS P: whatever numbers of their widths and ranges among the first `most` bytes it reads, its piece has P
module _ (P : Piece → Type 0) (most : ℕ) where
  abbrev Allows : Layout → Type 0
  Allows (number w rest) = (v : ℕ) → v < 256 ^ w → Allows (rest v)
  Allows (counted w rest) = (from size : ℕ) → Range most (256 ^ w) from size → Allows (rest from size)
  Allows (here rest) = (p : ℕ) → Allows (rest p)
  Allows (pass part rest) = Allows rest
  Allows (within n inner) = Allows inner
  Allows (fitting bits rest) = Allows rest
  Allows (whole x) = P x
  Allows (unknown described) = Unit {0}

  counted_gives : (rest : ℕ → ℕ → Layout) (s : List ℕ) → Bytes s → length s ≤ most → (c : Cursor) (w : ℕ)
      → (Range most (256 ^ w) (counted_at s c w).from (counted_at s c w).size
      → Gives P (read_at (rest (counted_at s c w).from (counted_at s c w).size) s (counted_at s c w).cursor))
      → Gives P (read_at (rest (counted_at s c w).from (counted_at s c w).size) s (counted_at s c w).cursor)
  counted_gives rest s b h c w go = by_end (counted_at s c w).cursor refl
    where
      by_end : (d : Cursor) → (counted_at s c w).cursor ≡ d
          → Gives P (read_at (rest (counted_at s c w).from (counted_at s c w).size) s (counted_at s c w).cursor)
      by_end (Ok e) q = go (counted_range s b c w q h)
      by_end (Err e) q =
          gives_none
          (forward (rest (counted_at s c w).from (counted_at s c w).size) s (length s + 1) (counted_at s c w).cursor (rw q stuck))

  allowed : (l : Layout) → Allows l → (s : List ℕ) → Bytes s → length s ≤ most → (c : Cursor) → Gives P (read_at l s c)
  unfolding read_at
  allowed (number w rest) a s b h c =
      allowed (rest (field_at s c w).value) (a (field_at s c w).value (field_small s b c w)) s b h (field_at s c w).cursor
  allowed (counted w rest) a s b h c =
      counted_gives rest s b h c w (λ r.
      allowed (rest (counted_at s c w).from (counted_at s c w).size) (a (counted_at s c w).from (counted_at s c w).size r) s b h
      (counted_at s c w).cursor)
  allowed (here rest) a s b h c = allowed (rest (place_of c)) (a (place_of c)) s b h c
  allowed (pass part rest) a s b h c = allowed rest a s b h (pass_at part s c)
  allowed (within n inner) a s b h c =
      enclosed_gives (λ end. read_at inner (take end s) c) (field_at s c n).cursor
      (λ end. allowed inner a (take end s) (take-bytes s b end) (rw length-take (omega arith)) c)
  allowed (fitting bits rest) a s b h c = fitting_gives bits c (read_at rest s c) (allowed rest a s b h c)
  allowed (whole x) a s b h c = whole_gives x c a
  allowed (unknown described) a s b h c = unknown_gives described c

-- each kind allows what its piece is said to be
module _ (most : ℕ) where
  allows : (l : Layout) → Allows (Numbers most) most l → Allows (Numbers most) most l
  allows l h = h

  each_allows : (full : ℕ) → Every (Allows (Numbers most) most) (kinds full)
  unfolding kinds kind10 kind11 kind12 kind13 kind14 stream19 kind19 kind20 kind21 kind22 kind24 kind25 kind_2a kind30 kind31 info32 kind32
      kind33 kind35 kind_5a
  each_allows full =
      allows kind10 (λ _ a _ _ b. (a, b)) &
      allows kind11 (λ _ a _ b _ d _ e _ f _ g _ h _ i _ _ j.
      record { pilot = a; sync1 = b; sync2 = d; zero = e; one = f; pilots = g; last = h; pause = i; bytes = j }) &
      allows kind12 (λ _ a _ b. (a, b)) &
      allows kind13 (λ _ a _. a) &
      allows kind14 (λ _ a _ b _ d _ e _ _ f. record { zero = a; one = b; last = d; pause = e; bytes = f }) &
      allows (kind19 full) (λ _ _ _ a _ b _ d _ _ _ e _ f _ _ _ _ _ _. record { pause = a; totp = b; npp = d; totd = e; npd = f }) &
      allows kind20 (λ _ a. a) &
      allows kind21 (λ _ _ a. a) &
      allows kind22 tt &
      allows unread tt &
      allows kind24 (λ _ a. a) &
      allows kind25 tt &
      allows kind_2a (λ _ a. a) &
      allows unread tt &
      allows kind30 (λ _ _ a. a) &
      allows kind31 (λ _ _ _ _ _. tt) &
      allows kind32 (λ _ _ _ _. tt) &
      allows kind33 (λ _ _. tt) &
      allows unread tt &
      allows kind35 (λ _ _ _. tt) &
      allows unread tt &
      allows kind_5a tt &
      no_more

  kinds_allow : (full kind : ℕ) → Allows (Numbers most) most (kind_of full kind)
  unfolding kind_of
  kinds_allow full kind = found_every (Allows (Numbers most) most) (kinds full) kind (unknown _) (each_allows full) tt

module _ (s : List ℕ) (at : ℕ) {k a next : ℕ} {piece : Piece} (e : cut_at s at full ≡ taken.Whole k a next piece) where
  body : read_at (kind_of full (get_or s at 0)) s (Ok (at + 1)) ≡ whole_body piece next
  body = unnamed (get_or s at 0)
      at (read_at (kind_of full (get_or s at 0)) s (Ok (at + 1))) (sym (cut_there s at full (cut_inside s at full e)) ∙ e)

  -- a piece is named by its own byte and place
  pub cut_named : cut_at s at full ≡ taken.Whole (get_or s at 0) at next piece
  unfolding taken_as
  cut_named = cut_there s at full (cut_inside s at full e) ∙ ap (taken_as (get_or s at 0) at) body

  -- WHAT A CUT PIECE IS
  pub cut_sized : Bytes s → Sized s piece
  cut_sized b =
      let g = allowed (Numbers (length s)) (length s) (kind_of full (get_or s at 0)) (kinds_allow (length s) full (get_or s at 0)) s b
      (le_refl (length s)) (Ok (at + 1)) in
      record { numbers = gives_piece g body; fit = cut_fit s at piece b e }

-- what a TAP gives of which a block has its range
data GivesTap (most : ℕ) : TakenTap → Type 0 where
  block : {from size next : ℕ} → Range most 65536 from size → GivesTap most (tap.Block from size next)
  end : GivesTap most tap.End
  lone : GivesTap most tap.Lone
  too_few : {p w : ℕ} → GivesTap most (tap.Short p w)

tap_gives : (s : List ℕ) → Bytes s → (at : ℕ) → GivesTap (length s) (tap_at s at)
unfolding tap_at tap_block
tap_gives s b at = by_cases (leb (length s) at) (eqb (at + 1) (length s)) (counted_at s (Ok at) 2).cursor refl
  where
    by_cases : (t u : Bool) (d : Cursor) → (counted_at s (Ok at) 2).cursor ≡ d
        → GivesTap (length s) (t ⇒ tap.End ∣ u ⇒ tap.Lone ∣ tap_block (counted_at s (Ok at) 2) d)
    by_cases true u d q = end
    by_cases false true d q = lone
    by_cases false false (Ok e) q = block (counted_range s b (Ok at) 2 q (le_refl (length s)))
    by_cases false false (Err e) q = too_few

-- what a block of a TAP is
pub tap_sized : (s : List ℕ) (at : ℕ) {from size next : ℕ} → tap_at s at ≡ tap.Block from size next → Bytes s
    → Range (length s) 65536 from size
tap_sized s at e b = of (tap_gives s b at) e
  where
    of : {x : TakenTap} {from size next : ℕ} → GivesTap (length s) x → x ≡ tap.Block from size next
        → Range (length s) 65536 from size
    of {from = from} {size} (block {from = f} {size = n} r) q = let i : f ≡ from = cc in let j : n ≡ size = cc in rw (i, j) at r
    of end q = absurd (let z : ◌≡◌ {A = ℕ} 0 1 = cc in omega arith)
    of lone q = absurd (let z : ◌≡◌ {A = ℕ} 0 1 = cc in omega arith)
    of too_few q = absurd (let z : ◌≡◌ {A = ℕ} 0 1 = cc in omega arith)
