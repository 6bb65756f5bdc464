-- THE FIELD THAT CAME UP SHORT IS THE FIRST THAT IS NOT ALL THERE: of every layout, by one induction over layouts; then of a piece.
-- Such a field begins at or before the end of the bytes that it is read from. Assumes nothing.
use Prim.Native.Nat.{ℕ, zero, suc, ◌+◌, ◌≤◌, ◌<◌}
use mathlib.Core.Path.{◌≡◌, refl, sym, ◌∙◌}
use mathlib.Core.Bool.{Bool, true, false}
use mathlib.Core.List.{List, [], ◌∷◌}
use mathlib.Core.Logic.{◌↔◌, ⊎_elim}
use native.Mathlib.Omega.{arith}
use native.Mathlib.Nat.{le_refl}
use lib.ListN.{length, get_or, take, length-take}
use lib.Dec.{leb}
use Rattle.law_base.specs.Rules.{◌⇒◌, ◌∣◌}
use Rattle.law_base.proofs.Numbers.{lt_or_ge}
use Rattle.std.specs.Prelude.{Ok, Err}
use Rattle.cut_fields.specs.declared.Short.{Short}
use Rattle.cut_fields.specs.Field.{Cursor}
use Rattle.cut_grammar.specs.declared.Whole.{Whole}
use Rattle.cut_grammar.specs.declared.NotCut.TheVariants as not_cut
use Rattle.cut_grammar.specs.Grammar.{Body, short_body}
use Rattle.cut_fields.specs.Field.{number_at, field_at, place_of}
use Rattle.cut_fields.specs.Run.{times, each_at, groups_at}
use Rattle.cut_fields.proofs.Runs.{field_there, field_short}
use Rattle.cut_grammar.specs.declared.Piece.{Piece}
use Rattle.cut_grammar.specs.declared.Taken.TheVariants as taken
use Rattle.cut_grammar.specs.Grammar.{Passed, bytes, fields, groups, texts, Layout, number, counted, here, pass, within, fitting}
use Rattle.cut_grammar.specs.Grammar.{whole, unknown, counted_at, texts_at, pass_at, whole_at, sealed, enclosed, fitting_at}
use Rattle.cut_grammar.specs.Grammar.{read_at}
use Rattle.cut_grammar.specs.Kinds.{kind_of}
use Rattle.cut_grammar.specs.Cut.{taken_as, cut_at}
use Rattle.cut_grammar.specs.Trace.{Field, field_in, each_trace, groups_trace, counted_trace, texts_trace, pass_trace, trace}
use Rattle.cut_grammar.specs.Trace.{IsThere, NotAllThere, FirstShort, this, later, AllThere, nil, cons}
use Rattle.cut_grammar.proofs.Bodies.{short_is}
use Rattle.cut_grammar.proofs.Cutting.{cut_there, cut_end, cut_inside, cut_kind}

-- an answer that meets fields read from the first l bytes at the most: short at the first that is not there, else not short
data Meets (l : ℕ) : Body → List Field → Type 0 where
  short : {x : Short} {e : ℕ} {fs : List Field} → e < x.place + x.width → x.place ≤ e → e ≤ l
      → Meets l (Err (not_cut.Short x)) (record { place = x.place; width = x.width; end = e } ∷ fs)
  past : {b : Body} {f : Field} {fs : List Field} → IsThere f → Meets l b fs → Meets l b (f ∷ fs)
  ended : {x : Whole} → Meets l (Ok x) []
  none : {described : Bool} → Meets l (Err (not_cut.Unknown described)) []
  wide : {p : ℕ} → Meets l (Err (not_cut.Overflow p)) []

-- what is read from a cursor on, and the fields from its place on
record Follows (s : List ℕ) (K : Cursor → Body) (k : ℕ → List Field) : Type 0 where
  stuck : (e : Short) → K (Err e) ≡ Err (not_cut.Short e)
  meets : (p : ℕ) → p ≤ length s → Meets (length s) (K (Ok p)) (k p)

module _ (s : List ℕ) where
  -- behind a field, by its number
  field_follows : (w : ℕ) {K : ℕ → Cursor → Body} {k : ℕ → ℕ → List Field} → ((v : ℕ) → Follows s (K v) (k v))
      → Follows s (λ c. K (field_at s c w).value (field_at s c w).cursor) (λ p. field_in s p w ∷ k (number_at s p w) (p + w))
  field_follows w {K} {k} f = record { stuck = λ e. unfold field_at in (f 0).stuck e; meets = at_field }
    where
      at_field : (p : ℕ) → p ≤ length s
          → Meets (length s) (K (field_at s (Ok p) w).value (field_at s (Ok p) w).cursor) (field_in s p w ∷ k (number_at s p w) (p + w))
      at_field p h =
          ⊎_elim
          (λ (t : length s < p + w). rw (field_short s w p t, (f 0).stuck (record { place = p; width = w })) (short t h (le_refl (length s))))
          (λ (t : p + w ≤ length s). rw (field_there s w p t) (past t ((f (number_at s p w)).meets (p + w) t)))
          (lt_or_ge (length s) (p + w))

  -- the place reached
  here_follows : {K : ℕ → Cursor → Body} {k : ℕ → ℕ → List Field} → ((q : ℕ) → Follows s (K q) (k q))
      → Follows s (λ c. K (place_of c) c) (λ p. k p p)
  unfolding place_of
  here_follows f = record { stuck = λ e. (f 0).stuck e; meets = λ p h. (f p).meets p h }

  -- behind the same step n times
  times_follows : (step : Cursor → Cursor) (T : ℕ → ℕ → List Field)
      → ((K : Cursor → Body) (n : ℕ) → Follows s K (T n) → Follows s (λ c. K (step c)) (T (suc n)))
      → {K : Cursor → Body} → Follows s K (T zero) → (n : ℕ) → Follows s (λ c. K (times step n c)) (T n)
  unfolding times
  times_follows step T one f zero = record { stuck = f.stuck; meets = f.meets }
  times_follows step T one {K} f (suc n) =
      let g = one (λ c. K (times step n c)) n (times_follows step T one f n) in
      record { stuck = f.stuck; meets = λ p h. g.meets p h }

  one_follows : (w : ℕ) {K : Cursor → Body} {k : ℕ → List Field} → Follows s K k
      → Follows s (λ c. K (field_at s c w).cursor) (λ p. field_in s p w ∷ k (p + w))
  one_follows w {K} {k} f = field_follows w {K = λ _. K} {k = λ _. k} (λ _. f)

  -- what is passed over
  each_follows : (w n : ℕ) {K : Cursor → Body} {k : ℕ → List Field} → Follows s K k
      → Follows s (λ c. K (each_at s c n w)) (each_trace s n w k)
  unfolding each_at each_trace
  each_follows w n {k = k} f = times_follows (λ c. (field_at s c w).cursor) (λ n. each_trace s n w k) (λ J m g. one_follows w g) f n

  groups_follows : (h j w n : ℕ) {K : Cursor → Body} {k : ℕ → List Field} → Follows s K k
      → Follows s (λ c. K (groups_at s c n h j w)) (groups_trace s n h j w k)
  unfolding groups_at groups_trace
  groups_follows h j w n {k = k} f =
      times_follows (λ c. each_at s (field_at s c h).cursor j w) (λ n. groups_trace s n h j w k)
      (λ J m g. one_follows h (each_follows w j g)) f n

  counted_follows : (w : ℕ) {K : ℕ → ℕ → Cursor → Body} {k : ℕ → ℕ → ℕ → List Field}
      → ((q v : ℕ) → Follows s (K q v) (k q v))
      → Follows s (λ c. K (counted_at s c w).from (counted_at s c w).size (counted_at s c w).cursor)
      (λ p. counted_trace s w (k (p + w) (number_at s p w)) p)
  unfolding counted_at counted_trace
  counted_follows w {K} {k} f =
      field_follows w {K = λ v c. K (place_of c) v (field_at s c v).cursor} {k = λ v p. field_in s p v ∷ k p v (p + v)}
      (λ v.
      here_follows {K = λ q c. K q v (field_at s c v).cursor} {k = λ q p. field_in s p v ∷ k q v (p + v)} (λ q. one_follows v (f q v)))

  texts_follows : (n : ℕ) {K : Cursor → Body} {k : ℕ → List Field} → Follows s K k
      → Follows s (λ c. K (texts_at s c n)) (texts_trace s n k)
  unfolding texts_at texts_trace
  texts_follows n {k = k} f =
      times_follows (λ c. (counted_at s (field_at s c 1).cursor 1).cursor) (λ n. texts_trace s n k)
      (λ J m g. one_follows 1 (counted_follows 1 {K = λ _ _. J} {k = λ _ _. texts_trace s m k} (λ _ _. g))) f n

  pass_follows : (part : Passed) {K : Cursor → Body} {k : ℕ → List Field} → Follows s K k
      → Follows s (λ c. K (pass_at part s c)) (pass_trace part s k)
  unfolding pass_at pass_trace
  pass_follows (bytes n) f = one_follows n f
  pass_follows (fields n w) f = each_follows w n f
  pass_follows (groups n h j w) f = groups_follows h j w n f
  pass_follows (texts n) f = texts_follows n f

  -- a count of bits
  fitting_follows : (bits : ℕ) {K : Cursor → Body} {k : ℕ → List Field} → Follows s K k
      → Follows s (λ c. fitting_at bits c (K c)) (λ p. leb bits 4294967295 ⇒ k p ∣ [])
  unfolding fitting_at
  fitting_follows bits {K} {k} f = record { stuck = f.stuck; meets = λ p h. by_cases p h (leb bits 4294967295) }
    where
      by_cases : (p : ℕ) → p ≤ length s → (t : Bool) → Meets (length s) (t ⇒ K (Ok p) ∣ Err (not_cut.Overflow p)) (t ⇒ k p ∣ [])
      by_cases p h true = f.meets p h
      by_cases p h false = wide

-- the body of a 32: what its bytes meet is met, and the piece ends where the body ends
sealed_meets : (end : ℕ) {l m : ℕ} {b : Body} {fs : List Field} → m ≤ l → Meets m b fs → Meets l (sealed end b) fs
unfolding sealed
sealed_meets end i (short t h j) = short t h (omega arith)
sealed_meets end i (past t m) = past t (sealed_meets end i m)
sealed_meets end i ended = ended
sealed_meets end i none = none
sealed_meets end i wide = wide

within_follows : (s : List ℕ) (n : ℕ) (K : List ℕ → Cursor → Body) (k : List ℕ → ℕ → List Field)
    → ((s : List ℕ) → Follows s (K s) (k s))
    → Follows s (λ c. enclosed (λ end. K (take end s) c) (field_at s c n).cursor) (λ p. field_in s p n ∷ k (take (p + n) s) p)
unfolding enclosed
within_follows s n K k f = record { stuck = λ e. unfold field_at in refl; meets = at_body }
  where
    at_body : (p : ℕ) → p ≤ length s
        → Meets (length s) (enclosed (λ end. K (take end s) (Ok p)) (field_at s (Ok p) n).cursor) (field_in s p n ∷ k (take (p + n) s) p)
    at_body p h =
        ⊎_elim
        (λ (t : length s < p + n). rw (field_short s n p t) (short t h (le_refl (length s))))
        (λ (t : p + n ≤ length s).
        let i : p ≤ length (take (p + n) s) = rw length-take (omega arith) in
        let j : length (take (p + n) s) ≤ length s = rw length-take (omega arith) in
        rw (field_there s n p t) (past t (sealed_meets (p + n) j ((f (take (p + n) s)).meets p i))))
        (lt_or_ge (length s) (p + n))

-- every layout, read as its fields stand
traced : (l : Layout) (s : List ℕ) → Follows s (read_at l s) (trace l s)
unfolding read_at trace whole_at
traced (number w rest) s = field_follows s w {K = λ v. read_at (rest v) s} {k = λ v. trace (rest v) s} (λ v. traced (rest v) s)
traced (counted w rest) s =
    counted_follows s w {K = λ q v. read_at (rest q v) s} {k = λ q v. trace (rest q v) s} (λ q v. traced (rest q v) s)
traced (here rest) s = here_follows s {K = λ q. read_at (rest q) s} {k = λ q. trace (rest q) s} (λ q. traced (rest q) s)
traced (pass part rest) s = pass_follows s part (traced rest s)
traced (within n inner) s = within_follows s n (read_at inner) (trace inner) (traced inner)
traced (fitting bits rest) s = fitting_follows s bits (traced rest s)
traced (whole piece) s = record { stuck = λ e. refl; meets = λ p h. ended }
traced (unknown described) s = record { stuck = λ e. refl; meets = λ p h. none }

-- an answer that meets fields is short exactly at the first that is not there
meets_short : {l : ℕ} {b : Body} {fs : List Field} → Meets l b fs → (q w : ℕ) → b ≡ short_body q w
    → (e : ℕ) × FirstShort fs (record { place = q; width = w; end = e })
meets_short (short {x} {e = e} t h i) q w r =
    let a : x.place ≡ q = cc in let d : x.width ≡ w = cc in (e, rw (← a, ← d) (this t))
meets_short (past t m) q w r = let x = meets_short m q w r in (x.0, later t x.1)
meets_short ended q w r = absurd (let z : ◌≡◌ {A = ℕ} 0 1 = cc in omega arith)
meets_short none q w r = absurd (let z : ◌≡◌ {A = ℕ} 0 1 = cc in omega arith)
meets_short wide q w r = absurd (let z : ◌≡◌ {A = ℕ} 0 1 = cc in omega arith)

meets_first : {l : ℕ} {b : Body} {fs : List Field} → Meets l b fs → {f : Field} → FirstShort fs f
    → (b ≡ short_body f.place f.width) × ((f.place ≤ f.end) × (f.end ≤ l))
meets_first (short t h i) (this u) = (refl, (h, i))
meets_first (short t h i) (later u m) = absurd (omega arith)
meets_first (past t m) (this u) = absurd (omega arith)
meets_first (past t m) (later u n) = meets_first m n
meets_first {l = l} (ended {x = x}) {f = f} x4 = elim x4 [ ]
meets_first {l = l} (none {described = described}) {f = f} x5 = elim x5 [ ]
meets_first {l = l} (wide {p = p}) {f = f} x6 = elim x6 [ ]

first_not_there : {fs : List Field} {f : Field} → FirstShort fs f → NotAllThere f
first_not_there (this t) = t
first_not_there (later t m) = first_not_there m

-- A LAYOUT IS SHORT EXACTLY AT THE FIRST OF ITS FIELDS THAT IS NOT ALL THERE
pub short-first : (l : Layout) (s : List ℕ) (p : ℕ) → p ≤ length s → (q w : ℕ)
    → (read_at l s (Ok p) ≡ short_body q w) ↔ ((e : ℕ) × FirstShort (trace l s p) (record { place = q; width = w; end = e }))
short-first l s p h q w =
    let m = (traced l s).meets p h in (λ r. meets_short m q w r, λ x. (meets_first m x.1).0)

-- that field begins at or before the end of the bytes that it is read from, and reaches past it
pub short-inside : (l : Layout) (s : List ℕ) (p : ℕ) → p ≤ length s → {f : Field} → FirstShort (trace l s p) f
    → (f.place ≤ f.end) × (f.end < f.place + f.width)
short-inside l s p h x = ((meets_first ((traced l s).meets p h) x).1.0, first_not_there x)

-- and those bytes end inside the tape
pub short_end : (l : Layout) (s : List ℕ) (p : ℕ) → p ≤ length s → {f : Field} → FirstShort (trace l s p) f
    → f.end ≤ length s
short_end l s p h x = (meets_first ((traced l s).meets p h) x).1.1

-- a body under its name
named-short : (kind at : ℕ) (b : Body) {k p w : ℕ} → taken_as kind at b ≡ taken.Short k p w → (k ≡ kind) × (b ≡ short_body p w)
unfolding taken_as
named-short kind at (Err (not_cut.Short x)) {k} {p} {w} e = let a : k ≡ kind = cc in
    let i : x.place ≡ p = cc in
    let j : x.width ≡ w = cc in
    (a, short_is x i j)
named-short kind at (Ok y) e = absurd (let z : ◌≡◌ {A = ℕ} 0 1 = cc in omega arith)
named-short kind at (Err (not_cut.Unknown described)) e = absurd (let z : ◌≡◌ {A = ℕ} 0 1 = cc in omega arith)
named-short kind at (Err (not_cut.Overflow q)) e = absurd (let z : ◌≡◌ {A = ℕ} 0 1 = cc in omega arith)

not_end : {k p w : ℕ} → taken.End ≡ taken.Short k p w → ⊥
not_end e = let z : ◌≡◌ {A = ℕ} 0 1 = cc in omega arith

-- A PIECE IS SHORT EXACTLY AT THE FIRST OF ITS FIELDS THAT IS NOT ALL THERE, under the kind that its first byte is
pub cut_first : (s : List ℕ) (at full k p w : ℕ) → (cut_at s at full ≡ taken.Short k p w)
    ↔ ((at < length s) × ((k ≡ get_or s at 0)
    × ((e : ℕ) × FirstShort (trace (kind_of full k) s (at + 1)) (record { place = p; width = w; end = e }))))
unfolding taken_as
cut_first s at full k p w = (there, back)
  where
    there : cut_at s at full ≡ taken.Short k p w → (at < length s) × ((k ≡ get_or s at 0)
        × ((e : ℕ) × FirstShort (trace (kind_of full k) s (at + 1)) (record { place = p; width = w; end = e })))
    there r =
        ⊎_elim
        (λ (h : at < length s).
        let n = named-short (get_or s at 0) at (read_at (kind_of full (get_or s at 0)) s (Ok (at + 1))) (sym (cut_there s at full h) ∙ r) in
        (h, (n.0, rw n.0 ((short-first (kind_of full (get_or s at 0)) s (at + 1) (omega arith) p w).0 n.1))))
        (λ (h : length s ≤ at). absurd (not_end (sym (cut_end s at full h) ∙ r)))
        (lt_or_ge at (length s))

    back : (at < length s) × ((k ≡ get_or s at 0)
        × ((e : ℕ) × FirstShort (trace (kind_of full k) s (at + 1)) (record { place = p; width = w; end = e })))
        → cut_at s at full ≡ taken.Short k p w
    back x =
        let h = x.0 in
        let r = (short-first (kind_of full k) s (at + 1) (omega arith) p w).1 x.1.1 in
        cut_there s at full h ∙ rw (← x.1.0, r)

-- an answer that is not short has met fields that are all there
meets_there : {l : ℕ} {b : Body} {fs : List Field} → Meets l b fs → ((p w : ℕ) → b ≡ short_body p w → ⊥) → AllThere fs
meets_there (short {x} t h i) n = absurd (n x.place x.width refl)
meets_there (past t m) n = cons t (meets_there m n)
meets_there ended n = nil
meets_there none n = nil
meets_there wide n = nil

-- of fields that are all there none is short
pub there_none : {fs : List Field} {f : Field} → AllThere fs → FirstShort fs f → ⊥
there_none (cons h m) (this t) = omega arith
there_none (cons h m) (later t n) = there_none m n
there_none {f = f} nil x3 = elim x3 [ ]

-- A PIECE THAT IS NOT SHORT HAS ALL ITS FIELDS
pub piece_there : (s : List ℕ) (at full : ℕ) → at < length s → ((k p w : ℕ) → cut_at s at full ≡ taken.Short k p w → ⊥)
    → AllThere (trace (kind_of full (get_or s at 0)) s (at + 1))
unfolding taken_as
piece_there s at full h n =
    meets_there ((traced (kind_of full (get_or s at 0)) s).meets (at + 1) (omega arith))
    (λ p w e. n (get_or s at 0) p w (cut_there s at full h ∙ rw e))

-- A WHOLE PIECE HAS ALL ITS FIELDS
pub whole_there : (s : List ℕ) (at full : ℕ) {k a next : ℕ} {piece : Piece} → cut_at s at full ≡ taken.Whole k a next piece
    → AllThere (trace (kind_of full k) s (at + 1))
whole_there s at full {k} {a} {next} {piece} e =
    rw (cut_kind s at full e) (piece_there s at full (cut_inside s at full e) (λ j p w q. not_short (sym e ∙ q)))
  where
    not_short : {j p w : ℕ} → taken.Whole k a next piece ≡ taken.Short j p w → ⊥
    not_short q = let z : ◌≡◌ {A = ℕ} 0 1 = cc in omega arith

-- a body under its name
named-unknown : (kind at : ℕ) (b : Body) {k : ℕ} {described : Bool} → taken_as kind at b ≡ taken.Unknown k described → k ≡ kind
unfolding taken_as
named-unknown kind at (Err (not_cut.Unknown d)) e = cc
named-unknown kind at (Ok y) e = absurd (let z : ◌≡◌ {A = ℕ} 0 1 = cc in omega arith)
named-unknown kind at (Err (not_cut.Short x)) e = absurd (let z : ◌≡◌ {A = ℕ} 0 1 = cc in omega arith)
named-unknown kind at (Err (not_cut.Overflow q)) e = absurd (let z : ◌≡◌ {A = ℕ} 0 1 = cc in omega arith)

module _ (s : List ℕ) (at full : ℕ) {k : ℕ} {described : Bool} (e : cut_at s at full ≡ taken.Unknown k described) where
  no_end : taken.End ≡ taken.Unknown k described → ⊥
  no_end q = let z : ◌≡◌ {A = ℕ} 0 1 = cc in omega arith

  not_short : {j p w : ℕ} → taken.Unknown k described ≡ taken.Short j p w → ⊥
  not_short q = let z : ◌≡◌ {A = ℕ} 0 1 = cc in omega arith

  -- an unknown kind is the byte at its place
  pub unknown_kind : (at < length s) × (k ≡ get_or s at 0)
  unknown_kind =
      ⊎_elim
      (λ (h : at < length s). (h, named-unknown (get_or s at 0) at _ (sym (cut_there s at full h) ∙ e)))
      (λ (h : length s ≤ at). absurd (no_end (sym (cut_end s at full h) ∙ e)))
      (lt_or_ge at (length s))

  -- AN UNKNOWN KIND HAS ALL ITS FIELDS
  pub unknown_there : AllThere (trace (kind_of full k) s (at + 1))
  unknown_there =
      let i = unknown_kind in rw i.1 (piece_there s at full i.0 (λ j p w q. not_short (sym e ∙ q)))
