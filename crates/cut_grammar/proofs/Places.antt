-- A whole 19 has its tables where its places say, inside the tape, and no other kind gives one. Assumes nothing.
use Prim.Native.Nat.{ℕ, ◌+◌, ◌*◌, ◌-◌, ◌/◌, ◌≤◌, ◌<◌}
use mathlib.Core.Path.{◌≡◌, refl, sym, ap, subst, ◌∙◌}
use mathlib.Core.Bool.{Bool, true, false}
use mathlib.Core.List.{List}
use mathlib.Core.Logic.{⊎_elim}
use native.Mathlib.Omega.{arith}
use native.Mathlib.Nat.{le_trans}
use lib.ListN.{length, get_or}
use lib.Dec.{leb, eqb}
use borrow.Author.Tests.{leb-true}
use Rattle.law_base.proofs.Numbers.{lt_or_ge}
use Rattle.law_base.specs.Rules.{◌⇒◌, ◌∣◌}
use Rattle.std.specs.Prelude.{Ok, Err}
use Rattle.cut_fields.specs.Field.{Cursor}
use Rattle.cut_grammar.specs.declared.NotCut.TheVariants as not_cut
use Rattle.cut_grammar.specs.Grammar.{Body, whole_body}
use Rattle.cut_fields.specs.Field.{le_at, number_at, field_at, place_of}
use Rattle.cut_fields.specs.Run.{each_at, groups_at}
use Rattle.cut_fields.proofs.Runs.{Stood, field_there, field_short, each_stood, groups_stood}
use Rattle.cut_grammar.specs.declared.GeneralizedData.{GeneralizedData}
use Rattle.cut_grammar.specs.declared.Piece.{Piece}
use Rattle.cut_grammar.specs.declared.Piece.TheVariants as piece
use Rattle.cut_grammar.specs.declared.Taken.TheVariants as taken
use Rattle.cut_grammar.specs.Grammar.{Layout, pass_at, whole_at, fitting_at, read_at, bits_of, or_full, held_if}
use Rattle.cut_grammar.specs.Kinds.{kind13, stream19, kind19, kind_2a}
use Rattle.cut_grammar.specs.Cut.{cut_at}
use Rattle.cut_grammar.specs.Steps.{head19}
use Rattle.cut_grammar.specs.Places.{Places, Found19}
use Rattle.cut_grammar.proofs.Bodies.{whole_same}
use Rattle.cut_grammar.proofs.Cutting.{cut_there, cut_inside, cut_forward}
use Rattle.cut_grammar.proofs.Others.{Other, other_none, unnamed}
use Rattle.cut_grammar.proofs.Sorts.{sort_of, is_general, is_listed, RowSort, pulses, general, stop48, other, row_of}

-- the end of 19: its data bytes are there, and their bits fit
record Streamed (s : List ℕ) (bits : ℕ) (g₀ g : GeneralizedData) (c : Cursor) (next : ℕ) : Type 0 where
  same : g₀ ≡ g
  fits : bits ≤ 4294967295
  stood : Stood c (g₀.size * 1) next

whole_streamed : (s : List ℕ) (g₀ : GeneralizedData) (c d : Cursor) {g : GeneralizedData} {next : ℕ}
    → each_at s c g₀.size 1 ≡ d → whole_at (piece.Generalized g₀) d ≡ whole_body (piece.Generalized g) next
    → (g₀ ≡ g) × Stood c (g₀.size * 1) next
unfolding whole_at
whole_streamed s g₀ c (Ok q) {next = next} f e =
    let r = whole_same e in
    let i : q ≡ next = r.1 in
    let j = r.0 in
    (cc, each_stood s g₀.size 1 c (f ∙ ap Ok i))
whole_streamed s g₀ c (Err x) f e = absurd (let z : ◌≡◌ {A = ℕ} 0 1 = cc in omega arith)

streamed : (s : List ℕ) (bits : ℕ) (g₀ : GeneralizedData) (c : Cursor) {g : GeneralizedData} {next : ℕ}
    → read_at (stream19 bits g₀) s c ≡ whole_body (piece.Generalized g) next → Streamed s bits g₀ g c next
unfolding read_at stream19 pass_at fitting_at
streamed s bits g₀ (Ok p) {g} {next} e = by_cases (leb bits 4294967295) refl e
  where
    by_cases : (t : Bool) → leb bits 4294967295 ≡ t
        → (t ⇒ whole_at (piece.Generalized g₀) (each_at s (Ok p) g₀.size 1) ∣ Err (not_cut.Overflow p)) ≡ whole_body (piece.Generalized g) next
        → Streamed s bits g₀ g (Ok p) next
    by_cases true b q =
        let r = whole_streamed s g₀ (Ok p) (each_at s (Ok p) g₀.size 1) refl q in
        record { same = r.0; fits = leb-true _ _ b; stood = r.1 }
    by_cases false b q = absurd (let z : ◌≡◌ {A = ℕ} 0 1 = cc in omega arith)
streamed s bits g₀ (Err x) e =
    let r = whole_streamed s g₀ (Err x) (each_at s (Err x) g₀.size 1) refl e in
    absurd (stuck r.1.began)
  where
    stuck : ◌≡◌ {A = Cursor} (Err x) (Ok (place_of (Err x))) → ⊥
    stuck i = let z : ◌≡◌ {A = ℕ} 0 1 = cc in omega arith

-- what a layout says of the 19 that it gives
abbrev Placed : ℕ → List ℕ → Body → Type 0
Placed full s b =
    (g : GeneralizedData) (next : ℕ) → b ≡ whole_body (piece.Generalized g) next → next ≤ length s → Found19 full s g next

other_placed : {full : ℕ} (is : Piece → Bool) → ((g : GeneralizedData) → is (piece.Generalized g) ≡ true) → (l : Layout)
    → Other is l → (s : List ℕ) (c : Cursor) → Placed full s (read_at l s c)
other_placed is i l o s c g next e h = absurd (other_none is l o s c (piece.Generalized g) next (i g) e)

-- an alphabet's size
byte_small : (s : List ℕ) → ((i : ℕ) → get_or s i 0 < 256) → (c : Cursor) → (field_at s c 1).value ≤ 255
unfolding field_at number_at le_at
byte_small s h (Ok p) =
    ⊎_elim
    (λ (t : length s < p + 1). rw (field_short s 1 p t) (omega arith))
    (λ (t : p + 1 ≤ length s). rw (field_there s 1 p t) (omega (arith, h p)))
    (lt_or_ge (length s) (p + 1))
byte_small s h (Err x) = omega arith

full_small : (full size most : ℕ) → full ≤ most → size ≤ most → or_full full size ≤ most
unfolding or_full
full_small full size most h k = by_cases (eqb size 0)
  where
    by_cases : (t : Bool) → (t ⇒ full ∣ size) ≤ most
    by_cases true = h
    by_cases false = k

-- the tables of 19, from the last one back
module _ (full : ℕ) (s : List ℕ) (g₀ : GeneralizedData) (asp asd pilot entries symbols from : Cursor) where
  tables : entries ≡ groups_at s pilot (held_if g₀.totp g₀.asp) 1 g₀.npp 2
      → symbols ≡ groups_at s entries g₀.totp 1 1 2
      → from ≡ groups_at s symbols (held_if g₀.totd g₀.asd) 1 g₀.npd 2
      → g₀.pilot ≡ place_of pilot → g₀.entries ≡ place_of entries → g₀.symbols ≡ place_of symbols
      → g₀.from ≡ place_of from
      → g₀.nb ≡ bits_of (g₀.asd - 1) → g₀.size ≡ (g₀.nb * g₀.totd + 7) / 8
      → g₀.asp ≡ or_full full (field_at s asp 1).value → g₀.asd ≡ or_full full (field_at s asd 1).value
      → Placed full s (read_at (stream19 (g₀.nb * g₀.totd) g₀) s from)
  tables e2 e3 e4 p1 p2 p3 p4 n z a d g next e h =
      let t = streamed s (g₀.nb * g₀.totd) g₀ from e in
      let d4 = groups_stood s (held_if g₀.totd g₀.asd) 1 g₀.npd 2 symbols (sym e4 ∙ t.stood.began) in
      let d3 = groups_stood s g₀.totp 1 1 2 entries (sym e3 ∙ d4.began) in
      let d2 = groups_stood s (held_if g₀.totp g₀.asp) 1 g₀.npp 2 pilot (sym e2 ∙ d3.began) in
      let m4 = d4.moved in
      let m3 = d3.moved in
      let m2 = d2.moved in
      let m5 = t.stood.moved in
      let end : next ≡ g₀.from + g₀.size = omega arith in
      let places : Places s g₀ =
      record {
        entries = omega arith;
        symbols = omega arith;
        from = omega arith;
        inside = omega arith;
        bits = n;
        size = z;
        fits = t.fits;
      } in
      let small : (c : Cursor) → ((i : ℕ) → get_or s i 0 < 256) → (most : ℕ) → full ≤ most → 255 ≤ most
      → or_full full (field_at s c 1).value ≤ most =
      λ c b most f k. full_small full (field_at s c 1).value most f (le_trans (byte_small s b c) k) in
      subst (λ (x : GeneralizedData). Found19 full s x next) t.same
      (record { end = end; places = places; sizes = λ b most f k. (rw a (small asp b most f k), rw d (small asd b most f k)) })

general_placed : (full : ℕ) (s : List ℕ) (c : Cursor) → Placed full s (read_at (kind19 full) s c)
unfolding read_at kind19 pass_at head19
general_placed full s c = tables full s _ _ _ (head19 s c).cursor _ _ _ refl refl refl refl refl refl refl refl refl refl refl

-- of all rows, that of 19 alone gives a 19
rows-placed : {full kind : ℕ} {l : Layout} → RowSort full kind l → (s : List ℕ) (c : Cursor) → Placed full s (read_at l s c)
unfolding sort_of kind13 kind_2a
rows-placed pulses s c = other_placed is_general (λ _. refl) kind13 (λ _ _. refl) s c
rows-placed {full} general s c = general_placed full s c
rows-placed stop48 s c = other_placed is_general (λ _. refl) kind_2a (λ _. refl) s c
rows-placed (other l o) s c = other_placed is_listed (λ _. refl) l o s c

-- a whole 19 has its tables where its places say
pub cut_places : (s : List ℕ) (at full : ℕ) {k a next : ℕ} {g : GeneralizedData}
    → cut_at s at full ≡ taken.Whole k a next (piece.Generalized g) → Found19 full s g next
cut_places s at full {next = next} {g = g} e =
    rows-placed (row_of full (get_or s at 0)) s (Ok (at + 1)) g next
    (unnamed (get_or s at 0) at _ (sym (cut_there s at full (cut_inside s at full e)) ∙ e)) (cut_forward s at full e).1
