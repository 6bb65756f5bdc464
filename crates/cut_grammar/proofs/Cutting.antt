-- A whole piece moves the place forward, stays inside the tape, and is decided by its own bytes; so is a block of a TAP. Assumes nothing.
use Prim.Native.Nat.{ℕ, ◌+◌, ◌≤◌, ◌<◌}
use mathlib.Core.Path.{◌≡◌, refl, sym, ◌∙◌}
use mathlib.Core.List.{List}
use mathlib.Core.Logic.{⊎_elim}
use native.Mathlib.Omega.{arith}
use native.Mathlib.Nat.{le_refl}
use lib.ListN.{length, get_or, take, length-take}
use lib.Seq.{get_or-take}
use borrow.Author.Tests.{le-leb, lt-leb}
use Rattle.law_base.proofs.Numbers.{lt_or_ge}
use Rattle.std.specs.Prelude.{Ok, Err}
use Rattle.cut_grammar.specs.declared.NotCut.TheVariants as not_cut
use Rattle.cut_grammar.specs.Grammar.{Body}
use Rattle.cut_grammar.specs.declared.Piece.{Piece}
use Rattle.cut_grammar.specs.declared.Taken.TheVariants as taken
use Rattle.cut_grammar.specs.Grammar.{read_at}
use Rattle.cut_grammar.specs.Kinds.{kind_of}
use Rattle.cut_grammar.specs.Cut.{taken_as, cut_at}
use Rattle.cut_grammar.specs.Ends.{stands, Ends, ends, none, short, wide, Own}
use Rattle.cut_grammar.proofs.Layouts.{forward, own}

-- what ends a piece under its name
named-ends : {a b : ℕ} (kind at : ℕ) {k p next : ℕ} {x : Body} {piece : Piece} → Ends a b x
    → taken_as kind at x ≡ taken.Whole k p next piece → (a ≤ next) × (next ≤ b)
unfolding taken_as
named-ends {a} {b} kind at {next = next} (ends {x = y} h t) e = let i : y.next ≡ next = cc in (omega arith, omega arith)
named-ends kind at none e = absurd (let z : ◌≡◌ {A = ℕ} 0 1 = cc in omega arith)
named-ends kind at short e = absurd (let z : ◌≡◌ {A = ℕ} 0 1 = cc in omega arith)
named-ends kind at wide e = absurd (let z : ◌≡◌ {A = ℕ} 0 1 = cc in omega arith)

-- a piece is named by its kind
named_kind : (kind at : ℕ) (x : Body) {k p next : ℕ} {piece : Piece} → taken_as kind at x ≡ taken.Whole k p next piece → k ≡ kind
unfolding taken_as
named_kind kind at (Ok y) e = cc
named_kind kind at (Err (not_cut.Unknown described)) e = absurd (let z : ◌≡◌ {A = ℕ} 0 1 = cc in omega arith)
named_kind kind at (Err (not_cut.Short q)) e = absurd (let z : ◌≡◌ {A = ℕ} 0 1 = cc in omega arith)
named_kind kind at (Err (not_cut.Overflow q)) e = absurd (let z : ◌≡◌ {A = ℕ} 0 1 = cc in omega arith)

-- a place inside the tape has a kind byte
pub cut_there : (s : List ℕ) (at full : ℕ) → at < length s
    → cut_at s at full ≡ taken_as (get_or s at 0) at (read_at (kind_of full (get_or s at 0)) s (Ok (at + 1)))
unfolding cut_at
cut_there s at full h = rw (lt-leb (length s) at h)

pub cut_end : (s : List ℕ) (at full : ℕ) → length s ≤ at → cut_at s at full ≡ taken.End
unfolding cut_at
cut_end s at full h = rw (le-leb (length s) at h)

never : {k a next : ℕ} {piece : Piece} → taken.End ≡ taken.Whole k a next piece → ⊥
never e = let z : ◌≡◌ {A = ℕ} 0 1 = cc in omega arith

module _ (s : List ℕ) (at full : ℕ) {k a next : ℕ} {piece : Piece} (e : cut_at s at full ≡ taken.Whole k a next piece) where
  pub cut_inside : at < length s
  cut_inside =
      ⊎_elim (λ (h : at < length s). h) (λ (h : length s ≤ at). absurd (never (sym (cut_end s at full h) ∙ e)))
      (lt_or_ge at (length s))

  -- its kind is its first byte
  pub cut_kind : k ≡ get_or s at 0
  cut_kind = named_kind (get_or s at 0) at _ (sym (cut_there s at full cut_inside) ∙ e)

  -- forward, and inside the tape
  pub cut_forward : (at < next) × (next ≤ length s)
  cut_forward =
      let h = cut_inside in
      let f = forward (kind_of full (get_or s at 0)) s (at + 1) (Ok (at + 1)) (stands (le_refl (at + 1)) (omega arith)) in
      let r = named-ends (get_or s at 0) at f (sym (cut_there s at full h) ∙ e) in
      (omega (arith, r.0), r.1)

  -- decided by its own bytes
  own_bytes : {m : ℕ} {x y : Body} → next ≤ m → Own (length s) m x y
      → taken_as (get_or s at 0) at x ≡ taken.Whole k a next piece → y ≡ x
  own_bytes h Own.same q = refl
  own_bytes h (Own.beyond b) q = let r = named-ends (get_or s at 0) at b q in absurd (omega (arith, r.0))

  pub cut_own : (m : ℕ) → next ≤ m → cut_at (take m s) at full ≡ cut_at s at full
  cut_own m h =
      let f = cut_forward in
      let i = cut_inside in
      let l : at < length (take m s) = rw length-take (omega (arith, f.0, f.1)) in
      let g : get_or (take m s) at 0 ≡ get_or s at 0 = get_or-take m s at 0 (omega (arith, f.0)) in
      let c = cut_there s at full i in
      let o = own (kind_of full (get_or s at 0)) s m (at + 1) (omega (arith, f.0)) in
      cut_there (take m s) at full l ∙ rw (g, own_bytes h o (sym c ∙ e)) (sym c)
