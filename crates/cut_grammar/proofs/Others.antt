-- A layout that gives no piece of a sort gives none, whatever it reads; what holds of every row of the grammar's table. Assumes nothing.
use Prim.Native.Nat.{ℕ}
use mathlib.Core.Path.{◌≡◌, refl, sym, ap, subst, ◌∙◌}
use mathlib.Core.Bool.{Bool, true, false, cond}
use mathlib.Core.List.{List, [], ◌∷◌}
use native.Mathlib.Omega.{arith}
use lib.ListN.{take}
use lib.Dec.{leb, eqb}
use borrow.Author.Tests.{eqb-true}
use Rattle.law_base.specs.Rules.{◌⇒◌, ◌∣◌}
use Rattle.law_base.specs.Arms.{Arm, lookup}
use Rattle.std.specs.Prelude.{Ok, Err}
use Rattle.cut_fields.specs.Field.{Cursor}
use Rattle.cut_grammar.specs.declared.NotCut.TheVariants as not_cut
use Rattle.cut_grammar.specs.Grammar.{Body, whole_body}
use Rattle.cut_fields.specs.Field.{field_at, place_of}
use Rattle.cut_grammar.specs.declared.Piece.{Piece}
use Rattle.cut_grammar.specs.declared.Taken.TheVariants as taken
use Rattle.cut_grammar.specs.Grammar.{Layout, number, counted, here, pass, within, fitting, whole, unknown, counted_at, pass_at}
use Rattle.cut_grammar.specs.Grammar.{whole_at, sealed, enclosed, fitting_at, unknown_at, read_at}
use Rattle.cut_grammar.specs.Cut.{taken_as}
use Rattle.cut_grammar.proofs.Bodies.{whole_same, whole_is}

module _ (is : Piece → Bool) where
  -- a layout that gives no such piece, whatever it reads
  abbrev pub Other : Layout → Type 0
  Other (number w rest) = (v : ℕ) → Other (rest v)
  Other (counted w rest) = (p n : ℕ) → Other (rest p n)
  Other (here rest) = (p : ℕ) → Other (rest p)
  Other (pass part rest) = Other rest
  Other (within n inner) = Other inner
  Other (fitting bits rest) = Other rest
  Other (whole x) = is x ≡ false
  Other (unknown described) = Unit {0}

  -- an answer that is no such piece
  abbrev pub Never : Body → Type 0
  Never b = (x : Piece) (next : ℕ) → is x ≡ true → b ≡ whole_body x next → ⊥

  whole_other : (x : Piece) (c : Cursor) → is x ≡ false → Never (whole_at x c)
  unfolding whole_at
  whole_other x (Ok p) h y next t e =
      let i : x ≡ y = (whole_same e).0 in let z : false ≡ true = sym h ∙ ap is i ∙ t in let n : ◌≡◌ {A = ℕ} 0 1 = cc in omega arith
  whole_other x (Err q) h y next t e = let z : ◌≡◌ {A = ℕ} 0 1 = cc in omega arith

  unknown_other : (described : Bool) (c : Cursor) → Never (unknown_at described c)
  unknown_other described (Ok p) y next t e = let z : ◌≡◌ {A = ℕ} 0 1 = cc in omega arith
  unknown_other described (Err q) y next t e = let z : ◌≡◌ {A = ℕ} 0 1 = cc in omega arith

  sealed_other : (end : ℕ) (b : Body) → Never b → Never (sealed end b)
  unfolding sealed
  sealed_other end (Ok x) h y next t e = h y x.next t (whole_is x (whole_same e).0 refl)
  sealed_other end (Err x) h y next t e = let z : ◌≡◌ {A = ℕ} 0 1 = cc in omega arith

  enclosed_other : (inner : ℕ → Body) (c : Cursor) → ((end : ℕ) → Never (inner end)) → Never (enclosed inner c)
  unfolding enclosed
  enclosed_other inner (Ok end) h y next t e = sealed_other end (inner end) (h end) y next t e
  enclosed_other inner (Err q) h y next t e = let z : ◌≡◌ {A = ℕ} 0 1 = cc in omega arith

  fitting_other : (bits : ℕ) (c : Cursor) (rest : Body) → Never rest → Never (fitting_at bits c rest)
  unfolding fitting_at
  fitting_other bits (Ok p) rest h y next t e = by_cases (leb bits 4294967295) e
    where
      by_cases : (b : Bool) → (b ⇒ rest ∣ Err (not_cut.Overflow p)) ≡ whole_body y next → ⊥
      by_cases true q = h y next t q
      by_cases false q = let z : ◌≡◌ {A = ℕ} 0 1 = cc in omega arith
  fitting_other bits (Err q) rest h y next t e = h y next t e

  pub other_none : (l : Layout) → Other l → (s : List ℕ) (c : Cursor) → Never (read_at l s c)
  unfolding read_at
  other_none (number w rest) o s c = other_none (rest (field_at s c w).value) (o (field_at s c w).value) s (field_at s c w).cursor
  other_none (counted w rest) o s c =
      other_none (rest (counted_at s c w).from (counted_at s c w).size) (o (counted_at s c w).from (counted_at s c w).size) s
      (counted_at s c w).cursor
  other_none (here rest) o s c = other_none (rest (place_of c)) (o (place_of c)) s c
  other_none (pass part rest) o s c = other_none rest o s (pass_at part s c)
  other_none (within n inner) o s c =
      enclosed_other (λ end. read_at inner (take end s) c) (field_at s c n).cursor (λ end. other_none inner o (take end s) c)
  other_none (fitting bits rest) o s c = fitting_other bits c (read_at rest s c) (other_none rest o s c)
  other_none (whole x) o s c = whole_other x c o
  other_none (unknown described) o s c = unknown_other described c

-- what holds of every row of a table, of its key and its value, a row after the other
infixr 20 ◌&◌
pub data EveryRow {A : Type 0} (P : ℕ → A → Type 0) : List (Arm A) → Type 0 where
  no_more : EveryRow P []
  ◌&◌ : {a : Arm A} {more : List (Arm A)} → P a.key a.val → EveryRow P more → EveryRow P (a ∷ more)

-- and of its value alone
abbrev pub Every : {A : Type 0} → (A → Type 0) → List (Arm A) → Type 0
Every P arms = EveryRow (λ _. P) arms

-- what holds of every row of a table holds of what is found there, and of the key that found it
pub found_row : {A : Type 0} (P : ℕ → A → Type 0) (arms : List (Arm A)) (x : ℕ) (d : A) → EveryRow P arms → P x d
    → P x (lookup arms x d)
found_row P [] x d no_more k = k
found_row P (a ∷ more) x d (h & rest) k = by_cases (eqb x a.key) refl (found_row P more x d rest k)
  where
    by_cases : (t : Bool) → eqb x a.key ≡ t → P x (lookup more x d) → P x (cond t a.val (lookup more x d))
    by_cases true e r = subst (λ (k : ℕ). P k a.val) (sym (eqb-true x a.key e)) h
    by_cases false e r = r

pub found_every : {A : Type 0} (P : A → Type 0) (arms : List (Arm A)) (x : ℕ) (d : A) → Every P arms → P d → P (lookup arms x d)
found_every P arms x d every k = found_row (λ _. P) arms x d every k

-- a body under its name
pub unnamed : (kind at : ℕ) (b : Body) {k a next : ℕ} {x : Piece} → taken_as kind at b ≡ taken.Whole k a next x
    → b ≡ whole_body x next
unfolding taken_as
unnamed kind at (Ok y) {next = next} {x = x} e = let i : y.piece ≡ x = cc in let j : y.next ≡ next = cc in whole_is y i j
unnamed kind at (Err (not_cut.Unknown described)) e = absurd (let z : ◌≡◌ {A = ℕ} 0 1 = cc in omega arith)
unnamed kind at (Err (not_cut.Short p)) e = absurd (let z : ◌≡◌ {A = ℕ} 0 1 = cc in omega arith)
unnamed kind at (Err (not_cut.Overflow p)) e = absurd (let z : ◌≡◌ {A = ℕ} 0 1 = cc in omega arith)
