-- The naming pass: one turn of it, what it leaves of a known table, and what it changes: selectability alone. Assumes nothing.
use mathlib.Core.Path.{◌≡◌, refl, sym, ap, ◌∙◌}
use mathlib.Core.Bool.{Bool, true, false}
use mathlib.Core.List.{List, [], ◌∷◌, map}
use Prim.Native.Nat.{ℕ, zero, suc, ◌+◌, ◌<◌}
use native.Mathlib.Nat.{not-suc-le-zero, le_of_suc-le-suc}
use native.Mathlib.Omega.{arith}
use lib.ListN.{length, get_or}
use Rattle.law_base.specs.Rules.{◌⇒◌, ◌∣◌}
use Rattle.rows.specs.declared.Block.{Block}
use Rattle.rows.specs.Table.{get, put, table_over, step, table_of, zeros}
use Rattle.rows.specs.Rows.{block}
use Rattle.rows.proofs.Passes.{pass, turned_rows, carried, pass_more, step-over}
use Rattle.text_name.specs.Names.{is_header, size_shown, size_name, guessed, name_of, unselected, name_one, name_all, header_before}

-- what is carried from row to row: whether the row before was a header
abbrev pub next : List ℕ → Bool → Block → Bool
next s prefixed r = is_header s r

pub name_all-pass : (s : List ℕ) (p : Bool) (rs : List Block) → pass (name_one s) (next s) p rs ≡ name_all s p rs
unfolding name_all
name_all-pass s p [] = refl
name_all-pass s p (r ∷ rs) = ap (λ (l : List Block). name_one s p r ∷ l) (name_all-pass s (is_header s r) rs)

-- one turn: t₀ as the loop began, t and a as the turn begins, t' and header as it ends
pub name_turn : {t t' : List ℕ} {a header : Bool} {r q : Block} (s : List ℕ) (i : ℕ) (rs : List Block) (t₀ : List ℕ)
    → i < length rs → a ≡ carried (name_one s) (next s) i false rs
    → t ≡ table_over block (turned_rows (name_one s) (next s) i false rs) t₀
    → r ≡ get block t i → header ≡ is_header s r → q ≡ (header ⇒ r ∣ a ⇒ unselected r ∣ r) → t' ≡ put block t i q
    → (header ≡ carried (name_one s) (next s) (i + 1) false rs)
    × (t' ≡ table_over block (turned_rows (name_one s) (next s) (i + 1) false rs) t₀)
unfolding name_one
name_turn {t} {t'} {a} {header} {r} {q} s i rs t₀ h p o re he qe te =
    let w = pass_more (name_one s) (next s) block i false rs t₀ t a h p o in
    let e : q ≡ name_one s a (get block t i) = qe ∙ rw (he, re) in
    (he ∙ ap (is_header s) re ∙ w.0, te ∙ ap (put block t i) e ∙ w.1)

pub name_all-length : (s : List ℕ) (p : Bool) (rs : List Block) → length (name_all s p rs) ≡ length rs
unfolding name_all
name_all-length s p [] = refl
name_all-length s p (r ∷ rs) = ap suc (name_all-length s (is_header s r) rs)

-- what `name_blocks` leaves of a table of known rows
pub named_table : {t t' : List ℕ} (s : List ℕ) (rs : List Block) (N n : ℕ) → t ≡ table_of block rs N → n ≡ length rs
    → t' ≡ step block n (name_all s false) t → t' ≡ table_of block (name_all s false rs) N
named_table s rs N n e k p = p ∙ step-over block rs (zeros N) n (name_all s false) e (sym k) (omega (arith, name_all-length s false rs))

pub name_all_row : (s : List ℕ) (p : Bool) (rs : List Block) (i : ℕ) (d : Block) → i < length rs
    → get_or (name_all s p rs) i d ≡ name_one s (header_before s p rs i d) (get_or rs i d)
unfolding name_all
name_all_row s p [] i d h = absurd (not-suc-le-zero h)
name_all_row s p (r ∷ rs) zero d h = refl
name_all_row s p (r ∷ rs) (suc zero) d h = name_all_row s (is_header s r) rs zero d (le_of_suc-le-suc h)
name_all_row s p (r ∷ rs) (suc (suc i)) d h = name_all_row s (is_header s r) rs (suc i) d (le_of_suc-le-suc h)

-- a header keeps its selectability
pub header_stays : (s : List ℕ) (p : Bool) (rs : List Block) (i : ℕ) (d : Block) → i < length rs → is_header s (get_or rs i d) ≡ true
    → get_or (name_all s p rs) i d ≡ get_or rs i d
unfolding name_one
header_stays s p rs i d h e = name_all_row s p rs i d h ∙ rw e

-- a block after a header that is no header becomes unselectable
pub after_header : (s : List ℕ) (p : Bool) (rs : List Block) (i : ℕ) (d : Block) → suc i < length rs
    → is_header s (get_or rs i d) ≡ true → is_header s (get_or rs (suc i) d) ≡ false
    → get_or (name_all s p rs) (suc i) d ≡ unselected (get_or rs (suc i) d)
unfolding name_one
after_header s p rs i d h e f = name_all_row s p rs (suc i) d h ∙ rw (f, e)

-- any other block keeps it
pub other_stays : (s : List ℕ) (p : Bool) (rs : List Block) (i : ℕ) (d : Block) → i < length rs → header_before s p rs i d ≡ false
    → get_or (name_all s p rs) i d ≡ get_or rs i d
unfolding name_one
other_stays s p rs i d h e = name_all_row s p rs i d h ∙ rw e (same (is_header s (get_or rs i d)) (get_or rs i d))
  where
    same : (b : Bool) (r : Block) → (b ⇒ r ∣ r) ≡ r
    same true r = refl
    same false r = refl

-- what doesn't look at selectability is the same before and after
module _ {A : Type 0} (f : Block → A) (blind : (r : Block) → f (unselected r) ≡ f r) where
  passed_same : (s : List ℕ) (p : Bool) (r : Block) → f (name_one s p r) ≡ f r
  unfolding name_one
  passed_same s p r = cases (is_header s r) p
    where
      cases : (h p : Bool) → f (h ⇒ r ∣ p ⇒ unselected r ∣ r) ≡ f r
      cases true p = refl
      cases false true = blind r
      cases false false = refl

  pub name_all-same : (s : List ℕ) (p : Bool) (rs : List Block) → map f (name_all s p rs) ≡ map f rs
  unfolding name_all
  name_all-same s p [] = refl
  name_all-same s p (r ∷ rs) = rw (passed_same s p r, name_all-same s (is_header s r) rs)

-- so the pass changes nothing but selectability, and no name
pub only_selectable : (s : List ℕ) (p : Bool) (rs : List Block) → map unselected (name_all s p rs) ≡ map unselected rs
unfolding unselected
only_selectable s p rs = name_all-same unselected (λ r. refl) s p rs

pub names_stay : (s : List ℕ) (p : Bool) (rs : List Block) → map (name_of s) (name_all s p rs) ≡ map (name_of s) rs
unfolding unselected name_of guessed is_header size_name size_shown
names_stay s p rs = name_all-same (name_of s) (λ r. refl) s p rs

header_same : (s : List ℕ) (p : Bool) (r : Block) → is_header s (name_one s p r) ≡ is_header s r
unfolding unselected is_header
header_same s p r = passed_same (is_header s) (λ r. refl) s p r

-- a second pass changes nothing
passed_twice : (s : List ℕ) (p : Bool) (r : Block) → name_one s p (name_one s p r) ≡ name_one s p r
unfolding name_one unselected
passed_twice s p r = rw (header_same s p r) (cases (is_header s r) p)
  where
    cases : (h p : Bool)
        → (h ⇒ (h ⇒ r ∣ p ⇒ unselected r ∣ r) ∣ p ⇒ unselected (h ⇒ r ∣ p ⇒ unselected r ∣ r)
        ∣ (h ⇒ r ∣ p ⇒ unselected r ∣ r))
        ≡ (h ⇒ r ∣ p ⇒ unselected r ∣ r)
    cases true p = refl
    cases false true = refl
    cases false false = refl

pub name_all_twice : (s : List ℕ) (p : Bool) (rs : List Block) → name_all s p (name_all s p rs) ≡ name_all s p rs
unfolding name_all
name_all_twice s p [] = refl
name_all_twice s p (r ∷ rs) = rw (passed_twice s p r, header_same s p r, name_all_twice s (is_header s r) rs)
