-- A loop's copies share their originals' tone rows: what a loop's end that goes on leaves of the blocks' tone rows, and of the tone table.
-- Assumes nothing.
use Prim.Native.Nat.{ℕ, zero, suc}
use mathlib.Core.Path.{◌≡◌, refl, sym, ap, ◌∙◌}
use mathlib.Core.Bool.{Bool, true, false}
use mathlib.Core.List.{List, [], ◌∷◌, ◌++◌, map, map-append, append_assoc, append-nil}
use lib.ListN.{length, drop}
use lib.Dec.{ltb}
use Rattle.std.specs.Prelude.{Option, Some, None}
use Rattle.refusals.specs.Refusals.{blocks_full}
use Rattle.law_base.specs.Rules.{◌⇒◌, ◌∣◌}
use Rattle.rows.specs.declared.Block.{Block}
use Rattle.load_state.specs.declared.Pending.{Pending}
use Rattle.load_state.specs.declared.Pending.TheVariants.{Nothing, First, Later, Text}
use Rattle.load_state.specs.declared.Body.{Body}
use Rattle.load_state.specs.declared.Halt.TheVariants.{Refusal}
use Rattle.load_state.specs.Parser.{Parsed, with_block, with_body, Out, on, no, renamed, named, nameless, add_block, copy_rows, copies}
use Rattle.load_state.specs.Parser.{closed, close_loop}
use Rattle.load_state.specs.Kept.{Sure, sure, none, repeated, tone_rows}
use Rattle.load_state.proofs.Kept.{sure-of, sure_then}

sure_also : {K L : Parsed → Type 0} {o : Out} → Sure K o → ((t : Parsed) → K t → L t) → Sure L o
sure_also (sure {t = t} k) f = sure (f t k)
sure_also (none) f = none

-- f looks at no name and at no selectability
module _ {A : Type 0} (f : Block → A)
    (blind : (mark case text chars : ℕ) (r : Block) → f (renamed mark case text chars r) ≡ f r) where
  -- the blocks of u are, to f, those of t and then these; the tone rows are those of t
  abbrev More : Parsed → List A → Parsed → Type 0
  More t xs u = (map f u.blocks ≡ map f t.blocks ++ xs) × (u.tones ≡ t.tones)

  name_blind : (p : Pending) (r : Block) → f (named p r) ≡ f r
  name_blind Nothing r = refl
  name_blind (First text chars) r = blind 1 3 text chars r
  name_blind (Later text chars) r = blind 0 4 text chars r
  name_blind (Text text chars) r = blind 1 2 text chars r

  then_more : (t u v : Parsed) (xs ys : List A) → More t xs u → More u ys v → More t (xs ++ ys) v
  then_more t u v xs ys a b = (b.0 ∙ ap (λ (l : List A). l ++ ys) a.0 ∙ append_assoc (map f t.blocks) xs ys, b.1 ∙ a.1)

  block_more : (m : ℕ) (r : Block) (t : Parsed) → Sure (More t (f r ∷ [])) (add_block m (nameless r) t)
  unfolding add_block
  block_more m r t = by_cases (ltb (length t.blocks) m)
    where
      one : f (named t.pending (nameless r)) ≡ f r
      one = name_blind t.pending (nameless r) ∙ blind 0 0 0 0 r

      by_cases : (b : Bool) → Sure (More t (f r ∷ [])) (b ⇒ on (with_block (nameless r) t) ∣ no (Refusal blocks_full))
      by_cases true = sure
          (map-append f t.blocks (named t.pending (nameless r) ∷ []) ∙ ap (λ (x : A). map f t.blocks ++ x ∷ []) one, refl)
      by_cases false = none

  rows_more : (m : ℕ) (rs : List Block) (t : Parsed) → Sure (More t (map f rs)) (copy_rows m rs t)
  unfolding copy_rows
  rows_more m [] t = sure (sym (append-nil (map f t.blocks)), refl)
  rows_more m (r ∷ rs) t = sure_then (copy_rows m rs) (block_more m r t)
      (λ u a. sure_also (rows_more m rs u) (λ v b. then_more t u v (f r ∷ []) (map f rs) a b))

  copies_more : (m n : ℕ) (rs : List Block) (t : Parsed) → Sure (More t (repeated n (map f rs))) (copies m n rs t)
  unfolding copies
  copies_more m zero rs t = sure (sym (append-nil (map f t.blocks)), refl)
  copies_more m (suc n) rs t = sure_then (copies m n rs) (rows_more m rs t)
      (λ u a. sure_also (copies_more m n rs u) (λ v b. then_more t u v (map f rs) (repeated n (map f rs)) a b))

  -- the end of an open loop that goes on
  pub close_repeats : (m : ℕ) (t : Parsed) {u : Parsed} {b : Body} → t.body ≡ Some b → close_loop m t ≡ on u
      → (map f u.blocks ≡ map f t.blocks ++ repeated b.times (map f (drop b.start t.blocks))) × (u.tones ≡ t.tones)
  unfolding close_loop closed
  close_repeats m t {b = b} e g =
      sure-of (copies_more m b.times (drop b.start t.blocks) (with_body None t)) (sym (ap (λ (l : Option Body). closed m l t) e) ∙ g)

-- rule 59: a copy shares its original's tone rows
pub copies_share : (m : ℕ) (t : Parsed) {u : Parsed} {b : Body} → t.body ≡ Some b → close_loop m t ≡ on u
    → (map tone_rows u.blocks ≡ map tone_rows t.blocks ++ repeated b.times (map tone_rows (drop b.start t.blocks)))
    × (u.tones ≡ t.tones)
copies_share m t e g = close_repeats tone_rows (λ mark case text chars r. refl) m t e g

-- and is its original but for name and selectability
pub copies_alike : (m : ℕ) (t : Parsed) {u : Parsed} {b : Body} → t.body ≡ Some b → close_loop m t ≡ on u
    → (map nameless u.blocks ≡ map nameless t.blocks ++ repeated b.times (map nameless (drop b.start t.blocks)))
    × (u.tones ≡ t.tones)
copies_alike m t e g = close_repeats nameless (λ mark case text chars r. refl) m t e g
