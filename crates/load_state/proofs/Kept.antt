-- What every step keeps: a property of tapes that copying, naming, 22's pause and loops keep, and so one of blocks that naming and pausing
-- keep, which then holds of all blocks of every tape read. Assumes nothing.
use Prim.Native.Nat.{ℕ, zero, suc, ◌<◌}
use native.Mathlib.Omega.{arith}
use mathlib.Core.Path.{◌≡◌, refl}
use mathlib.Core.Bool.{Bool, true, false}
use mathlib.Core.List.Memᴰ
use mathlib.Core.List.{List, [], ◌∷◌, ◌++◌, Memᴰ}
use lib.ListN.{length, get_or, drop}
use Rattle.std.specs.Prelude.{Option, Some, None}
use lib.Dec.{ltb}
use borrow.Author.Tests.{ltb-true}
use Rattle.refusals.specs.Refusals.{blocks_full}
use Rattle.law_base.specs.Rules.{◌⇒◌, ◌∣◌}
use Rattle.rows.specs.declared.Block.{Block}
use Rattle.load_state.specs.declared.Pending.{Pending}
use Rattle.load_state.specs.declared.Pending.TheVariants.{Nothing}
use Rattle.load_state.specs.declared.Body.{Body}
use Rattle.load_state.specs.declared.Halt.TheVariants.{Refusal}
use Rattle.load_state.specs.Parser.{Parsed, empty, with_block, with_pending, with_body, opened, Out, on, no, ◌⟫◌, named}
use Rattle.load_state.specs.Parser.{in_group, last_paused, nameless, add_block, pend, end_group, open_loop, copy_rows, copies}
use Rattle.load_state.specs.Parser.{closed, close_loop}
use Rattle.load_state.specs.Kept.{Sure, sure, none, All, nil, cons, with_blocks, Steps, Lasting, KeptSoFar}

pub sure-of : {K : Parsed → Type 0} {o : Out} {t : Parsed} → Sure K o → o ≡ on t → K t
sure-of {t = t} (sure {t = u} k) e = let q : u ≡ t = cc in rw q at k
sure-of (none) e = absurd (cc)

pub sure_then : {K L : Parsed → Type 0} {o : Out} (f : Parsed → Out) → Sure K o → ((t : Parsed) → K t → Sure L (f t))
    → Sure L (o ⟫ f)
unfolding ◌⟫◌
sure_then f (sure {t = t} k) g = g t k
sure_then f (none) g = none

pub sure_also : {K L : Parsed → Type 0} {o : Out} → ((t : Parsed) → K t → L t) → Sure K o → Sure L o
sure_also f (sure {t = t} k) = sure (f t k)
sure_also f (none) = none

module _ {A : Type 0} {P : A → Type 0} where
  pub all_append : {xs ys : List A} → All P xs → All P ys → All P (xs ++ ys)
  all_append nil q = q
  all_append (cons x p) q = cons x (all_append p q)

  pub all_drop : {xs : List A} (n : ℕ) → All P xs → All P (drop n xs)
  all_drop {xs} zero p = p
  all_drop {xs} (suc n) nil = nil
  all_drop {xs} (suc n) (cons {x = x'} {xs = ys} x p) = all_drop {xs = ys} n p

  pub all_also : {R : A → Type 0} {xs : List A} → ((x : A) → P x → R x) → All P xs → All R xs
  all_also f nil = nil
  all_also f (cons {x = x} h p) = cons (f x h) (all_also f p)

  pub all_at : {x : A} {xs : List A} → All P xs → Memᴰ x xs → P x
  all_at (cons {x = y} h p) (Memᴰ.head e) = rw e h
  all_at (cons h p) (Memᴰ.tail m) = all_at p m
  all_at nil x4 = elim x4 [ ]

  pub all_get : {xs : List A} → All P xs → (i : ℕ) (d : A) → i < length xs → P (get_or xs i d)
  all_get nil i d h = absurd (omega arith)
  all_get (cons x p) zero d h = x
  all_get (cons x p) (suc i) d h = all_get p i d (omega arith)

  pub all_both : {Q R : A → Type 0} {xs : List A} → ((x : A) → P x → Q x → R x) → All P xs → All Q xs → All R xs
  all_both f nil nil = nil
  all_both f (cons {x = x} h p) (cons g q) = cons (f x h g) (all_both f p q)

-- each element is one of its list's
pub members : {A : Type 0} (xs : List A) → All (λ x. Memᴰ x xs) xs
members [] = nil
members (x ∷ xs) = cons (Memᴰ.head refl) (all_also (λ y m. Memᴰ.tail m) (members xs))

-- one more block, where it has room
pub block-sure : {K : Parsed → Type 0} (m : ℕ) (r : Block) (t : Parsed) → (length t.blocks < m → K (with_block r t))
    → Sure K (add_block m r t)
unfolding add_block
block-sure {K} m r t h = by_cases (ltb (length t.blocks) m) refl
  where
    by_cases : (b : Bool) → ltb (length t.blocks) m ≡ b → Sure K (b ⇒ on (with_block r t) ∣ no (Refusal blocks_full))
    by_cases true e = sure (h (ltb-true _ _ e))
    by_cases false e = none

-- a property that one more block keeps, where it has room, is kept by copies
module _ (P : Block → Type 0) (K : Parsed → Type 0) (m : ℕ)
    (keep : (r : Block) (t : Parsed) → length t.blocks < m → P r → K t → K (with_block r t)) where
  pub block_keeps : (r : Block) (t : Parsed) → P r → K t → Sure K (add_block m r t)
  block_keeps r t p k = block-sure m r t (λ room. keep r t room p k)

  pub rows_keep : {rs : List Block} → All (λ r. P (nameless r)) rs → (t : Parsed) → K t → Sure K (copy_rows m rs t)
  unfolding copy_rows
  rows_keep nil t k = sure k
  rows_keep (cons {x = r} {xs = rs} p ps) t k = sure_then (copy_rows m rs) (block_keeps (nameless r) t p k) (rows_keep ps)

  pub copies_keep : (n : ℕ) {rs : List Block} → All (λ r. P (nameless r)) rs → (t : Parsed) → K t → Sure K (copies m n rs t)
  unfolding copies
  copies_keep zero ps t k = sure k
  copies_keep (suc n) {rs} ps t k = sure_then (copies m n rs) (rows_keep ps t k) (copies_keep n ps)

-- a copy of one of the rows l
data Copy (l : List Block) : Block → Type 0 where
  copy : {q : Block} → Memᴰ q l → Copy l (nameless q)

-- a tape with K that has the rows l
record Has (K : Parsed → Type 0) (l : List Block) (t : Parsed) : Type 0 where
  kept : K t
  rows : (q : Block) → Memᴰ q l → Memᴰ q t.blocks

-- WHAT SUCH STEPS KEEP, the parser's names and loops keep
module _ {m : ℕ} {Q : Pending → Type 0} {K : Parsed → Type 0} (k : Steps m Q K) where
  -- inside a group nothing is renamed
  renames : (b : Bool) (p : Pending) (t : Parsed) → Q p → K t → K (with_pending (b ⇒ t.pending ∣ p) t)
  renames true p t q h = h
  renames false p t q h = k.naming p t q h

  pub keeps_pend : (p : Pending) {t : Parsed} → Q p → K t → Sure K (pend p t)
  unfolding pend
  keeps_pend p {t} q h = sure (renames (in_group t.pending) p t q h)

  closes : (b : Bool) (t : Parsed) → Q Nothing → K t → K (with_pending (b ⇒ Nothing ∣ t.pending) t)
  closes true t q h = k.naming Nothing t q h
  closes false t q h = h

  pub keeps_end : {t : Parsed} → Q Nothing → K t → Sure K (end_group t)
  unfolding end_group
  keeps_end {t} q h = sure (closes (in_group t.pending) (with_blocks (last_paused t.blocks) t) q (k.pausing t h))

  pub keeps_open : (times : ℕ) {t : Parsed} → K t → Sure K (open_loop times t)
  unfolding open_loop
  keeps_open times {t} h = sure (k.looping (opened (length t.blocks) times t.body) t h)

  pub keeps_close : {t : Parsed} → K t → Sure K (close_loop m t)
  unfolding close_loop closed
  keeps_close {t} h = closing t.body
    where
      more : (r : Block) (u : Parsed) → length u.blocks < m → Copy t.blocks r → Has K t.blocks u
          → Has K t.blocks (with_block r u)
      more r u room (copy {q} i) o =
          record {
            kept = k.copying q u (o.rows q i) room o.kept;
            rows = λ p j. Memᴰ.append_left (named u.pending (nameless q) ∷ []) (o.rows p j);
          }

      closing : (l : Option Body) → Sure K (closed m l t)
      closing None = sure h
      closing (Some b) =
          sure_also (λ u o. o.kept)
          (copies_keep (Copy t.blocks) (Has K t.blocks) m more b.times
          (all_drop b.start (all_also (λ q i. copy i) (members t.blocks))) (with_body None t)
          (record { kept = k.looping None t h; rows = λ q i. i }))

module _ {P : Block → Type 0} {Q : Pending → Type 0} (k : Lasting P Q) where
  pub kept-empty : KeptSoFar P Q empty
  unfolding empty
  kept-empty = record { rows = nil; name = k.nothing }

  last_keeps : {rs : List Block} → All P rs → All P (last_paused rs)
  unfolding last_paused
  last_keeps nil = nil
  last_keeps (cons {x = r} h nil) = cons (k.pausing r h) nil
  last_keeps (cons h (cons g p)) = cons h (last_keeps (cons g p))

  pub with_block_lem : (r : Block) (t : Parsed) → P r → KeptSoFar P Q t → KeptSoFar P Q (with_block r t)
  with_block_lem r t h s =
      record { rows = all_append s.rows (cons (k.naming t.pending r s.name h) nil); name = k.uses t.pending s.name }

  pub kept_steps : (m : ℕ) → Steps m Q (KeptSoFar P Q)
  kept_steps m =
      record {
        copying = λ r t i _ s. with_block_lem (nameless r) t (k.copying r (all_at s.rows i)) s;
        naming = λ p t q s. record { rows = s.rows; name = q };
        pausing = λ t s. record { rows = last_keeps s.rows; name = s.name };
        looping = λ l t s. record { rows = s.rows; name = s.name };
      }
