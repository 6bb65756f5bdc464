-- What a loop's copies do, row by row and body by body. Assumes nothing.
use Prim.Native.Nat.{ℕ, zero, suc, ◌+◌, ◌-◌, ◌≤◌, ◌<◌}
use native.Mathlib.Omega.{arith}
use native.Mathlib.Numerals.{add-one}
use mathlib.Core.Path.{◌≡◌, refl, sym, ap, ◌∙◌}
use mathlib.Core.List.{List, [], ◌∷◌, ◌++◌, append_assoc, append-nil}
use lib.ListN.{length, get_or, take, length-append, length-take, get_or-append, drop_of_length-le}
use lib.Seq.{slice, slice-cons, take-append-le}
use Rattle.rows.specs.declared.Block.{Block}
use Rattle.rows.specs.Table.{zeros, get}
use Rattle.rows.specs.Rows.{block}
use Rattle.rows.proofs.Tables.{get_row}
use Rattle.load_state.specs.declared.State.{State}
use Rattle.load_state.specs.Parser.{Parsed, with_block, on, ◌⟫◌, named, add_block, nameless, copy_rows, copies}
use Rattle.load_state.specs.Holds.{Holds}
use Rattle.load_state.specs.Kept.{All, nil, cons}
use Rattle.load_state.proofs.Kept.{sure-of, block_keeps, rows_keep}

-- the blocks begin with the rows l
pub record Begins (l : List Block) (t : Parsed) : Type 0 where
  pub more : List Block
  pub is : t.blocks ≡ l ++ more

pub begins : (t : Parsed) → Begins t.blocks t
begins t = record { more = []; is = sym (append-nil t.blocks) }

abbrev Any : Block → Type 0
Any r = Unit {0}

any : (rs : List Block) → All Any rs
any [] = nil
any (r ∷ rs) = cons tt (any rs)

module _ (l : List Block) (m : ℕ) where
  longer : (r : Block) (t : Parsed) → length t.blocks < m → Any r → Begins l t → Begins l (with_block r t)
  longer r t h p b =
      record {
        more = b.more ++ named t.pending r ∷ [];
        is = ap (λ (x : List Block). x ++ named t.pending r ∷ []) b.is ∙ append_assoc l b.more (named t.pending r ∷ []);
      }

  pub begins_block : {t u : Parsed} (r : Block) → Begins l t → add_block m r t ≡ on u → Begins l u
  begins_block {t} r b e = sure-of (block_keeps Any (Begins l) m longer r t tt b) e

  pub begins_rows : {t u : Parsed} (rs : List Block) → Begins l t → copy_rows m rs t ≡ on u → Begins l u
  begins_rows {t} rs b e = sure-of (rows_keep Any (Begins l) m longer (any rs) t b) e

-- a turn of the loop over a body's rows
pub row_turn : {B N : ℕ} {s : State} {bt tt : List ℕ} {l : List Block} {t : Parsed} (m i end : ℕ) → Holds B N s bt tt t
    → Begins l t → i < end → end ≤ length l
    → copy_rows m (slice i end l) t ≡ add_block m (nameless (get block bt i)) t ⟫ copy_rows m (slice (i + 1) end l)
unfolding copy_rows
row_turn {B = B} {bt = bt} {l = l} {t = t} m i end h b k e =
    let d = get block bt i in
    let n : i < length t.blocks = rw (b.is, length-append) (omega arith) in
    let row : get block bt i ≡ get_or l i d =
    ap (λ (x : List ℕ). get block x i) h.is_b
    ∙ get_row block t.blocks (zeros B) i d n
    ∙ ap (λ (x : List Block). get_or x i d) b.is
    ∙ get_or-append l b.more d i (omega arith) in
    ap (λ (x : List Block). copy_rows m x t) (slice-cons i end l d k e ∙ ap (λ (r : Block). r ∷ slice (suc i) end l) (sym row))
    ∙ rw (add-one i)

pub rows_end : (l : List Block) (m i end : ℕ) (t : Parsed) → end ≤ i → copy_rows m (slice i end l) t ≡ on t
unfolding copy_rows
rows_end l m i end t h =
    let k : length (take end l) ≤ i = rw length-take (omega arith) in
    ap (λ (x : List Block). copy_rows m x t) (drop_of_length-le (take end l) k)

-- a turn of the loop over n bodies, of which i are copied
pub body_turn : {l : List Block} {t : Parsed} (m n i start end : ℕ) → Begins l t → i < n → end ≤ length l
    → copies m (n - i) (slice start end l) t ≡ copy_rows m (slice start end t.blocks) t ⟫ copies m (n - (i + 1)) (slice start end l)
unfolding copies
body_turn {l} {t} m n i start end b h e =
    let k : n - i ≡ suc (n - (i + 1)) = omega arith in
    rw (k, b.is, take-append-le end l b.more e)

pub begins_length : {l : List Block} {t : Parsed} (n : ℕ) → Begins l t → n ≤ length l → n ≤ length t.blocks
begins_length n b h = rw (b.is, length-append) (omega arith)

pub bodies_end : (m left : ℕ) (rs : List Block) (t : Parsed) → left ≤ 0 → copies m left rs t ≡ on t
unfolding copies
bodies_end m zero rs t h = refl
bodies_end m (suc n) rs t h = absurd (omega arith)

-- copies of an empty body
pub copies-none : (m n : ℕ) (t : Parsed) → copies m n [] t ≡ on t
unfolding copies copy_rows ◌⟫◌
copies-none m zero t = refl
copies-none m (suc n) t = copies-none m n t
