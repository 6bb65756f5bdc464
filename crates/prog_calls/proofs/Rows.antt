-- ROWS OF A TABLE, for any codec: those that were put are those read, and the next of them. Assumes nothing.
use Prim.Native.Nat.{ℕ, zero, suc, ◌+◌, ◌*◌, ◌≤◌, ◌<◌}
use native.Mathlib.Nat.{suc-mul, zero-mul, add_comm}
use native.Mathlib.Numerals.{add-one}
use native.Mathlib.Omega.{arith}
use mathlib.Core.Path.{◌≡◌, sym, ap, ◌∙◌}
use mathlib.Core.List.{List, [], ◌∷◌, ◌++◌, append_assoc, append-nil}
use lib.ListN.{length, take, drop, length-append}
use lib.Seq.{drop-drop}
use Rattle.rows.specs.Table.{Codec, get, put_all, rows_of, table_over}
use Rattle.rows.proofs.Tables.{over_none, put_next, rows-over}

module _ {R : Type 0} (C : Codec R) where
  -- rows put behind the rows of a table
  puts_over : (rs rows : List R) (t : List ℕ) → length rs * C.width + length rows * C.width ≤ length t
      → put_all C (table_over C rs t) (length rs) rows ≡ table_over C (rs ++ rows) t
  unfolding put_all
  puts_over rs [] t h = ap (λ (l : List R). table_over C l t) (sym (append-nil rs))
  puts_over rs (r ∷ rows) t h =
      let W = C.width in
      let q = suc-mul (length rows) W in
      let p = suc-mul (length rs) W in
      let l : length (rs ++ r ∷ []) ≡ suc (length rs) = rw length-append (omega arith) in
      let m : length (rs ++ r ∷ []) * W ≡ length rs * W + W = rw l p in
      ap (λ (x : List ℕ). put_all C x (length rs + 1) rows) (put_next C rs t r (omega arith))
      ∙ ap (λ (n : ℕ). put_all C (table_over C (rs ++ r ∷ []) t) n rows) (add-one (length rs) ∙ sym l)
      ∙ puts_over (rs ++ r ∷ []) rows t (omega arith)
      ∙ ap (λ (x : List R). table_over C x t) (append_assoc rs (r ∷ []) rows)

  -- ROWS PUT ARE READ
  pub put_read : (rs : List R) (t : List ℕ) (n : ℕ) → length rs ≡ n → n * C.width ≤ length t → rows_of C (put_all C t 0 rs) n ≡ rs
  put_read rs t n e h =
      let z = zero-mul C.width in
      let k : length rs * C.width ≡ n * C.width = ap (λ (m : ℕ). m * C.width) e in
      ap (λ (x : List ℕ). rows_of C x n)
      (ap (λ (x : List ℕ). put_all C x 0 rs) (sym (over_none C t)) ∙ puts_over [] rs t (omega arith))
      ∙ rows-over C rs t n e

  -- row i, and those behind it
  pub row_here : (n : ℕ) (t : List ℕ) (i : ℕ) → i < n → drop i (rows_of C t n) ≡ get C t i ∷ drop (i + 1) (rows_of C t n)
  row_here zero t i h = absurd (omega arith)
  row_here (suc n) t zero h =
      ap (λ (k : ℕ). C.dec (take C.width (drop k t)) ∷ rows_of C (drop C.width t) n) (sym (zero-mul C.width))
  row_here (suc n) t (suc i) h =
      let W = C.width in
      let k : suc (i + 1) ≡ suc i + 1 = omega arith in
      row_here n (drop W t) i (omega arith)
      ∙ ap (λ (x : List ℕ). C.dec (take W x) ∷ drop (i + 1) (rows_of C (drop W t) n))
      (drop-drop (i * W) W t ∙ rw (suc-mul, add_comm (i * W) W))
      ∙ ap (λ (j : ℕ). get C t (suc i) ∷ drop j (rows_of C t (suc n))) k
