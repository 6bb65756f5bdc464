-- CALLS THAT END INSIDE ONE ENTRY: the next of them, and behind the last. Assumes nothing.
use Prim.Native.Nat.{ℕ, zero, suc, ◌+◌, ◌-◌, ◌*◌, ◌≤◌, ◌<◌}
use native.Mathlib.Omega.{arith}
use native.Mathlib.Numerals.{add-one}
use borrow.Author.Tests.{lt-ltb, le-ltb}
use mathlib.Core.Path.{◌≡◌, refl, sym, ap, ◌∙◌}
use mathlib.Core.List.{List, [], ◌∷◌, ◌++◌}
use lib.ListN.{length, get_or, take, drop, length-append, length-drop}
use lib.Seq.{drop-cons, length-take-le}
use Rattle.rows.specs.Table.{put, put_all}
use Rattle.host_run.specs.declared.AnswerRow.{AnswerRow}
use Rattle.host_run.specs.Rows.{answer_row}
use Rattle.host_run.specs.Inside.{with_left, inside_rows, inside_left}

pub drop_end : {A : Type 0} (xs : List A) (i : ℕ) → length xs ≤ i → drop i xs ≡ []
drop_end [] zero h = refl
drop_end [] (suc i) h = refl
drop_end (x ∷ xs) zero h = absurd (omega arith)
drop_end (x ∷ xs) (suc i) h = drop_end xs i (omega arith)

-- a row's words replaced, the table is as long
pub put-length : (t : List ℕ) (i : ℕ) (r : AnswerRow) → i * answer_row.width + answer_row.width ≤ length t
    → length (put answer_row t i r) ≡ length t
put-length t i r h =
    let a : List ℕ = take (i * answer_row.width) t in
    let d : List ℕ = drop (i * answer_row.width + answer_row.width) t in
    let e : length (put answer_row t i r) ≡ length (a ++ answer_row.enc r) + length d = length-append (a ++ answer_row.enc r) d in
    let f : length (a ++ answer_row.enc r) ≡ length a + 10 = length-append a (answer_row.enc r) in
    omega (
      arith,
      e,
      f,
      length-take-le (i * answer_row.width) t (omega arith),
      length-drop (i * answer_row.width + answer_row.width) t,
    )

-- no rows
pub nothing : (i : ℕ) {rs : List AnswerRow} → rs ≡ [] → i + length rs ≡ i
nothing i e = ap (λ (xs : List AnswerRow). i + length xs) e ∙ omega arith

pub none-put : (t : List ℕ) (i : ℕ) {rs : List AnswerRow} → rs ≡ [] → put_all answer_row t i rs ≡ t
unfolding put_all
none-put t i e = ap (put_all answer_row t i) e

-- what is to come of the calls from call i on: the rows, what is left
abbrev rows_then : List ℕ → AnswerRow → ℕ → ℕ → List AnswerRow
rows_then ns r t i = inside_rows r t (drop i ns)

abbrev left_then : List ℕ → ℕ → ℕ → ℕ
left_then ns t i = inside_left t (drop i ns)

module _ (ns : List ℕ) (r : AnswerRow) (t i : ℕ) where
  -- behind the last call
  module _ (h : length ns ≤ i) where
    pub rows_end : rows_then ns r t i ≡ []
    unfolding inside_rows
    rows_end = ap (inside_rows r t) (drop_end ns i h)

    pub left_end : left_then ns t i ≡ t
    unfolding inside_left
    left_end = ap (inside_left t) (drop_end ns i h)

  -- call i, of n T-states
  module _ (h : i < length ns) (n : ℕ) (e : n ≡ get_or ns i 0) where
    here : drop i ns ≡ n ∷ drop (i + 1) ns
    here = drop-cons ns i 0 h ∙ ap (λ (k : ℕ). get_or ns i 0 ∷ drop k ns) (sym (add-one i)) ∙ ap (λ (k : ℕ). k ∷ drop (i + 1) ns) (sym e)

    -- a call that doesn't end inside
    module _ (g : t ≤ n) where
      pub rows-stop : rows_then ns r t i ≡ []
      unfolding inside_rows
      rows-stop = ap (inside_rows r t) here ∙ rw (le-ltb (n) t g)

      pub left_stop : left_then ns t i ≡ t
      unfolding inside_left
      left_stop = ap (inside_left t) here ∙ rw (le-ltb (n) t g)

    -- a call that does
    module _ (l : n < t) where
      abbrev less : ℕ
      less = t - n

      rows_on : rows_then ns r t i ≡ with_left r less ∷ rows_then ns r less (i + 1)
      unfolding inside_rows
      rows_on = ap (inside_rows r t) here ∙ rw (lt-ltb (n) t l)

      pub left_on : left_then ns t i ≡ left_then ns less (i + 1)
      unfolding inside_left
      left_on = ap (inside_left t) here ∙ rw (lt-ltb (n) t l)

      pub next_on : i + length (rows_then ns r t i) ≡ i + 1 + length (rows_then ns r less (i + 1))
      next_on =
          let k = length (rows_then ns r less (i + 1)) in
          let f : i + suc k ≡ i + 1 + k = omega arith in
          ap (λ (rs : List AnswerRow). i + length rs) rows_on ∙ f

      pub table_on : (x : List ℕ) → put_all answer_row x i (rows_then ns r t i)
          ≡ put_all answer_row (put answer_row x i (with_left r less)) (i + 1) (rows_then ns r less (i + 1))
      unfolding put_all
      table_on x = ap (put_all answer_row x i) rows_on
