-- WHAT IS PRINTED: a text that was written from the front on; the loops that write a run's lines. Assumes nothing.
use Prim.Native.Nat.{ℕ, zero, suc, ◌+◌, ◌-◌, ◌*◌, ◌≤◌, ◌<◌}
use native.Mathlib.Numerals.{add-one}
use native.Mathlib.Omega.{arith}
use mathlib.Core.Path.{◌≡◌, refl, sym, ap, subst, ◌∙◌}
use mathlib.Core.Bool.{Bool, true, false}
use mathlib.Core.List.{List, [], ◌∷◌, ◌++◌, append-nil}
use lib.ListN.{length, length-append, take, drop, set, drop_of_length-le}
use lib.Seq.{length-take-le, take-append_seam, take-suc-set}
use Rattle.law_base.specs.Rules.{◌⇒◌, ◌∣◌}
use Rattle.rows.specs.Table.{get, rows_of}
use Rattle.rows.proofs.Tables.{rows-length}
use Rattle.play_entries.specs.Places.{Tape}
use Rattle.host_run.specs.declared.AnswerRow.{AnswerRow}
use Rattle.host_run.specs.Rows.{answer_row}
use Rattle.text_out.specs.declared.Writer.{Writer}
use Rattle.text_out.specs.Out.{Wrote}
use Rattle.text_out.specs.Writes.{Writes}
use Rattle.text_out.proofs.Writing.{same_len, wrote_whole, wrote_counted, over_wrote}
use Rattle.text_out.proofs.Loops.{Goes, goes_on, goes_over}
use Rattle.play_deck.specs.Deck.{block_at}
use Rattle.text_trace.proofs.Lengths.{line_length}
use Rattle.prog_calls.specs.Answers.{place_in, reached_in}
use Rattle.prog_calls.specs.Playback.{number_in, counts_in}
use Rattle.prog_calls.specs.Trace.{ends_run, Prints}
use Rattle.prog_calls.specs.Inner.{line_in, lines_in, same_lines}
use Rattle.prog_calls.proofs.Rows.{row_here}

-- a text by another name
pub writes_as : {w v : Writer} {s t : List ℕ} → s ≡ t → Writes w s v → Writes w t v
writes_as {w} {v} e p = subst (λ (x : List ℕ). Writes w x v) e p

-- A TEXT THAT WAS WRITTEN into bytes that have room for it
pub prints : {d d1 t : List ℕ} {r : ℕ} → Wrote d 0 t d1 r → length t ≤ length d → Prints t r d1
prints {d} {d1} {t} {r} p h =
    let n : r ≡ length t = wrote_counted p in
    let k : r ≤ length d1 = omega (arith, same_len p) in
    let f : take r d1 ≡ t =
    ap (λ (m : ℕ). take m d1) n ∙ ap (take (length t)) (wrote_whole p h) ∙ take-append_seam t (drop (length t) d) in
    ((k, sym (length-take-le r d1 k)), f)

pub writer_prints : {w v : Writer} {d t : List ℕ} → w.out.now ≡ d → w.at ≡ 0 → Writes w t v → length t ≤ length d
    → Prints t v.at v.out.now
writer_prints e z p h = prints (over_wrote e z p) h

pub line_in-most : (m : Bool) (w : Tape) (a : AnswerRow) → length (line_in m w a) ≤ 256
unfolding line_in
line_in-most m w a = line_length m (reached_in a) (block_at w (place_in a))

-- the lines of the rows of a table from row i on
module _ (m : Bool) (w : Tape) (t : List ℕ) (n : ℕ) where
  abbrev pub lines_from : ℕ → List ℕ
  lines_from i = lines_in m w (drop i (rows_of answer_row t n))

  -- row i does not end the run, or it does
  next_line : (i : ℕ) → i < n → (b : Bool) → ends_run m (reached_in (get answer_row t i)) ≡ b
      → lines_from i ≡ line_in m w (get answer_row t i) ++ (b ⇒ [] ∣ lines_from (i + 1))
  unfolding lines_in
  next_line i h b e =
      ap (lines_in m w) (row_here answer_row n t i h)
      ∙ ap (λ (c : Bool). line_in m w (get answer_row t i) ++ (c ⇒ [] ∣ lines_from (i + 1))) e

  pub no_line : (i : ℕ) → n ≤ i → lines_from i ≡ []
  unfolding lines_in
  no_line i h =
      let k : length (rows_of answer_row t n) ≤ i = omega (arith, rows-length answer_row n t) in
      ap (lines_in m w) (drop_of_length-le (rows_of answer_row t n) k)

  -- A TURN over row i, which the code read
  module _ (i : ℕ) (h : i < n) (a : AnswerRow) (e : a ≡ get answer_row t i) {w₀ u v : Writer}
      (g : Goes lines_from 256 w₀ i u) (p : Writes u (line_in m w a) v) where
    here : (b : Bool) → ends_run m (reached_in a) ≡ b → lines_from i ≡ line_in m w a ++ (b ⇒ [] ∣ lines_from (i + 1))
    here b q =
        next_line i h b (ap (λ (x : AnswerRow). ends_run m (reached_in x)) (sym e) ∙ q)
        ∙ ap (λ (x : AnswerRow). line_in m w x ++ (b ⇒ [] ∣ lines_from (i + 1))) (sym e)

    pub rows_on : ends_run m (reached_in a) ≡ false → Goes lines_from 256 w₀ (i + 1) v
    rows_on q = goes_on 1 g (here false q) (line_in-most m w a) p

    pub rows_end : ends_run m (reached_in a) ≡ true → Writes w₀ (lines_from 0) v
    rows_end q = g.rest v (rw (here true q ∙ append-nil (line_in m w a)) p)

-- the same line again
module _ (x : List ℕ) (n : ℕ) where
  abbrev pub same_from : ℕ → List ℕ
  same_from i = same_lines (n - i) x

  pub same_next : (i : ℕ) → i < n → same_from i ≡ x ++ same_from (i + 1)
  unfolding same_lines
  same_next i h = let k : n - i ≡ suc (n - (i + 1)) = omega arith in ap (λ (j : ℕ). same_lines j x) k

  pub same_over : {w₀ w : Writer} {i : ℕ} → Goes same_from 256 w₀ i w → n ≤ i → Writes w₀ (same_lines n x) w
  unfolding same_lines
  same_over {i = i} g h =
      let k : n - i ≡ 0 = omega arith in
      let z : n - 0 ≡ n = omega arith in
      writes_as (ap (λ (j : ℕ). same_lines j x) z) (goes_over g (ap (λ (j : ℕ). same_lines j x) k))

-- one count more
pub counts_next : (s xs : List ℕ) (i n : ℕ) → i < length xs → take i xs ≡ counts_in s i → n ≡ number_in s (4 * i) 4
    → take (i + 1) (set xs i n) ≡ counts_in s (i + 1)
unfolding counts_in
counts_next s xs i n h e k =
    rw add-one
    (take-suc-set xs i n h
    ∙ ap (λ (l : List ℕ). l ++ (n ∷ [])) e
    ∙ ap (λ (x : ℕ). counts_in s i ++ (x ∷ [])) k)

pub counts_length : (s : List ℕ) (n : ℕ) → length (counts_in s n) ≡ n
unfolding counts_in
counts_length s zero = refl
counts_length s (suc n) = simp length-append (omega (arith, counts_length s n))
