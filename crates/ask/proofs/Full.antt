-- A FULL TABLE OF THE LONGEST SOUNDS (rules 156, 158): 4,096 rows of 2 ^ 50 - 1 T-states and no pause, by laws over any count of them,
-- since such a table is too long to compute. Assumes nothing.
use Prim.Native.Nat.{ℕ, zero, suc, ◌+◌, ◌*◌, ◌≤◌, ◌<◌}
use native.Mathlib.Nat.{eq-zero-or-pos}
use native.Mathlib.Omega.{arith}
use borrow.Author.Tests.{lt-ltb}
use mathlib.Core.Path.{◌≡◌, refl, sym, ap, subst, ◌∙◌}
use mathlib.Core.Bool.{true}
use mathlib.Core.List.{[], ◌∷◌}
use mathlib.Core.Logic.{⊎_elim}
use lib.ListN.{length, replicate, length-replicate, get_or-replicate}
use Rattle.rows.specs.declared.Block.{Block}
use Rattle.rows.specs.Table.{table_of, zeros}
use Rattle.rows.specs.Rows.{block, decode_block}
use Rattle.rows.specs.Well.{well_ranges, well_numbers, well_cases, well_tones, well_block}
use Rattle.rows.proofs.Tables.{get_row, over-length}
use Rattle.play_entries.specs.Places.{Tape, block_in, by_row}
use Rattle.play_entries.specs.Stored.{rows_loading}
use Rattle.play_entries.specs.Mounted.{tape_of, tape_size, well_row, WholeTape}
use Rattle.std.specs.Prelude.{Ok}
use Rattle.ask.specs.Queries.{loading_of}
use Rattle.ask.proofs.Answers.{loading_whole}

abbrev loud : Block
loud = decode_block (0 ∷ 0 ∷ 0 ∷ 0 ∷ 0 ∷ 0 ∷ 0 ∷ 0 ∷ 0 ∷ 0 ∷ 0 ∷ 0 ∷ 0 ∷ 0 ∷ 0 ∷ 0 ∷ 1125899906842623 ∷ [])

-- n such rows
abbrev louds : ℕ → Tape
louds n = tape_of [] [] (table_of block (replicate n loud) (n * block.width)) n

module _ (n : ℕ) where
  row_loud : (i : ℕ) → i < n → block_in (louds n) i ≡ loud
  row_loud i h =
      get_row block (replicate n loud) (zeros (n * block.width)) i loud (rw length-replicate h) ∙ get_or-replicate n i loud loud h

  words_lent : length (louds n).blocks ≡ n * block.width
  words_lent =
      over-length block (replicate n loud) (zeros (n * block.width)) (simp length-replicate (omega arith))
      ∙ length-replicate (n * block.width) 0

  all_well : n ≤ 4096 → WholeTape (louds n)
  unfolding well_row well_block well_ranges well_numbers well_cases well_tones
  all_well h =
      record {
        lent = omega (arith, words_lent);
        rows = λ b l. subst (λ (r : Block). well_block (tape_size []) [] r ≡ true) (sym (row_loud b l)) refl;
      }

  -- one more than m of them
  one_louder : (m : ℕ) → by_row loud 1125899906842623 (m * 1125899906842623) ≡ suc m * 1125899906842623
  one_louder m =
      ⊎_elim (λ z. rw z) (λ h. rw (lt-ltb 0 (m * 1125899906842623) (omega arith)) (omega arith)) (eq-zero-or-pos m)

  rows_loud : (b m : ℕ) → b + m ≡ n → rows_loading (louds n) b m ≡ m * 1125899906842623
  unfolding rows_loading
  rows_loud b zero e = omega arith
  rows_loud b (suc m) e =
      ap (λ (r : Block). by_row r r.sound (rows_loading (louds n) (b + 1) m)) (row_loud b (omega arith))
      ∙ ap (by_row loud 1125899906842623) (rows_loud (b + 1) m (omega arith))
      ∙ one_louder m

  loading_loud : n ≤ 4096 → loading_of (louds n) ≡ Ok (n * 1125899906842623)
  loading_loud h = loading_whole (louds n) (all_well h) ∙ ap Ok (rows_loud 0 n (omega arith))

pub full_loud : loading_of (louds 4096) ≡ Ok 4611686018427383808
full_loud = loading_loud 4096 (omega arith)
