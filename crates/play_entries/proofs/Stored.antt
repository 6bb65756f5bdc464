-- TIMES BY THE ROWS' WORDS ARE THE LIST'S on every table that a load leaves: what a row lasts, and the loading time. Assumes nothing.
use Prim.Native.Nat.{ℕ, zero, suc, ◌+◌, ◌<◌}
use native.Mathlib.Omega.{arith}
use borrow.Author.Tests.{eqb-true, eqb-false}
use mathlib.Core.Path.{◌≡◌, refl, sym, ap, ◌∙◌}
use mathlib.Core.Bool.{Bool, true, false}
use lib.Dec.{eqb}
use Rattle.law_base.specs.Rules.{◌⇒◌, ◌∣◌}
use Rattle.play_entries.specs.declared.Duration.TheVariants.{T, Endless}
use Rattle.play_entries.specs.Entries.{entries_of, lasts_of}
use Rattle.play_entries.specs.Places.{Tape, block_in, load_from, load_time, by_row}
use Rattle.play_entries.specs.Stored.{row_lasts, rows_loading, rows_time, Timed}
use Rattle.play_entries.proofs.Runs.{lasts-stop, lasts_pause}
use Rattle.play_entries.proofs.Loading.{loading_out, loading_by_blocks}

pub stored_lasts : (w : Tape) → Timed w → (i : ℕ) → i < w.count
    → row_lasts (block_in w i) ≡ lasts_of (entries_of w.bytes w.tones i (block_in w i))
unfolding row_lasts
stored_lasts w timed i h = by_cases (eqb (block_in w i).endless 1) refl
  where
    by_cases : (x : Bool) → eqb (block_in w i).endless 1 ≡ x
        → (x ⇒ Endless ∣ T ((block_in w i).sound + (block_in w i).pause)) ≡ lasts_of (entries_of w.bytes w.tones i (block_in w i))
    by_cases true e = sym (lasts-stop w.bytes w.tones i (block_in w i) (eqb-true _ _ e))
    by_cases false e =
        ap (λ (n : ℕ). T (n + (block_in w i).pause)) (timed.sound i h)
        ∙ sym (lasts_pause w.bytes w.tones i (block_in w i) (eqb-false _ _ e))

-- the n rows from block b on to the count
pub stored_loading : {w : Tape} → Timed w → (b n : ℕ) → b + n ≡ w.count → rows_loading w b n ≡ load_from w b
unfolding rows_loading
stored_loading {w} timed b zero e = sym (loading_out w b (omega arith))
stored_loading {w} timed b (suc n) e =
    ap (by_row (block_in w b) (block_in w b).sound) (stored_loading timed (b + 1) n (omega arith))
    ∙ ap (λ (s : ℕ). by_row (block_in w b) s (load_from w (b + 1))) (timed.sound b (omega arith))
    ∙ sym (loading_by_blocks w b (omega arith))

pub stored_time : (w : Tape) → Timed w → rows_time w ≡ load_time w
stored_time w timed = stored_loading timed 0 w.count (omega arith)
