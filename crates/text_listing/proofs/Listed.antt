-- THE TEXT BY THE PULSE LIST is the text by the rows' words, on every table that a load leaves. Assumes nothing.
use Prim.Native.Nat.{ℕ, zero, suc, ◌<◌}
use native.Mathlib.Omega.{arith}
use mathlib.Core.Path.{◌≡◌, refl, ap₂}
use mathlib.Core.List.{◌++◌}
use Rattle.play_entries.specs.declared.Duration.{Duration}
use Rattle.play_entries.specs.Entries.{entries_of, lasts_of}
use Rattle.play_entries.specs.Places.{Tape, block_in}
use Rattle.play_entries.specs.Stored.{row_lasts, Timed}
use Rattle.play_entries.proofs.Stored.{stored_lasts, stored_time}
use Rattle.load_tape.specs.declared.Format.{Format}
use Rattle.text_listing.specs.Lines.{row_text_by, rows_text_by}
use Rattle.text_listing.specs.Page.{rest_text, listing_text, listed_text}

-- times that are the same make the same lines
module _ (f g : ℕ → Duration) (w : Tape) where
  row_same : (i : ℕ) → f i ≡ g i → row_text_by f w i ≡ row_text_by g w i
  unfolding row_text_by
  row_same i e = rw e

  rows_same : (n : ℕ) → ((i : ℕ) → i < n → f i ≡ g i) → rows_text_by f w n ≡ rows_text_by g w n
  unfolding rows_text_by
  rows_same zero e = refl
  rows_same (suc n) e = ap₂ ◌++◌ (rows_same n (λ i h. e i (omega arith))) (row_same n (e n (omega arith)))

pub text-listed : (model : ℕ) (format : Format) (w : Tape) → Timed w → listing_text model format w ≡ listed_text model format w
unfolding listing_text listed_text rest_text
text-listed model format w timed =
    let listed : ℕ → Duration = λ i. lasts_of (entries_of w.bytes w.tones i (block_in w i)) in
    rw (rows_same (λ i. row_lasts (block_in w i)) listed w w.count (stored_lasts w timed), stored_time w timed)
