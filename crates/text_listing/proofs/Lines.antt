-- WHAT A READY ROW GIVES ITS LINE: a short name; and what is summed up of such rows.
-- Assumes nothing.
use Prim.Native.Nat.{ℕ, ◌^◌, ◌≤◌, ◌<◌}
use native.Mathlib.Omega.{arith}
use mathlib.Core.Path.{◌≡◌, sym, subst}
use mathlib.Core.List.{List}
use lib.ListN.{length}
use Rattle.rows.specs.declared.Block.{Block}
use Rattle.rows.specs.Table.{get}
use Rattle.rows.specs.Rows.{block}
use Rattle.text_name.specs.Names.{name_of}
use Rattle.play_entries.specs.Mounted.{tape_of}
use Rattle.play_loading.specs.Sums.{loading_after}
use Rattle.play_loading.proofs.Summing.{sums_fit}
use Rattle.text_listing.specs.Inner.{ReadyRow, Ready}

-- the name of the row as it was read
pub row_short : {bytes blocks : List ℕ} {i : ℕ} {r : Block} → ReadyRow bytes blocks i → r ≡ get block blocks i
    → length (name_of bytes r) ≤ 510
row_short {bytes} ready e = subst (λ (x : Block). length (name_of bytes x) ≤ 510) (sym e) ready.short

-- the sum of the first i rows fits
pub rows_fit : {bytes blocks : List ℕ} {n : ℕ} → Ready bytes blocks n → (tones : List ℕ) (i : ℕ) → i ≤ n
    → (loading_after (tape_of bytes tones blocks n) i).sum < 2 ^ 63
rows_fit {bytes} {blocks} {n} ready tones i h =
    sums_fit (tape_of bytes tones blocks n) i (omega (arith, ready.few))
    (record {
      sound = λ b l. (ready.rows b (omega arith)).sound;
      numbers = λ b l. (ready.rows b (omega arith)).numbers;
    })
