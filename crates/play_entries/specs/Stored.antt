-- TIMES BY THE ROWS' OWN WORDS (rule 158): over any table, no pulse is looked at. Definitions alone; assumes nothing.
use Rattle.std.specs.Prelude.{ℕ, zero, suc, ◌+◌, ◌<◌, ◌≡◌, eqb}
use Rattle.law_base.specs.Rules.{◌⇒◌, ◌∣◌}
use Rattle.law_pulses.specs.Play.{time}
use Rattle.rows.specs.declared.Block.{Block}
use Rattle.play_entries.specs.declared.Duration.{Duration}
use Rattle.play_entries.specs.declared.Duration.TheVariants.{T, Endless}
use Rattle.play_entries.specs.Entries.{sound_of}
use Rattle.play_entries.specs.Places.{Tape, block_in, by_row}

-- a row's sound and its pause, or that it never ends
unfoldable pub row_lasts : Block → Duration
row_lasts r = eqb r.endless 1 ⇒ Endless ∣ T (r.sound + r.pause)

-- LOADING TIME of the n rows from block b on: up to the end of the last sound above 0 before the first stop or the end,
-- that of the stop's own row included; 0 if there is none
unfoldable pub rows_loading : Tape → ℕ → ℕ → ℕ
rows_loading w b zero = 0
rows_loading w b (suc n) = by_row (block_in w b) (block_in w b).sound (rows_loading w (b + 1) n)

abbrev pub rows_time : Tape → ℕ
rows_time w = rows_loading w 0 w.count

-- WHAT EVERY LOAD LEAVES: each row's sound is what its entries without the pause last
pub record Timed (w : Tape) : Type 0 where
  pub sound : (b : ℕ) → b < w.count → (block_in w b).sound ≡ time (sound_of w.bytes w.tones b (block_in w b))
