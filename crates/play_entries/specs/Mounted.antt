-- A mounted tape as it is lent: which of its rows are well formed, and how far. Definitions alone; assumes nothing.
use Rattle.std.specs.Prelude.{ℕ, zero, suc, ◌+◌, ◌-◌, min, ◌≤◌, ◌<◌, Bool, true, List, ◌≡◌, ltb, length}
use Rattle.law_base.specs.Rules.{◌⇒◌, ◌∣◌}
use Rattle.rows.specs.Table.{capacity_of}
use Rattle.rows.specs.Rows.{block, block_most}
use Rattle.rows.specs.Well.{well_block}
use Rattle.play_entries.specs.declared.mount.Mounted.{Mounted}
use Rattle.play_entries.specs.Places.{Tape, block_in}

abbrev pub tape_of : List ℕ → List ℕ → List ℕ → ℕ → Tape
tape_of bytes tones blocks count = record { bytes = bytes; tones = tones; blocks = blocks; count = count }

-- the tape that the code has mounted
abbrev pub mounted_tape : Mounted → Tape
mounted_tape m = tape_of m.tape.now m.tones.now m.blocks.now m.count

-- the count exceeds the capacity
abbrev pub overfull : Tape → Bool
overfull w = ltb (capacity_of block block_most w.blocks) w.count

-- a tape is at most 1,048,576 bytes: places behind them are outside it
abbrev pub tape_size : List ℕ → ℕ
tape_size bytes = min 1048576 (length bytes)

-- block b's row is well formed
unfoldable pub well_row : Tape → ℕ → Bool
well_row w b = well_block (tape_size w.bytes) w.tones (block_in w b)

-- of the m rows from b on, the first that is not well formed, else the count
unfoldable pub first_bad : Tape → ℕ → ℕ → ℕ
first_bad w b zero = w.count
first_bad w b (suc m) = well_row w b ⇒ first_bad w (b + 1) m ∣ b

-- the tape, its count cut to n
abbrev pub cut_to : Tape → ℕ → Tape
cut_to w n = record { bytes = w.bytes; tones = w.tones; blocks = w.blocks; count = n }

-- the tape from block b on that can be played: up to the first row that is not well formed
unfoldable pub formed : Tape → ℕ → Tape
formed w b = cut_to w (first_bad w b (w.count - b))

-- a tape whose counted rows are all lent and well formed
pub record WholeTape (w : Tape) : Type 0 where
  pub lent : w.count ≤ capacity_of block block_most w.blocks
  pub rows : (b : ℕ) → b < w.count → well_row w b ≡ true
