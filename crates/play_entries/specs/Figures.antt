-- WHAT A ROW SOUNDS, BY ARITHMETIC (rule 157): the T-states of its own tone rows and of its data, a part that isn't well formed counting 0.
-- A load writes it in the row's word `sound`; on a well-formed row it is the list's (proofs/Figures.antt).
-- Definitions alone; assumes nothing.
use Rattle.std.specs.Prelude.{ℕ, ◌+◌, ◌-◌, ◌*◌, ◌/◌, ◌^◌, ◌≤◌, ◌<◌, max, ◌≡◌, ◌&&◌, List, [], ◌∷◌, eqb, length, get_or}
use Rattle.std.specs.Int.Count.{ones}
use Rattle.law_base.specs.Rules.{◌⇒◌, ◌∣◌}
use Rattle.rows.specs.declared.Tone.{Tone}
use Rattle.rows.specs.declared.Block.{Block}
use Rattle.rows.specs.Table.{capacity_of}
use Rattle.rows.specs.Rows.{tone, tone_most, with_sound}
use Rattle.rows.specs.Well.{inside, well_tone, well_numbers}
use Rattle.play_entries.specs.Entries.{tone_at, cycles_of, cycle_time, byte_at}
use Rattle.play_entries.specs.Mounted.{tape_size}
use Rattle.play_entries.specs.Counted.{ones_from, bits_time}

-- a tone row's repetitions, each so long
unfoldable pub tone_figure : Block → Tone → ℕ
tone_figure r t = well_tone t ⇒ cycles_of r t * cycle_time r t ∣ 0

unfoldable pub tones_figure : Block → List Tone → ℕ
tones_figure r [] = 0
tones_figure r (t ∷ ts) = tone_figure r t + tones_figure r ts

-- ts are the tone rows that a table has for a row, all of them lent
pub record Owns (tones : List ℕ) (r : Block) (ts : List Tone) : Type 0 where
  pub lent : r.tone + r.tones ≤ capacity_of tone tone_most tones
  pub count : length ts ≡ r.tones
  pub each : (i : ℕ) (d : Tone) → i < r.tones → tone_at tones r i ≡ get_or ts i d

-- the last byte's bits that are played, and the ones among them, which are its top bits
abbrev pub played_bits : Block → ℕ
played_bits r = max 1 r.last

abbrev pub played_ones : List ℕ → Block → ℕ
played_ones s r = ones (byte_at s r (r.size - 1) / 2 ^ (8 - played_bits r))

-- 8 bits of each byte before the last, and the last one's
unfoldable pub bits_figure : List ℕ → Block → ℕ
bits_figure s r =
    eqb r.size 0 ⇒ 0
    ∣ bits_time r (ones_from s r.start (r.size - 1) + played_ones s r) (8 * (r.size - 1) + played_bits r)

unfoldable pub data_figure : List ℕ → Block → ℕ
data_figure s r = (inside r.start r.size (tape_size s) && well_numbers r) ⇒ bits_figure s r ∣ 0

-- OF A TAPE'S BYTES, a row's own tone rows and the row; and the row that says so
unfoldable pub sound_in : List ℕ → List Tone → Block → ℕ
sound_in s ts r = tones_figure r ts + data_figure s r

abbrev pub sounding : List ℕ → List Tone → Block → Block
sounding s ts r = with_sound (sound_in s ts r) r
