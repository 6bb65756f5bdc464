-- WHAT ONE PASS OVER TONE ROWS GATHERS: enough to judge them, and to say how often a level turns. Definitions alone; assumes nothing.
use Rattle.std.specs.Prelude.{ℕ, zero, suc, ◌+◌, ◌%◌, ◌^◌, Bool, ◌&&◌, List, bit_and, bit_or, bit_xor, nat_le}
use Rattle.rows.specs.Table.{get}
use Rattle.rows.specs.Rows.{tone}
use Rattle.rows.specs.declared.Tone.{Tone}
use Rattle.rows_well.specs.declared.Seen.{Seen}

-- no row
abbrev pub unseen : Seen
unseen = record { words = 0; tops = 0; lows = 0; turns = 0 }

-- a row more: its words; its wave and 4, below 16 up to 11; its wave and 1, below 4 up to 2; its count, where the wave is odd
abbrev pub seeing_row : Tone → Seen → Seen
seeing_row t s =
    record {
      words = bit_or (bit_or (bit_or (bit_or s.words t.num) t.len1) t.len2) t.wave;
      tops = bit_or s.tops ((t.wave + 4) % 2 ^ 64);
      lows = bit_or s.lows ((t.wave + 1) % 2 ^ 64);
      turns = bit_xor s.turns (bit_and t.num t.wave);
    }

-- n rows from row `from` on behind what was seen before, the last row last
unfoldable pub seen_from : List ℕ → Seen → ℕ → ℕ → Seen
seen_from tones s from zero = s
seen_from tones s from (suc n) = seeing_row (get tone tones (from + n)) (seen_from tones s from n)

abbrev pub seen_of : List ℕ → ℕ → ℕ → Seen
seen_of tones from n = seen_from tones unseen from n

-- what was seen is well formed
abbrev pub well_seen : Seen → Bool
well_seen s = nat_le s.words 65535 && nat_le s.tops 15

-- what was seen is of begin 0: no wave is above 2
abbrev pub steady_seen : Seen → Bool
steady_seen s = nat_le s.words 65535 && nat_le s.lows 3
