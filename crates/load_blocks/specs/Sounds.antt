-- WHAT A BLOCK IS BORN OF, by name, and the row that it is born as: of any reading. Assumes nothing.
use Rattle.std.specs.Prelude.{ℕ, ◌*◌, List, [], ◌∷◌, length}
use Rattle.rows.specs.declared.Block.{Block}
use Rattle.rows.specs.declared.Tone.{Tone}
use Rattle.play_entries.specs.Figures.{sounding}
use Rattle.load_state.specs.Parser.{Parsed, Out, on, ◌⟫◌}
use Rattle.load_blocks.specs.declared.Origin.{Origin}
use Rattle.load_blocks.specs.declared.Bits.{Bits}
use Rattle.load_blocks.specs.declared.Ending.{Ending}
use Rattle.load_blocks.specs.Adds.{Lent, add_rows}

-- ms times 3,500 gives T-states
abbrev pub ms : ℕ → ℕ
ms n = n * 3500

-- where a block comes from: its piece's kind, and where that piece stands in the tape
abbrev pub origin_at : ℕ → ℕ → Origin
origin_at kind place = record { kind = kind; place = place }

abbrev pub data_bits : ℕ → ℕ → ℕ → ℕ → ℕ → Bits
data_bits start size nil one last = record { start = start; size = size; zero = nil; one = one; last = last }

abbrev pub no_bits : Bits
no_bits = data_bits 0 0 0 0 0

-- so many T-states follow; or the tape stops, in a block named `stop`
abbrev pub ends_after : ℕ → Ending
ends_after n = record { pause = n; endless = 0; named = 0 }

abbrev pub ends_in_stop : Ending
ends_in_stop = record { pause = 0; endless = 1; named = 1 }

-- its tone rows, its bits of data, what follows them, and whether a menu offers it
pub record Sound : Type 0 where
  pub tones : List Tone
  pub bits : Bits
  pub ending : Ending
  pub selectable : ℕ

-- THE ROW OF A BLOCK AT BIRTH, over so many tone rows from `tone` on: the one place where a word of a row is written
abbrev pub row_for : Origin → ℕ → ℕ → Bits → Ending → ℕ → Block
row_for origin tone tones bits ending selectable =
    record {
      tone = tone;
      tones = tones;
      start = bits.start;
      size = bits.size;
      zero = bits.zero;
      one = bits.one;
      last = bits.last;
      pause = ending.pause;
      endless = ending.endless;
      selectable = selectable;
      named = ending.named;
      text = 0;
      chars = 0;
      sort = 0;
      level = 0;
      played = 0;
      sound = 0;
    }

-- in the tape s, with what it sounds
unfoldable pub row_of : List ℕ → Origin → Sound → ℕ → Block
row_of s origin d tone = sounding s d.tones (row_for origin tone (length d.tones) d.bits d.ending d.selectable)

module _ (lent : Lent) (s : List ℕ) (origin : Origin) where
  -- 5, then 6
  unfoldable pub add_sound : Sound → Parsed → Out
  add_sound d t = add_rows lent d.tones (row_of s origin d (length t.tones)) t

  unfoldable pub add_sounds : List Sound → Parsed → Out
  add_sounds [] t = on t
  add_sounds (d ∷ ds) t = add_sound d t ⟫ add_sounds ds
