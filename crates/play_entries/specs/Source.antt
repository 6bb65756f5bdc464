-- A SOURCE ROW'S ENTRIES, to the letter of rules 89 to 92; proofs/Sourced.antt: so `entries_of` it. Definitions alone; assumes nothing.
use Rattle.std.specs.Prelude.{ℕ, max, true, false, List, [], ◌∷◌, ◌++◌}
use Rattle.law_pulses.specs.Play.{Level, low, high, Entry, pulse}
use Rattle.law_pulses.specs.Runs.{run}
use Rattle.rows.specs.declared.Tone.{Tone}
use Rattle.rows.specs.declared.Block.{Block}
use Rattle.play_entries.specs.declared.Phase.{Phase}
use Rattle.play_entries.specs.declared.Phase.TheVariants.{Start, Tones, Data, Edge, Pause}
use Rattle.play_entries.specs.Entries.{Label, label_at, entry_of, tone_at, bits_at, bit_of, half_of, byte_at, whole_pause}

-- cycle p of tone row i: halves low then high; a tone count of 0 is one cycle
abbrev pub source_cycle : ℕ → ℕ → Tone → ℕ → List (Entry Label)
source_cycle b i t p = pulse (label_at b (Tones i p false)) low t.len1 ∷ pulse (label_at b (Tones i p true)) high t.len2 ∷ []

unfoldable pub source_tone : List ℕ → ℕ → Block → ℕ → List (Entry Label)
source_tone tones b r i = run (source_cycle b i (tone_at tones r i)) 0 (max 1 (tone_at tones r i).num)

-- bit k of the byte at pos, whose value is v: two equal halves, low then high
abbrev pub source_bit : ℕ → Block → ℕ → ℕ → ℕ → List (Entry Label)
source_bit b r pos v k =
    pulse (label_at b (Data pos k false)) low (half_of r (bit_of v k)) ∷
    pulse (label_at b (Data pos k true)) high (half_of r (bit_of v k)) ∷ []

unfoldable pub source_byte : List ℕ → ℕ → Block → ℕ → List (Entry Label)
source_byte tape b r pos = run (source_bit b r pos (byte_at tape r pos)) 0 (bits_at r pos)

-- a start, each tone cycle, each data bit, the pause
unfoldable pub source_entries : List ℕ → List ℕ → ℕ → Block → List (Entry Label)
source_entries tape tones b r =
    (pulse (label_at b Start) low 0 ∷ run (source_tone tones b r) 0 r.tones ++ run (source_byte tape b r) 0 r.size)
    ++ entry_of (label_at b Pause) low (whole_pause r) ∷ []

-- its level: the last half of a cycle or of a bit is high, everything else low
unfoldable pub level_of : Phase → Level
level_of Start = low
level_of (Tones i p last-half) = last-half
level_of (Data pos k last-half) = last-half
level_of Edge = low
level_of Pause = low
