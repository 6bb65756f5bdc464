-- The tape's list from a block on, what is left to play from a position, and which positions are valid. Definitions alone; assumes nothing.
use Rattle.std.specs.Prelude.{ℕ, ◌+◌, ◌-◌, min, Bool, true, false, not, ◌&&◌, ◌||◌, List, [], ◌∷◌, ◌++◌, ltb, leb, eqb}
use Rattle.law_base.specs.Rules.{◌⇒◌, ◌∣◌}
use Rattle.law_pulses.specs.Play.{Level, Entry, pulse, endless}
use Rattle.law_pulses.specs.Runs.{run}
use Rattle.law_pulses.specs.Sounding.{sounding_time}
use Rattle.rows.specs.Table.{get}
use Rattle.rows.specs.Rows.{block}
use Rattle.rows.specs.declared.Tone.{Tone}
use Rattle.rows.specs.declared.Block.{Block}
use Rattle.play_entries.specs.declared.Phase.{Phase}
use Rattle.play_entries.specs.declared.Phase.TheVariants.{Start, Tones, Data, Edge, Pause}
use Rattle.play_entries.specs.declared.Duration.{Duration}
use Rattle.play_entries.specs.declared.Duration.TheVariants.{T, Endless}
use Rattle.play_levels.specs.Closed.{flipped}
use Rattle.play_entries.specs.Entries.{Label, label_at, entry_of, tone_at, cycles_of, is_single, start_level, cycle_level, bit_level, edged}
use Rattle.play_entries.specs.Entries.{second_of, cycle_of, row_entries, bits_at, bit_of, half_of, bit_entries, byte_at, byte_entries}
use Rattle.play_entries.specs.Entries.{edge_time, edge_of, pause_of, pause_level, pause_entry, entries_of}

-- a mounted tape: its bytes, its tone table, its block table and how many blocks it counts
pub record Tape : Type 0 where
  pub bytes : List ℕ
  pub tones : List ℕ
  pub blocks : List ℕ
  pub count : ℕ

-- block b's row, its tone row i, its data byte at pos
abbrev pub block_in : Tape → ℕ → Block
block_in w b = get block w.blocks b

abbrev pub tone_in : Tape → ℕ → ℕ → Tone
tone_in w b i = tone_at w.tones (block_in w b) i

abbrev pub byte_in : Tape → ℕ → ℕ → ℕ
byte_in w b pos = byte_at w.bytes (block_in w b) pos

-- THE TAPE'S LIST from block b on
unfoldable pub list_from : Tape → ℕ → List (Entry Label)
list_from w b = run (λ i. entries_of w.bytes w.tones i (block_in w i)) b (w.count - b)

-- whether an entry is of a tone or of data; else it is a start or of a pause
abbrev pub is_sound : Phase → Bool
is_sound Start = false
is_sound (Tones i p last-half) = true
is_sound (Data pos k last-half) = true
is_sound Edge = false
is_sound Pause = false

abbrev pub sounds : Label → Bool
sounds s = is_sound s.phase

-- from block b's start up to the end of the last tone or data entry with length before the first stop or the end; 0 if there is none
abbrev pub load_from : Tape → ℕ → ℕ
load_from w b = sounding_time sounds (list_from w b)

-- LOADING TIME: that from the tape's start
abbrev pub load_time : Tape → ℕ
load_time w = load_from w 0

-- the time from a block's start by its row, the T-states of its sound and the time from the next block's: a stop's sound is the last;
-- another's is, where nothing sounds behind it; else its sound and its pause are passed
abbrev pub by_row : Block → ℕ → ℕ → ℕ
by_row r sound later = eqb r.endless 1 ⇒ sound ∣ ltb 0 later ⇒ sound + r.pause + later ∣ sound

-- from block b's pause on; from its edge; from its data byte at pos; from bit k of that byte; from its tone row i;
-- from repetition p of that row
unfoldable pub from_pause : Tape → ℕ → List (Entry Label)
from_pause w b = pause_entry w.tones b (block_in w b) ∷ list_from w (b + 1)

unfoldable pub from_edge : Tape → ℕ → List (Entry Label)
from_edge w b = edge_of w.tones b (block_in w b) ++ from_pause w b

-- the levels of block b's bits, and of its tone row i
abbrev pub bit_in : Tape → ℕ → Level
bit_in w b = bit_level w.tones (block_in w b)

abbrev pub cycle_in : Tape → ℕ → ℕ → ℕ → Level
cycle_in w b i = cycle_level w.tones (block_in w b) i

unfoldable pub from_byte : Tape → ℕ → ℕ → List (Entry Label)
from_byte w b pos = run (byte_entries w.bytes b (block_in w b) (bit_in w b)) pos ((block_in w b).size - pos) ++ from_edge w b

unfoldable pub from_bit : Tape → ℕ → ℕ → ℕ → List (Entry Label)
from_bit w b pos k =
    run (bit_entries b (block_in w b) (bit_in w b) pos (byte_in w b pos)) k (bits_at (block_in w b) pos - k) ++ from_byte w b (pos + 1)

unfoldable pub from_tone : Tape → ℕ → ℕ → List (Entry Label)
from_tone w b i = run (row_entries w.tones b (block_in w b)) i ((block_in w b).tones - i) ++ from_byte w b 0

-- repetitions of its tone row i, and the one at p
abbrev pub cycles_in : Tape → ℕ → ℕ → ℕ
cycles_in w b i = cycles_of (block_in w b) (tone_in w b i)

abbrev pub cycle_item : Tape → ℕ → ℕ → ℕ → List (Entry Label)
cycle_item w b i = cycle_of b i (block_in w b) (tone_in w b i) (cycle_in w b i)

unfoldable pub from_cycle : Tape → ℕ → ℕ → ℕ → List (Entry Label)
from_cycle w b i p = run (cycle_item w b i) p (cycles_in w b i - p) ++ from_tone w b (i + 1)

-- from behind the first pulse of repetition p
unfoldable pub from_second : Tape → ℕ → ℕ → ℕ → List (Entry Label)
from_second w b i p = second_of b i (block_in w b) (tone_in w b i) (cycle_in w b i p) p ++ from_cycle w b i (p + 1)

-- THE LEVEL of a block's entry of this phase
unfoldable pub level_at : List ℕ → Block → Phase → Level
level_at tones r Start = start_level r
level_at tones r (Tones i p last-half) = flipped last-half (cycle_level tones r i p)
level_at tones r (Data pos k last-half) = flipped last-half (bit_level tones r)
level_at tones r Edge = bit_level tones r
level_at tones r Pause = pause_level tones r

abbrev pub level_in : Tape → ℕ → Phase → Level
level_in w b f = level_at w.tones (block_in w b) f

-- WHAT IS LEFT TO PLAY from a position: its own entry with what is left of it, then those behind
unfoldable pub left_at : Tape → ℕ → Phase → Duration → List (Entry Label)
left_at w b Start left = list_from w b
left_at w b (Tones i p false) left = entry_of (label_at b (Tones i p false)) (cycle_in w b i p) left ∷ from_second w b i p
left_at w b (Tones i p true) left = entry_of (label_at b (Tones i p true)) (not (cycle_in w b i p)) left ∷ from_cycle w b i (p + 1)
left_at w b (Data pos k false) left =
    entry_of (label_at b (Data pos k false)) (bit_in w b) left
    ∷ pulse (label_at b (Data pos k true)) (not (bit_in w b)) (half_of (block_in w b) (bit_of (byte_in w b pos) k))
    ∷ from_bit w b pos (k + 1)
left_at w b (Data pos k true) left = entry_of (label_at b (Data pos k true)) (not (bit_in w b)) left ∷ from_bit w b pos (k + 1)
left_at w b Edge left = entry_of (label_at b Edge) (bit_in w b) left ∷ from_pause w b
left_at w b Pause left = entry_of (label_at b Pause) (level_in w b Pause) left ∷ list_from w (b + 1)

-- whether a block has an entry of this phase
unfoldable pub has_entry : List ℕ → Block → Phase → Bool
has_entry tones r Start = true
has_entry tones r (Tones i p last-half) =
    ltb i r.tones && (ltb p (cycles_of r (tone_at tones r i)) && not (last-half && is_single r (tone_at tones r i)))
has_entry tones r (Data pos k last-half) = ltb pos r.size && ltb k (bits_at r pos)
has_entry tones r Edge = edged r
has_entry tones r Pause = true

abbrev pub cycle_half : Tone → Bool → ℕ
cycle_half t false = t.len1
cycle_half t true = t.len2

-- that entry's length
unfoldable pub length_at : List ℕ → List ℕ → Block → Phase → Duration
length_at tape tones r Start = T 0
length_at tape tones r (Tones i p last-half) = T (cycle_half (tone_at tones r i) last-half)
length_at tape tones r (Data pos k last-half) = T (half_of r (bit_of (byte_at tape r pos) k))
length_at tape tones r Edge = T (edge_time r)
length_at tape tones r Pause = pause_of r

-- 1 to the length left, 0 if the length is 0, endless if it is
unfoldable pub remains : Duration → Duration → Bool
remains (T n) (T t) = leb (min 1 t) n && leb n t
remains (T n) Endless = false
remains Endless (T t) = false
remains Endless Endless = true

abbrev pub is_start : Phase → Bool
is_start Start = true
is_start (Tones i p last-half) = false
is_start (Data pos k last-half) = false
is_start Edge = false
is_start Pause = false

abbrev pub is_none : Duration → Bool
is_none (T n) = eqb n 0
is_none Endless = false

-- block b's entry of this phase: whether there is one, and its length
abbrev pub has_in : Tape → ℕ → Phase → Bool
has_in w b f = has_entry w.tones (block_in w b) f

abbrev pub length_in : Tape → ℕ → Phase → Duration
length_in w b f = length_at w.bytes w.tones (block_in w b) f

-- A VALID POSITION: a start at any block number with 0 left, or an entry of a block below the count with what of its length may be left
unfoldable pub valid : Tape → ℕ → Phase → Duration → Bool
valid w b f left = (is_start f && is_none left) || (ltb b w.count && (has_in w b f && remains left (length_in w b f)))

-- the position at the head of what is left to play; the count's start where nothing is left
unfoldable pub head_of : Tape → List (Entry Label) → Label
head_of w [] = label_at w.count Start
head_of w (pulse a v t ∷ es) = a
head_of w (endless a v ∷ es) = a

unfoldable pub left_of : List (Entry Label) → Duration
left_of [] = T 0
left_of (pulse a v t ∷ es) = T t
left_of (endless a v ∷ es) = Endless
