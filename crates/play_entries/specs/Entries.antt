-- A block's entries: a source row's (rules 89 to 92), a document row's (rule 141); leaves part them. Definitions alone; assumes nothing.
use Rattle.std.specs.Prelude.{ℕ, zero, suc, ◌+◌, ◌-◌, ◌/◌, ◌%◌, ◌^◌, max, min, Bool, true, false, not, ◌&&◌, ◌||◌, List, [], ◌∷◌, ◌++◌, eqb, get_or}
use Rattle.law_base.specs.Rules.{◌⇒◌, ◌∣◌}
use Rattle.law_pulses.specs.Play.{Level, low, Entry, pulse, endless, time, comes_to}
use Rattle.law_pulses.specs.Source.{is_ended}
use Rattle.law_pulses.specs.Runs.{run}
use Rattle.rows.specs.Table.{get}
use Rattle.rows.specs.Rows.{tone}
use Rattle.rows.specs.declared.Tone.{Tone}
use Rattle.rows.specs.declared.Block.{Block}
use Rattle.play_levels.specs.declared.Line.{Line}
use Rattle.play_levels.specs.Voiced.{lined}
use Rattle.play_levels.specs.Closed.{is_one, times_of, first_level, line_after}
use Rattle.play_entries.specs.declared.Phase.{Phase}
use Rattle.play_entries.specs.declared.Phase.TheVariants.{Start, Tones, Data, Edge, Pause}
use Rattle.play_entries.specs.declared.Duration.{Duration}
use Rattle.play_entries.specs.declared.Duration.TheVariants.{T, Endless}

-- an entry's label: its block's number, and its phase there
pub record Label : Type 0 where
  pub block : ℕ
  pub phase : Phase

abbrev pub label_at : ℕ → Phase → Label
label_at b f = record { block = b; phase = f }

-- an entry of this duration
unfoldable pub entry_of : Label → Level → Duration → Entry Label
entry_of s v (T t) = pulse s v t
entry_of s v Endless = endless s v

-- a block's tone row i
abbrev pub tone_at : List ℕ → Block → ℕ → Tone
tone_at tones r i = get tone tones (r.tone + i)

-- LEAVES: what parts a source row from a document row
abbrev pub is_source : Block → Bool
is_source r = eqb r.sort 0

-- repetitions of a tone row: in a source row a count of 0 is one
unfoldable pub cycles_of : Block → Tone → ℕ
cycles_of r t = is_source r ⇒ max 1 t.num ∣ times_of t

-- whether a repetition is one pulse; else it is two
unfoldable pub is_single : Block → Tone → Bool
is_single r t = is_source r ⇒ false ∣ is_one t

-- the line before tone row i of a document row
abbrev pub line_start : Block → Line
line_start r = lined (eqb r.level 1) (eqb r.played 1)

unfoldable pub line_at : List ℕ → Block → ℕ → Line
line_at tones r zero = line_start r
line_at tones r (suc i) = line_after (tone_at tones r i) (line_at tones r i)

-- levels: of the start; of the first pulse of repetition p of tone row i; of a bit's first half
unfoldable pub start_level : Block → Level
start_level r = is_source r ⇒ low ∣ eqb r.level 1

unfoldable pub cycle_level : List ℕ → Block → ℕ → ℕ → Level
cycle_level tones r i p = is_source r ⇒ low ∣ first_level (tone_at tones r i) (line_at tones r i) p

unfoldable pub bit_level : List ℕ → Block → Level
bit_level tones r = is_source r ⇒ low ∣ (line_at tones r r.tones).current

-- whether an edge stands before the pause: in a document row, where it ends and isn't 0
unfoldable pub edged : Block → Bool
edged r = not (is_source r) && not (eqb r.endless 1 || eqb r.pause 0)

-- ENTRIES. A start: 0 T
abbrev pub start_of : ℕ → Block → Entry Label
start_of b r = pulse (label_at b Start) (start_level r) 0

-- repetition p of tone row i, whose first pulse is at level v: its second pulse, if it has one; and both
abbrev pub second_of : ℕ → ℕ → Block → Tone → Level → ℕ → List (Entry Label)
second_of b i r t v p = is_single r t ⇒ [] ∣ pulse (label_at b (Tones i p true)) (not v) t.len2 ∷ []

abbrev pub cycle_of : ℕ → ℕ → Block → Tone → (ℕ → Level) → ℕ → List (Entry Label)
cycle_of b i r t v p = pulse (label_at b (Tones i p false)) (v p) t.len1 ∷ second_of b i r t (v p) p

-- how many pulses a repetition has, and its T-states
abbrev pub cycle_pulses : Block → Tone → ℕ
cycle_pulses r t = is_single r t ⇒ 1 ∣ 2

abbrev pub cycle_time : Block → Tone → ℕ
cycle_time r t = t.len1 + (is_single r t ⇒ 0 ∣ t.len2)

-- each repetition of tone row i
unfoldable pub tone_of : ℕ → ℕ → Block → Tone → (ℕ → Level) → List (Entry Label)
tone_of b i r t v = run (cycle_of b i r t v) 0 (cycles_of r t)

abbrev pub row_entries : List ℕ → ℕ → Block → ℕ → List (Entry Label)
row_entries tones b r i = tone_of b i r (tone_at tones r i) (cycle_level tones r i)

-- each tone row
unfoldable pub tones_of : List ℕ → ℕ → Block → List (Entry Label)
tones_of tones b r = run (row_entries tones b r) 0 r.tones

-- 8 bits a byte, the last byte max(1, last bits)
unfoldable pub bits_at : Block → ℕ → ℕ
bits_at r pos = eqb (pos + 1) r.size ⇒ max 1 r.last ∣ 8

-- bit k of byte v, from the top
abbrev pub bit_of : ℕ → ℕ → ℕ
bit_of v k = v / 2 ^ (7 - k) % 2

-- the length of either half of a bit
unfoldable pub half_of : Block → ℕ → ℕ
half_of r bit = eqb bit 0 ⇒ r.zero ∣ r.one

-- bit k of the byte at pos, whose value is v: two equal halves, at level c and the other
abbrev pub bit_entries : ℕ → Block → Level → ℕ → ℕ → ℕ → List (Entry Label)
bit_entries b r c pos v k =
    pulse (label_at b (Data pos k false)) c (half_of r (bit_of v k)) ∷
    pulse (label_at b (Data pos k true)) (not c) (half_of r (bit_of v k)) ∷ []

-- each bit of that byte
unfoldable pub byte_of : ℕ → Block → Level → ℕ → ℕ → List (Entry Label)
byte_of b r c pos v = run (bit_entries b r c pos v) 0 (bits_at r pos)

-- a block's data byte at pos, and its entries
abbrev pub byte_at : List ℕ → Block → ℕ → ℕ
byte_at tape r pos = get_or tape (r.start + pos) 0

abbrev pub byte_entries : List ℕ → ℕ → Block → Level → ℕ → List (Entry Label)
byte_entries tape b r c pos = byte_of b r c pos (byte_at tape r pos)

-- each data byte
unfoldable pub data_of : List ℕ → ℕ → Block → Level → List (Entry Label)
data_of tape b r c = run (byte_entries tape b r c) 0 r.size

-- an edge: the pause's first millisecond, at the level of a bit's first half
abbrev pub edge_time : Block → ℕ
edge_time r = min 3500 r.pause

abbrev pub edge_of : List ℕ → ℕ → Block → List (Entry Label)
edge_of tones b r = edged r ⇒ pulse (label_at b Edge) (bit_level tones r) (edge_time r) ∷ [] ∣ []

-- a row's whole pause: a stop's never ends
unfoldable pub whole_pause : Block → Duration
whole_pause r = eqb r.endless 1 ⇒ Endless ∣ T r.pause

-- a stop's pause never ends; what an edge leaves of another's, or all of it
abbrev pub rest_of : Block → ℕ
rest_of r = edged r ⇒ r.pause - 3500 ∣ r.pause

unfoldable pub pause_of : Block → Duration
pause_of r = eqb r.endless 1 ⇒ Endless ∣ T (rest_of r)

-- low; but a pause of 0 leaves the level
unfoldable pub pause_level : List ℕ → Block → Level
pause_level tones r = eqb r.endless 1 ⇒ low ∣ eqb r.pause 0 ⇒ bit_level tones r ∣ low

abbrev pub pause_entry : List ℕ → ℕ → Block → Entry Label
pause_entry tones b r = entry_of (label_at b Pause) (pause_level tones r) (pause_of r)

-- a block's entries without its pause
unfoldable pub sound_of : List ℕ → List ℕ → ℕ → Block → List (Entry Label)
sound_of tape tones b r = start_of b r ∷ tones_of tones b r ++ data_of tape b r (bit_level tones r)

-- A BLOCK'S ENTRIES: a start, each pulse of its tone rows, each half of its data bits, the edge if there is one, the pause
unfoldable pub entries_of : List ℕ → List ℕ → ℕ → Block → List (Entry Label)
entries_of tape tones b r = sound_of tape tones b r ++ (edge_of tones b r ++ pause_entry tones b r ∷ [])

-- what a list lasts: its sum, or endless
unfoldable pub lasts_of : {A : Type 0} → List (Entry A) → Duration
lasts_of es = is_ended (comes_to es) ⇒ T (time es) ∣ Endless
