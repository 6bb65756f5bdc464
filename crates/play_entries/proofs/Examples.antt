-- Worked examples by computation: each kind of entry, zero lengths, counts and last bits of 0, a stop. Assumes nothing.
use Prim.Native.Nat.{ℕ}
use mathlib.Core.Path.{◌≡◌, refl}
use mathlib.Core.Bool.{Bool, true, false}
use mathlib.Core.List.{List, [], ◌∷◌, ◌++◌, map}
use Rattle.law_pulses.specs.Play.{low, high, pulse, endless}
use Rattle.law_pulses.specs.Runs.{run}
use Rattle.rows.specs.Table.{zeros}
use Rattle.rows.specs.Rows.{decode_tone, decode_block}
use Rattle.rows.specs.declared.Block.{Block}
use Rattle.rows.proofs.Samples.{row_words}
use Rattle.play_entries.specs.declared.Phase.{Phase}
use Rattle.play_entries.specs.declared.Phase.TheVariants.{Start, Tones, Data, Edge, Pause}
use Rattle.play_entries.specs.declared.Duration.{Duration}
use Rattle.play_entries.specs.declared.Duration.TheVariants.{T, Endless}
use Rattle.play_entries.specs.Entries.{label_at, entry_of, cycles_of, is_single, start_level, cycle_level, bit_level, edged, pause_level}
use Rattle.play_entries.specs.Entries.{tone_of, tones_of, bits_at, half_of, byte_of, data_of, pause_of, sound_of, entries_of}
use Rattle.play_entries.specs.Places.{Tape, level_at, from_edge, from_second, has_entry, length_at, remains, valid, list_from, from_pause}
use Rattle.play_entries.specs.Places.{from_byte, from_bit, from_tone, from_cycle, left_at}

-- a block with two bytes of data, zero 10, one 20 and these last bits
abbrev with_last : ℕ → Block
with_last last = decode_block (0 ∷ 0 ∷ 1 ∷ 2 ∷ 10 ∷ 20 ∷ last ∷ [])

-- tone row 2 of block 5: a count of 0 is one cycle; and three cycles, the first half of each of no length
count_none : tone_of 5 2 (with_last 0) (decode_tone (0 ∷ 30 ∷ 40 ∷ 0 ∷ [])) (λ p. low)
    ≡ pulse (label_at 5 (Tones 2 0 false)) low 30 ∷ pulse (label_at 5 (Tones 2 0 true)) high 40 ∷ []
unfolding tone_of cycles_of is_single run
count_none = refl

count_three :
    tone_of 5 2 (with_last 0) (decode_tone (3 ∷ 0 ∷ 40 ∷ 0 ∷ [])) (λ p. low)
    ≡ pulse (label_at 5 (Tones 2 0 false)) low 0 ∷ pulse (label_at 5 (Tones 2 0 true)) high 40
    ∷ pulse (label_at 5 (Tones 2 1 false)) low 0 ∷ pulse (label_at 5 (Tones 2 1 true)) high 40
    ∷ pulse (label_at 5 (Tones 2 2 false)) low 0 ∷ pulse (label_at 5 (Tones 2 2 true)) high 40 ∷ []
unfolding tone_of cycles_of is_single run
count_three = refl

-- 8 bits of the byte before the last; of the last 8, 3, and with 0 one
bits : map (λ last. bits_at (with_last last) 0 ∷ bits_at (with_last last) 1 ∷ []) (8 ∷ 3 ∷ 0 ∷ [])
    ≡ (8 ∷ 8 ∷ []) ∷ (8 ∷ 3 ∷ []) ∷ (8 ∷ 1 ∷ []) ∷ []
unfolding bits_at
bits = refl

-- byte A3 as the last of two, 3 bits of it; and all 8 of it before the last: from the top
byte_three :
    byte_of 5 (with_last 3) low 1 0xA3
    ≡ pulse (label_at 5 (Data 1 0 false)) low 20 ∷ pulse (label_at 5 (Data 1 0 true)) high 20
    ∷ pulse (label_at 5 (Data 1 1 false)) low 10 ∷ pulse (label_at 5 (Data 1 1 true)) high 10
    ∷ pulse (label_at 5 (Data 1 2 false)) low 20 ∷ pulse (label_at 5 (Data 1 2 true)) high 20 ∷ []
unfolding byte_of bits_at half_of run
byte_three = refl

byte_eight :
    byte_of 5 (with_last 3) low 0 0xA3
    ≡ pulse (label_at 5 (Data 0 0 false)) low 20 ∷ pulse (label_at 5 (Data 0 0 true)) high 20
    ∷ pulse (label_at 5 (Data 0 1 false)) low 10 ∷ pulse (label_at 5 (Data 0 1 true)) high 10
    ∷ pulse (label_at 5 (Data 0 2 false)) low 20 ∷ pulse (label_at 5 (Data 0 2 true)) high 20
    ∷ pulse (label_at 5 (Data 0 3 false)) low 10 ∷ pulse (label_at 5 (Data 0 3 true)) high 10
    ∷ pulse (label_at 5 (Data 0 4 false)) low 10 ∷ pulse (label_at 5 (Data 0 4 true)) high 10
    ∷ pulse (label_at 5 (Data 0 5 false)) low 10 ∷ pulse (label_at 5 (Data 0 5 true)) high 10
    ∷ pulse (label_at 5 (Data 0 6 false)) low 20 ∷ pulse (label_at 5 (Data 0 6 true)) high 20
    ∷ pulse (label_at 5 (Data 0 7 false)) low 20 ∷ pulse (label_at 5 (Data 0 7 true)) high 20 ∷ []
unfolding byte_of bits_at half_of run
byte_eight = refl

-- one byte of data with 1 bit, behind a tone row and before a pause: its whole list, byte 80 at place 1 of the tape
abbrev small : List ℕ
small = row_words (1 ∷ 1 ∷ 1 ∷ 1 ∷ 10 ∷ 20 ∷ 1 ∷ 3500 ∷ [])

abbrev tones : List ℕ
tones = 9 ∷ 9 ∷ 9 ∷ 0 ∷ 1 ∷ 667 ∷ 735 ∷ 0 ∷ []

small_entries :
    entries_of (7 ∷ 0x80 ∷ []) tones 3 (decode_block small)
    ≡ pulse (label_at 3 Start) low 0
    ∷ pulse (label_at 3 (Tones 0 0 false)) low 667 ∷ pulse (label_at 3 (Tones 0 0 true)) high 735
    ∷ pulse (label_at 3 (Data 0 0 false)) low 20 ∷ pulse (label_at 3 (Data 0 0 true)) high 20
    ∷ pulse (label_at 3 Pause) low 3500 ∷ []
unfolding entries_of sound_of tones_of tone_of cycles_of is_single start_level cycle_level bit_level edged pause_level data_of byte_of bits_at half_of
    pause_of entry_of run
small_entries = refl

-- a stop: its start, and a pause that never ends, whatever its word
abbrev stop : List ℕ
stop = row_words (0 ∷ 0 ∷ 0 ∷ 0 ∷ 0 ∷ 0 ∷ 0 ∷ 77 ∷ 1 ∷ 1 ∷ 1 ∷ [])

stop_entries : entries_of [] [] 2 (decode_block stop) ≡ pulse (label_at 2 Start) low 0 ∷ endless (label_at 2 Pause) low ∷ []
unfolding entries_of sound_of tones_of data_of start_level bit_level edged pause_level pause_of entry_of run
stop_entries = refl

-- a tape of that block and that stop, and what is left to play from some positions
abbrev small_tape : Tape
small_tape = record { bytes = 7 ∷ 0x80 ∷ []; tones = tones; blocks = small ++ stop; count = 2 }

left_tone :
    left_at small_tape 0 (Tones 0 0 false) (T 5)
    ≡ pulse (label_at 0 (Tones 0 0 false)) low 5 ∷ pulse (label_at 0 (Tones 0 0 true)) high 735
    ∷ pulse (label_at 0 (Data 0 0 false)) low 20 ∷ pulse (label_at 0 (Data 0 0 true)) high 20
    ∷ pulse (label_at 0 Pause) low 3500 ∷ pulse (label_at 1 Start) low 0 ∷ endless (label_at 1 Pause) low ∷ []
unfolding left_at from_second from_edge from_cycle from_tone from_byte from_pause list_from entries_of sound_of tones_of tone_of cycles_of is_single
    start_level cycle_level bit_level edged pause_level data_of byte_of bits_at half_of pause_of entry_of run
left_tone = refl

left_bit :
    left_at small_tape 0 (Data 0 0 true) (T 20)
    ≡ pulse (label_at 0 (Data 0 0 true)) high 20 ∷ pulse (label_at 0 Pause) low 3500 ∷ pulse (label_at 1 Start) low 0 ∷
    endless (label_at 1 Pause) low ∷ []
unfolding left_at from_bit from_byte from_edge from_pause level_at list_from entries_of sound_of tones_of data_of start_level bit_level edged pause_level
    bits_at pause_of entry_of run
left_bit = refl

left_past : left_at small_tape 9 Start (T 0) ≡ []
unfolding left_at list_from run
left_past = refl

-- positions of that tape, and whether they are valid
abbrev positions : List ((ℕ × (Phase × Duration)) × Bool)
positions =
    -- a start at any block number, with 0 left alone
    ((0, (Start, T 0)), true) ∷
    ((9, (Start, T 0)), true) ∷
    ((0, (Start, T 1)), false) ∷
    ((0, (Start, Endless)), false) ∷
    ((9, (Start, T 1)), false) ∷
    -- a tone cycle's half with 1 to its length
    ((0, (Tones 0 0 false, T 0)), false) ∷
    ((0, (Tones 0 0 false, T 1)), true) ∷
    ((0, (Tones 0 0 false, T 667)), true) ∷
    ((0, (Tones 0 0 false, T 668)), false) ∷
    ((0, (Tones 0 0 true, T 735)), true) ∷
    ((0, (Tones 0 0 true, Endless)), false) ∷
    -- no such cycle, row or block
    ((0, (Tones 0 1 false, T 1)), false) ∷
    ((0, (Tones 1 0 false, T 1)), false) ∷
    ((2, (Tones 0 0 false, T 1)), false) ∷
    -- a data bit's half; no such bit or byte
    ((0, (Data 0 0 false, T 20)), true) ∷
    ((0, (Data 0 0 true, T 21)), false) ∷
    ((0, (Data 0 1 false, T 1)), false) ∷
    ((0, (Data 1 0 false, T 1)), false) ∷
    -- a pause, and a stop's
    ((0, (Edge, T 3500)), false) ∷
    ((0, (Pause, T 3500)), true) ∷
    ((0, (Pause, Endless)), false) ∷
    ((1, (Pause, Endless)), true) ∷
    ((1, (Pause, T 77)), false) ∷
    ((2, (Pause, T 0)), false) ∷
    []

abbrev judged : ℕ × (Phase × Duration) → Bool
judged q = valid small_tape q.0 q.1.0 q.1.1

positions_judged : map (λ e. judged e.0) positions ≡ map (λ e. e.1) positions
unfolding valid has_entry length_at remains cycles_of is_single edged bits_at half_of pause_of
positions_judged = refl

-- an entry of no length has 0 left
none_left : valid (record { bytes = []; tones = zeros 4; blocks = row_words (0 ∷ 1 ∷ []); count = 1 }) 0 (Tones 0 0 true) (T 0) ≡ true
unfolding valid has_entry length_at remains cycles_of is_single
none_left = refl
