-- THE P READINGS (rule 118) about times and about the players' places, one table and one theorem each, computed. Assumes nothing.
use Prim.Native.Nat.{ℕ}
use mathlib.Core.Path.{◌≡◌, refl}
use mathlib.Core.Bool.{true, false}
use mathlib.Core.List.{List, [], ◌∷◌, ◌++◌, map}
use Rattle.law_pulses.specs.Play.{low, high, Entry, pulse, rest, over, status_here, status, answer, time, comes_to}
use Rattle.law_pulses.specs.Source.{Outcome, heard, source, sourced, reached, turns, turn, after}
use Rattle.law_pulses.specs.Runs.{run}
use Rattle.law_pulses.specs.Sounding.{ends_at, sounding_time}
use Rattle.rows.specs.Rows.{decode_block}
use Rattle.rows.proofs.Samples.{row_words}
use Rattle.play_entries.specs.declared.Phase.TheVariants.{Tones, Pause}
use Rattle.play_entries.specs.declared.Duration.{Duration}
use Rattle.play_entries.specs.declared.Duration.TheVariants.{T}
use Rattle.play_entries.specs.Entries.{Label, label_at, entry_of, cycles_of, is_single, start_level, cycle_level, bit_level, edged}
use Rattle.play_entries.specs.Entries.{pause_level, tone_of, tones_of, bits_at, half_of, byte_of, data_of, pause_of, sound_of}
use Rattle.play_entries.specs.Entries.{entries_of, lasts_of}
use Rattle.play_levels.specs.Closed.{times_of}
use Rattle.play_entries.specs.Places.{Tape, list_from, load_time}
use Rattle.play_entries.specs.Mounted.{tape_of}

-- a document row: its first tone row, how many it has, its pause
abbrev document_row : ℕ → ℕ → ℕ → List ℕ
document_row tone tones pause = row_words (tone ∷ tones ∷ 0 ∷ 0 ∷ 0 ∷ 0 ∷ 0 ∷ pause ∷ 0 ∷ 0 ∷ 0 ∷ 0 ∷ 0 ∷ 1 ∷ [])

-- a reading: the tape's bytes, the tone table and the block row that it gives, and the T-states it is to have
pub record TimeReading : Type 0 where
  pub tape : List ℕ
  pub tones : List ℕ
  pub row : List ℕ
  pub lasts : Duration

abbrev reading : List ℕ → List ℕ → List ℕ → ℕ → TimeReading
reading tape tones row t = record { tape = tape; tones = tones; row = row; lasts = T t }

abbrev pub readings : List TimeReading
readings =
    -- 12 with length 100, count 1: a tone 0/100, then 0 cycles, which are one
    reading [] (1 ∷ 0 ∷ 100 ∷ 0 ∷ 0 ∷ 100 ∷ 100 ∷ 0 ∷ [])
    (0 ∷ 2 ∷ 0 ∷ 0 ∷ 0 ∷ 0 ∷ 0 ∷ 0 ∷ 0 ∷ 0 ∷ 0 ∷ 0 ∷ 0 ∷ 0 ∷ 0 ∷ 0 ∷ []) 300 ∷
    -- 12 with count 0
    reading [] (0 ∷ 100 ∷ 100 ∷ 0 ∷ [])
    (0 ∷ 1 ∷ 0 ∷ 0 ∷ 0 ∷ 0 ∷ 0 ∷ 0 ∷ 0 ∷ 0 ∷ 0 ∷ 0 ∷ 0 ∷ 0 ∷ 0 ∷ 0 ∷ []) 200 ∷
    -- pure data byte 80, zero 10, one 20, last bits 0, pause 0
    reading (0x80 ∷ []) (0 ∷ 0 ∷ 0 ∷ 0 ∷ 1 ∷ 0 ∷ 0 ∷ 0 ∷ 0 ∷ 0 ∷ 0 ∷ [])
    (0 ∷ 2 ∷ 0 ∷ 1 ∷ 10 ∷ 20 ∷ 0 ∷ 0 ∷ 0 ∷ 1 ∷ 0 ∷ 0 ∷ 0 ∷ 0 ∷ 0 ∷ 0 ∷ []) 40 ∷
    -- `01 00 FF`: 1,612 cycles, pause 7,000,000
    reading (0x01 ∷ 0x00 ∷ 0xFF ∷ []) (1612 ∷ 2168 ∷ 2168 ∷ 0 ∷ 1 ∷ 667 ∷ 735 ∷ 0 ∷ [])
    (0 ∷ 2 ∷ 2 ∷ 1 ∷ 855 ∷ 1710 ∷ 8 ∷ 7000000 ∷ 0 ∷ 1 ∷ 0 ∷ 0 ∷ 0 ∷ 0 ∷ 0 ∷ 0 ∷ []) 14018394 ∷
    -- `00 00`: 4,032 cycles, and a header's pause
    reading (0x00 ∷ 0x00 ∷ []) (4032 ∷ 2168 ∷ 2168 ∷ 0 ∷ 1 ∷ 667 ∷ 735 ∷ 0 ∷ [])
    (0 ∷ 2 ∷ 2 ∷ 0 ∷ 855 ∷ 1710 ∷ 8 ∷ 3500000 ∷ 0 ∷ 1 ∷ 0 ∷ 0 ∷ 0 ∷ 0 ∷ 0 ∷ 0 ∷ []) 20984154 ∷
    []

pub times_said : map (λ e. lasts_of (entries_of e.tape e.tones 0 (decode_block e.row))) readings ≡ map (λ e. e.lasts) readings
unfolding lasts_of comes_to time entries_of sound_of tones_of tone_of cycles_of is_single start_level cycle_level bit_level edged pause_level data_of
    byte_of bits_at half_of pause_of entry_of run
times_said = refl

-- the loading time, of tones of 400 T: a document row's closing pause doesn't count, neither its edge nor the rest; before a tone both do;
-- a tone of no length behind it is no end
abbrev pub loads : List (Tape × ℕ)
loads =
    (tape_of [] (2 ∷ 100 ∷ 100 ∷ 2 ∷ []) (document_row 0 1 7000) 1, 400) ∷
    (tape_of [] (2 ∷ 100 ∷ 100 ∷ 2 ∷ []) (document_row 0 1 7000 ++ document_row 0 1 7000) 2, 7800) ∷
    (tape_of [] (2 ∷ 100 ∷ 100 ∷ 2 ∷ 9 ∷ 0 ∷ 0 ∷ 2 ∷ []) (document_row 0 1 7000 ++ document_row 1 1 7000) 2, 400) ∷
    []

pub loads_said : map (λ e. load_time e.0) loads ≡ map (λ e. e.1) loads
unfolding sounding_time ends_at list_from entries_of sound_of tones_of tone_of cycles_of times_of is_single start_level cycle_level bit_level edged
    pause_level data_of pause_of entry_of run
loads_said = refl

-- a sole 12 of 100 and 4: its list, from its start
abbrev sole : List (Entry Label)
sole = list_from (record { bytes = []; tones = 2 ∷ 100 ∷ 100 ∷ 0 ∷ []; blocks = row_words (0 ∷ 1 ∷ []); count = 1 }) 0

abbrev at : List (Entry Label) → Outcome Label
at es = record { place = es; done = false }

abbrev highs : List (Entry Label)
highs =
    pulse (label_at 0 (Tones 0 0 true)) high 100
    ∷ pulse (label_at 0 (Tones 0 1 false)) low 100 ∷ pulse (label_at 0 (Tones 0 1 true)) high 100 ∷ pulse (label_at 0 Pause) low 0 ∷ []

-- where each count leaves the measured player and the source's
abbrev pub places : List (ℕ × (Outcome Label × Outcome Label))
places =
    -- 99: both in the first half with 1 left
    (99, (at (pulse (label_at 0 (Tones 0 0 false)) low 1 ∷ highs), at (pulse (label_at 0 (Tones 0 0 false)) low 1 ∷ highs))) ∷
    -- 100: the measured one at the high half, full, the source's ended
    (100, (at highs, record { place = []; done = true })) ∷
    []

pub places_said : map (λ e. (heard (answer sole e.0), source sole e.0)) places ≡ map (λ e. e.1) places
unfolding heard answer rest over status status_here sourced reached turns turn after list_from entries_of sound_of tones_of tone_of cycles_of
    is_single start_level cycle_level bit_level edged pause_level data_of pause_of entry_of run
places_said = refl
