-- Document rows by computation: each tape's rows with the line of their words, the entries that they give, the line behind.
-- Assumes nothing.
use Prim.Native.Nat.{ℕ}
use mathlib.Core.Path.{◌≡◌, refl}
use mathlib.Core.List.{List, [], ◌∷◌, ◌++◌, map}
use Rattle.law_pulses.specs.Play.{low, high, pulse, endless}
use Rattle.law_pulses.specs.Runs.{run}
use Rattle.rows.specs.Rows.{decode_block}
use Rattle.play_levels.specs.declared.Line.{Line}
use Rattle.play_levels.specs.Voiced.{Bare, lined, quiet, bare}
use Rattle.play_levels.specs.Closed.{times_of, turned, first_level, line_before, line_after}
use Rattle.play_entries.specs.Entries.{entry_of, cycles_of, is_single, line_at, start_level, cycle_level, bit_level, edged, pause_level}
use Rattle.play_entries.specs.Entries.{tone_of, tones_of, bits_at, half_of, byte_of, data_of, pause_of, sound_of, entries_of}
use Rattle.play_entries.specs.Signals.{line_data, line_behind}

-- a row: its tone rows, what of its words is data (start, size, zero, one, last), its pause and flag, its level and played
pub record DocumentRow : Type 0 where
  pub tones : List ℕ
  pub rows : ℕ
  pub data_words : List ℕ
  pub pause : ℕ
  pub endless : ℕ
  pub level : ℕ
  pub played : ℕ

abbrev heard_of : List ℕ → DocumentRow → List Bare × Line
heard_of tape g =
    let r = decode_block
    (0 ∷ g.rows ∷ g.data_words ++ g.pause ∷ g.endless ∷ 0 ∷ 0 ∷ 0 ∷ 0 ∷ 1 ∷ g.level ∷ g.played ∷ []) in
    (bare (entries_of tape g.tones 7 r), line_behind g.tones r)

abbrev none : List ℕ
none = 0 ∷ 0 ∷ 0 ∷ 0 ∷ 0 ∷ []

abbrev tonal : List ℕ → ℕ → ℕ → ℕ → DocumentRow
tonal tones rows level played =
    record { tones = tones; rows = rows; data_words = none; pause = 0; endless = 0; level = level; played = played }

abbrev L : ℕ → Bare
L n = pulse tt low n

abbrev H : ℕ → Bare
H n = pulse tt high n

abbrev cases : List (DocumentRow × (List Bare × Line))
cases =
    -- 12 of 100, counts 0, 1, 3, one behind the other
    (tonal (0 ∷ 100 ∷ 0 ∷ 1 ∷ []) 1 0 0, (L 0 ∷ L 0 ∷ [], lined low low)) ∷
    (tonal (1 ∷ 100 ∷ 0 ∷ 1 ∷ []) 1 0 0, (L 0 ∷ L 100 ∷ H 0 ∷ [], lined high low)) ∷
    (tonal (3 ∷ 100 ∷ 0 ∷ 1 ∷ []) 1 1 0, (H 0 ∷ H 100 ∷ L 100 ∷ H 100 ∷ L 0 ∷ [], lined low high)) ∷
    -- 13 of 5 6 7, 20 of 2 ms, 13 of 7
    (tonal (1 ∷ 5 ∷ 6 ∷ 2 ∷ 1 ∷ 7 ∷ 0 ∷ 1 ∷ []) 2 0 0, (L 0 ∷ L 5 ∷ H 6 ∷ L 7 ∷ H 0 ∷ [], lined high low)) ∷ (
      record { tones = []; rows = 0; data_words = none; pause = 7000; endless = 0; level = 1; played = 0 },
      (H 0 ∷ H 3500 ∷ L 3500 ∷ [], quiet),
    ) ∷
    (tonal (1 ∷ 7 ∷ 0 ∷ 1 ∷ []) 1 0 0, (L 0 ∷ L 7 ∷ H 0 ∷ [], lined high low)) ∷
    -- 11: pilot 9, three pulses; sync 4/6; two bits of 80, zero 10, one 20; pause 1 ms
    (
      record {
        tones = 3 ∷ 9 ∷ 0 ∷ 1 ∷ 1 ∷ 4 ∷ 6 ∷ 2 ∷ [];
        rows = 2;
        data_words = 0 ∷ 1 ∷ 10 ∷ 20 ∷ 2 ∷ [];
        pause = 3500;
        endless = 0;
        level = 0;
        played = 0;
      },
      (L 0 ∷ L 9 ∷ H 9 ∷ L 9 ∷ H 4 ∷ L 6 ∷ H 20 ∷ L 20 ∷ H 10 ∷ L 10 ∷ H 3500 ∷ L 0 ∷ [], quiet),
    ) ∷
    -- the same with no pilot, one bit, no pause
    (
      record {
        tones = 0 ∷ 9 ∷ 0 ∷ 1 ∷ 1 ∷ 4 ∷ 6 ∷ 2 ∷ [];
        rows = 2;
        data_words = 0 ∷ 1 ∷ 10 ∷ 20 ∷ 1 ∷ [];
        pause = 0;
        endless = 0;
        level = 0;
        played = 0;
      },
      (L 0 ∷ L 4 ∷ H 6 ∷ L 20 ∷ H 20 ∷ L 0 ∷ [], lined low high),
    ) ∷
    -- a stop, at high
    (
      record { tones = []; rows = 0; data_words = none; pause = 0; endless = 1; level = 1; played = 0 },
      (H 0 ∷ endless tt low ∷ [], quiet),
    ) ∷
    -- a 19 of 9/4 three times, flags 0 to 3, behind a pulse that was low
    (tonal (3 ∷ 9 ∷ 4 ∷ 2 ∷ []) 1 1 0, (H 0 ∷ H 9 ∷ L 4 ∷ H 9 ∷ L 4 ∷ H 9 ∷ L 4 ∷ H 0 ∷ [], lined high low)) ∷
    (tonal (3 ∷ 9 ∷ 4 ∷ 5 ∷ []) 1 1 0, (H 0 ∷ L 9 ∷ H 4 ∷ H 9 ∷ L 4 ∷ L 9 ∷ H 4 ∷ L 0 ∷ [], lined low high)) ∷
    (tonal (3 ∷ 9 ∷ 4 ∷ 8 ∷ []) 1 1 0, (H 0 ∷ L 9 ∷ H 4 ∷ L 9 ∷ H 4 ∷ L 9 ∷ H 4 ∷ L 0 ∷ [], lined low high)) ∷
    (tonal (3 ∷ 9 ∷ 4 ∷ 11 ∷ []) 1 1 0, (H 0 ∷ H 9 ∷ L 4 ∷ H 9 ∷ L 4 ∷ H 9 ∷ L 4 ∷ H 0 ∷ [], lined high low)) ∷
    -- flag 1 of one pulse behind a pause, where the level last played is low; and a wave without pulses
    (tonal (1 ∷ 9 ∷ 0 ∷ 4 ∷ []) 1 0 0, (L 0 ∷ L 9 ∷ H 0 ∷ [], lined high low)) ∷
    (tonal (3 ∷ 9 ∷ 4 ∷ 3 ∷ []) 1 1 0, (H 0 ∷ H 0 ∷ [], lined high low)) ∷
    []

heard_so : map (λ e. heard_of (0x80 ∷ []) e.0) cases ≡ map (λ e. e.1) cases
unfolding bare entries_of sound_of tones_of tone_of cycles_of is_single line_at start_level cycle_level bit_level edged pause_level data_of byte_of
    bits_at half_of pause_of entry_of run line_data line_behind times_of turned first_level line_before line_after
heard_so = refl
