-- LINES OF REAL RUNS, by computation: what the oracle's `play` prints of two tapes, and the same tapes under the measured player.
-- Assumes nothing.
use Prim.Native.Nat.{ℕ}
use mathlib.Core.Path.{◌≡◌, refl}
use mathlib.Core.Bool.{true, false}
use mathlib.Core.List.{List, [], ◌∷◌, ◌++◌}
use Rattle.law_pulses.specs.Play.{answer, rest, over, status_here, status}
use Rattle.law_pulses.specs.Runs.{run}
use Rattle.law_pulses.specs.Source.{after, turn, turns, sourced, reached}
use Rattle.rows.specs.Well.{well_ranges, well_tone, well_numbers, well_cases, well_tones, well_block}
use Rattle.rows.proofs.Samples.{row_words}
use Rattle.text_out.specs.Out.{ascii, digits, decimal}
use Rattle.play_entries.specs.Entries.{entry_of, cycles_of, is_single, start_level, cycle_level, bit_level, edged, pause_level, tone_of, tones_of}
use Rattle.play_entries.specs.Entries.{bits_at, half_of, byte_of, data_of, pause_of, sound_of, entries_of}
use Rattle.play_entries.specs.Places.{Tape, list_from, level_at, from_pause, from_edge, from_second, from_byte, from_bit, from_tone, from_cycle}
use Rattle.play_entries.specs.Places.{left_at, has_entry, length_at, remains, valid, head_of, left_of}
use Rattle.play_entries.specs.Mounted.{well_row, first_bad, formed, tape_of}
use Rattle.play_walk.specs.declared.Position.{Position}
use Rattle.play_walk.specs.Heads.{start_at, level_here, rest_level, told_as, told_reached, walked, walk_from}
use Rattle.play_deck.specs.Deck.{ruled_out, ill_formed, judged, unless, play_measured, source_answer, source_from, play_source, back_to}
use Rattle.play_deck.specs.Deck.{block_of, block_at}
use Rattle.play_deck.specs.Calls.{position_in}
use Rattle.text_trace.specs.Lines as lines
use Rattle.text_trace.specs.Lines.{selected_text, source_line, measured_line, line_of}
use Rattle.text_value.specs.Values.{flag, duration_text}
use Rattle.text_trace.specs.Places.{spaced, numbers, phase_text, left_text, place_text}

-- the lines of calls, each from where the head then stands: of the source's play, of the measured player
unfoldable sources : Tape → Position → List ℕ → List ℕ
sources w q [] = []
sources w q (n ∷ ns) =
    let r = play_source w q n in
    line_of false r (block_at w (position_in q r)) ++ sources w (position_in q r) ns

unfoldable measures : Tape → Position → List ℕ → List ℕ
measures w q [] = []
measures w q (n ∷ ns) =
    let r = play_measured w q n in
    line_of true r (block_at w (position_in q r)) ++ measures w (position_in q r) ns

-- 12 of 100 and 4; 14 of zero 10, one 20, last bits 2, pause 1 ms, bytes 80 C0; a stop
abbrev stopping : Tape
stopping =
    tape_of (90 ∷ 88 ∷ 84 ∷ 97 ∷ 112 ∷ 101 ∷ 33 ∷ 26 ∷ 1 ∷ 20 ∷ 18 ∷ 100 ∷ 0 ∷ 4 ∷ 0 ∷ 20 ∷ 10 ∷ 0 ∷
    20 ∷ 0 ∷ 2 ∷ 1 ∷ 0 ∷ 2 ∷ 0 ∷ 0 ∷ 128 ∷ 192 ∷ 32 ∷ 0 ∷ 0 ∷ [])
    (2 ∷ 100 ∷ 100 ∷ 0 ∷ 0 ∷ 0 ∷ 0 ∷ 0 ∷ 1 ∷ 0 ∷ 0 ∷ 0 ∷ [])
    (row_words (0 ∷ 1 ∷ []) ++ row_words (1 ∷ 2 ∷ 26 ∷ 2 ∷ 10 ∷ 20 ∷ 2 ∷ 3500 ∷ 0 ∷ 1 ∷ [])
    ++ row_words (3 ∷ 0 ∷ 0 ∷ 0 ∷ 0 ∷ 0 ∷ 0 ∷ 0 ∷ 1 ∷ 1 ∷ 1 ∷ []))
    3

-- 12 of 100 and 5; a pause of 1 ms
abbrev ending : Tape
ending =
    tape_of (90 ∷ 88 ∷ 84 ∷ 97 ∷ 112 ∷ 101 ∷ 33 ∷ 26 ∷ 1 ∷ 20 ∷ 18 ∷ 100 ∷ 0 ∷ 5 ∷ 0 ∷ 32 ∷ 1 ∷ 0 ∷ [])
    (1 ∷ 0 ∷ 100 ∷ 0 ∷ 2 ∷ 100 ∷ 100 ∷ 0 ∷ [])
    (row_words (0 ∷ 2 ∷ []) ++ row_words (2 ∷ 0 ∷ 0 ∷ 0 ∷ 0 ∷ 0 ∷ 0 ∷ 3500 ∷ []))
    2

-- oracle play 4 FILE 1 5 11 9 7 12 3 4000: through the data to the stop
data_said : sources stopping (start_at 1) (5 ∷ 11 ∷ 9 ∷ 7 ∷ 12 ∷ 3 ∷ 4000 ∷ []) ≡
    ascii "1 data 0 0 0 left 15 level 0 selected 1\n"
    ++ ascii "1 data 0 0 0 left 4 level 0 selected 1\n"
    ++ ascii "1 data 0 0 1 left 15 level 1 selected 1\n"
    ++ ascii "1 data 0 0 1 left 8 level 1 selected 1\n"
    ++ ascii "1 data 0 1 0 left 6 level 0 selected 1\n"
    ++ ascii "1 data 0 1 0 left 3 level 0 selected 1\n"
    ++ ascii "2 pause left endless level 0 selected 2\n"
unfolding sources play_source unless judged ruled_out ill_formed well_row well_block well_ranges well_numbers well_cases well_tones well_tone valid
    has_entry remains length_at source_from source_answer sourced turns turn after reached walked formed first_bad told_reached told_as level_here
    rest_level head_of left_of status_here left_at list_from level_at from_pause from_edge from_second from_byte from_bit from_tone from_cycle entries_of
    sound_of tones_of tone_of cycles_of is_single start_level cycle_level bit_level edged pause_level data_of byte_of bits_at half_of pause_of entry_of run
    position_in block_of back_to line_of source_line lines.came_line lines.stand_line place_text left_text duration_text phase_text numbers spaced flag
    selected_text decimal digits
data_said = refl

-- oracle play 4 FILE 0 50 100 130 1000 5000: entries dropped, and the endless pause
stop_said : sources stopping (start_at 0) (50 ∷ 100 ∷ 130 ∷ 1000 ∷ 5000 ∷ []) ≡
    ascii "0 tone 0 0 0 left 50 level 0 selected 0\n"
    ++ ascii "0 tone 0 0 1 left 50 level 1 selected 0\n"
    ++ ascii "0 tone 0 1 0 left 20 level 0 selected 0\n"
    ++ ascii "1 pause left 2520 level 0 selected 1\n"
    ++ ascii "2 pause left endless level 0 selected 2\n"
unfolding sources play_source unless judged ruled_out ill_formed well_row well_block well_ranges well_numbers well_cases well_tones well_tone valid
    has_entry remains length_at source_from source_answer sourced turns turn after reached walked formed first_bad told_reached told_as level_here
    rest_level head_of left_of status_here left_at list_from level_at from_pause from_edge from_second from_byte from_bit from_tone from_cycle entries_of
    sound_of tones_of tone_of cycles_of is_single start_level cycle_level bit_level edged pause_level data_of byte_of bits_at half_of pause_of entry_of run
    position_in block_of back_to line_of source_line lines.came_line lines.stand_line place_text left_text duration_text phase_text numbers spaced flag
    selected_text decimal digits
stop_said = refl

-- oracle play 4 FILE 0 1 99 500 3000 600: to the end
end_said : sources ending (start_at 0) (1 ∷ 99 ∷ 500 ∷ 3000 ∷ 600 ∷ []) ≡
    ascii "0 tone 0 0 1 left 99 level 1 selected 0\n"
    ++ ascii "0 tone 1 0 0 left 100 level 0 selected 0\n"
    ++ ascii "1 pause left 3100 level 0 selected 0\n"
    ++ ascii "1 pause left 100 level 0 selected 0\n"
    ++ ascii "ended\n"
unfolding sources play_source unless judged ruled_out ill_formed well_row well_block well_ranges well_numbers well_cases well_tones well_tone valid
    has_entry remains length_at source_from source_answer sourced turns turn after reached walked formed first_bad told_reached told_as level_here
    rest_level head_of left_of status_here left_at list_from level_at from_pause from_edge from_second from_byte from_bit from_tone from_cycle entries_of
    sound_of tones_of tone_of cycles_of is_single start_level cycle_level bit_level edged pause_level data_of byte_of bits_at half_of pause_of entry_of run
    position_in block_of back_to line_of source_line lines.came_line lines.stand_line place_text left_text duration_text phase_text numbers spaced flag
    selected_text decimal digits
end_said = refl

-- the measured player, the same tape: no entry is dropped, and it goes on after the end
measured_said : measures ending (start_at 0) (1 ∷ 99 ∷ 500 ∷ 3401 ∷ 1 ∷ []) ≡
    ascii "stands passed 2 at 0 tone 0 0 1 left 99 level 1 selected 0\n"
    ++ ascii "stands passed 1 at 0 tone 1 0 0 left 100 level 0 selected 0\n"
    ++ ascii "stands passed 6 at 1 pause left 3400 level 0 selected 0\n"
    ++ ascii "ended passed 1 at 2 start left 0 level 0 selected 4294967295\n"
    ++ ascii "ended passed 0 at 2 start left 0 level 0 selected 4294967295\n"
unfolding measures play_measured unless judged ruled_out ill_formed well_row well_block well_ranges well_numbers well_cases well_tones well_tone valid
    has_entry remains length_at walk_from walked formed first_bad told_reached told_as level_here rest_level head_of left_of answer rest over
    status_here status left_at list_from level_at from_pause from_edge from_second from_byte from_bit from_tone from_cycle entries_of sound_of tones_of
    tone_of cycles_of is_single start_level cycle_level bit_level edged pause_level data_of byte_of bits_at half_of pause_of entry_of run position_in
    block_of back_to line_of measured_line lines.how_text lines.passed_line lines.stand_line place_text left_text duration_text phase_text numbers spaced flag
    selected_text decimal digits
measured_said = refl
