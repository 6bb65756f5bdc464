-- Each way out of `kept`, with a piece on which the two readings are computed and differ. Assumes nothing.
use Prim.Native.Nat.{ℕ}
use mathlib.Core.Path.{◌≡◌, refl}
use mathlib.Core.Bool.{Bool, false}
use mathlib.Core.List.{List, [], ◌∷◌, ◌++◌, map}
use lib.ListN.{length, replicate}
use Rattle.refusals.specs.Refusals.{generalised}
use Rattle.cut_fields.specs.Field.{le_at, number_at, field_at, place_of}
use Rattle.cut_fields.specs.Run.{times, each_at, groups_at}
use Rattle.law_pulses.specs.Runs.{run}
use Rattle.rows.specs.Table.{table_over}
use Rattle.play_entries.specs.Entries.{entry_of, cycles_of, is_single, start_level, cycle_level, bit_level, edged, pause_level, tone_of, tones_of}
use Rattle.play_entries.specs.Entries.{bits_at, half_of, byte_of, data_of, pause_of, sound_of, entries_of}
use Rattle.cut_grammar.specs.Grammar.{counted_at, pass_at, texts_at, whole_at, sealed, enclosed, fitting_at, read_at, binary_digits}
use Rattle.cut_grammar.specs.Grammar.{or_full, held_if}
use Rattle.cut_grammar.specs.Kinds.{kind10, kind11, kind12, kind13, kind14, stream19, kind19, kind20, kind21, kind22, kind24, kind25}
use Rattle.cut_grammar.specs.Kinds.{kind_2a, kind30, kind31, info32, kind32, kind33, kind35, kind_5a, kinds, kind_of}
use Rattle.cut_grammar.specs.Cut.{taken_as, cut_at}
use Rattle.load_general.specs.General.{symbol_at, before, rows_from, cycles, entry_symbol, entry_repeat, entry_row, pilot_of, equal_halves}
use Rattle.load_general.specs.General.{ordinary, used_bits, symbol_number, single_row, pair_row, singles_of, pairs_of, data_part, with_pilot}
use Rattle.load_general.specs.General.{with_data, general_of}
use Rattle.load_state.specs.Parser.{on, empty, ◌⟫◌, add_tones, add_block, pend, open_loop, end_group, last_paused, paused, close_loop, closed}
use Rattle.load_state.specs.Parser.{copies, copy_rows}
use Rattle.load_blocks.specs.Sounds.{row_of, add_sound, add_sounds}
use Rattle.load_blocks.specs.Blocks.{standard_header, standard_cycles, standard_tones, turbo_tones, pure_tones, pure_tone_tones, pulse_at}
use Rattle.load_blocks.specs.Blocks.{standard_sound, turbo_sound, pair_sounds, pure_sound, pause_sound}
use Rattle.load_blocks.specs.Adds.{add_rows}
use Rattle.load_blocks.specs.Deeds.{general_deed, stop48_deed, does}
use Rattle.load_source.specs.Meaning.{deed_of}
use Rattle.load_source.specs.Source.{act, halted, read_on, seeing, fold_from, tzx_of, tzx_see}
use Rattle.load_source.specs.Source as source
use Rattle.law_tzx.specs.Format.{PulseLength, lasts, forever, each, bit_pulses, bits_in, byte_pulses, data_pulses, bits_said}
use Rattle.law_tzx.specs.Format.{pilot_count, format10, format11, format12, format13, format14, wave_from, symbol_pulse, wave_of}
use Rattle.law_tzx.specs.Format.{pilot_symbol, repetitions, pilot_pulses, bit_at, group_at, data_number, symbol_pulses, every}
use Rattle.law_tzx.specs.Format.{symbols_said, format19, format20, format_2a, format_of, lengths_of, lasting}
use Rattle.law_tzx.specs.Kept.{even_count, kept11, kept12, kept13, first_pulse, second_pulse, whole_wave, kept_times, kept_entry}
use Rattle.law_tzx.specs.Kept.{kept_pilot, kept_symbol, kept_pairs, kept_data, kept19, kept, length_of, entries_from}
use Rattle.law_tzx.specs.Format.{again}
use Rattle.law_tzx.specs.Cut.{format_cut}
use Rattle.law_tzx.specs.Heard.{HeardOn, plays, refused, errs, nothing, most, heard_in, played_by, format_on, source_on}
use Rattle.law_tzx.specs.Heard.{kept_on, format_at}
use Rattle.law_tzx.specs.Heard.{source_heard, kept_at, same_length, same_lengths, same_heard}
use Rattle.law_tzx.proofs.Examples.{Example, row}

unfoldable pub ways : List Example
ways =
    -- 11, an odd pilot: one pulse, or one cycle
    row (0x11 ∷ 0x64 ∷ 0x00 ∷ 0x65 ∷ 0x00 ∷ 0x66 ∷ 0x00 ∷ 0x04 ∷ 0x00 ∷ 0x05 ∷ 0x00 ∷ 0x01 ∷ 0x00 ∷ 0x08 ∷
    0x00 ∷ 0x00 ∷ 0x00 ∷ 0x00 ∷ 0x00 ∷ []) false (plays (lasts 100 ∷ lasts 101 ∷ lasts 102 ∷ []))
    (plays (lasts 100 ∷ lasts 100 ∷ lasts 101 ∷ lasts 102 ∷ [])) ∷
    -- 11, no pilot: none, or one cycle
    row (0x11 ∷ 0x64 ∷ 0x00 ∷ 0x65 ∷ 0x00 ∷ 0x66 ∷ 0x00 ∷ 0x04 ∷ 0x00 ∷ 0x05 ∷ 0x00 ∷ 0x00 ∷ 0x00 ∷ 0x08 ∷
    0x00 ∷ 0x00 ∷ 0x00 ∷ 0x00 ∷ 0x00 ∷ []) false (plays (lasts 101 ∷ lasts 102 ∷ []))
    (plays (lasts 100 ∷ lasts 100 ∷ lasts 101 ∷ lasts 102 ∷ [])) ∷
    -- 11, last bits 0 and 9: 1 to 8 are said
    row (0x11 ∷ 0x64 ∷ 0x00 ∷ 0x65 ∷ 0x00 ∷ 0x66 ∷ 0x00 ∷ 0x04 ∷ 0x00 ∷ 0x05 ∷ 0x00 ∷ 0x02 ∷ 0x00 ∷ 0x00 ∷
    0x00 ∷ 0x00 ∷ 0x01 ∷ 0x00 ∷ 0x00 ∷ 0x80 ∷ []) false nothing
    (plays (lasts 100 ∷ lasts 100 ∷ lasts 101 ∷ lasts 102 ∷ lasts 5 ∷ lasts 5 ∷ [])) ∷
    row (0x11 ∷ 0x64 ∷ 0x00 ∷ 0x65 ∷ 0x00 ∷ 0x66 ∷ 0x00 ∷ 0x04 ∷ 0x00 ∷ 0x05 ∷ 0x00 ∷ 0x02 ∷ 0x00 ∷ 0x09 ∷
    0x00 ∷ 0x00 ∷ 0x01 ∷ 0x00 ∷ 0x00 ∷ 0x80 ∷ []) false nothing (plays (lasts 100 ∷ lasts 100 ∷ lasts 101 ∷ lasts 102 ∷
    lasts 5 ∷ lasts 5 ∷ lasts 4 ∷ lasts 4 ∷ lasts 4 ∷ lasts 4 ∷ lasts 4 ∷ lasts 4 ∷ lasts 4 ∷ lasts 4 ∷ lasts 4 ∷
    lasts 4 ∷ lasts 4 ∷ lasts 4 ∷ lasts 4 ∷ lasts 4 ∷ lasts 4 ∷ lasts 4 ∷ [])) ∷
    -- 12 of count 1: a pulse, or three
    row (0x12 ∷ 0x64 ∷ 0x00 ∷ 0x01 ∷ 0x00 ∷ []) false (plays (lasts 100 ∷ []))
    (plays (lasts 100 ∷ lasts 100 ∷ lasts 100 ∷ [])) ∷
    -- 12 of count 0: nothing, or a cycle
    row (0x12 ∷ 0x64 ∷ 0x00 ∷ 0x00 ∷ 0x00 ∷ []) false (plays []) (plays (lasts 100 ∷ lasts 100 ∷ [])) ∷
    -- 13, an odd last pulse: played, or dropped
    row (0x13 ∷ 0x03 ∷ 0x01 ∷ 0x00 ∷ 0x02 ∷ 0x00 ∷ 0x03 ∷ 0x00 ∷ []) false (plays (lasts 1 ∷ lasts 2 ∷ lasts 3 ∷ []))
    (plays (lasts 1 ∷ lasts 2 ∷ [])) ∷
    -- 14, last bits 0 and 9: 1 to 8 are said
    row (0x14 ∷ 0x0A ∷ 0x00 ∷ 0x14 ∷ 0x00 ∷ 0x00 ∷ 0x00 ∷ 0x00 ∷ 0x01 ∷ 0x00 ∷ 0x00 ∷ 0x80 ∷ []) false nothing
    (plays (lasts 20 ∷ lasts 20 ∷ [])) ∷
    row (0x14 ∷ 0x0A ∷ 0x00 ∷ 0x14 ∷ 0x00 ∷ 0x09 ∷ 0x00 ∷ 0x00 ∷ 0x01 ∷ 0x00 ∷ 0x00 ∷ 0x80 ∷ []) false nothing
    (plays (lasts 20 ∷ lasts 20 ∷ lasts 10 ∷ lasts 10 ∷ lasts 10 ∷ lasts 10 ∷ lasts 10 ∷ lasts 10 ∷ lasts 10 ∷
    lasts 10 ∷ lasts 10 ∷ lasts 10 ∷ lasts 10 ∷ lasts 10 ∷ lasts 10 ∷ lasts 10 ∷ lasts 10 ∷ lasts 10 ∷ [])) ∷
    -- 24 of no times and of one: above 1 is said
    row (0x24 ∷ 0x00 ∷ 0x00 ∷ []) false nothing (plays []) ∷
    row (0x24 ∷ 0x01 ∷ 0x00 ∷ []) false nothing (plays []) ∷
    -- 2A of a length other than 0: not said, an error
    row (0x2A ∷ 0x01 ∷ 0x00 ∷ 0x00 ∷ 0x00 ∷ []) false nothing errs ∷
    -- 19, a one-pulse pilot symbol, an odd number of times: once, or one cycle
    row (0x19 ∷ 0x1B ∷ 0x00 ∷ 0x00 ∷ 0x00 ∷ 0x00 ∷ 0x00 ∷ 0x01 ∷ 0x00 ∷ 0x00 ∷ 0x00 ∷ 0x01 ∷ 0x01 ∷ 0x02 ∷
    0x00 ∷ 0x00 ∷ 0x00 ∷ 0x01 ∷ 0x02 ∷ 0x00 ∷ 0x64 ∷ 0x00 ∷ 0x00 ∷ 0x01 ∷ 0x00 ∷ 0x00 ∷ 0x65 ∷ 0x00 ∷ 0x00 ∷
    0x66 ∷ 0x00 ∷ 0x40 ∷ []) false (plays (lasts 100 ∷ lasts 101 ∷ lasts 102 ∷ []))
    (plays (lasts 100 ∷ lasts 100 ∷ lasts 101 ∷ lasts 102 ∷ [])) ∷
    -- and no times: not at all, or one cycle
    row (0x19 ∷ 0x1B ∷ 0x00 ∷ 0x00 ∷ 0x00 ∷ 0x00 ∷ 0x00 ∷ 0x01 ∷ 0x00 ∷ 0x00 ∷ 0x00 ∷ 0x01 ∷ 0x01 ∷ 0x02 ∷
    0x00 ∷ 0x00 ∷ 0x00 ∷ 0x01 ∷ 0x02 ∷ 0x00 ∷ 0x64 ∷ 0x00 ∷ 0x00 ∷ 0x00 ∷ 0x00 ∷ 0x00 ∷ 0x65 ∷ 0x00 ∷ 0x00 ∷
    0x66 ∷ 0x00 ∷ 0x40 ∷ []) false (plays (lasts 101 ∷ lasts 102 ∷ []))
    (plays (lasts 100 ∷ lasts 100 ∷ lasts 101 ∷ lasts 102 ∷ [])) ∷
    -- and 65,535 times, of a pulse of 0: nothing, or refusal 4
    row (0x19 ∷ 0x1B ∷ 0x00 ∷ 0x00 ∷ 0x00 ∷ 0x00 ∷ 0x00 ∷ 0x01 ∷ 0x00 ∷ 0x00 ∷ 0x00 ∷ 0x01 ∷ 0x01 ∷ 0x02 ∷
    0x00 ∷ 0x00 ∷ 0x00 ∷ 0x01 ∷ 0x02 ∷ 0x00 ∷ 0x00 ∷ 0x00 ∷ 0x00 ∷ 0xFF ∷ 0xFF ∷ 0x00 ∷ 0x65 ∷ 0x00 ∷ 0x00 ∷
    0x66 ∷ 0x00 ∷ 0x40 ∷ []) false (plays (lasts 101 ∷ lasts 102 ∷ [])) (refused generalised) ∷
    -- a two-pulse pilot symbol, no times: not at all, or once
    row (0x19 ∷ 0x1D ∷ 0x00 ∷ 0x00 ∷ 0x00 ∷ 0x00 ∷ 0x00 ∷ 0x01 ∷ 0x00 ∷ 0x00 ∷ 0x00 ∷ 0x02 ∷ 0x01 ∷ 0x02 ∷
    0x00 ∷ 0x00 ∷ 0x00 ∷ 0x01 ∷ 0x02 ∷ 0x00 ∷ 0x64 ∷ 0x00 ∷ 0x65 ∷ 0x00 ∷ 0x00 ∷ 0x00 ∷ 0x00 ∷ 0x00 ∷ 0x65 ∷
    0x00 ∷ 0x00 ∷ 0x66 ∷ 0x00 ∷ 0x40 ∷ []) false (plays (lasts 101 ∷ lasts 102 ∷ []))
    (plays (lasts 100 ∷ lasts 101 ∷ lasts 101 ∷ lasts 102 ∷ [])) ∷
    -- its first pulse 0: the wave ends there, or goes on
    row (0x19 ∷ 0x1D ∷ 0x00 ∷ 0x00 ∷ 0x00 ∷ 0x00 ∷ 0x00 ∷ 0x01 ∷ 0x00 ∷ 0x00 ∷ 0x00 ∷ 0x02 ∷ 0x01 ∷ 0x02 ∷
    0x00 ∷ 0x00 ∷ 0x00 ∷ 0x01 ∷ 0x02 ∷ 0x00 ∷ 0x00 ∷ 0x00 ∷ 0x65 ∷ 0x00 ∷ 0x00 ∷ 0x01 ∷ 0x00 ∷ 0x00 ∷ 0x65 ∷
    0x00 ∷ 0x00 ∷ 0x66 ∷ 0x00 ∷ 0x40 ∷ []) false (plays (lasts 101 ∷ lasts 102 ∷ []))
    (plays (lasts 101 ∷ lasts 101 ∷ lasts 102 ∷ [])) ∷
    -- a pilot symbol not below its alphabet: not said, or refusal 4
    row (0x19 ∷ 0x1B ∷ 0x00 ∷ 0x00 ∷ 0x00 ∷ 0x00 ∷ 0x00 ∷ 0x01 ∷ 0x00 ∷ 0x00 ∷ 0x00 ∷ 0x01 ∷ 0x01 ∷ 0x02 ∷
    0x00 ∷ 0x00 ∷ 0x00 ∷ 0x01 ∷ 0x02 ∷ 0x00 ∷ 0x64 ∷ 0x00 ∷ 0x01 ∷ 0x02 ∷ 0x00 ∷ 0x00 ∷ 0x65 ∷ 0x00 ∷ 0x00 ∷
    0x66 ∷ 0x00 ∷ 0x40 ∷ []) false nothing (refused generalised) ∷
    -- pilot symbols of no pulse: nothing, or a stop
    row (0x19 ∷ 0x19 ∷ 0x00 ∷ 0x00 ∷ 0x00 ∷ 0x00 ∷ 0x00 ∷ 0x01 ∷ 0x00 ∷ 0x00 ∷ 0x00 ∷ 0x00 ∷ 0x01 ∷ 0x02 ∷
    0x00 ∷ 0x00 ∷ 0x00 ∷ 0x01 ∷ 0x02 ∷ 0x00 ∷ 0x00 ∷ 0x02 ∷ 0x00 ∷ 0x00 ∷ 0x65 ∷ 0x00 ∷ 0x00 ∷ 0x66 ∷ 0x00 ∷
    0x40 ∷ []) false (plays (lasts 101 ∷ lasts 102 ∷ [])) (plays (forever ∷ [])) ∷
    -- pilot symbols of three pulses: these, or a stop
    row (0x19 ∷ 0x1F ∷ 0x00 ∷ 0x00 ∷ 0x00 ∷ 0x00 ∷ 0x00 ∷ 0x01 ∷ 0x00 ∷ 0x00 ∷ 0x00 ∷ 0x03 ∷ 0x01 ∷ 0x02 ∷
    0x00 ∷ 0x00 ∷ 0x00 ∷ 0x01 ∷ 0x02 ∷ 0x00 ∷ 0x01 ∷ 0x00 ∷ 0x02 ∷ 0x00 ∷ 0x03 ∷ 0x00 ∷ 0x00 ∷ 0x01 ∷ 0x00 ∷
    0x00 ∷ 0x65 ∷ 0x00 ∷ 0x00 ∷ 0x66 ∷ 0x00 ∷ 0x40 ∷ []) false
    (plays (lasts 1 ∷ lasts 2 ∷ lasts 3 ∷ lasts 101 ∷ lasts 102 ∷ [])) (plays (forever ∷ [])) ∷
    -- a length too short by one, and none: the tables do not fit, or are read all the same
    row
    (0x19 ∷ 0x14 ∷ 0x00 ∷ 0x00 ∷ 0x00 ∷ 0x00 ∷ 0x00 ∷ 0x00 ∷ 0x00 ∷ 0x00 ∷ 0x00 ∷ 0x00 ∷ 0x00 ∷ 0x04 ∷ 0x00 ∷
    0x00 ∷ 0x00 ∷ 0x01 ∷ 0x02 ∷
    0x00 ∷ 0x01 ∷ 0x00 ∷ 0x00 ∷ 0x02 ∷ 0x00 ∷ 0xA0 ∷ []) false nothing
    (plays (lasts 2 ∷ lasts 1 ∷ lasts 2 ∷ lasts 1 ∷ [])) ∷
    row
    (0x19 ∷ 0x00 ∷ 0x00 ∷ 0x00 ∷ 0x00 ∷ 0x00 ∷ 0x00 ∷ 0x00 ∷ 0x00 ∷ 0x00 ∷ 0x00 ∷ 0x00 ∷ 0x00 ∷ 0x04 ∷ 0x00 ∷
    0x00 ∷ 0x00 ∷ 0x01 ∷ 0x02 ∷
    0x00 ∷ 0x01 ∷ 0x00 ∷ 0x00 ∷ 0x02 ∷ 0x00 ∷ 0xA0 ∷ []) false nothing
    (plays (lasts 2 ∷ lasts 1 ∷ lasts 2 ∷ lasts 1 ∷ [])) ∷
    -- an alphabet above 128: symbol 0, or refusal 4
    row
    (0x19 ∷ 0x94 ∷ 0x02 ∷ 0x00 ∷ 0x00 ∷ 0x00 ∷ 0x00 ∷ 0x00 ∷ 0x00 ∷ 0x00 ∷ 0x00 ∷ 0x00 ∷ 0x00 ∷ 0x01 ∷ 0x00 ∷
    0x00 ∷ 0x00 ∷ 0x02 ∷ 0x81 ∷
    (again 129 (0x00 ∷ 0x01 ∷ 0x00 ∷ 0x01 ∷ 0x00 ∷ []) ++ 0x00 ∷ [])) false (plays (lasts 1 ∷ lasts 1 ∷ []))
    (refused generalised) ∷
    -- data bits past 32 bits: short, or refusal 4
    row
    (0x19 ∷ 0x11 ∷ 0x00 ∷ 0x00 ∷ 0x00 ∷ 0x00 ∷ 0x00 ∷ 0x00 ∷ 0x00 ∷ 0x00 ∷ 0x00 ∷ 0x00 ∷ 0x00 ∷ 0x00 ∷ 0x00 ∷
    0x00 ∷ 0x80 ∷ 0x00 ∷ 0x03 ∷
    0x00 ∷ 0x00 ∷ 0x00 ∷ []) false nothing (refused generalised) ∷
    -- no data: a pause alone, or refusal 4
    row (0x19 ∷ 0x0E ∷ 0x00 ∷ 0x00 ∷ 0x00 ∷ 0x01 ∷ 0x00 ∷ 0x00 ∷ 0x00 ∷ 0x00 ∷ 0x00 ∷ 0x00 ∷ 0x00 ∷ 0x00 ∷
    0x00 ∷ 0x00 ∷ 0x00 ∷ 0x00 ∷ 0x00 ∷ []) false (plays (lasts 3500 ∷ [])) (refused generalised) ∷
    -- an alphabet of one symbol: two pulses, or refusal 4
    row (0x19 ∷ 0x13 ∷ 0x00 ∷ 0x00 ∷ 0x00 ∷ 0x00 ∷ 0x00 ∷ 0x00 ∷ 0x00 ∷ 0x00 ∷ 0x00 ∷ 0x00 ∷ 0x00 ∷ 0x01 ∷
    0x00 ∷ 0x00 ∷ 0x00 ∷ 0x02 ∷ 0x01 ∷ 0x00 ∷ 0x64 ∷ 0x00 ∷ 0x65 ∷ 0x00 ∷ []) false
    (plays (lasts 100 ∷ lasts 101 ∷ [])) (refused generalised) ∷
    -- and of one pulse: one, or none
    row (0x19 ∷ 0x11 ∷ 0x00 ∷ 0x00 ∷ 0x00 ∷ 0x00 ∷ 0x00 ∷ 0x00 ∷ 0x00 ∷ 0x00 ∷ 0x00 ∷ 0x00 ∷ 0x00 ∷ 0x01 ∷
    0x00 ∷ 0x00 ∷ 0x00 ∷ 0x01 ∷ 0x01 ∷ 0x00 ∷ 0x64 ∷ 0x00 ∷ []) false (plays (lasts 100 ∷ [])) (plays []) ∷
    -- symbols of two bits: both bits, or the top one alone
    row (0x19 ∷ 0x1E ∷ 0x00 ∷ 0x00 ∷ 0x00 ∷ 0x00 ∷ 0x00 ∷ 0x00 ∷ 0x00 ∷ 0x00 ∷ 0x00 ∷ 0x00 ∷ 0x00 ∷ 0x01 ∷
    0x00 ∷ 0x00 ∷ 0x00 ∷ 0x02 ∷ 0x03 ∷ 0x00 ∷ 0x01 ∷ 0x00 ∷ 0x01 ∷ 0x00 ∷ 0x00 ∷ 0x02 ∷ 0x00 ∷ 0x02 ∷ 0x00 ∷
    0x00 ∷ 0x03 ∷ 0x00 ∷ 0x03 ∷ 0x00 ∷ 0x80 ∷ []) false (plays (lasts 3 ∷ lasts 3 ∷ []))
    (plays (lasts 2 ∷ lasts 2 ∷ [])) ∷
    -- and bits of the next, past the alphabet: symbols 1 and 2, or refusal 4
    row (0x19 ∷ 0x1E ∷ 0x00 ∷ 0x00 ∷ 0x00 ∷ 0x00 ∷ 0x00 ∷ 0x00 ∷ 0x00 ∷ 0x00 ∷ 0x00 ∷ 0x00 ∷ 0x00 ∷ 0x02 ∷
    0x00 ∷ 0x00 ∷ 0x00 ∷ 0x02 ∷ 0x03 ∷ 0x00 ∷ 0x01 ∷ 0x00 ∷ 0x01 ∷ 0x00 ∷ 0x00 ∷ 0x02 ∷ 0x00 ∷ 0x02 ∷ 0x00 ∷
    0x00 ∷ 0x03 ∷ 0x00 ∷ 0x03 ∷ 0x00 ∷ 0x60 ∷ []) false (plays (lasts 2 ∷ lasts 2 ∷ lasts 3 ∷ lasts 3 ∷ []))
    (refused generalised) ∷
    -- pairs of one-pulse symbols of two bits: symbols 1 and 2, or 0 and 1
    row (0x19 ∷ 0x18 ∷ 0x00 ∷ 0x00 ∷ 0x00 ∷ 0x00 ∷ 0x00 ∷ 0x00 ∷ 0x00 ∷ 0x00 ∷ 0x00 ∷ 0x00 ∷ 0x00 ∷ 0x02 ∷
    0x00 ∷ 0x00 ∷ 0x00 ∷ 0x01 ∷ 0x03 ∷ 0x00 ∷ 0x01 ∷ 0x00 ∷ 0x00 ∷ 0x02 ∷ 0x00 ∷ 0x00 ∷ 0x03 ∷ 0x00 ∷ 0x60 ∷
    []) false (plays (lasts 2 ∷ lasts 3 ∷ [])) (plays (lasts 1 ∷ lasts 2 ∷ [])) ∷
    -- a one-pulse data symbol, odd in number: played, or dropped
    row (0x19 ∷ 0x15 ∷ 0x00 ∷ 0x00 ∷ 0x00 ∷ 0x00 ∷ 0x00 ∷ 0x00 ∷ 0x00 ∷ 0x00 ∷ 0x00 ∷ 0x00 ∷ 0x00 ∷ 0x03 ∷
    0x00 ∷ 0x00 ∷ 0x00 ∷ 0x01 ∷ 0x02 ∷ 0x00 ∷ 0x65 ∷ 0x00 ∷ 0x00 ∷ 0x66 ∷ 0x00 ∷ 0x40 ∷ []) false
    (plays (lasts 101 ∷ lasts 102 ∷ lasts 101 ∷ [])) (plays (lasts 101 ∷ lasts 102 ∷ [])) ∷
    -- a two-pulse data symbol whose first is 0: the wave ends there, or goes on
    row (0x19 ∷ 0x19 ∷ 0x00 ∷ 0x00 ∷ 0x00 ∷ 0x00 ∷ 0x00 ∷ 0x00 ∷ 0x00 ∷ 0x00 ∷ 0x00 ∷ 0x00 ∷ 0x00 ∷ 0x02 ∷
    0x00 ∷ 0x00 ∷ 0x00 ∷ 0x02 ∷ 0x02 ∷ 0x00 ∷ 0x00 ∷ 0x00 ∷ 0x65 ∷ 0x00 ∷ 0x00 ∷ 0x66 ∷ 0x00 ∷ 0x67 ∷ 0x00 ∷
    0x40 ∷ []) false (plays (lasts 102 ∷ lasts 103 ∷ [])) (plays (lasts 101 ∷ lasts 102 ∷ lasts 103 ∷ [])) ∷
    -- data symbols of no pulse: nothing, or a stop
    row (0x19 ∷ 0x11 ∷ 0x00 ∷ 0x00 ∷ 0x00 ∷ 0x00 ∷ 0x00 ∷ 0x00 ∷ 0x00 ∷ 0x00 ∷ 0x00 ∷ 0x00 ∷ 0x00 ∷ 0x01 ∷
    0x00 ∷ 0x00 ∷ 0x00 ∷ 0x00 ∷ 0x02 ∷ 0x00 ∷ 0x00 ∷ 0x00 ∷ []) false (plays []) (plays (forever ∷ [])) ∷
    -- data symbols of three pulses: these, or a stop
    row (0x19 ∷ 0x1D ∷ 0x00 ∷ 0x00 ∷ 0x00 ∷ 0x00 ∷ 0x00 ∷ 0x00 ∷ 0x00 ∷ 0x00 ∷ 0x00 ∷ 0x00 ∷ 0x00 ∷ 0x01 ∷
    0x00 ∷ 0x00 ∷ 0x00 ∷ 0x03 ∷ 0x02 ∷ 0x00 ∷ 0x01 ∷ 0x00 ∷ 0x02 ∷ 0x00 ∷ 0x03 ∷ 0x00 ∷ 0x00 ∷ 0x04 ∷ 0x00 ∷
    0x05 ∷ 0x00 ∷ 0x06 ∷ 0x00 ∷ 0x80 ∷ []) false (plays (lasts 4 ∷ lasts 5 ∷ lasts 6 ∷ [])) (plays (forever ∷ [])) ∷ []

pub ways_said : map (λ e. format_at e.tape) ways ≡ map (λ e. e.format) ways
unfolding le_at number_at field_at place_of times each_at groups_at run table_over entry_of cycles_of is_single start_level cycle_level bit_level edged
    pause_level tone_of tones_of bits_at half_of byte_of data_of pause_of sound_of entries_of counted_at pass_at texts_at whole_at sealed enclosed
    fitting_at read_at binary_digits or_full held_if kind10 kind11 kind12 kind13 kind14 stream19 kind19 kind20 kind21 kind22 kind24 kind25 kind_2a
    kind30 kind31 info32 kind32 kind33 kind35 kind_5a kinds kind_of taken_as cut_at symbol_at before rows_from cycles entry_symbol entry_repeat
    entry_row pilot_of equal_halves ordinary used_bits symbol_number single_row pair_row singles_of pairs_of data_part with_pilot with_data general_of
    empty ◌⟫◌ add_tones add_block pend open_loop standard_header standard_cycles standard_tones turbo_tones pure_tones pure_tone_tones pulse_at
    add_rows row_of standard_sound turbo_sound pair_sounds pure_sound pause_sound add_sound add_sounds general_deed stop48_deed does deed_of act halted
    each bit_pulses bits_in byte_pulses data_pulses bits_said pilot_count format10 format11 format12 format13 format14 wave_from symbol_pulse wave_of
    pilot_symbol repetitions pilot_pulses bit_at group_at data_number symbol_pulses every symbols_said format19 format20 format_2a format_of
    lengths_of lasting even_count kept11 kept12 kept13 first_pulse second_pulse whole_wave kept_times kept_entry kept_pilot kept_symbol kept_pairs
    kept_data kept19 kept length_of entries_from heard_in played_by format_on source_on kept_on same_length same_lengths same_heard ways
ways_said = refl

pub ways_played : map (λ e. source_heard e.tape) ways ≡ map (λ e. e.source) ways
unfolding le_at number_at field_at place_of times each_at groups_at run table_over entry_of cycles_of is_single start_level cycle_level bit_level edged
    pause_level tone_of tones_of bits_at half_of byte_of data_of pause_of sound_of entries_of counted_at pass_at texts_at whole_at sealed enclosed
    fitting_at read_at binary_digits or_full held_if kind10 kind11 kind12 kind13 kind14 stream19 kind19 kind20 kind21 kind22 kind24 kind25 kind_2a
    kind30 kind31 info32 kind32 kind33 kind35 kind_5a kinds kind_of taken_as cut_at symbol_at before rows_from cycles entry_symbol entry_repeat
    entry_row pilot_of equal_halves ordinary used_bits symbol_number single_row pair_row singles_of pairs_of data_part with_pilot with_data general_of
    empty ◌⟫◌ add_tones add_block pend open_loop standard_header standard_cycles standard_tones turbo_tones pure_tones pure_tone_tones pulse_at
    add_rows row_of standard_sound turbo_sound pair_sounds pure_sound pause_sound add_sound add_sounds general_deed stop48_deed does deed_of act halted
    each bit_pulses bits_in byte_pulses data_pulses bits_said pilot_count format10 format11 format12 format13 format14 wave_from symbol_pulse wave_of
    pilot_symbol repetitions pilot_pulses bit_at group_at data_number symbol_pulses every symbols_said format19 format20 format_2a format_of
    lengths_of lasting even_count kept11 kept12 kept13 first_pulse second_pulse whole_wave kept_times kept_entry kept_pilot kept_symbol kept_pairs
    kept_data kept19 kept length_of entries_from heard_in played_by format_on source_on kept_on same_length same_lengths same_heard ways
ways_played = refl

pub ways_kept : map (λ e. kept_at e.tape) ways ≡ map (λ e. e.kept) ways
unfolding le_at number_at field_at place_of times each_at groups_at run table_over entry_of cycles_of is_single start_level cycle_level bit_level edged
    pause_level tone_of tones_of bits_at half_of byte_of data_of pause_of sound_of entries_of counted_at pass_at texts_at whole_at sealed enclosed
    fitting_at read_at binary_digits or_full held_if kind10 kind11 kind12 kind13 kind14 stream19 kind19 kind20 kind21 kind22 kind24 kind25 kind_2a
    kind30 kind31 info32 kind32 kind33 kind35 kind_5a kinds kind_of taken_as cut_at symbol_at before rows_from cycles entry_symbol entry_repeat
    entry_row pilot_of equal_halves ordinary used_bits symbol_number single_row pair_row singles_of pairs_of data_part with_pilot with_data general_of
    empty ◌⟫◌ add_tones add_block pend open_loop standard_header standard_cycles standard_tones turbo_tones pure_tones pure_tone_tones pulse_at
    add_rows row_of standard_sound turbo_sound pair_sounds pure_sound pause_sound add_sound add_sounds general_deed stop48_deed does deed_of act halted
    each bit_pulses bits_in byte_pulses data_pulses bits_said pilot_count format10 format11 format12 format13 format14 wave_from symbol_pulse wave_of
    pilot_symbol repetitions pilot_pulses bit_at group_at data_number symbol_pulses every symbols_said format19 format20 format_2a format_of
    lengths_of lasting even_count kept11 kept12 kept13 first_pulse second_pulse whole_wave kept_times kept_entry kept_pilot kept_symbol kept_pairs
    kept_data kept19 kept length_of entries_from heard_in played_by format_on source_on kept_on same_length same_lengths same_heard ways
ways_kept = refl

-- the readings of each way differ
pub ways_differ : map (λ e. same_heard (format_at e.tape) (source_heard e.tape)) ways ≡ map (λ e. false) ways
unfolding le_at number_at field_at place_of times each_at groups_at run table_over entry_of cycles_of is_single start_level cycle_level bit_level edged
    pause_level tone_of tones_of bits_at half_of byte_of data_of pause_of sound_of entries_of counted_at pass_at texts_at whole_at sealed enclosed
    fitting_at read_at binary_digits or_full held_if kind10 kind11 kind12 kind13 kind14 stream19 kind19 kind20 kind21 kind22 kind24 kind25 kind_2a
    kind30 kind31 info32 kind32 kind33 kind35 kind_5a kinds kind_of taken_as cut_at symbol_at before rows_from cycles entry_symbol entry_repeat
    entry_row pilot_of equal_halves ordinary used_bits symbol_number single_row pair_row singles_of pairs_of data_part with_pilot with_data general_of
    empty ◌⟫◌ add_tones add_block pend open_loop standard_header standard_cycles standard_tones turbo_tones pure_tones pure_tone_tones pulse_at
    add_rows row_of standard_sound turbo_sound pair_sounds pure_sound pause_sound add_sound add_sounds general_deed stop48_deed does deed_of act halted
    each bit_pulses bits_in byte_pulses data_pulses bits_said pilot_count format10 format11 format12 format13 format14 wave_from symbol_pulse wave_of
    pilot_symbol repetitions pilot_pulses bit_at group_at data_number symbol_pulses every symbols_said format19 format20 format_2a format_of
    lengths_of lasting even_count kept11 kept12 kept13 first_pulse second_pulse whole_wave kept_times kept_entry kept_pilot kept_symbol kept_pairs
    kept_data kept19 kept length_of entries_from heard_in played_by format_on source_on kept_on same_length same_lengths same_heard ways
ways_differ = refl

-- not kept, and yet the same lengths, by chance: a pulse too many in the pilot and one dropped from the data;
-- symbols of two bits, all of them 0
unfoldable pub chances : List Example
chances =
    row (0x19 ∷ 0x17 ∷ 0x00 ∷ 0x00 ∷ 0x00 ∷ 0x00 ∷ 0x00 ∷ 0x01 ∷ 0x00 ∷ 0x00 ∷ 0x00 ∷ 0x01 ∷ 0x01 ∷ 0x01 ∷
    0x00 ∷ 0x00 ∷ 0x00 ∷ 0x01 ∷ 0x01 ∷ 0x00 ∷ 0x64 ∷ 0x00 ∷ 0x00 ∷ 0x01 ∷ 0x00 ∷ 0x00 ∷ 0x64 ∷ 0x00 ∷ []) false
    (plays (lasts 100 ∷ lasts 100 ∷ [])) (plays (lasts 100 ∷ lasts 100 ∷ [])) ∷
    row (0x19 ∷ 0x1E ∷ 0x00 ∷ 0x00 ∷ 0x00 ∷ 0x00 ∷ 0x00 ∷ 0x00 ∷ 0x00 ∷ 0x00 ∷ 0x00 ∷ 0x00 ∷ 0x00 ∷ 0x01 ∷
    0x00 ∷ 0x00 ∷ 0x00 ∷ 0x02 ∷ 0x03 ∷ 0x00 ∷ 0x01 ∷ 0x00 ∷ 0x01 ∷ 0x00 ∷ 0x00 ∷ 0x02 ∷ 0x00 ∷ 0x02 ∷ 0x00 ∷
    0x00 ∷ 0x03 ∷ 0x00 ∷ 0x03 ∷ 0x00 ∷ 0x00 ∷ []) false (plays (lasts 1 ∷ lasts 1 ∷ []))
    (plays (lasts 1 ∷ lasts 1 ∷ [])) ∷ []

pub chances_same : map (λ e. row e.tape (kept_at e.tape) (format_at e.tape) (source_heard e.tape)) chances ≡ chances
unfolding le_at number_at field_at place_of times each_at groups_at run table_over entry_of cycles_of is_single start_level cycle_level bit_level edged
    pause_level tone_of tones_of bits_at half_of byte_of data_of pause_of sound_of entries_of counted_at pass_at texts_at whole_at sealed enclosed
    fitting_at read_at binary_digits or_full held_if kind10 kind11 kind12 kind13 kind14 stream19 kind19 kind20 kind21 kind22 kind24 kind25 kind_2a
    kind30 kind31 info32 kind32 kind33 kind35 kind_5a kinds kind_of taken_as cut_at symbol_at before rows_from cycles entry_symbol entry_repeat
    entry_row pilot_of equal_halves ordinary used_bits symbol_number single_row pair_row singles_of pairs_of data_part with_pilot with_data general_of
    empty ◌⟫◌ add_tones add_block pend open_loop standard_header standard_cycles standard_tones turbo_tones pure_tones pure_tone_tones pulse_at
    add_rows row_of standard_sound turbo_sound pair_sounds pure_sound pause_sound add_sound add_sounds general_deed stop48_deed does deed_of act halted
    each bit_pulses bits_in byte_pulses data_pulses bits_said pilot_count format10 format11 format12 format13 format14 wave_from symbol_pulse wave_of
    pilot_symbol repetitions pilot_pulses bit_at group_at data_number symbol_pulses every symbols_said format19 format20 format_2a format_of
    lengths_of lasting even_count kept11 kept12 kept13 first_pulse second_pulse whole_wave kept_times kept_entry kept_pilot kept_symbol kept_pairs
    kept_data kept19 kept length_of entries_from heard_in played_by format_on source_on kept_on same_length same_lengths same_heard chances
chances_same = refl

-- so many lengths
unfoldable pub count_of : HeardOn → ℕ
count_of (plays ls) = length ls
count_of (refused k) = 0
count_of errs = 0
count_of nothing = 0

pub record Counts : Type 0 where
  pub tape : List ℕ
  pub kept : Bool
  pub format : ℕ
  pub source : ℕ

abbrev counts : List ℕ → Bool → ℕ → ℕ → Counts
counts tape kept format source = record { tape = tape; kept = kept; format = format; source = source }

-- one pilot pulse more in a 10, be the flag below 128 or not; without a flag nothing is said; and a 19 whose pilot alphabet has size 0:
-- its 256 symbols are read as 255, so the entry begins three bytes early
unfoldable pub longer : List Counts
longer =
    counts (0x10 ∷ 0x00 ∷ 0x00 ∷ 0x01 ∷ 0x00 ∷ 0x00 ∷ []) false 8081 8082 ∷
    counts (0x10 ∷ 0x00 ∷ 0x00 ∷ 0x01 ∷ 0x00 ∷ 0x80 ∷ []) false 3241 3242 ∷
    counts (0x10 ∷ 0x00 ∷ 0x00 ∷ 0x00 ∷ 0x00 ∷ []) false 0 8066 ∷
    counts (0x19 ∷ 0x18 ∷ 0x03 ∷ 0x00 ∷ 0x00 ∷ 0x00 ∷ 0x00 ∷ 0x01 ∷ 0x00 ∷ 0x00 ∷ 0x00 ∷ 0x01 ∷ 0x00 ∷ 0x02 ∷
    0x00 ∷ 0x00 ∷ 0x00 ∷ 0x01 ∷ 0x02 ∷
    (replicate 768 2 ++ 0x00 ∷ 0x02 ∷ 0x00 ∷ 0x00 ∷ 0x65 ∷ 0x00 ∷ 0x00 ∷ 0x66 ∷ 0x00 ∷ 0x40 ∷ [])) false 4 516 ∷ []

pub longer_counted :
    map (λ e. counts e.tape (kept_at e.tape) (count_of (format_at e.tape)) (count_of (source_heard e.tape))) longer ≡ longer
unfolding le_at number_at field_at place_of times each_at groups_at run table_over entry_of cycles_of is_single start_level cycle_level bit_level edged
    pause_level tone_of tones_of bits_at half_of byte_of data_of pause_of sound_of entries_of counted_at pass_at texts_at whole_at sealed enclosed
    fitting_at read_at binary_digits or_full held_if kind10 kind11 kind12 kind13 kind14 stream19 kind19 kind20 kind21 kind22 kind24 kind25 kind_2a
    kind30 kind31 info32 kind32 kind33 kind35 kind_5a kinds kind_of taken_as cut_at symbol_at before rows_from cycles entry_symbol entry_repeat
    entry_row pilot_of equal_halves ordinary used_bits symbol_number single_row pair_row singles_of pairs_of data_part with_pilot with_data general_of
    empty ◌⟫◌ add_tones add_block pend open_loop standard_header standard_cycles standard_tones turbo_tones pure_tones pure_tone_tones pulse_at
    add_rows row_of standard_sound turbo_sound pair_sounds pure_sound pause_sound add_sound add_sounds general_deed stop48_deed does deed_of act halted
    each bit_pulses bits_in byte_pulses data_pulses bits_said pilot_count format10 format11 format12 format13 format14 wave_from symbol_pulse wave_of
    pilot_symbol repetitions pilot_pulses bit_at group_at data_number symbol_pulses every symbols_said format19 format20 format_2a format_of
    lengths_of lasting even_count kept11 kept12 kept13 first_pulse second_pulse whole_wave kept_times kept_entry kept_pilot kept_symbol kept_pairs
    kept_data kept19 kept length_of entries_from heard_in played_by format_on source_on kept_on same_length same_lengths same_heard longer count_of
longer_counted = refl

-- WHAT IS NO MATTER OF ONE PIECE: a tape of pieces, the places of those that the format plays, in its order,
-- and what the source reading plays
pub record Order : Type 0 where
  pub tape : List ℕ
  pub places : List ℕ
  pub format : List PulseLength
  pub source : List PulseLength

abbrev order : List ℕ → List ℕ → List PulseLength → List PulseLength → Order
order tape places format source = record { tape = tape; places = places; format = format; source = source }

unfoldable pub lengths_in : HeardOn → List PulseLength
lengths_in (plays ls) = ls
lengths_in (refused k) = []
lengths_in errs = []
lengths_in nothing = []

unfoldable pub in_order : List ℕ → List ℕ → List PulseLength
in_order s [] = []
in_order s (p ∷ ps) = lengths_in (format_on s (format_cut s p)) ++ in_order s ps

unfoldable pub whole_read : List ℕ → source.Verdict → List PulseLength
whole_read s (source.done t) = lengths_in (played_by s (on t))
whole_read s (source.failed f) = []
whole_read s (source.refused k) = []

unfoldable pub orders : List Order
orders =
    -- 22: the block before it is given a pause
    order (0x12 ∷ 0x01 ∷ 0x00 ∷ 0x02 ∷ 0x00 ∷ 0x22 ∷ []) (0 ∷ 5 ∷ []) (lasts 1 ∷ lasts 1 ∷ [])
    (lasts 1 ∷ lasts 1 ∷ lasts 3500 ∷ []) ∷
    -- 24 of 2: twice in all, or three times
    order (0x24 ∷ 0x02 ∷ 0x00 ∷ 0x20 ∷ 0x01 ∷ 0x00 ∷ 0x25 ∷ []) (3 ∷ 3 ∷ []) (lasts 3500 ∷ lasts 3500 ∷ [])
    (lasts 3500 ∷ lasts 3500 ∷ lasts 3500 ∷ []) ∷
    -- 24 of 1: not said, or twice
    order (0x24 ∷ 0x01 ∷ 0x00 ∷ 0x20 ∷ 0x01 ∷ 0x00 ∷ 0x25 ∷ []) [] [] (lasts 3500 ∷ lasts 3500 ∷ []) ∷
    -- a loop in a loop: not said, or the inner start and the last end ignored
    order
    (0x24 ∷ 0x02 ∷ 0x00 ∷ 0x20 ∷ 0x01 ∷ 0x00 ∷ 0x24 ∷ 0x02 ∷ 0x00 ∷ 0x20 ∷ 0x02 ∷ 0x00 ∷ 0x25 ∷ 0x25 ∷ []) [] []
    (lasts 3500 ∷ lasts 7000 ∷ lasts 3500 ∷ lasts 7000 ∷ lasts 3500 ∷ lasts 7000 ∷ []) ∷
    -- a kind of a later edition, a direct recording of no sample, a selection, a jump: nothing, or what stands inside, read as a piece
    order (0x29 ∷ 0x03 ∷ 0x00 ∷ 0x00 ∷ 0x00 ∷ 0x20 ∷ 0x01 ∷ 0x00 ∷ []) [] [] (lasts 3500 ∷ []) ∷
    order (0x15 ∷ 0x20 ∷ 0x01 ∷ 0x00 ∷ 0x00 ∷ 0x00 ∷ 0x00 ∷ 0x00 ∷ 0x00 ∷ []) [] [] (lasts 3500 ∷ []) ∷
    order (0x28 ∷ 0x04 ∷ 0x00 ∷ 0x01 ∷ 0x20 ∷ 0x01 ∷ 0x00 ∷ []) [] [] (lasts 3500 ∷ []) ∷
    order (0x23 ∷ 0x02 ∷ 0x00 ∷ 0x20 ∷ 0x01 ∷ 0x00 ∷ []) [] [] (lasts 3500 ∷ []) ∷
    -- a call: the pause is called, then passed
    order (0x26 ∷ 0x01 ∷ 0x00 ∷ 0x01 ∷ 0x00 ∷ 0x20 ∷ 0x01 ∷ 0x00 ∷ 0x27 ∷ []) (5 ∷ 5 ∷ [])
    (lasts 3500 ∷ lasts 3500 ∷ []) (lasts 3500 ∷ []) ∷
    -- older editions'
    order (0x16 ∷ 0x03 ∷ 0x00 ∷ 0x00 ∷ 0x00 ∷ 0x20 ∷ 0x01 ∷ 0x00 ∷ []) [] [] (lasts 3500 ∷ []) ∷
    order (0x34 ∷ 0x20 ∷ 0x01 ∷ 0x00 ∷ 0x00 ∷ 0x00 ∷ 0x00 ∷ 0x00 ∷ 0x00 ∷ []) [] [] (lasts 3500 ∷ []) ∷
    order (0x40 ∷ 0x00 ∷ 0x03 ∷ 0x00 ∷ 0x00 ∷ 0x20 ∷ 0x01 ∷ 0x00 ∷ []) [] [] (lasts 3500 ∷ []) ∷ []

pub orders_said : map (λ e. in_order e.tape e.places) orders ≡ map (λ e. e.format) orders
unfolding le_at number_at field_at place_of times each_at groups_at run table_over entry_of cycles_of is_single start_level cycle_level bit_level edged
    pause_level tone_of tones_of bits_at half_of byte_of data_of pause_of sound_of entries_of counted_at pass_at texts_at whole_at sealed enclosed
    fitting_at read_at binary_digits or_full held_if kind10 kind11 kind12 kind13 kind14 stream19 kind19 kind20 kind21 kind22 kind24 kind25 kind_2a
    kind30 kind31 info32 kind32 kind33 kind35 kind_5a kinds kind_of taken_as cut_at symbol_at before rows_from cycles entry_symbol entry_repeat
    entry_row pilot_of equal_halves ordinary used_bits symbol_number single_row pair_row singles_of pairs_of data_part with_pilot with_data general_of
    empty ◌⟫◌ add_tones add_block pend open_loop standard_header standard_cycles standard_tones turbo_tones pure_tones pure_tone_tones pulse_at
    add_rows row_of standard_sound turbo_sound pair_sounds pure_sound pause_sound add_sound add_sounds general_deed stop48_deed does deed_of act halted
    each bit_pulses bits_in byte_pulses data_pulses bits_said pilot_count format10 format11 format12 format13 format14 wave_from symbol_pulse wave_of
    pilot_symbol repetitions pilot_pulses bit_at group_at data_number symbol_pulses every symbols_said format19 format20 format_2a format_of
    lengths_of lasting even_count kept11 kept12 kept13 first_pulse second_pulse whole_wave kept_times kept_entry kept_pilot kept_symbol kept_pairs
    kept_data kept19 kept length_of entries_from heard_in played_by format_on source_on kept_on same_length same_lengths same_heard end_group last_paused
    paused orders in_order lengths_in
orders_said = refl

pub orders_played : map (λ e. whole_read e.tape (fold_from (tzx_see most e.tape 0) (length e.tape) 0 empty)) orders
    ≡ map (λ e. e.source) orders
unfolding le_at number_at field_at place_of times each_at groups_at run table_over entry_of cycles_of is_single start_level cycle_level bit_level edged
    pause_level tone_of tones_of bits_at half_of byte_of data_of pause_of sound_of entries_of counted_at pass_at texts_at whole_at sealed enclosed
    fitting_at read_at binary_digits or_full held_if kind10 kind11 kind12 kind13 kind14 stream19 kind19 kind20 kind21 kind22 kind24 kind25 kind_2a
    kind30 kind31 info32 kind32 kind33 kind35 kind_5a kinds kind_of taken_as cut_at symbol_at before rows_from cycles entry_symbol entry_repeat
    entry_row pilot_of equal_halves ordinary used_bits symbol_number single_row pair_row singles_of pairs_of data_part with_pilot with_data general_of
    empty ◌⟫◌ add_tones add_block pend open_loop standard_header standard_cycles standard_tones turbo_tones pure_tones pure_tone_tones pulse_at
    add_rows row_of standard_sound turbo_sound pair_sounds pure_sound pause_sound add_sound add_sounds general_deed stop48_deed does deed_of act halted
    each bit_pulses bits_in byte_pulses data_pulses bits_said pilot_count format10 format11 format12 format13 format14 wave_from symbol_pulse wave_of
    pilot_symbol repetitions pilot_pulses bit_at group_at data_number symbol_pulses every symbols_said format19 format20 format_2a format_of
    lengths_of lasting even_count kept11 kept12 kept13 first_pulse second_pulse whole_wave kept_times kept_entry kept_pilot kept_symbol kept_pairs
    kept_data kept19 kept length_of entries_from heard_in played_by format_on source_on kept_on same_length same_lengths same_heard end_group last_paused
    paused close_loop closed copies copy_rows read_on seeing fold_from tzx_of tzx_see orders whole_read lengths_in
orders_played = refl

pub orders_differ : map (λ e. same_lengths e.format e.source) orders ≡ map (λ e. false) orders
unfolding orders same_lengths same_length
orders_differ = refl
