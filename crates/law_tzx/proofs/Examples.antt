-- Worked examples by computation: pieces on which the source reading keeps to the format, and what both play. Assumes nothing.
use Prim.Native.Nat.{ℕ}
use mathlib.Core.Path.{◌≡◌, refl}
use mathlib.Core.Bool.{Bool, true, false}
use mathlib.Core.List.{List, [], ◌∷◌, ◌++◌, map}
use Rattle.cut_fields.specs.Field.{le_at, number_at, field_at, place_of}
use Rattle.cut_fields.specs.Run.{times, each_at, groups_at}
use Rattle.law_pulses.specs.Runs.{run}
use Rattle.rows.specs.Table.{table_over}
use Rattle.play_entries.specs.Entries.{entry_of, cycles_of, is_single, start_level, cycle_level, bit_level, edged, pause_level, tone_of, tones_of}
use Rattle.play_entries.specs.Entries.{bits_at, half_of, byte_of, data_of, pause_of, sound_of, entries_of}
use Rattle.cut_grammar.specs.Grammar.{counted_at, pass_at, texts_at, whole_at, sealed, enclosed, fitting_at, read_at, binary_digits}
use Rattle.cut_grammar.specs.Grammar.{or_full, held_if}
use Rattle.cut_grammar.specs.Kinds.{kind10, kind11, kind12, kind13, kind14, stream19, kind19, kind20, kind21, kind22, kind24, kind25}
use Rattle.cut_grammar.specs.Kinds.{kind_2a, kind30, kind31, info32, kind32, kind33, kind35, kind_5a, kinds, kind_of}
use Rattle.cut_grammar.specs.Cut.{signature, taken_as, cut_at}
use Rattle.load_general.specs.General.{symbol_at, before, rows_from, cycles, entry_symbol, entry_repeat, entry_row, pilot_of, equal_halves}
use Rattle.load_general.specs.General.{ordinary, used_bits, symbol_number, single_row, pair_row, singles_of, pairs_of, data_part, with_pilot}
use Rattle.load_general.specs.General.{with_data, general_of}
use Rattle.load_state.specs.Parser.{empty, ◌⟫◌, add_tones, add_block, pend, open_loop}
use Rattle.load_blocks.specs.Sounds.{row_of, add_sound, add_sounds}
use Rattle.load_blocks.specs.Blocks.{turbo_tones, pure_tones, pure_tone_tones, pulse_at, standard_sound, turbo_sound, pair_sounds}
use Rattle.load_blocks.specs.Blocks.{pure_sound, pause_sound}
use Rattle.load_blocks.specs.Adds.{add_rows}
use Rattle.load_blocks.specs.Deeds.{general_deed, stop48_deed, does}
use Rattle.load_source.specs.Meaning.{deed_of}
use Rattle.load_source.specs.Source.{act, halted}
use Rattle.law_tzx.specs.Format.{lasts, forever, each, bit_pulses, bits_in, byte_pulses, data_pulses, bits_said, format11, format12}
use Rattle.law_tzx.specs.Format.{format13, format14, wave_from, symbol_pulse, wave_of, pilot_symbol, repetitions, pilot_pulses, bit_at}
use Rattle.law_tzx.specs.Format.{group_at, data_number, symbol_pulses, every, symbols_said, format19, format20, format_2a, format_of}
use Rattle.law_tzx.specs.Format.{lengths_of, lasting}
use Rattle.law_tzx.specs.Kept.{even_count, kept11, kept12, kept13, first_pulse, second_pulse, whole_wave, kept_times, kept_entry}
use Rattle.law_tzx.specs.Kept.{kept_pilot, kept_symbol, kept_pairs, kept_data, kept19, kept, length_of, entries_from}
use Rattle.law_tzx.specs.Heard.{HeardOn, plays, heard_in, played_by, format_on, source_on, kept_on, format_at, source_heard, kept_at}
use Rattle.law_tzx.specs.Heard.{same_length, same_lengths, same_heard}
use Rattle.law_tzx.specs.Tapes.{none_open, kept_then, kept_from, said_of, said_then, format_from}

pub record Example : Type 0 where
  pub tape : List ℕ
  pub kept : Bool
  pub format : HeardOn
  pub source : HeardOn

abbrev pub row : List ℕ → Bool → HeardOn → HeardOn → Example
row tape kept format source = record { tape = tape; kept = kept; format = format; source = source }

unfoldable pub kepts : List Example
kepts =
    -- 11, an even pilot, 3 bits of the last byte, a pause
    row (0x11 ∷ 0x64 ∷ 0x00 ∷ 0x65 ∷ 0x00 ∷ 0x66 ∷ 0x00 ∷ 0x04 ∷ 0x00 ∷ 0x05 ∷ 0x00 ∷ 0x02 ∷ 0x00 ∷ 0x03 ∷
    0x01 ∷ 0x00 ∷ 0x01 ∷ 0x00 ∷ 0x00 ∷ 0xA0 ∷ []) true (plays (lasts 100 ∷ lasts 100 ∷ lasts 101 ∷ lasts 102 ∷
    lasts 5 ∷ lasts 5 ∷ lasts 4 ∷ lasts 4 ∷ lasts 5 ∷ lasts 5 ∷ lasts 3500 ∷ [])) (plays (lasts 100 ∷ lasts 100 ∷
    lasts 101 ∷ lasts 102 ∷ lasts 5 ∷ lasts 5 ∷ lasts 4 ∷ lasts 4 ∷ lasts 5 ∷ lasts 5 ∷ lasts 3500 ∷ [])) ∷
    -- 11, a pilot of pulses of 0
    row (0x11 ∷ 0x00 ∷ 0x00 ∷ 0x65 ∷ 0x00 ∷ 0x66 ∷ 0x00 ∷ 0x04 ∷ 0x00 ∷ 0x05 ∷ 0x00 ∷ 0x01 ∷ 0x00 ∷ 0x08 ∷
    0x00 ∷ 0x00 ∷ 0x00 ∷ 0x00 ∷ 0x00 ∷ []) true (plays (lasts 101 ∷ lasts 102 ∷ []))
    (plays (lasts 101 ∷ lasts 102 ∷ [])) ∷
    -- 12, even and odd
    row (0x12 ∷ 0x64 ∷ 0x00 ∷ 0x04 ∷ 0x00 ∷ []) true (plays (lasts 100 ∷ lasts 100 ∷ lasts 100 ∷ lasts 100 ∷ []))
    (plays (lasts 100 ∷ lasts 100 ∷ lasts 100 ∷ lasts 100 ∷ [])) ∷
    row (0x12 ∷ 0x64 ∷ 0x00 ∷ 0x03 ∷ 0x00 ∷ []) true (plays (lasts 100 ∷ lasts 100 ∷ lasts 100 ∷ []))
    (plays (lasts 100 ∷ lasts 100 ∷ lasts 100 ∷ [])) ∷
    -- 13
    row (0x13 ∷ 0x02 ∷ 0x01 ∷ 0x00 ∷ 0x02 ∷ 0x00 ∷ []) true (plays (lasts 1 ∷ lasts 2 ∷ []))
    (plays (lasts 1 ∷ lasts 2 ∷ [])) ∷
    -- 13, an odd last pulse of 0
    row (0x13 ∷ 0x03 ∷ 0x01 ∷ 0x00 ∷ 0x02 ∷ 0x00 ∷ 0x00 ∷ 0x00 ∷ []) true (plays (lasts 1 ∷ lasts 2 ∷ []))
    (plays (lasts 1 ∷ lasts 2 ∷ [])) ∷
    -- 14, two bytes, 1 bit of the last
    row (0x14 ∷ 0x0A ∷ 0x00 ∷ 0x14 ∷ 0x00 ∷ 0x01 ∷ 0x00 ∷ 0x00 ∷ 0x02 ∷ 0x00 ∷ 0x00 ∷ 0xA3 ∷ 0x80 ∷ []) true
    (plays (lasts 20 ∷ lasts 20 ∷ lasts 10 ∷ lasts 10 ∷ lasts 20 ∷ lasts 20 ∷ lasts 10 ∷ lasts 10 ∷ lasts 10 ∷
    lasts 10 ∷ lasts 10 ∷ lasts 10 ∷ lasts 20 ∷ lasts 20 ∷ lasts 20 ∷ lasts 20 ∷ lasts 20 ∷ lasts 20 ∷ []))
    (plays (lasts 20 ∷ lasts 20 ∷ lasts 10 ∷ lasts 10 ∷ lasts 20 ∷ lasts 20 ∷ lasts 10 ∷ lasts 10 ∷ lasts 10 ∷
    lasts 10 ∷ lasts 10 ∷ lasts 10 ∷ lasts 20 ∷ lasts 20 ∷ lasts 20 ∷ lasts 20 ∷ lasts 20 ∷ lasts 20 ∷ [])) ∷
    -- 19, ordinary data: 9 bits
    row (0x19 ∷ 0x20 ∷ 0x00 ∷ 0x00 ∷ 0x00 ∷ 0x01 ∷ 0x00 ∷ 0x01 ∷ 0x00 ∷ 0x00 ∷ 0x00 ∷ 0x01 ∷ 0x01 ∷ 0x09 ∷
    0x00 ∷ 0x00 ∷ 0x00 ∷ 0x02 ∷ 0x02 ∷ 0x00 ∷ 0x64 ∷ 0x00 ∷ 0x00 ∷ 0x02 ∷ 0x00 ∷ 0x00 ∷ 0x01 ∷ 0x00 ∷ 0x01 ∷
    0x00 ∷ 0x00 ∷ 0x02 ∷ 0x00 ∷ 0x02 ∷ 0x00 ∷ 0xA3 ∷ 0x80 ∷ []) true (plays
    (lasts 100 ∷ lasts 100 ∷ lasts 2 ∷ lasts 2 ∷ lasts 1 ∷ lasts 1 ∷ lasts 2 ∷ lasts 2 ∷ lasts 1 ∷ lasts 1 ∷ lasts 1 ∷
    lasts 1 ∷ lasts 1 ∷ lasts 1 ∷ lasts 2 ∷ lasts 2 ∷ lasts 2 ∷ lasts 2 ∷ lasts 2 ∷ lasts 2 ∷ lasts 3500 ∷ [])) (plays
    (lasts 100 ∷ lasts 100 ∷ lasts 2 ∷ lasts 2 ∷ lasts 1 ∷ lasts 1 ∷ lasts 2 ∷ lasts 2 ∷ lasts 1 ∷ lasts 1 ∷ lasts 1 ∷
    lasts 1 ∷ lasts 1 ∷ lasts 1 ∷ lasts 2 ∷ lasts 2 ∷ lasts 2 ∷ lasts 2 ∷ lasts 2 ∷ lasts 2 ∷ lasts 3500 ∷ [])) ∷
    -- 19, two pulses apart, and a pilot of two pulses
    row (0x19 ∷ 0x21 ∷ 0x00 ∷ 0x00 ∷ 0x00 ∷ 0x01 ∷ 0x00 ∷ 0x01 ∷ 0x00 ∷ 0x00 ∷ 0x00 ∷ 0x02 ∷ 0x01 ∷ 0x03 ∷
    0x00 ∷ 0x00 ∷ 0x00 ∷ 0x02 ∷ 0x02 ∷ 0x00 ∷ 0x64 ∷ 0x00 ∷ 0x65 ∷ 0x00 ∷ 0x00 ∷ 0x02 ∷ 0x00 ∷ 0x00 ∷ 0x01 ∷
    0x00 ∷ 0x02 ∷ 0x00 ∷ 0x00 ∷ 0x03 ∷ 0x00 ∷ 0x04 ∷ 0x00 ∷ 0xA0 ∷ []) true (plays (lasts 100 ∷ lasts 101 ∷
    lasts 100 ∷ lasts 101 ∷ lasts 3 ∷ lasts 4 ∷ lasts 1 ∷ lasts 2 ∷ lasts 3 ∷ lasts 4 ∷ lasts 3500 ∷ []))
    (plays (lasts 100 ∷ lasts 101 ∷ lasts 100 ∷ lasts 101 ∷ lasts 3 ∷ lasts 4 ∷ lasts 1 ∷ lasts 2 ∷ lasts 3 ∷ lasts 4 ∷
    lasts 3500 ∷ [])) ∷
    -- 19, pairs of one pulse
    row (0x19 ∷ 0x15 ∷ 0x00 ∷ 0x00 ∷ 0x00 ∷ 0x01 ∷ 0x00 ∷ 0x00 ∷ 0x00 ∷ 0x00 ∷ 0x00 ∷ 0x02 ∷ 0x01 ∷ 0x04 ∷
    0x00 ∷ 0x00 ∷ 0x00 ∷ 0x01 ∷ 0x02 ∷ 0x00 ∷ 0x01 ∷ 0x00 ∷ 0x00 ∷ 0x02 ∷ 0x00 ∷ 0xA0 ∷ []) true
    (plays (lasts 2 ∷ lasts 1 ∷ lasts 2 ∷ lasts 1 ∷ lasts 3500 ∷ []))
    (plays (lasts 2 ∷ lasts 1 ∷ lasts 2 ∷ lasts 1 ∷ lasts 3500 ∷ [])) ∷
    -- 20: a pause, and a stop
    row (0x20 ∷ 0x02 ∷ 0x00 ∷ []) true (plays (lasts 7000 ∷ [])) (plays (lasts 7000 ∷ [])) ∷
    row (0x20 ∷ 0x00 ∷ 0x00 ∷ []) true (plays (forever ∷ [])) (plays (forever ∷ [])) ∷
    -- 2A
    row (0x2A ∷ 0x00 ∷ 0x00 ∷ 0x00 ∷ 0x00 ∷ []) true (plays (forever ∷ [])) (plays (forever ∷ [])) ∷
    -- 21, 24, 30: nothing
    row (0x21 ∷ 0x01 ∷ 0x41 ∷ []) true (plays []) (plays []) ∷
    row (0x24 ∷ 0x02 ∷ 0x00 ∷ []) true (plays []) (plays []) ∷
    row (0x30 ∷ 0x01 ∷ 0x41 ∷ []) true (plays []) (plays []) ∷ []

pub kepts_said : map (λ e. format_at e.tape) kepts ≡ map (λ e. e.format) kepts
unfolding le_at number_at field_at place_of times each_at groups_at run table_over entry_of cycles_of is_single start_level cycle_level bit_level edged
    pause_level tone_of tones_of bits_at half_of byte_of data_of pause_of sound_of entries_of counted_at pass_at texts_at whole_at sealed enclosed
    fitting_at read_at binary_digits or_full held_if kind10 kind11 kind12 kind13 kind14 stream19 kind19 kind20 kind21 kind22 kind24 kind25 kind_2a
    kind30 kind31 info32 kind32 kind33 kind35 kind_5a kinds kind_of taken_as cut_at symbol_at before rows_from cycles entry_symbol entry_repeat
    entry_row pilot_of equal_halves ordinary used_bits symbol_number single_row pair_row singles_of pairs_of data_part with_pilot with_data general_of
    empty ◌⟫◌ add_tones add_block pend open_loop turbo_tones pure_tones pure_tone_tones pulse_at add_rows row_of standard_sound turbo_sound pair_sounds
    pure_sound pause_sound add_sound add_sounds general_deed stop48_deed does deed_of act halted each bit_pulses bits_in byte_pulses data_pulses
    bits_said format11 format12 format13 format14 wave_from symbol_pulse wave_of pilot_symbol repetitions pilot_pulses bit_at group_at data_number
    symbol_pulses every symbols_said format19 format20 format_2a format_of lengths_of lasting even_count kept11 kept12 kept13 first_pulse
    second_pulse whole_wave kept_times kept_entry kept_pilot kept_symbol kept_pairs kept_data kept19 kept length_of entries_from heard_in played_by
    format_on source_on kept_on same_length same_lengths same_heard kepts
kepts_said = refl

pub kepts_played : map (λ e. source_heard e.tape) kepts ≡ map (λ e. e.source) kepts
unfolding le_at number_at field_at place_of times each_at groups_at run table_over entry_of cycles_of is_single start_level cycle_level bit_level edged
    pause_level tone_of tones_of bits_at half_of byte_of data_of pause_of sound_of entries_of counted_at pass_at texts_at whole_at sealed enclosed
    fitting_at read_at binary_digits or_full held_if kind10 kind11 kind12 kind13 kind14 stream19 kind19 kind20 kind21 kind22 kind24 kind25 kind_2a
    kind30 kind31 info32 kind32 kind33 kind35 kind_5a kinds kind_of taken_as cut_at symbol_at before rows_from cycles entry_symbol entry_repeat
    entry_row pilot_of equal_halves ordinary used_bits symbol_number single_row pair_row singles_of pairs_of data_part with_pilot with_data general_of
    empty ◌⟫◌ add_tones add_block pend open_loop turbo_tones pure_tones pure_tone_tones pulse_at add_rows row_of standard_sound turbo_sound pair_sounds
    pure_sound pause_sound add_sound add_sounds general_deed stop48_deed does deed_of act halted each bit_pulses bits_in byte_pulses data_pulses
    bits_said format11 format12 format13 format14 wave_from symbol_pulse wave_of pilot_symbol repetitions pilot_pulses bit_at group_at data_number
    symbol_pulses every symbols_said format19 format20 format_2a format_of lengths_of lasting even_count kept11 kept12 kept13 first_pulse
    second_pulse whole_wave kept_times kept_entry kept_pilot kept_symbol kept_pairs kept_data kept19 kept length_of entries_from heard_in played_by
    format_on source_on kept_on same_length same_lengths same_heard kepts
kepts_played = refl

pub kepts_kept : map (λ e. kept_at e.tape) kepts ≡ map (λ e. e.kept) kepts
unfolding le_at number_at field_at place_of times each_at groups_at run table_over entry_of cycles_of is_single start_level cycle_level bit_level edged
    pause_level tone_of tones_of bits_at half_of byte_of data_of pause_of sound_of entries_of counted_at pass_at texts_at whole_at sealed enclosed
    fitting_at read_at binary_digits or_full held_if kind10 kind11 kind12 kind13 kind14 stream19 kind19 kind20 kind21 kind22 kind24 kind25 kind_2a
    kind30 kind31 info32 kind32 kind33 kind35 kind_5a kinds kind_of taken_as cut_at symbol_at before rows_from cycles entry_symbol entry_repeat
    entry_row pilot_of equal_halves ordinary used_bits symbol_number single_row pair_row singles_of pairs_of data_part with_pilot with_data general_of
    empty ◌⟫◌ add_tones add_block pend open_loop turbo_tones pure_tones pure_tone_tones pulse_at add_rows row_of standard_sound turbo_sound pair_sounds
    pure_sound pause_sound add_sound add_sounds general_deed stop48_deed does deed_of act halted each bit_pulses bits_in byte_pulses data_pulses
    bits_said format11 format12 format13 format14 wave_from symbol_pulse wave_of pilot_symbol repetitions pilot_pulses bit_at group_at data_number
    symbol_pulses every symbols_said format19 format20 format_2a format_of lengths_of lasting even_count kept11 kept12 kept13 first_pulse
    second_pulse whole_wave kept_times kept_entry kept_pilot kept_symbol kept_pairs kept_data kept19 kept length_of entries_from heard_in played_by
    format_on source_on kept_on same_length same_lengths same_heard kepts
kepts_kept = refl

-- a whole tape: a tone, a pause, a stop on 48K; every piece is kept, and they are played one after the other
abbrev whole : List ℕ
whole = signature ++ 0x01 ∷ 0x14 ∷ 0x12 ∷ 0x64 ∷ 0x00 ∷ 0x04 ∷ 0x00 ∷ 0x20 ∷ 0x01 ∷ 0x00 ∷ 0x2A ∷ 0x00 ∷ 0x00 ∷
    0x00 ∷ 0x00 ∷ []

pub whole-kept : kept_from whole 23 10 none_open ≡ true
unfolding le_at number_at field_at place_of times each_at groups_at run table_over entry_of cycles_of is_single start_level cycle_level bit_level edged
    pause_level tone_of tones_of bits_at half_of byte_of data_of pause_of sound_of entries_of counted_at pass_at texts_at whole_at sealed enclosed
    fitting_at read_at binary_digits or_full held_if kind10 kind11 kind12 kind13 kind14 stream19 kind19 kind20 kind21 kind22 kind24 kind25 kind_2a
    kind30 kind31 info32 kind32 kind33 kind35 kind_5a kinds kind_of taken_as cut_at symbol_at before rows_from cycles entry_symbol entry_repeat
    entry_row pilot_of equal_halves ordinary used_bits symbol_number single_row pair_row singles_of pairs_of data_part with_pilot with_data general_of
    empty ◌⟫◌ add_tones add_block pend open_loop turbo_tones pure_tones pure_tone_tones pulse_at add_rows row_of standard_sound turbo_sound pair_sounds
    pure_sound pause_sound add_sound add_sounds general_deed stop48_deed does deed_of act halted each bit_pulses bits_in byte_pulses data_pulses
    bits_said format11 format12 format13 format14 wave_from symbol_pulse wave_of pilot_symbol repetitions pilot_pulses bit_at group_at data_number
    symbol_pulses every symbols_said format19 format20 format_2a format_of lengths_of lasting even_count kept11 kept12 kept13 first_pulse
    second_pulse whole_wave kept_times kept_entry kept_pilot kept_symbol kept_pairs kept_data kept19 kept length_of entries_from heard_in played_by
    format_on source_on kept_on same_length same_lengths same_heard kept_then kept_from
whole-kept = refl

pub whole_said : map (λ on48. lasting (format_from on48 whole 23 10)) (true ∷ false ∷ [])
    ≡ (lasts 100 ∷ lasts 100 ∷ lasts 100 ∷ lasts 100 ∷ lasts 3500 ∷ forever ∷ []) ∷
    (lasts 100 ∷ lasts 100 ∷ lasts 100 ∷ lasts 100 ∷ lasts 3500 ∷ []) ∷ []
unfolding le_at number_at field_at place_of times each_at groups_at run table_over entry_of cycles_of is_single start_level cycle_level bit_level edged
    pause_level tone_of tones_of bits_at half_of byte_of data_of pause_of sound_of entries_of counted_at pass_at texts_at whole_at sealed enclosed
    fitting_at read_at binary_digits or_full held_if kind10 kind11 kind12 kind13 kind14 stream19 kind19 kind20 kind21 kind22 kind24 kind25 kind_2a
    kind30 kind31 info32 kind32 kind33 kind35 kind_5a kinds kind_of taken_as cut_at symbol_at before rows_from cycles entry_symbol entry_repeat
    entry_row pilot_of equal_halves ordinary used_bits symbol_number single_row pair_row singles_of pairs_of data_part with_pilot with_data general_of
    empty ◌⟫◌ add_tones add_block pend open_loop turbo_tones pure_tones pure_tone_tones pulse_at add_rows row_of standard_sound turbo_sound pair_sounds
    pure_sound pause_sound add_sound add_sounds general_deed stop48_deed does deed_of act halted each bit_pulses bits_in byte_pulses data_pulses
    bits_said format11 format12 format13 format14 wave_from symbol_pulse wave_of pilot_symbol repetitions pilot_pulses bit_at group_at data_number
    symbol_pulses every symbols_said format19 format20 format_2a format_of lengths_of lasting even_count kept11 kept12 kept13 first_pulse
    second_pulse whole_wave kept_times kept_entry kept_pilot kept_symbol kept_pairs kept_data kept19 kept length_of entries_from heard_in played_by
    format_on source_on kept_on same_length same_lengths same_heard said_of said_then format_from
whole_said = refl
