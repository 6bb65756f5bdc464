-- THE P READINGS (rule 118), all of them, each from a tape's bytes through what the contracts cite, by computation. Assumes nothing.
use Prim.Native.Nat.{ℕ, zero, suc, ◌+◌, ◌*◌}
use mathlib.Core.Path.{◌≡◌, refl}
use mathlib.Core.Bool.{true, false}
use mathlib.Core.List.{List, [], ◌∷◌, ◌++◌, map}
use lib.ListN.{length}
use Rattle.refusals.specs.Refusals.{tape_bad, last_bits}
use Rattle.cut_fields.specs.Field.{le_at, number_at, field_at, place_of}
use Rattle.cut_fields.specs.Run.{times, each_at, groups_at}
use Rattle.law_pulses.specs.Play.{low, high, answer, rest, over, status_here, status, time, comes_to}
use Rattle.law_pulses.specs.Runs.{run}
use Rattle.law_pulses.specs.Source.{after, turn, turns, sourced, reached}
use Rattle.rows.specs.Table.{get, table_over}
use Rattle.rows.specs.Rows.{tone, block as row}
use Rattle.rows.specs.Well.{well_ranges, well_tone, well_numbers, well_cases, well_tones, well_block}
use Rattle.cut_grammar.specs.Grammar.{counted_at, pass_at, texts_at, whole_at, sealed, enclosed, fitting_at, read_at, binary_digits}
use Rattle.cut_grammar.specs.Grammar.{or_full, held_if}
use Rattle.cut_grammar.specs.Kinds.{kind10, kind11, kind12, kind13, kind14, stream19, kind19, kind20, kind21, kind22, kind24, kind25}
use Rattle.cut_grammar.specs.Kinds.{kind_2a, kind30, kind31, info32, kind32, kind33, kind35, kind_5a, kinds, kind_of}
use Rattle.cut_grammar.specs.Cut.{signature, starts_at, head_at, taken_as, cut_at, tap_block, tap_at}
use Rattle.load_state.specs.Parser.{empty, ◌⟫◌, add_tones, add_block, pend, end_group, open_loop, copy_rows, copies, closed, close_loop}
use Rattle.load_state.specs.Parser.{paused, last_paused}
use Rattle.load_blocks.specs.Sounds.{row_of, add_sound, add_sounds}
use Rattle.load_blocks.specs.Blocks.{standard_header, standard_cycles, standard_tones, standard_pause, turbo_tones, pure_tones, pure_tone_tones}
use Rattle.load_blocks.specs.Blocks.{pulse_at, standard_sound, turbo_sound, pair_sounds, pure_sound, pause_sound}
use Rattle.load_blocks.specs.Does.{lent_of}
use Rattle.load_blocks.specs.Adds.{add_rows}
use Rattle.load_blocks.specs.Deeds.{general_deed, stop48_deed, does}
use Rattle.load_source.specs.Meaning.{deed_of}
use Rattle.load_source.specs.Source.{act, read_on, seeing, fold_from, halted, too_many_bits, bits_judged, tzx_of, tzx_see, headed, read_tzx, tap_of}
use Rattle.load_source.specs.Source.{tap_see, read_tap, Load, tzx, tapped, both_err, no, or_tap, or_else, load_of}
use Rattle.text_out.specs.Out.{decimal, digits}
use Rattle.text_name.specs.Names.{is_header, size_shown, size_name, guessed, name_of, unselected, name_one, name_all}
use Rattle.load_tape.specs.declared.Format.{Format}
use Rattle.load_tape.specs.declared.Format.TheVariants.{Tap, Tzx}
use Rattle.load_tape.specs.Load.{named_tape, named_load, load_named, block_table, tone_table}
use Rattle.play_entries.specs.declared.Phase.TheVariants.{Tones}
use Rattle.play_entries.specs.declared.Duration.{Duration}
use Rattle.play_entries.specs.declared.Duration.TheVariants.{T}
use Rattle.play_entries.specs.Entries.{entry_of, cycles_of, is_single, start_level, cycle_level, bit_level, edged, pause_level, tone_of, tones_of}
use Rattle.play_entries.specs.Figures.{tone_figure, tones_figure, bits_figure, data_figure, sound_in}
use Rattle.play_entries.specs.Entries.{bits_at, half_of, byte_of, data_of, pause_of, sound_of, entries_of, lasts_of}
use Rattle.play_entries.specs.Places.{Tape, block_in, list_from, level_at, from_edge, from_second, left_at, has_entry, length_at, remains, valid}
use Rattle.play_entries.specs.Places.{head_of, left_of}
use Rattle.play_entries.specs.Mounted.{well_row, first_bad, formed, tape_of}
use Rattle.play_walk.specs.declared.How.TheVariants.{At, Ended}
use Rattle.play_walk.specs.Heads.{placed, start_at, stand, level_here, rest_level, told_as, told_reached, walked, walk_from, came}
use Rattle.play_deck.specs.Deck.{ruled_out, ill_formed, judged, unless, play_measured, source_answer, source_from, play_source}

-- what is said of a block: the cycles of its first tone row, its pause, its T-states, its name
pub record SaidOfBlock : Type 0 where
  pub cycles : ℕ
  pub pause : Duration
  pub lasts : Duration
  pub name : List ℕ

pub data TapeReading : Type 0 where
  is : Format → List SaidOfBlock → TapeReading
  refused : ℕ → TapeReading

-- room for three blocks and four tone rows, in words
abbrev pub block_words : ℕ
block_words = 3 * row.width

abbrev pub tone_words : ℕ
tone_words = 4 * tone.width

-- the tables of a load into that room
abbrev pub mounted : List ℕ → Load → ℕ → Tape
mounted s l n = tape_of s (tone_table tone_words l) (block_table block_words l) n

abbrev said : Tape → ℕ → SaidOfBlock
said w i =
    record {
      cycles = (get tone w.tones (block_in w i).tone).num;
      pause = pause_of (block_in w i);
      lasts = lasts_of (entries_of w.bytes w.tones i (block_in w i));
      name = name_of w.bytes (block_in w i);
    }

abbrev from : Tape → ℕ → ℕ → List SaidOfBlock
from w i zero = []
from w i (suc n) = said w i ∷ from w (i + 1) n

abbrev reads : List ℕ → Load → TapeReading
reads s (tzx t) = is Tzx (from (mounted s (tzx t) (length t.blocks)) 0 (length t.blocks))
reads s (tapped t) = is Tap (from (mounted s (tapped t) (length t.blocks)) 0 (length t.blocks))
reads s (both_err f g) = refused tape_bad
reads s (no k) = refused k

-- a TZX of these pieces
abbrev pub pieces : List ℕ → List ℕ
pieces s = signature ++ 1 ∷ 20 ∷ s

-- `d bytes`
abbrev sized : ℕ → List ℕ
sized d = (0x30 + d) ∷ 0x20 ∷ 0x62 ∷ 0x79 ∷ 0x74 ∷ 0x65 ∷ 0x73 ∷ []

abbrev block : ℕ → ℕ → ℕ → ℕ → SaidOfBlock
block cycles pause t d = record { cycles = cycles; pause = T pause; lasts = T t; name = sized d }

-- THE TABLE: a tape's bytes, and what is read
abbrev pub readings : List (List ℕ × TapeReading)
readings =
    -- empty or one byte: TAP, no blocks
    ([], is Tap [])
    ∷ (0 ∷ [], is Tap [])
    -- `00 00`: one block, 4,032 cycles, `0 bytes`
    ∷ (0 ∷ 0 ∷ [], is Tap (block 4032 3500000 20984154 0 ∷ []))
    -- `01 00 FF`: 1,612 cycles, pause 7,000,000
    ∷ (1 ∷ 0 ∷ 0xFF ∷ [], is Tap (block 1612 7000000 14018394 1 ∷ []))
    -- `02 00 FF`: refused 3
    ∷ (2 ∷ 0 ∷ 0xFF ∷ [], refused tape_bad)
    -- 12 with length 100, count 1: 300 T; count 0: 200
    ∷ (pieces (0x12 ∷ 100 ∷ 0 ∷ 1 ∷ 0 ∷ []), is Tzx (block 1 0 300 0 ∷ []))
    ∷ (pieces (0x12 ∷ 100 ∷ 0 ∷ 0 ∷ 0 ∷ []), is Tzx (block 0 0 200 0 ∷ []))
    -- loop 2 round one pause: three blocks
    ∷ (
      pieces (0x24 ∷ 2 ∷ 0 ∷ 0x20 ∷ 1 ∷ 0 ∷ 0x25 ∷ []),
      is Tzx (block 0 3500 3500 0 ∷ block 0 3500 3500 0 ∷ block 0 3500 3500 0 ∷ []),
    )
    -- pure data byte 80, zero 10, one 20, last bits 0, pause 0: 40 T
    ∷ (pieces (0x14 ∷ 10 ∷ 0 ∷ 20 ∷ 0 ∷ 0 ∷ 0 ∷ 0 ∷ 1 ∷ 0 ∷ 0 ∷ 0x80 ∷ []), is Tzx (block 0 0 40 1 ∷ []))
    -- last bits 8 accepted, 9 refused 7
    ∷ (pieces (0x14 ∷ 10 ∷ 0 ∷ 20 ∷ 0 ∷ 8 ∷ 0 ∷ 0 ∷ 1 ∷ 0 ∷ 0 ∷ 0x80 ∷ []), is Tzx (block 0 0 180 1 ∷ []))
    ∷ (pieces (0x14 ∷ 10 ∷ 0 ∷ 20 ∷ 0 ∷ 9 ∷ 0 ∷ 0 ∷ 1 ∷ 0 ∷ 0 ∷ 0x80 ∷ []), refused last_bits)
    ∷ []

pub readings_read : map (λ e. reads e.0 (load_named (lent_of block_words tone_words) e.0 0)) readings ≡ map (λ e. e.1) readings
unfolding load_named named_load named_tape load_of or_else or_tap read_tzx read_tap headed head_at starts_at bits_judged too_many_bits fold_from seeing
    read_on tzx_see tzx_of tap_see tap_of tap_at tap_block cut_at taken_as kind_of kinds kind10 kind11 kind12 kind13 kind14 stream19 kind19 kind20
    kind21 kind22 kind24 kind25 kind_2a kind30 kind31 info32 kind32 kind33 kind35 kind_5a read_at counted_at pass_at texts_at whole_at sealed
    enclosed fitting_at binary_digits or_full held_if field_at number_at le_at place_of times each_at groups_at halted row_of standard_sound turbo_sound
    pair_sounds pure_sound pause_sound add_sound add_sounds general_deed stop48_deed does deed_of act add_rows add_tones add_block ◌⟫◌ empty pend
    end_group open_loop copy_rows copies closed close_loop paused last_paused standard_header standard_cycles standard_tones standard_pause
    turbo_tones pure_tones pure_tone_tones pulse_at name_all name_one unselected is_header name_of guessed size_name size_shown decimal digits
    block_table tone_table table_over lasts_of comes_to time entries_of sound_of tones_of tone_of cycles_of is_single start_level cycle_level bit_level
    edged pause_level data_of byte_of bits_at half_of pause_of entry_of run
readings_read = refl

-- a sole 12 of 100 and 4, loaded
abbrev pub sole_bytes : List ℕ
sole_bytes = pieces (0x12 ∷ 100 ∷ 0 ∷ 4 ∷ 0 ∷ [])

abbrev pub sole : Tape
sole = mounted sole_bytes (load_named (lent_of block_words tone_words) sole_bytes 0) 1

-- from its start: 99 leaves both players in the first half with 1 left;
-- 100 leaves the measured one at the high half, full, the source's ended
pub players_read :
    (map (λ n. play_measured sole (start_at 0) n) (99 ∷ 100 ∷ [])
    ≡ came At (stand (placed 0 (Tones 0 0 false) (T 1)) 1 low) ∷ came At (stand (placed 0 (Tones 0 0 true) (T 100)) 2 high) ∷ [])
    × (map (λ n. play_source sole (start_at 0) n) (99 ∷ 100 ∷ [])
    ≡ came At (stand (placed 0 (Tones 0 0 false) (T 1)) 1 low) ∷ came Ended (stand (start_at 1) 6 low) ∷ [])
unfolding load_named named_load named_tape load_of or_else or_tap read_tzx read_tap headed head_at starts_at bits_judged too_many_bits fold_from seeing
    read_on tzx_see tzx_of cut_at taken_as kind_of kinds kind12 read_at whole_at field_at number_at le_at place_of halted row_of standard_sound turbo_sound
    pair_sounds pure_sound pause_sound add_sound add_sounds general_deed stop48_deed does deed_of act add_rows add_tones add_block ◌⟫◌ empty
    pure_tone_tones name_all name_one unselected is_header block_table tone_table table_over play_measured play_source unless judged ruled_out
    ill_formed well_row well_block well_ranges well_numbers well_cases well_tones well_tone valid has_entry remains length_at walk_from source_from
    source_answer sourced turns turn after reached walked formed first_bad told_reached told_as level_here rest_level head_of left_of answer rest
    over status_here status level_at from_edge from_second left_at list_from entries_of sound_of tones_of tone_of cycles_of is_single start_level
    cycle_level bit_level edged pause_level data_of pause_of entry_of run tone_figure tones_figure bits_figure data_figure sound_in
players_read = (refl, refl)
