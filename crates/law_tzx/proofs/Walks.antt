-- TAPES OF A FEW PIECES walked by both readings: where 19's length takes them, and what is open. Assumes nothing.
use Prim.Native.Nat.{ℕ}
use mathlib.Core.Path.{◌≡◌, refl}
use mathlib.Core.Bool.{Bool, true, false}
use mathlib.Core.List.{List, [], ◌∷◌, map}
use lib.ListN.{length}
use Rattle.cut_fields.specs.Field.{le_at, number_at, field_at, place_of}
use Rattle.cut_fields.specs.Run.{times, each_at, groups_at}
use Rattle.law_pulses.specs.Runs.{run}
use Rattle.rows.specs.Table.{table_over}
use Rattle.play_entries.specs.Entries.{entry_of, cycles_of, is_single, start_level, cycle_level, bit_level, edged, pause_level, tone_of, tones_of}
use Rattle.play_entries.specs.Entries.{bits_at, half_of, byte_of, data_of, pause_of, sound_of, entries_of}
use Rattle.cut_grammar.specs.Grammar.{counted_at, pass_at, whole_at, sealed, enclosed, fitting_at, read_at, binary_digits, or_full, held_if}
use Rattle.cut_grammar.specs.Kinds.{stream19, kind19, kind20, kind21, kind24, kind25, kinds, kind_of}
use Rattle.cut_grammar.specs.Cut.{taken_as, cut_at}
use Rattle.load_general.specs.General.{symbol_at, before, rows_from, pilot_of, equal_halves, ordinary, symbol_number, pair_row}
use Rattle.load_general.specs.General.{pairs_of, data_part, with_pilot, with_data, general_of}
use Rattle.load_state.specs.Parser.{empty, ◌⟫◌, add_tones, add_block}
use Rattle.load_blocks.specs.Sounds.{row_of, add_sound, add_sounds}
use Rattle.load_blocks.specs.Blocks.{pause_sound}
use Rattle.load_blocks.specs.Adds.{add_rows}
use Rattle.load_blocks.specs.Deeds.{general_deed, does}
use Rattle.load_source.specs.Meaning.{deed_of}
use Rattle.load_source.specs.Source.{act, read_on, seeing, fold_from, tzx_of, tzx_see}
use Rattle.law_tzx.specs.Format.{PulseLength, lasts, each, wave_from, symbol_pulse, wave_of, pilot_symbol, bit_at, group_at, data_number}
use Rattle.law_tzx.specs.Format.{symbol_pulses, every, symbols_said, format19, format20, format_of, lengths_of, lasting}
use Rattle.law_tzx.specs.Kept.{first_pulse, kept_pilot, kept_pairs, kept_data, kept19, kept, length_of, entries_from}
use Rattle.law_tzx.specs.Heard.{most, played_by}
use Rattle.law_tzx.specs.Tapes.{none_open, kept_then, kept_from, said_of, said_then, format_from}
use Rattle.law_tzx.proofs.Differ.{lengths_in, whole_read}

-- a tape, whether every piece is kept, what the format plays of it, and what the source reading does
pub record Walk : Type 0 where
  pub tape : List ℕ
  pub kept : Bool
  pub format : List PulseLength
  pub source : List PulseLength

abbrev pub walk : List ℕ → Bool → List PulseLength → List PulseLength → Walk
walk tape kept format source = record { tape = tape; kept = kept; format = format; source = source }

abbrev pub walked : List ℕ → Walk
walked s =
    walk s (kept_from s (length s) 0 none_open) (lasting (format_from true s (length s) 0))
    (whole_read s (fold_from (tzx_see most s 0) (length s) 0 empty))

-- a 19 of this length, which is to be 21, and a pause
abbrev pub lengthy : ℕ → List ℕ
lengthy n =
    0x19 ∷ n ∷ 0x00 ∷ 0x00 ∷ 0x00 ∷ 0x00 ∷ 0x00 ∷ 0x00 ∷ 0x00 ∷ 0x00 ∷ 0x00 ∷ 0x00 ∷ 0x00 ∷ 0x04 ∷ 0x00 ∷
    0x00 ∷ 0x00 ∷ 0x01 ∷ 0x02 ∷
    0x00 ∷ 0x01 ∷ 0x00 ∷ 0x00 ∷ 0x02 ∷ 0x00 ∷ 0xA0 ∷ 0x20 ∷ 0x01 ∷ 0x00 ∷ []

unfoldable pub walks : List Walk
walks =
    walk (lengthy 21) true (lasts 2 ∷ lasts 1 ∷ lasts 2 ∷ lasts 1 ∷ lasts 3500 ∷ [])
    (lasts 2 ∷ lasts 1 ∷ lasts 2 ∷ lasts 1 ∷ lasts 3500 ∷ []) ∷
    -- the length takes in the pause: it is part of the 19, or a piece
    walk (lengthy 24) false (lasts 2 ∷ lasts 1 ∷ lasts 2 ∷ lasts 1 ∷ [])
    (lasts 2 ∷ lasts 1 ∷ lasts 2 ∷ lasts 1 ∷ lasts 3500 ∷ []) ∷
    -- the length leaves out the last byte: not said, or unused
    walk (lengthy 20) false [] (lasts 2 ∷ lasts 1 ∷ lasts 2 ∷ lasts 1 ∷ lasts 3500 ∷ []) ∷ []

pub walks_walked : map (λ e. walked e.tape) walks ≡ walks
unfolding le_at number_at field_at place_of times each_at groups_at run table_over entry_of cycles_of is_single start_level cycle_level bit_level edged
    pause_level tone_of tones_of bits_at half_of byte_of data_of pause_of sound_of entries_of counted_at pass_at whole_at sealed enclosed fitting_at
    read_at binary_digits or_full held_if stream19 kind19 kind20 kinds kind_of taken_as cut_at symbol_at before rows_from pilot_of equal_halves
    ordinary
    symbol_number pair_row pairs_of data_part with_pilot with_data general_of empty ◌⟫◌ add_tones add_block row_of add_sound add_sounds pause_sound
    add_rows general_deed does deed_of act read_on seeing fold_from tzx_of tzx_see each wave_from symbol_pulse wave_of pilot_symbol bit_at group_at
    data_number symbol_pulses every symbols_said format19 format20 format_of lengths_of lasting first_pulse kept_pilot kept_pairs kept_data
    kept19 kept length_of entries_from played_by kept_then kept_from said_of said_then format_from lengths_in whole_read walks
walks_walked = refl

-- no tape of kept pieces: a group in a group, a loop in a loop, a loop without its end, a loop of one; and one with a group alone
pub opens_kept :
    map (λ s. kept_from s (length s) 0 none_open)
    ((0x21 ∷ 0x00 ∷ 0x20 ∷ 0x01 ∷ 0x00 ∷ 0x21 ∷ 0x00 ∷ []) ∷ (0x24 ∷ 0x02 ∷ 0x00 ∷ 0x24 ∷ 0x02 ∷ 0x00 ∷ []) ∷
    (0x24 ∷ 0x02 ∷ 0x00 ∷ []) ∷
    (0x24 ∷ 0x01 ∷ 0x00 ∷ 0x25 ∷ []) ∷ (0x21 ∷ 0x00 ∷ 0x20 ∷ 0x01 ∷ 0x00 ∷ []) ∷ [])
    ≡ false ∷ false ∷ false ∷ false ∷ true ∷ []
unfolding le_at number_at field_at place_of counted_at pass_at whole_at read_at kind20 kind21 kind24 kind25 kinds kind_of taken_as cut_at kept
    kept_then kept_from
opens_kept = refl
