-- THE PRINTED LISTING (rule 113), the P readings (rule 118) as listings, and names, computed; each text is the Rust's. Assumes nothing.
use Prim.Native.Nat.{ℕ}
use mathlib.Core.Path.{◌≡◌, refl}
use mathlib.Core.List.{List, [], ◌∷◌, ◌++◌, map}
use lib.Count.{ones}
use Rattle.refusals.specs.Refusals.{bad_model, tape_bad, generalised, last_bits}
use Rattle.cut_fields.specs.Field.{le_at, number_at, field_at, place_of}
use Rattle.cut_fields.specs.Run.{times, each_at, groups_at}
use Rattle.rows.specs.Table.{table_over}
use Rattle.rows.specs.Well.{well_tone, well_numbers}
use Rattle.cut_grammar.specs.Grammar.{counted_at, pass_at, texts_at, whole_at, sealed, enclosed, fitting_at, read_at, binary_digits}
use Rattle.cut_grammar.specs.Grammar.{or_full, held_if}
use Rattle.cut_grammar.specs.Kinds.{kind10, kind11, kind12, kind13, kind14, stream19, kind19, kind20, kind21, kind22, kind24, kind25}
use Rattle.cut_grammar.specs.Kinds.{kind_2a, kind30, kind31, info32, kind32, kind33, kind35, kind_5a, kinds, kind_of}
use Rattle.cut_grammar.specs.Cut.{signature, starts_at, head_at, taken_as, cut_at, tap_block, tap_at}
use Rattle.load_general.specs.General.{pilot_of, data_part, with_pilot, with_data, general_of}
use Rattle.load_state.specs.Parser.{empty, ◌⟫◌, add_tones, add_block, pend, end_group, open_loop, copy_rows, copies, closed, close_loop}
use Rattle.load_state.specs.Parser.{paused, last_paused}
use Rattle.load_blocks.specs.Sounds.{row_of, add_sound, add_sounds}
use Rattle.load_blocks.specs.Blocks.{standard_header, standard_cycles, standard_tones, standard_pause, turbo_tones, pure_tones, pure_tone_tones}
use Rattle.load_blocks.specs.Blocks.{pulse_at, standard_sound, turbo_sound, pair_sounds, pure_sound, pause_sound}
use Rattle.load_blocks.specs.Adds.{add_rows}
use Rattle.load_blocks.specs.Deeds.{general_deed, stop48_deed, does}
use Rattle.load_source.specs.Meaning.{deed_of}
use Rattle.load_source.specs.Source.{act, read_on, seeing, fold_from, halted, too_many_bits, bits_judged, tzx_of, tzx_see, headed, read_tzx, tap_of}
use Rattle.load_source.specs.Source.{tap_see, read_tap, or_tap, or_else, load_of}
use Rattle.text_out.specs.Out.{ascii, decimal, digits, latin1, each_byte}
use Rattle.text_codes.specs.Encoding.{table, encoded}
use Rattle.text_name.specs.Headers.{type_name, header_name}
use Rattle.text_name.specs.Names.{is_header, size_shown, size_name, guessed, name_of, unselected, name_one, name_all}
use Rattle.play_entries.specs.Entries.{cycles_of, is_single}
use Rattle.play_entries.specs.Counted.{ones_from}
use Rattle.play_entries.specs.Figures.{tone_figure, tones_figure, bits_figure, data_figure, sound_in}
use Rattle.play_entries.specs.Stored.{row_lasts, rows_loading}
use Rattle.load_tape.specs.Load.{named_tape, named_load, load_named, block_table, tone_table}
use Rattle.text_listing.specs.Shown.{shown}
use Rattle.text_listing.specs.Lines.{time_text, mark_text, row_text_by, rows_text_by}
use Rattle.text_listing.specs.Page.{model_text, format_text, count_text, loading_text, rest_text, listing_text}
use Rattle.listing.specs.Listing.{loaded_of, Listing, text, refused, mounted, listed_by, listing_of, listing_by}

-- a TZX of these pieces
abbrev pieces : List ℕ → List ℕ
pieces s = signature ++ (1 ∷ 20 ∷ s)

pub record ListReading : Type 0 where
  pub model : ℕ
  pub tape : List ℕ
  pub gives : Listing

-- tapes/levels.tzx, from its first piece on
abbrev levels : List ℕ
levels =
    0x10 ∷ 0xE8 ∷ 0x03 ∷ 0x13 ∷ 0x00 ∷ 0x00 ∷ 0x03 ∷ 0x4C ∷ 0x65 ∷ 0x76 ∷ 0x65 ∷ 0x6C ∷ 0x20 ∷ 0x4E ∷ 0x6F ∷ 0x20 ∷
    0x31 ∷ 0x42 ∷ 0x00 ∷ 0x00 ∷ 0x80 ∷ 0x00 ∷ 0x80 ∷ 0x07 ∷ 0x10 ∷ 0xE8 ∷ 0x03 ∷ 0x44 ∷ 0x00 ∷ 0xFF ∷ 0xF3 ∷ 0xFF ∷
    0x81 ∷ 0xBD ∷ 0xA5 ∷ 0xA5 ∷ 0xBD ∷ 0x81 ∷ 0xFF ∷ 0xFF ∷ 0x81 ∷ 0xBD ∷ 0xA5 ∷ 0xA5 ∷ 0xBD ∷ 0x81 ∷ 0xFF ∷ 0xFF ∷
    0x81 ∷ 0xBD ∷ 0xA5 ∷ 0xA5 ∷ 0xBD ∷ 0x81 ∷ 0xFF ∷ 0xFF ∷ 0x81 ∷ 0xBD ∷ 0xA5 ∷ 0xA5 ∷ 0xBD ∷ 0x81 ∷ 0xFF ∷ 0xFF ∷
    0x81 ∷ 0xBD ∷ 0xA5 ∷ 0xA5 ∷ 0xBD ∷ 0x81 ∷ 0xFF ∷ 0xFF ∷ 0x81 ∷ 0xBD ∷ 0xA5 ∷ 0xA5 ∷ 0xBD ∷ 0x81 ∷ 0xFF ∷ 0xFF ∷
    0x81 ∷ 0xBD ∷ 0xA5 ∷ 0xA5 ∷ 0xBD ∷ 0x81 ∷ 0xFF ∷ 0xFF ∷ 0x81 ∷ 0xBD ∷ 0xA5 ∷ 0xA5 ∷ 0xBD ∷ 0x81 ∷ 0xFF ∷ 0xC9 ∷
    0xC5 ∷ 0x2A ∷ 0x00 ∷ 0x00 ∷ 0x00 ∷ 0x00 ∷ 0x10 ∷ 0xE8 ∷ 0x03 ∷ 0x13 ∷ 0x00 ∷ 0x00 ∷ 0x03 ∷ 0x4C ∷ 0x65 ∷ 0x76 ∷
    0x65 ∷ 0x6C ∷ 0x20 ∷ 0x4E ∷ 0x6F ∷ 0x20 ∷ 0x32 ∷ 0x42 ∷ 0x00 ∷ 0x00 ∷ 0xA0 ∷ 0x00 ∷ 0x80 ∷ 0x24 ∷ 0x10 ∷ 0x00 ∷
    0x00 ∷ 0x44 ∷ 0x00 ∷ 0xFF ∷ 0xF3 ∷ 0xFF ∷ 0x81 ∷ 0xBD ∷ 0xA5 ∷ 0xA5 ∷ 0xBD ∷ 0x81 ∷ 0xFF ∷ 0xFF ∷ 0x81 ∷ 0xBD ∷
    0xA5 ∷ 0xA5 ∷ 0xBD ∷ 0x81 ∷ 0xFF ∷ 0xFF ∷ 0x81 ∷ 0xBD ∷ 0xA5 ∷ 0xA5 ∷ 0xBD ∷ 0x81 ∷ 0xFF ∷ 0xFF ∷ 0x81 ∷ 0xBD ∷
    0xA5 ∷ 0xA5 ∷ 0xBD ∷ 0x81 ∷ 0xFF ∷ 0xFF ∷ 0x81 ∷ 0xBD ∷ 0xA5 ∷ 0xA5 ∷ 0xBD ∷ 0x81 ∷ 0xFF ∷ 0xFF ∷ 0x81 ∷ 0xBD ∷
    0xA5 ∷ 0xA5 ∷ 0xBD ∷ 0x81 ∷ 0xFF ∷ 0xFF ∷ 0x81 ∷ 0xBD ∷ 0xA5 ∷ 0xA5 ∷ 0xBD ∷ 0x81 ∷ 0xFF ∷ 0xFF ∷ 0x81 ∷ 0xBD ∷
    0xA5 ∷ 0xA5 ∷ 0xBD ∷ 0x81 ∷ 0xFF ∷ 0xC9 ∷ 0xC5 ∷ []

abbrev lists : ℕ → List ℕ → Listing → ListReading
lists model tape gives = record { model = model; tape = tape; gives = gives }

-- each with its lines
abbrev pub readings : List ListReading
readings =
    -- the printed listing, and the same tape on the others
    lists 0
    (pieces (0x12 ∷ 0x64 ∷ 0x00 ∷ 0x04 ∷ 0x00 ∷ 0x20 ∷ 0x01 ∷ 0x00 ∷ 0x2A ∷ 0x00 ∷ 0x00 ∷ 0x00 ∷ 0x00 ∷ []))
    (text (ascii "model 48K format TZX blocks 3\n0 - 0 400 0 bytes\n1 - 0 3500 0 bytes\n2 * 0 stop stop\ntime 400\n")) ∷
    lists 1
    (pieces (0x12 ∷ 0x64 ∷ 0x00 ∷ 0x04 ∷ 0x00 ∷ 0x20 ∷ 0x01 ∷ 0x00 ∷ 0x2A ∷ 0x00 ∷ 0x00 ∷ 0x00 ∷ 0x00 ∷ []))
    (text (ascii "model 128K format TZX blocks 2\n0 - 0 400 0 bytes\n1 - 0 3500 0 bytes\ntime 400\n")) ∷
    lists 2
    (pieces (0x12 ∷ 0x64 ∷ 0x00 ∷ 0x04 ∷ 0x00 ∷ 0x20 ∷ 0x01 ∷ 0x00 ∷ 0x2A ∷ 0x00 ∷ 0x00 ∷ 0x00 ∷ 0x00 ∷ []))
    (text (ascii "model Plus3 format TZX blocks 2\n0 - 0 400 0 bytes\n1 - 0 3500 0 bytes\ntime 400\n")) ∷
    -- no such model
    lists 3
    (pieces (0x12 ∷ 0x64 ∷ 0x00 ∷ 0x04 ∷ 0x00 ∷ 0x20 ∷ 0x01 ∷ 0x00 ∷ 0x2A ∷ 0x00 ∷ 0x00 ∷ 0x00 ∷ 0x00 ∷ []))
    (refused bad_model) ∷
    -- empty or one byte: TAP, no blocks
    lists 0 [] (text (ascii "model 48K format TAP blocks 0\ntime 0\n")) ∷
    lists 2 (0x13 ∷ []) (text (ascii "model Plus3 format TAP blocks 0\ntime 0\n")) ∷
    -- `00 00`: one block, 4,032 cycles; `01 00 FF`: 1,612 cycles, pause 7,000,000; `02 00 FF`: refused 3
    lists 0 (0x00 ∷ 0x00 ∷ []) (text (ascii "model 48K format TAP blocks 1\n0 * 0 20984154 0 bytes\ntime 17484154\n")) ∷
    lists 0 (0x01 ∷ 0x00 ∷ 0xFF ∷ []) (text (ascii "model 48K format TAP blocks 1\n0 * 1 14018394 1 bytes\ntime 7018394\n")) ∷
    lists 0 (0x02 ∷ 0x00 ∷ 0xFF ∷ []) (refused tape_bad) ∷
    -- 12 with length 100: count 1, count 0
    lists 0 (pieces (0x12 ∷ 0x64 ∷ 0x00 ∷ 0x01 ∷ 0x00 ∷ []))
    (text (ascii "model 48K format TZX blocks 1\n0 - 0 300 0 bytes\ntime 300\n")) ∷
    lists 0 (pieces (0x12 ∷ 0x64 ∷ 0x00 ∷ 0x00 ∷ 0x00 ∷ []))
    (text (ascii "model 48K format TZX blocks 1\n0 - 0 200 0 bytes\ntime 200\n")) ∷
    -- loop 2 round one pause: three blocks
    lists 0 (pieces (0x24 ∷ 0x02 ∷ 0x00 ∷ 0x20 ∷ 0x01 ∷ 0x00 ∷ 0x25 ∷ []))
    (text (ascii "model 48K format TZX blocks 3\n0 - 0 3500 0 bytes\n1 - 0 3500 0 bytes\n2 - 0 3500 0 bytes\ntime 0\n")) ∷
    -- pure data byte 80, zero 10, one 20, last bits 0, pause 0; last bits 8 accepted, 9 refused 7
    lists 0 (pieces (0x14 ∷ 0x0A ∷ 0x00 ∷ 0x14 ∷ 0x00 ∷ 0x00 ∷ 0x00 ∷ 0x00 ∷ 0x01 ∷ 0x00 ∷ 0x00 ∷ 0x80 ∷ []))
    (text (ascii "model 48K format TZX blocks 1\n0 * 1 40 1 bytes\ntime 40\n")) ∷
    lists 0 (pieces (0x14 ∷ 0x0A ∷ 0x00 ∷ 0x14 ∷ 0x00 ∷ 0x08 ∷ 0x00 ∷ 0x00 ∷ 0x01 ∷ 0x00 ∷ 0x00 ∷ 0x80 ∷ []))
    (text (ascii "model 48K format TZX blocks 1\n0 * 1 180 1 bytes\ntime 180\n")) ∷
    lists 0 (pieces (0x14 ∷ 0x0A ∷ 0x00 ∷ 0x14 ∷ 0x00 ∷ 0x09 ∷ 0x00 ∷ 0x00 ∷ 0x01 ∷ 0x00 ∷ 0x00 ∷ 0x80 ∷ []))
    (refused last_bits) ∷
    -- a given name of code points 31, 32, 126 to 128, 159, 160 and 255, and an empty one
    -- (`? ~???`, A0 and `ÿ`, in UTF-8)
    lists 0
    (pieces (0x30 ∷ 0x08 ∷ 0x1F ∷ 0x20 ∷ 0x7E ∷ 0x7F ∷ 0x80 ∷ 0x9F ∷ 0xA0 ∷ 0xFF ∷ 0x20 ∷ 0x01 ∷ 0x00 ∷ [])) (text
    (ascii "model 48K format TZX blocks 1\n0 * 0 3500 ? ~???" ++ (0xC2 ∷ 0xA0 ∷ 0xC3 ∷ 0xBF ∷ []) ++ ascii "\ntime 0\n")) ∷
    lists 0 (pieces (0x30 ∷ 0x00 ∷ 0x20 ∷ 0x01 ∷ 0x00 ∷ []))
    (text (ascii "model 48K format TZX blocks 1\n0 * 0 3500 \ntime 0\n")) ∷
    -- THE LOADING TIME: it ends with the last tone or data entry with length; pauses before it count, pauses behind it don't
    lists 0 (pieces (0x20 ∷ 0x01 ∷ 0x00 ∷ 0x12 ∷ 0x64 ∷ 0x00 ∷ 0x02 ∷ 0x00 ∷ []))
    (text (ascii "model 48K format TZX blocks 2\n0 - 0 3500 0 bytes\n1 - 0 200 0 bytes\ntime 3700\n")) ∷
    -- a tone of no length is no end
    lists 0 (pieces (0x12 ∷ 0x64 ∷ 0x00 ∷ 0x04 ∷ 0x00 ∷ 0x20 ∷ 0x01 ∷ 0x00 ∷ 0x12 ∷ 0x00 ∷ 0x00 ∷ 0x04 ∷ 0x00 ∷ []))
    (text (ascii "model 48K format TZX blocks 3\n0 - 0 400 0 bytes\n1 - 0 3500 0 bytes\n2 - 0 0 0 bytes\ntime 400\n")) ∷
    -- nothing before the first stop
    lists 0 (pieces (0x20 ∷ 0x00 ∷ 0x00 ∷ 0x12 ∷ 0x64 ∷ 0x00 ∷ 0x04 ∷ 0x00 ∷ []))
    (text (ascii "model 48K format TZX blocks 2\n0 * 0 stop stop\n1 - 0 400 0 bytes\ntime 0\n")) ∷
    -- a block's own pause, at the end
    lists 0 (pieces (0x14 ∷ 0x0A ∷ 0x00 ∷ 0x14 ∷ 0x00 ∷ 0x00 ∷ 0x05 ∷ 0x00 ∷ 0x01 ∷ 0x00 ∷ 0x00 ∷ 0x80 ∷ []))
    (text (ascii "model 48K format TZX blocks 1\n0 * 1 17540 1 bytes\ntime 40\n")) ∷
    -- and between sounds: of a pause block, and of a 14 without data
    lists 0
    (pieces (0x12 ∷ 0x64 ∷ 0x00 ∷ 0x04 ∷ 0x00 ∷ 0x20 ∷ 0x01 ∷ 0x00 ∷ 0x14 ∷ 0x0A ∷ 0x00 ∷ 0x14 ∷ 0x00 ∷ 0x08 ∷ 0x05 ∷ 0x00 ∷ 0x00 ∷ 0x00 ∷
    0x00 ∷ 0x12 ∷ 0x64 ∷ 0x00 ∷ 0x02 ∷ 0x00 ∷ []))
    (text
    (ascii "model 48K format TZX blocks 4\n0 - 0 400 0 bytes\n1 - 0 3500 0 bytes\n"
    ++ ascii "2 * 0 17500 0 bytes\n3 - 0 200 0 bytes\ntime 21600\n")) ∷
    -- tapes/levels.tzx, where a 48K stops and a 128K plays on
    lists 0 (pieces levels)
    (text
    (ascii "model 48K format TZX blocks 5\n0 * 19 21319314 Bytes: Level No 1\n1 - 68 12006094 68 bytes\n2 * 0 stop stop\n"
    ++ ascii "3 * 19 21319314 Bytes: Level No 2\n4 - 68 8506094 68 bytes\ntime 29825408\n")) ∷
    lists 1 (pieces levels)
    (text
    (ascii "model 128K format TZX blocks 4\n0 * 19 21319314 Bytes: Level No 1\n1 - 68 12006094 68 bytes\n"
    ++ ascii "2 * 19 21319314 Bytes: Level No 2\n3 - 68 8506094 68 bytes\ntime 63150816\n")) ∷
    -- a generalised piece with neither pilot nor data: refused 4
    lists 0 (pieces (0x19 ∷ 0x00 ∷ 0x00 ∷ 0x00 ∷ 0x00 ∷ 0x00 ∷ 0x00 ∷ 0x00 ∷ 0x00 ∷ 0x00 ∷ 0x00 ∷ 0x00 ∷ 0x00 ∷
    0x00 ∷ 0x00 ∷ 0x00 ∷ 0x00 ∷ 0x00 ∷ 0x00 ∷ [])) (refused generalised) ∷
    []

pub listings_said : map (λ (e : ListReading). listing_of e.tape e.model) readings ≡ map (λ (e : ListReading). e.gives) readings
unfolding le_at number_at field_at place_of times each_at groups_at counted_at pass_at texts_at whole_at sealed enclosed fitting_at read_at binary_digits
    or_full held_if kind10 kind11 kind12 kind13 kind14 stream19 kind19 kind20 kind21 kind22 kind24 kind25 kind_2a kind30 kind31 info32 kind32
    kind33 kind35 kind_5a kinds kind_of starts_at head_at taken_as cut_at tap_block tap_at pilot_of data_part with_pilot with_data general_of empty ◌⟫◌
    add_tones add_block pend end_group open_loop copy_rows copies closed close_loop paused last_paused standard_header standard_cycles standard_tones
    standard_pause turbo_tones pure_tones pure_tone_tones pulse_at add_rows row_of standard_sound turbo_sound pair_sounds pure_sound pause_sound add_sound
    add_sounds general_deed stop48_deed does deed_of act read_on seeing fold_from halted too_many_bits bits_judged tzx_of tzx_see headed read_tzx tap_of
    tap_see read_tap or_tap or_else load_of decimal digits latin1 each_byte table encoded is_header type_name header_name size_shown size_name guessed
    name_of unselected name_one name_all named_tape named_load load_named block_table tone_table table_over cycles_of is_single well_tone well_numbers
    ones_from ones tone_figure tones_figure bits_figure data_figure sound_in row_lasts rows_loading shown time_text mark_text row_text_by rows_text_by
    model_text format_text count_text loading_text rest_text listing_text loaded_of mounted listed_by listing_by
listings_said = refl
