-- Worked examples of a load, the P readings (rule 118) about loading among them: answer, every row's words, names. Assumes nothing.
use Prim.Native.Nat.{ℕ, ◌+◌, ◌*◌, ◌<◌}
use borrow.Author.Tests.{lt-leb, lt-ltb}
use native.Mathlib.Nat.{suc-ne-zero}
use mathlib.Core.Path.{◌≡◌, refl, sym, ap, ◌∙◌}
use mathlib.Core.List.{List, [], ◌∷◌, ◌++◌, map}
use lib.Count.{ones}
use lib.ListN.{length, replicate, get_or}
use Rattle.refusals.specs.Refusals.{bad_model, tape_long, generalised, tones_full, blocks_full, last_bits}
use Rattle.cut_fields.specs.Field.{le_at, number_at, field_at, place_of}
use Rattle.cut_fields.specs.Run.{times, each_at, groups_at}
use Rattle.rows.specs.Rows.{encode_block, encode_tone, block, tone}
use Rattle.rows.specs.Well.{well_tone, well_numbers}
use Rattle.rows.proofs.Samples.{row_words}
use Rattle.play_entries.specs.Entries.{cycles_of, is_single}
use Rattle.play_entries.specs.Counted.{ones_from}
use Rattle.play_entries.specs.Figures.{tone_figure, tones_figure, bits_figure, data_figure, sound_in}
use Rattle.cut_grammar.specs.Grammar.{counted_at, pass_at, texts_at, whole_at, sealed, enclosed, fitting_at, read_at, binary_digits}
use Rattle.cut_grammar.specs.Grammar.{or_full, held_if}
use Rattle.cut_grammar.specs.Kinds.{kind10, kind11, kind12, kind13, kind14, stream19, kind19, kind20, kind21, kind22, kind24, kind25}
use Rattle.cut_grammar.specs.Kinds.{kind_2a, kind30, kind31, info32, kind32, kind33, kind35, kind_5a, kinds, kind_of}
use Rattle.cut_grammar.specs.Cut.{signature, starts_at, head_at, taken_as, cut_at, tap_block, tap_at}
use Rattle.load_general.specs.General.{symbol_at, before, rows_from, cycles, entry_symbol, entry_repeat, entry_row, pilot_of, equal_halves}
use Rattle.load_general.specs.General.{ordinary}
use Rattle.load_general.specs.General.{used_bits, symbol_number, single_row, pair_row, singles_of, pairs_of, data_part, with_pilot, with_data}
use Rattle.load_general.specs.General.{general_of}
use Rattle.load_state.specs.Parser.{empty, ◌⟫◌, add_tones, add_block, pend, end_group, open_loop, copy_rows, copies, closed, close_loop}
use Rattle.load_state.specs.Parser.{paused, last_paused}
use Rattle.load_blocks.specs.Sounds.{row_of, add_sound, add_sounds}
use Rattle.load_blocks.specs.Blocks.{standard_header, standard_cycles, standard_tones, standard_pause, turbo_tones, pure_tones, pure_tone_tones}
use Rattle.load_blocks.specs.Blocks.{pulse_at, standard_sound, turbo_sound, pair_sounds, pure_sound, pause_sound}
use Rattle.load_blocks.specs.Does.{lent_of}
use Rattle.load_blocks.specs.Adds.{Lent, add_rows}
use Rattle.load_blocks.specs.Deeds.{general_deed, stop48_deed, does}
use Rattle.load_source.specs.declared.Failure.{Failure}
use Rattle.load_source.specs.declared.Failure.TheVariants.{BadSignature, Short, ShortPiece, Length}
use Rattle.load_source.specs.Meaning.{deed_of}
use Rattle.load_source.specs.Source.{act, read_on, seeing, fold_from, halted, too_many_bits, bits_judged, tzx_of, tzx_see, headed, read_tzx, tap_of}
use Rattle.load_source.specs.Source.{tap_see, read_tap, Load, tzx, tapped, both_err, no, or_tap, or_else, load_of}
use Rattle.text_out.specs.Out.{decimal, digits, latin1, each_byte}
use Rattle.text_codes.specs.Encoding.{table, encoded}
use Rattle.text_name.specs.Headers.{type_name, header_name as named_as}
use Rattle.text_name.specs.Names.{is_header, size_shown, size_name, guessed, name_of, unselected, name_one, name_all}
use Rattle.rows.specs.Table.{table_over}
use Rattle.load_tape.specs.declared.Format.TheVariants.{Tap}
use Rattle.std.specs.Prelude.{Result, Ok}
use Rattle.load_tape.specs.declared.Loaded.{Loaded}
use Rattle.load_tape.specs.declared.NotLoaded.{NotLoaded}
use Rattle.load_tape.specs.Load.{loaded_as, named_tape, named_load, load_named, answer_of, block_table, Leaves}

-- room for three blocks and four tone rows
abbrev room : Lent
room = record { blocks = 3; tones = 4 }

-- the words of so many rows
abbrev three_blocks : ℕ
three_blocks = 3 * block.width

abbrev four_tones : ℕ
four_tones = 4 * tone.width

-- a TZX of these pieces
abbrev pieces : List ℕ → List ℕ
pieces s = signature ++ 1 ∷ 20 ∷ s

-- format (0 TAP, 1 TZX), the blocks' words, the tone rows' words, the blocks' names; what both attempts met; or a refusal's number alone
data View : Type 0 where
  taken : ℕ → List (List ℕ) → List (List ℕ) → List (List ℕ) → View
  met : Failure → Failure → View
  refusal : ℕ → View

abbrev view : List ℕ → Load → View
view s (tzx t) = taken 1 (map encode_block t.blocks) (map encode_tone t.tones) (map (name_of s) t.blocks)
view s (tapped t) = taken 0 (map encode_block t.blocks) (map encode_tone t.tones) (map (name_of s) t.blocks)
view s (both_err f g) = met f g
view s (no k) = refusal k

-- a nameless block's words: tone, tones, start, size, zero, one, last, pause, selectable, sound
abbrev row : ℕ → ℕ → ℕ → ℕ → ℕ → ℕ → ℕ → ℕ → ℕ → ℕ → List ℕ
row t n start size nil one last pause mark sound =
    row_words (t ∷ n ∷ start ∷ size ∷ nil ∷ one ∷ last ∷ pause ∷ 0 ∷ mark ∷ 0 ∷ 0 ∷ 0 ∷ 0 ∷ 0 ∷ 0 ∷ sound ∷ [])

abbrev stop : ℕ → List ℕ
stop t = row_words (t ∷ 0 ∷ 0 ∷ 0 ∷ 0 ∷ 0 ∷ 0 ∷ 0 ∷ 1 ∷ 1 ∷ 1 ∷ [])

abbrev pause : ℕ → List ℕ
pause t = row t 0 0 0 0 0 0 3500 0 0

abbrev tone400 : List ℕ
tone400 = row 0 1 0 0 0 0 0 0 0 400

-- `d bytes` of one digit, and `stop`
abbrev sized : ℕ → List ℕ
sized d = (0x30 + d) ∷ 0x20 ∷ 0x62 ∷ 0x79 ∷ 0x74 ∷ 0x65 ∷ 0x73 ∷ []

abbrev stopped : List ℕ
stopped = 0x73 ∷ 0x74 ∷ 0x6F ∷ 0x70 ∷ []

-- the tone rows of a standard block: a header's, and another's
abbrev long : List (List ℕ)
long = (4032 ∷ 2168 ∷ 2168 ∷ 0 ∷ []) ∷ (1 ∷ 667 ∷ 735 ∷ 0 ∷ []) ∷ []

abbrev short : List (List ℕ)
short = (1612 ∷ 2168 ∷ 2168 ∷ 0 ∷ []) ∷ (1 ∷ 667 ∷ 735 ∷ 0 ∷ []) ∷ []

-- the listing's printed tape
abbrev printed : List ℕ
printed = pieces (0x12 ∷ 0x64 ∷ 0 ∷ 4 ∷ 0 ∷ 0x20 ∷ 1 ∷ 0 ∷ 0x2A ∷ 0 ∷ 0 ∷ 0 ∷ 0 ∷ [])

-- pure data FF of these last bits
abbrev pure : ℕ → List ℕ
pure last = pieces (0x14 ∷ 10 ∷ 0 ∷ 20 ∷ 0 ∷ last ∷ 0 ∷ 0 ∷ 1 ∷ 0 ∷ 0 ∷ 0xFF ∷ [])

-- a 19: three times 9 and 4, then so many symbols of an alphabet of two; its symbols and its data
abbrev general : ℕ → List ℕ → List ℕ
general n rest =
    pieces (0x19 ∷ 0x21 ∷ 0 ∷ 0 ∷ 0 ∷ 0 ∷ 0 ∷ 1 ∷ 0 ∷ 0 ∷ 0 ∷ 2 ∷ 1 ∷ n ∷ 0 ∷ 0 ∷ 0 ∷ 2 ∷ 2 ∷ 0 ∷ 9 ∷ 0 ∷ 4 ∷ 0 ∷ 0 ∷ 3 ∷ 0 ∷ rest)

-- one pulse of 100, and a pause: two tone rows, two blocks
abbrev two : List ℕ
two = pieces (0x12 ∷ 100 ∷ 0 ∷ 1 ∷ 0 ∷ 0x20 ∷ 1 ∷ 0 ∷ [])

-- a TAP of a header with type 3 and name `abcdefghij`, and a block of one byte
abbrev header_tap : List ℕ
header_tap =
    0x13 ∷ 0 ∷ 0 ∷ 3 ∷ 0x61 ∷ 0x62 ∷ 0x63 ∷ 0x64 ∷ 0x65 ∷ 0x66 ∷ 0x67 ∷ 0x68 ∷ 0x69 ∷ 0x6A ∷ 1 ∷ 2 ∷ 3 ∷
    4 ∷ 5 ∷ 6 ∷ 7 ∷ 1 ∷ 0 ∷ 0xFF ∷ []

-- `Bytes: abcdefghij`
abbrev header_name : List ℕ
header_name = 0x42 ∷ 0x79 ∷ 0x74 ∷ 0x65 ∷ 0x73 ∷ 0x3A ∷ 0x20 ∷ 0x61 ∷ 0x62 ∷ 0x63 ∷ 0x64 ∷ 0x65 ∷ 0x66 ∷ 0x67 ∷
    0x68 ∷ 0x69 ∷ 0x6A ∷ []

record Example : Type 0 where
  lent : Lent
  model : ℕ
  tape : List ℕ
  gives : View

-- with room for so many blocks and tone rows
abbrev lending : ℕ → ℕ → List ℕ → View → Example
lending b n tape gives = record { lent = record { blocks = b; tones = n }; model = 0; tape = tape; gives = gives }

abbrev of : ℕ → List ℕ → View → Example
of model tape gives = record { lent = room; model = model; tape = tape; gives = gives }

abbrev examples : List Example
examples =
    -- empty or one byte: TAP, no blocks
    of 0 [] (taken 0 [] [] []) ∷ of 0 (0x13 ∷ []) (taken 0 [] [] []) ∷
    -- 00 00: one block, 4,032 cycles, `0 bytes`; 01 00 FF: 1,612 cycles, pause 7,000,000; 02 00 FF is below
    of 0 (0 ∷ 0 ∷ []) (taken 0 (row 0 2 2 0 855 1710 8 3500000 1 17484154 ∷ []) long (sized 0 ∷ [])) ∷
    of 0 (1 ∷ 0 ∷ 0xFF ∷ []) (taken 0 (row 0 2 2 1 855 1710 8 7000000 1 7018394 ∷ []) short (sized 1 ∷ [])) ∷
    -- 12 with length 100: count 1, count 0
    of 0 (pieces (0x12 ∷ 100 ∷ 0 ∷ 1 ∷ 0 ∷ [])) (taken 1 (row 0 2 0 0 0 0 0 0 0 300 ∷ [])
    ((1 ∷ 0 ∷ 100 ∷ 0 ∷ []) ∷ (0 ∷ 100 ∷ 100 ∷ 0 ∷ []) ∷ []) (sized 0 ∷ [])) ∷
    of 0 (pieces (0x12 ∷ 100 ∷ 0 ∷ 0 ∷ 0 ∷ []))
    (taken 1 (row 0 1 0 0 0 0 0 0 0 200 ∷ []) ((0 ∷ 100 ∷ 100 ∷ 0 ∷ []) ∷ []) (sized 0 ∷ [])) ∷
    -- loop 2 round one pause: three blocks; loop 3: refused 6
    of 0 (pieces (0x24 ∷ 2 ∷ 0 ∷ 0x20 ∷ 1 ∷ 0 ∷ 0x25 ∷ []))
    (taken 1 (pause 0 ∷ pause 0 ∷ pause 0 ∷ []) [] (sized 0 ∷ sized 0 ∷ sized 0 ∷ [])) ∷
    of 0 (pieces (0x24 ∷ 3 ∷ 0 ∷ 0x20 ∷ 1 ∷ 0 ∷ 0x25 ∷ [])) (refusal blocks_full) ∷
    -- pure data: last bits 8 accepted, 9 refused 7
    of 0 (pure 8)
    (taken 1 (row 0 2 21 1 10 20 8 0 1 320 ∷ []) ((0 ∷ 0 ∷ 0 ∷ 0 ∷ []) ∷ (1 ∷ 0 ∷ 0 ∷ 0 ∷ []) ∷ []) (sized 1 ∷ [])) ∷
    of 0 (pure 9) (refusal last_bits) ∷
    -- the printed tape on the 48K, and on the others
    of 0 printed (taken 1 (row 0 1 0 0 0 0 0 0 0 400 ∷ pause 1 ∷ stop 1 ∷ []) ((2 ∷ 100 ∷ 100 ∷ 0 ∷ []) ∷ [])
    (sized 0 ∷ sized 0 ∷ stopped ∷ [])) ∷
    of 1 printed
    (taken 1 (row 0 1 0 0 0 0 0 0 0 400 ∷ pause 1 ∷ []) ((2 ∷ 100 ∷ 100 ∷ 0 ∷ []) ∷ []) (sized 0 ∷ sized 0 ∷ [])) ∷
    of 2 printed
    (taken 1 (row 0 1 0 0 0 0 0 0 0 400 ∷ pause 1 ∷ []) ((2 ∷ 100 ∷ 100 ∷ 0 ∷ []) ∷ []) (sized 0 ∷ sized 0 ∷ [])) ∷
    of 3 printed (refusal bad_model) ∷
    -- a generalised piece with neither pilot nor data: refused 4, no fallback
    of 0 (pieces (0x19 ∷ replicate 18 0)) (refusal generalised) ∷
    -- exactly full; one tone row short: refused 5; one block row short: refused 6; both: 5
    lending 2 2 two (taken 1 (row 0 2 0 0 0 0 0 0 0 300 ∷ pause 2 ∷ [])
    ((1 ∷ 0 ∷ 100 ∷ 0 ∷ []) ∷ (0 ∷ 100 ∷ 100 ∷ 0 ∷ []) ∷ []) (sized 0 ∷ sized 0 ∷ [])) ∷
    lending 2 1 two (refusal tones_full) ∷
    lending 1 2 two (refusal blocks_full) ∷
    lending 0 1 two (refusal tones_full) ∷
    lending 0 0 [] (taken 0 [] [] []) ∷
    -- the naming pass: the block after a header is not selectable
    of 0 header_tap (taken 0 (row 0 2 2 19 855 1710 8 3500000 1 17831284 ∷ row 2 2 23 1 855 1710 8 7000000 0 7018394 ∷ []) (long ++ short)
    (header_name ∷ sized 1 ∷ [])) ∷
    -- WHAT A ROW SOUNDS: a loop's copies what its body does; 22 gives a pause, and no sound
    of 0 (pieces (0x24 ∷ 2 ∷ 0 ∷ 0x12 ∷ 100 ∷ 0 ∷ 4 ∷ 0 ∷ 0x25 ∷ [])) (taken 1 (tone400 ∷ tone400 ∷ tone400 ∷ [])
    ((2 ∷ 100 ∷ 100 ∷ 0 ∷ []) ∷ []) (sized 0 ∷ sized 0 ∷ sized 0 ∷ [])) ∷
    of 0 (pieces (0x12 ∷ 1 ∷ 0 ∷ 2 ∷ 0 ∷ 0x22 ∷ []))
    (taken 1 (row 0 1 0 0 0 0 0 3500 0 2 ∷ []) ((1 ∷ 1 ∷ 1 ∷ 0 ∷ []) ∷ []) (sized 0 ∷ [])) ∷
    -- of last bits 0 one bit, the top one
    of 0 (pieces (0x14 ∷ 10 ∷ 0 ∷ 20 ∷ 0 ∷ 0 ∷ 0 ∷ 0 ∷ 1 ∷ 0 ∷ 0 ∷ 0x80 ∷ []))
    (taken 1 (row 0 2 21 1 10 20 0 0 1 40 ∷ []) ((0 ∷ 0 ∷ 0 ∷ 0 ∷ []) ∷ (1 ∷ 0 ∷ 0 ∷ 0 ∷ []) ∷ []) (sized 1 ∷ [])) ∷
    -- 19: a pilot of 39, and the bits of F0; then symbols of unequal halves, 7 and 11
    of 0 (general 8 (0 ∷ 3 ∷ 0 ∷ 3 ∷ 0 ∷ 0 ∷ 4 ∷ 0 ∷ 4 ∷ 0 ∷ 0xF0 ∷ []))
    (taken 1 (row 0 1 47 1 3 4 8 0 1 95 ∷ []) ((3 ∷ 9 ∷ 4 ∷ 0 ∷ []) ∷ []) (sized 1 ∷ [])) ∷
    of 0 (general 2 (0 ∷ 3 ∷ 0 ∷ 4 ∷ 0 ∷ 0 ∷ 5 ∷ 0 ∷ 6 ∷ 0 ∷ 0x40 ∷ []))
    (taken 1 (row 0 3 0 0 0 0 0 0 1 57 ∷ []) ((3 ∷ 9 ∷ 4 ∷ 0 ∷ []) ∷ (1 ∷ 3 ∷ 4 ∷ 0 ∷ []) ∷ (1 ∷ 5 ∷ 6 ∷ 0 ∷ []) ∷ []) (sized 0 ∷ [])) ∷
    -- an unknown kind is one byte
    of 0 (pieces (0x27 ∷ 0x20 ∷ 1 ∷ 0 ∷ 0xFF ∷ [])) (taken 1 (pause 0 ∷ []) [] (sized 0 ∷ [])) ∷
    -- WHERE THE BYTES RAN OUT. Too few for a head; ten of them, and no head
    of 0 (2 ∷ 0 ∷ 0xFF ∷ []) (met (Short 0 10) (Short 2 2)) ∷
    of 0 (replicate 10 0xFF) (met BadSignature (Short 2 65535)) ∷
    -- a field of 20, the data of 10, the second pulse of 13
    of 0 (pieces (0x20 ∷ 0x01 ∷ [])) (met (ShortPiece 0x20 10 11 2) (Short 2 22618)) ∷
    of 0 (pieces (0x10 ∷ 0x00 ∷ 0x00 ∷ 0x05 ∷ 0x00 ∷ 0xAA ∷ [])) (met (ShortPiece 0x10 10 15 5) (Short 2 22618)) ∷
    of 0 (pieces (0x13 ∷ 0x03 ∷ 0x01 ∷ 0x00 ∷ 0x02 ∷ [])) (met (ShortPiece 0x13 10 14 2) (Short 2 22618)) ∷
    -- 32: a length short of its body, where the tape goes on; the body short of the tape
    of 0 (pieces (0x32 ∷ 0x01 ∷ 0x00 ∷ 0x01 ∷ 0x20 ∷ 0x01 ∷ 0x00 ∷ [])) (met (ShortPiece 0x32 10 14 1) (Short 2 22618)) ∷
    of 0 (pieces (0x32 ∷ 0x05 ∷ 0x00 ∷ 0x01 ∷ [])) (met (ShortPiece 0x32 10 13 5) (Short 2 22618)) ∷
    -- 19: the first of 4,294,967,295 entries
    of 0 (pieces (0x19 ∷ 0x0F ∷ 0x00 ∷ 0x00 ∷ 0x00 ∷ 0x00 ∷ 0x00 ∷ 0xFF ∷ 0xFF ∷ 0xFF ∷ 0xFF ∷ 0x00 ∷ 0x01 ∷ 0x00 ∷
    0x00 ∷ 0x00 ∷ 0x00 ∷ 0x00 ∷ 0x00 ∷ 0x00 ∷ [])) (met (ShortPiece 0x19 10 30 1) (Short 2 22618)) ∷
    -- 2A: a length that is not 0, and one that is not all there
    of 0 (pieces (0x20 ∷ 0x01 ∷ 0x00 ∷ 0x2A ∷ 0x01 ∷ 0x00 ∷ 0x00 ∷ 0x00 ∷ [])) (met (Length 0x2A 13 1) (Short 2 22618)) ∷
    of 0 (pieces (0x2A ∷ 0x01 ∷ 0x00 ∷ [])) (met (ShortPiece 0x2A 10 11 4) (Short 2 22618)) ∷
    -- 19: data bits over 32 bits, which is 4 before any data byte is wanted: no field is short
    of 0 (pieces (0x20 ∷ 0x01 ∷ 0x00 ∷ 0x19 ∷ 0x11 ∷ 0x00 ∷ 0x00 ∷ 0x00 ∷ 0x00 ∷ 0x00 ∷ 0x00 ∷ 0x00 ∷ 0x00 ∷ 0x00 ∷
    0x00 ∷ 0x00 ∷ 0x00 ∷ 0x00 ∷ 0x00 ∷ 0x80 ∷ 0x00 ∷ 0x03 ∷ 0x00 ∷ 0x00 ∷ 0x00 ∷ 0x20 ∷ 0x02 ∷ 0x00 ∷ []))
    (refusal generalised) ∷ []

shown : map (λ (e : Example). view e.tape (load_named e.lent e.tape e.model)) examples
    ≡ map (λ (e : Example). e.gives) examples
unfolding le_at number_at field_at place_of times each_at groups_at counted_at pass_at texts_at whole_at sealed enclosed fitting_at read_at binary_digits
    or_full held_if kind10 kind11 kind12 kind13 kind14 stream19 kind19 kind20 kind21 kind22 kind24 kind25 kind_2a kind30 kind31 info32 kind32
    kind33 kind35 kind_5a kinds kind_of starts_at head_at taken_as cut_at tap_block tap_at pilot_of data_part with_pilot with_data general_of empty ◌⟫◌
    add_tones add_block pend end_group open_loop copy_rows copies closed close_loop paused last_paused standard_header standard_cycles standard_tones
    standard_pause turbo_tones pure_tones pure_tone_tones pulse_at add_rows row_of standard_sound turbo_sound pair_sounds pure_sound pause_sound add_sound
    add_sounds general_deed stop48_deed does deed_of act read_on seeing fold_from halted too_many_bits bits_judged tzx_of tzx_see headed read_tzx tap_of
    tap_see read_tap or_tap or_else load_of decimal digits latin1 each_byte table encoded is_header type_name named_as size_shown size_name guessed
    name_of unselected name_one name_all named_tape named_load load_named cycles_of is_single well_tone well_numbers ones_from ones tone_figure
    tones_figure bits_figure data_figure sound_in symbol_at before rows_from cycles entry_symbol entry_repeat entry_row equal_halves ordinary used_bits
    symbol_number single_row pair_row singles_of pairs_of
shown = refl

-- a tape over the limit, whatever its bytes
pub too_long : (lent : Lent) (s : List ℕ) (model : ℕ) → model < 3 → 1048576 < length s → load_named lent s model ≡ no tape_long
unfolding load_named named_load load_of
too_long lent s model h k = rw (lt-leb 3 model h, lt-ltb 1048576 (length s) k)

-- two tapes are accepted and leave different block rows:
-- so a load that refuses all tapes, or has one listing for all, does not meet the contract
pub two_lists : {a a' : Result Loaded NotLoaded} {bt bt' tt tt' : List ℕ}
    → Leaves three_blocks four_tones (load_named (lent_of three_blocks four_tones) (0 ∷ 0 ∷ []) 0) a bt tt
    → Leaves three_blocks four_tones (load_named (lent_of three_blocks four_tones) (1 ∷ 0 ∷ 0xFF ∷ []) 0) a' bt' tt'
    → (a ≡ Ok (loaded_as Tap 1 2)) × (a' ≡ Ok (loaded_as Tap 1 2)) × (bt ≡ bt' → ⊥)
unfolding le_at number_at field_at place_of times each_at groups_at counted_at pass_at texts_at whole_at sealed enclosed fitting_at read_at binary_digits
    or_full held_if kind10 kind11 kind12 kind13 kind14 stream19 kind19 kind20 kind21 kind22 kind24 kind25 kind_2a kind30 kind31 info32 kind32
    kind33 kind35 kind_5a kinds kind_of starts_at head_at taken_as cut_at tap_block tap_at pilot_of data_part with_pilot with_data general_of empty ◌⟫◌
    add_tones add_block pend end_group open_loop copy_rows copies closed close_loop paused last_paused standard_header standard_cycles standard_tones
    standard_pause turbo_tones pure_tones pure_tone_tones pulse_at add_rows row_of standard_sound turbo_sound pair_sounds pure_sound pause_sound add_sound
    add_sounds general_deed stop48_deed does deed_of act read_on seeing fold_from halted too_many_bits bits_judged tzx_of tzx_see headed read_tzx tap_of
    tap_see read_tap or_tap or_else load_of decimal digits latin1 each_byte table encoded is_header type_name named_as size_shown size_name guessed
    name_of unselected name_one name_all named_tape named_load load_named answer_of block_table table_over
two_lists x y = (x.answer, y.answer, λ e. suc-ne-zero 0 (ap (λ (l : List ℕ). get_or l 3 0) (sym y.blocks ∙ sym e ∙ x.blocks)))
