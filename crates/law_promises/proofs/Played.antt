-- THE CLAUSE ON THE SOURCE'S PLAY CAN HOLD: a loaded tape, counts below each duration on it, both players to the end; and from inside.
-- And a start where the head only comes to rest, on a loaded tape one of whose words was altered. By computation; assumes nothing.
use Prim.Native.Nat.{ℕ, zero, suc, ◌+◌, ◌<◌}
use native.Mathlib.Omega.{arith}
use mathlib.Core.Path.{◌≡◌, refl}
use mathlib.Core.Bool.{true, false}
use mathlib.Core.List.{List, [], ◌∷◌, map}
use lib.ListN.{set}
use Rattle.std.specs.Prelude.{Ok, Err}
use Rattle.cut_fields.specs.Field.{le_at, number_at, field_at, place_of}
use Rattle.law_pulses.specs.Play.{low, high, pulse, answer, rest, over, status_here, status}
use Rattle.law_pulses.specs.Runs.{run}
use Rattle.law_pulses.specs.Source.{after, turn, turns, sourced, reached, Below, Agrees}
use Rattle.rows.specs.Table.{table_over}
use Rattle.rows.specs.Rows.{block as row}
use Rattle.rows.specs.Well.{well_ranges, well_tone, well_numbers, well_cases, well_tones, well_block}
use Rattle.cut_grammar.specs.Grammar.{whole_at, read_at}
use Rattle.cut_grammar.specs.Kinds.{kind12, kind20, kinds, kind_of}
use Rattle.cut_grammar.specs.Cut.{starts_at, head_at, taken_as, cut_at}
use Rattle.load_state.specs.Parser.{empty, ◌⟫◌, add_tones, add_block}
use Rattle.load_blocks.specs.Sounds.{row_of, add_sound, add_sounds}
use Rattle.load_blocks.specs.Blocks.{pure_tone_tones, pause_sound}
use Rattle.load_blocks.specs.Does.{lent_of}
use Rattle.load_blocks.specs.Adds.{add_rows}
use Rattle.load_blocks.specs.Deeds.{does}
use Rattle.load_source.specs.Meaning.{deed_of}
use Rattle.load_source.specs.Source.{act, read_on, seeing, fold_from, too_many_bits, bits_judged, tzx_of, tzx_see, headed, read_tzx}
use Rattle.load_source.specs.Source.{or_else, load_of}
use Rattle.text_name.specs.Names.{is_header, unselected, name_one, name_all}
use Rattle.load_tape.specs.declared.Format.TheVariants.{Tzx}
use Rattle.load_tape.specs.Load.{named_tape, named_load, load_named, answer_of, block_table, tone_table, Leaves, loaded_as}
use Rattle.play_entries.specs.declared.Phase.TheVariants.{Start, Tones, Pause}
use Rattle.play_entries.specs.declared.Duration.TheVariants.{T}
use Rattle.play_entries.specs.Entries.{label_at, entry_of, cycles_of, is_single, start_level, cycle_level, bit_level, edged, pause_level, tone_of}
use Rattle.play_entries.specs.Stored.{row_lasts, rows_loading}
use Rattle.ask.specs.Queries.{told_of, asked, time_of, well_to_stop, loading_of}
use Rattle.play_entries.specs.Figures.{tone_figure, tones_figure, bits_figure, data_figure, sound_in}
use Rattle.play_entries.specs.Entries.{tones_of, data_of, pause_of, sound_of, entries_of}
use Rattle.play_entries.specs.Places.{Tape, list_from, level_at, from_pause, from_edge, from_byte, from_tone, from_cycle, from_second, left_at}
use Rattle.play_entries.specs.Places.{has_entry, length_at, remains, valid, head_of, left_of}
use Rattle.play_entries.specs.Mounted.{well_row, first_bad, formed, tape_of}
use Rattle.play_entries.proofs.Valid.{start_valid}
use Rattle.play_walk.specs.declared.How.TheVariants.{At, Ended}
use Rattle.play_walk.specs.declared.Fault.TheVariants.{NotFormed}
use Rattle.play_walk.specs.Heads.{placed, start_at, stand, level_here, rest_level, told_as, told_reached, walked, walk_from, came}
use Rattle.play_deck.specs.Deck.{ruled_out, ill_formed, judged, unless, play_measured, source_answer, source_from, play_source}
use Rattle.play_deck.specs.Calls.{position_in, passed_in, counting, run_calls, run_sources, outcome_in}
use Rattle.law_every_load.specs.Sizes.{Bytes}
use Rattle.law_promises.specs.Playing.{Under}
use Rattle.law_promises.proofs.Playing.{loaded_agree}
use Rattle.law_promises.proofs.Readings.{block_words, tone_words, mounted, pieces, sole_bytes, sole}

-- the sole 12 of 100 and 4 is what a load answers and leaves
pub sole_loaded :
    Leaves block_words tone_words (load_named (lent_of block_words tone_words) sole_bytes 0) (Ok (loaded_as Tzx 1 1)) sole.blocks sole.tones
unfolding
    load_named named_load named_tape load_of or_else read_tzx headed head_at starts_at bits_judged too_many_bits fold_from seeing read_on tzx_see tzx_of
    cut_at
    taken_as kind_of kinds kind12 read_at whole_at field_at number_at le_at place_of
    row_of add_sound add_sounds does deed_of act add_rows add_tones add_block ◌⟫◌ empty pure_tone_tones
    name_all name_one unselected is_header answer_of
sole_loaded = record { answer = refl; blocks = refl; tones = refl }

-- Its list: each duration is 100 or 0. What both players answer to the last of four calls of 99, and of five, from its start: 4 T-states
-- are left, and the end (the measured calls' passed entries are added up). And to one from inside an entry of which 1 T-state is left, less
-- than the count: both charge that 1, and the next entry takes the other 98
pub sole_played :
    (list_from sole 0
    ≡ pulse (label_at 0 Start) low 0
    ∷ pulse (label_at 0 (Tones 0 0 false)) low 100 ∷ pulse (label_at 0 (Tones 0 0 true)) high 100
    ∷ pulse (label_at 0 (Tones 0 1 false)) low 100 ∷ pulse (label_at 0 (Tones 0 1 true)) high 100
    ∷ pulse (label_at 0 Pause) low 0
    ∷ [])
    × (run_calls sole (start_at 0) 99 (99 ∷ 99 ∷ 99 ∷ []) ≡ came At (stand (placed 0 (Tones 0 1 true) (T 4)) 4 high))
    × (run_sources sole (start_at 0) 99 (99 ∷ 99 ∷ 99 ∷ []) ≡ came At (stand (placed 0 (Tones 0 1 true) (T 4)) 1 high))
    × (run_calls sole (start_at 0) 99 (99 ∷ 99 ∷ 99 ∷ 99 ∷ []) ≡ came Ended (stand (start_at 1) 6 low))
    × (run_sources sole (start_at 0) 99 (99 ∷ 99 ∷ 99 ∷ 99 ∷ []) ≡ came Ended (stand (start_at 1) 2 low))
    × (play_measured sole (placed 0 (Tones 0 0 false) (T 1)) 99 ≡ came At (stand (placed 0 (Tones 0 0 true) (T 2)) 1 high))
    × (play_source sole (placed 0 (Tones 0 0 false) (T 1)) 99 ≡ came At (stand (placed 0 (Tones 0 0 true) (T 2)) 1 high))
unfolding
    load_named named_load named_tape load_of or_else read_tzx headed head_at starts_at bits_judged too_many_bits fold_from seeing read_on tzx_see tzx_of
    cut_at
    taken_as kind_of kinds kind12 read_at whole_at field_at number_at le_at place_of
    row_of add_sound add_sounds does deed_of act add_rows add_tones add_block ◌⟫◌ empty pure_tone_tones
    name_all name_one unselected is_header block_table tone_table table_over
    run_calls run_sources position_in passed_in counting
    play_measured play_source unless judged ruled_out ill_formed well_row well_block well_ranges well_numbers well_cases well_tones well_tone
    valid has_entry remains length_at walk_from source_from source_answer sourced turns turn after reached walked formed first_bad
    told_reached told_as level_here rest_level head_of left_of answer rest over status_here status
    level_at from_pause from_edge from_byte from_tone from_cycle from_second left_at
    list_from entries_of sound_of tones_of tone_of cycles_of is_single start_level cycle_level bit_level edged pause_level data_of pause_of entry_of run
    tone_figure tones_figure bits_figure data_figure sound_in
sole_played = (refl, refl, refl, refl, refl, refl, refl)

-- 99 is below each of them but 0
below_99 : Below (list_from sole 0) 99
unfolding Below
below_99 = rw sole_played.0 (omega arith)

pub sole_under : Under sole (99 ∷ 99 ∷ 99 ∷ 99 ∷ 99 ∷ [])
unfolding Under
sole_under = (below_99, (below_99, (below_99, (below_99, (below_99, tt)))))

-- its bytes are bytes
unfoldable Small : List ℕ → Type 0
Small [] = Unit
Small (x ∷ xs) = (x < 256) × Small xs

small_bytes : (s : List ℕ) → Small s → Bytes s
unfolding Small
small_bytes [] h i = omega arith
small_bytes (x ∷ xs) h zero = h.0
small_bytes (x ∷ xs) h (suc i) = small_bytes xs h.1 i

sole_bytes_lem : Bytes sole_bytes
unfolding Small
sole_bytes_lem = small_bytes sole_bytes (omega arith)

-- so all that the clause asks is there
pub sole_agrees :
    Agrees (outcome_in sole (start_at 0) (run_sources sole (start_at 0) 99 (99 ∷ 99 ∷ 99 ∷ 99 ∷ [])))
    (outcome_in sole (start_at 0) (run_calls sole (start_at 0) 99 (99 ∷ 99 ∷ 99 ∷ 99 ∷ [])))
sole_agrees =
    loaded_agree block_words tone_words sole_bytes 0 sole_bytes_lem sole_loaded (start_at 0) 99 (99 ∷ 99 ∷ 99 ∷ 99 ∷ [])
    (start_valid sole 0) sole_under

-- two pauses of 1 ms and 2 ms, loaded; then the second row's `sort` is made 2
abbrev pause_bytes : List ℕ
pause_bytes = pieces (0x20 ∷ 1 ∷ 0 ∷ 0x20 ∷ 2 ∷ 0 ∷ [])

abbrev pauses : Tape
pauses = mounted pause_bytes (load_named (lent_of block_words tone_words) pause_bytes 0) 2

abbrev broken : Tape
broken = tape_of pause_bytes pauses.tones (set pauses.blocks (row.width + 13) 2) 2

-- a start where the head only comes to rest isn't reached: 3,500 stands at block 1's start, 3,501 is 11; as it was loaded, it plays on
pub rest_played :
    (map (λ n. play_measured broken (start_at 0) n) (3500 ∷ 3501 ∷ []) ≡ came At (stand (start_at 1) 2 low) ∷ Err NotFormed ∷ [])
    × (map (λ n. play_measured pauses (start_at 0) n) (3500 ∷ 3501 ∷ [])
    ≡ came At (stand (start_at 1) 2 low) ∷ came At (stand (placed 1 Pause (T 6999)) 3 low) ∷ [])
unfolding
    load_named named_load named_tape load_of or_else read_tzx headed head_at starts_at bits_judged too_many_bits fold_from seeing read_on tzx_see tzx_of
    cut_at
    taken_as kind_of kinds kind20 read_at whole_at field_at number_at le_at place_of
    row_of add_sound add_sounds does deed_of act add_rows add_tones add_block ◌⟫◌ empty pause_sound
    name_all name_one unselected is_header block_table tone_table table_over
    play_measured play_source unless judged ruled_out ill_formed well_row well_block well_ranges well_numbers well_cases well_tones well_tone
    valid has_entry remains length_at walk_from source_from source_answer sourced turns turn after reached walked formed first_bad
    told_reached told_as level_here rest_level head_of left_of answer rest over status_here status
    level_at from_pause from_edge from_byte from_tone from_cycle from_second left_at
    list_from entries_of sound_of tones_of tone_of cycles_of is_single start_level cycle_level bit_level edged pause_level data_of pause_of entry_of run
    tone_figure tones_figure bits_figure data_figure sound_in
rest_played = (refl, refl)

-- the sole tone's row made to say n: with 7 both times are 7, and 400 still stands at the pause; 2 ^ 50 is 11
abbrev altered : ℕ → Tape
altered n = tape_of sole_bytes sole.tones (set sole.blocks 16 n) 1

pub altered_said :
    (time_of (altered 7) 0 ≡ Ok (T 7)) × (loading_of (altered 7) ≡ Ok 7)
    × (play_measured (altered 7) (start_at 0) 400 ≡ came At (stand (placed 0 Pause (T 0)) 5 low))
    × (play_measured (altered 1125899906842624) (start_at 0) 400 ≡ Err NotFormed)
    × (play_source (altered 1125899906842624) (start_at 0) 400 ≡ Err NotFormed)
unfolding
    load_named named_load named_tape load_of or_else read_tzx headed head_at starts_at bits_judged too_many_bits fold_from seeing read_on tzx_see tzx_of
    cut_at
    taken_as kind_of kinds kind12 read_at whole_at field_at number_at le_at place_of
    row_of add_sound add_sounds does deed_of act add_rows add_tones add_block ◌⟫◌ empty pure_tone_tones
    name_all name_one unselected is_header block_table tone_table table_over
    time_of told_of asked loading_of well_to_stop row_lasts rows_loading
    play_measured play_source unless judged ruled_out ill_formed well_row well_block well_ranges well_numbers well_cases well_tones well_tone
    valid has_entry remains length_at walk_from source_from source_answer sourced turns turn after reached walked formed first_bad
    told_reached told_as level_here rest_level head_of left_of answer rest over status_here status
    level_at from_pause from_edge from_byte from_tone from_cycle from_second left_at
    list_from entries_of sound_of tones_of tone_of cycles_of is_single start_level cycle_level bit_level edged pause_level data_of pause_of entry_of run
    tone_figure tones_figure bits_figure data_figure sound_in
altered_said = (refl, refl, refl, refl, refl)
