-- EXCLUDED: refusing all tapes, one fixed listing, a player that stays put, one that plays only the first call of a cutting,
-- an invented entry count:
-- none agrees with the definitions that the contracts cite. Assumes nothing.
use Prim.Native.Nat.{ℕ, ◌<◌}
use native.Mathlib.Omega.{arith}
use mathlib.Core.Path.{◌≡◌, refl, sym, ap, ◌∙◌}
use mathlib.Core.Bool.{true, false}
use mathlib.Core.List.{List, [], ◌∷◌}
use lib.ListN.{replicate}
use Rattle.cut_fields.specs.Field.{le_at, number_at, field_at, place_of}
use Rattle.law_pulses.specs.Play.{time, comes_to, low, high, answer, rest, over, status_here, status}
use Rattle.law_pulses.specs.Runs.{run}
use Rattle.law_pulses.specs.Sounding.{ends_at, sounding_time}
use Rattle.rows.specs.Table.{table_over}
use Rattle.rows.specs.Well.{well_ranges, well_tone, well_numbers, well_cases, well_tones, well_block}
use Rattle.rows.proofs.Samples.{row_words}
use Rattle.cut_grammar.specs.Grammar.{counted_at}
use Rattle.cut_grammar.specs.Cut.{starts_at, head_at, tap_block, tap_at}
use Rattle.load_state.specs.Parser.{empty, ◌⟫◌, add_tones, add_block}
use Rattle.load_blocks.specs.Sounds.{row_of, add_sound}
use Rattle.load_blocks.specs.Blocks.{standard_header, standard_cycles, standard_tones, standard_pause, standard_sound}
use Rattle.load_blocks.specs.Adds.{add_rows}
use Rattle.load_source.specs.Source.{read_on, seeing, fold_from, headed, read_tzx, tap_of, tap_see, read_tap, or_tap, or_else, load_of}
use Rattle.text_out.specs.Out.{decimal, digits}
use Rattle.text_name.specs.Names.{is_header, size_shown, size_name, guessed, name_of, unselected, name_one, name_all}
use Rattle.play_entries.specs.declared.Phase.TheVariants.{Tones}
use Rattle.play_entries.specs.declared.Duration.{Duration}
use Rattle.play_entries.specs.declared.Duration.TheVariants.{T, Endless}
use Rattle.play_entries.specs.Entries.{entry_of, cycles_of, is_single, start_level, cycle_level, bit_level, edged, pause_level, tone_of, tones_of}
use Rattle.play_entries.specs.Counted.{ones_from}
use Rattle.play_entries.specs.Figures.{tone_figure, tones_figure, bits_figure, data_figure, sound_in}
use Rattle.play_entries.specs.Stored.{row_lasts, rows_loading}
use Rattle.play_entries.specs.Entries.{data_of, pause_of, sound_of, entries_of, lasts_of}
use Rattle.play_entries.specs.Places.{Tape, list_from, level_at, from_pause, from_edge, from_second, from_byte, from_tone, from_cycle, left_at}
use Rattle.play_entries.specs.Places.{has_entry, length_at, remains, valid, head_of, left_of}
use Rattle.play_entries.specs.Mounted.{well_row, first_bad, formed, tape_of}
use Rattle.load_tape.specs.Load.{named_tape, named_load, load_named, block_table, tone_table}
use Rattle.play_walk.specs.declared.Position.{Position}
use Rattle.play_walk.specs.declared.How.TheVariants.{At, Ended}
use Rattle.play_walk.specs.Heads.{start_at, stand, placed, level_here, rest_level, told_as, told_reached, walked, walk_from, came}
use Rattle.play_deck.specs.Deck.{ruled_out, ill_formed, judged, unless, play_measured}
use Rattle.play_deck.specs.Calls.{position_in, passed_in}
use Rattle.text_listing.specs.Shown.{shown}
use Rattle.text_listing.specs.Lines.{time_text, mark_text, row_text_by, rows_text_by}
use Rattle.text_listing.specs.Page.{model_text, format_text, count_text, loading_text, rest_text, listing_text}
use Rattle.listing.specs.Listing.{loaded_of, Listing, mounted, listed_by, listing_of, listing_by, answer_to}

-- an empty tape is listed in 37 bytes, and `00 00` in 67
lists : (answer_to (listing_of [] 0) (replicate 99 0) ≡ 37) × (answer_to (listing_of (0 ∷ 0 ∷ []) 0) (replicate 99 0) ≡ 67)
unfolding counted_at comes_to le_at number_at field_at place_of starts_at head_at tap_block tap_at empty ◌⟫◌ add_tones add_block row_of standard_header
    standard_cycles standard_tones standard_sound standard_pause add_rows add_sound read_on seeing fold_from headed read_tzx tap_of tap_see read_tap
    or_tap or_else load_of decimal digits is_header size_shown size_name guessed name_of unselected name_one name_all named_tape named_load load_named
    block_table tone_table table_over time sounding_time ends_at run entry_of cycles_of is_single start_level cycle_level bit_level edged pause_level
    tone_of tones_of data_of pause_of sound_of entries_of lasts_of list_from shown time_text mark_text row_text_by rows_text_by model_text format_text
    count_text loading_text rest_text listing_text row_lasts rows_loading well_tone well_numbers ones_from tone_figure tones_figure bits_figure
    data_figure sound_in loaded_of mounted listed_by listing_by answer_to
lists = (refl, refl)

-- refusing all tapes
pub no_refusing_all : ((s out : List ℕ) → answer_to (listing_of s 0) out < 32) → ⊥
no_refusing_all all = omega (arith, all [] (replicate 99 0), lists.0)

-- one fixed listing
pub no_one_listing : (l : Listing) → ((s : List ℕ) → listing_of s 0 ≡ l) → ⊥
no_one_listing l one =
    let e : answer_to (listing_of [] 0) (replicate 99 0) ≡ answer_to (listing_of (0 ∷ 0 ∷ []) 0) (replicate 99 0) =
    ap (λ (x : Listing). answer_to x (replicate 99 0)) (one [] ∙ sym (one (0 ∷ 0 ∷ []))) in
    omega (arith, e, lists.0, lists.1)

-- two cycles of 100 and 100, no data, no pause
abbrev two : Tape
two = tape_of [] (2 ∷ 100 ∷ 100 ∷ 0 ∷ []) (row_words (0 ∷ 1 ∷ 0 ∷ 0 ∷ 0 ∷ [])) 1

-- from its start 99 leaves 1 of the first half, 1 more the second half full; past its count nothing is passed
plays : (play_measured two (start_at 0) 99 ≡ came At (stand (placed 0 (Tones 0 0 false) (T 1)) 1 low))
    × (play_measured two (placed 0 (Tones 0 0 false) (T 1)) 1 ≡ came At (stand (placed 0 (Tones 0 0 true) (T 100)) 1 high))
    × (play_measured two (start_at 7) 99 ≡ came Ended (stand (start_at 1) 0 low))
unfolding play_measured unless judged ruled_out ill_formed well_row well_block well_ranges well_numbers well_cases well_tones well_tone valid has_entry
    remains length_at walk_from walked formed first_bad told_reached told_as level_here rest_level head_of left_of answer rest over status_here status
    left_at from_cycle from_tone from_byte level_at from_pause from_edge from_second list_from entries_of sound_of tones_of tone_of cycles_of is_single
    start_level cycle_level bit_level edged pause_level data_of pause_of entry_of run
plays = (refl, refl, refl)

left_in : Duration → ℕ
left_in (T n) = n
left_in Endless = 0

-- a player that stays put
pub no_staying : ((w : Tape) (q : Position) (n : ℕ) → position_in q (play_measured w q n) ≡ q) → ⊥
unfolding position_in left_in
no_staying stays =
    let e : ◌≡◌ {A = ℕ} 1 0 =
    ap (λ (q : Position). left_in q.left) (sym (ap (position_in (start_at 0)) plays.0) ∙ stays two (start_at 0) 99) in
    absurd (omega arith)

-- one that plays only the first call of a cutting
pub no_first_only : ((w : Tape) (q : Position) (n m : ℕ)
    → position_in (position_in q (play_measured w q n)) (play_measured w (position_in q (play_measured w q n)) m)
    ≡ position_in q (play_measured w q n))
    → ⊥
unfolding position_in left_in
no_first_only first =
    let q : Position = placed 0 (Tones 0 0 false) (T 1) in
    let a : position_in (start_at 0) (play_measured two (start_at 0) 99) ≡ q = ap (position_in (start_at 0)) plays.0 in
    let f : position_in q (play_measured two q 1) ≡ q = rw (← a) (first two (start_at 0) 99 1) in
    let e : ◌≡◌ {A = ℕ} 100 1 = ap (λ (p : Position). left_in p.left) (sym (ap (position_in q) plays.1) ∙ f) in
    absurd (omega arith)

-- an invented entry count
pub no_invented : (count : ℕ → ℕ) → ((w : Tape) (q : Position) (n : ℕ) → passed_in (play_measured w q n) ≡ count n) → ⊥
unfolding passed_in
no_invented count counts =
    let e : ◌≡◌ {A = ℕ} 1 0 =
    sym (ap passed_in plays.0) ∙ counts two (start_at 0) 99 ∙ sym (counts two (start_at 7) 99) ∙ ap passed_in plays.2 in
    absurd (omega arith)
