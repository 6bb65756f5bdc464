-- The readings about the players, by computation on their own definitions. Assumes nothing.
use Rattle.std.specs.Prelude.{Ok, Err}
use Rattle.play_walk.specs.Heads.{came}
use Prim.Native.Nat.{ℕ}
use mathlib.Core.Path.{◌≡◌, refl}
use mathlib.Core.Bool.{true, false}
use mathlib.Core.List.{List, [], ◌∷◌, ◌++◌, map}
use Rattle.refusals.specs.Refusals.{no_position, bad_row}
use Rattle.law_pulses.specs.Play.{low, high, answer, rest, over, status_here, status}
use Rattle.law_pulses.specs.Runs.{run}
use Rattle.law_pulses.specs.Source.{after, turn, turns, sourced, reached}
use Rattle.rows.specs.Well.{well_ranges, well_tone, well_numbers, well_cases, well_tones, well_block}
use Rattle.rows.proofs.Samples.{row_words}
use Rattle.play_entries.specs.declared.Phase.TheVariants.{Tones, Pause}
use Rattle.play_entries.specs.declared.Duration.TheVariants.{T, Endless}
use Rattle.play_entries.specs.Entries.{entry_of, cycles_of, is_single, edged, start_level, cycle_level, bit_level, pause_level, tone_of, tones_of}
use Rattle.play_entries.specs.Entries.{data_of, pause_of, sound_of, entries_of}
use Rattle.play_entries.specs.Places.{Tape, level_at, list_from, left_at, has_entry, length_at, remains, valid, head_of, left_of}
use Rattle.play_walk.specs.declared.How.TheVariants.{At, Stopped, Ended}
use Rattle.play_walk.specs.declared.Fault.TheVariants.{NotFormed}
use Rattle.play_entries.specs.Mounted.{well_row, first_bad, formed, tape_of}
use Rattle.play_walk.specs.Heads.{reached_no, placed, start_at, stand, level_here, rest_level, told_as, told_reached, walked, walk_from}
use Rattle.play_deck.specs.Deck.{ruled_out, ill_formed, judged, unless, stays, play_measured, source_answer, source_from, play_source}
use Rattle.play_deck.specs.Deck.{back_to, block_of, block_at}
use Rattle.play_walk.specs.declared.Fault.TheVariants.{NotFormed}

-- a 12 of 100 and 4: two cycles, no data, no pause; a stop; and a row whose endless flag is 2
abbrev pulses : List ℕ
pulses = row_words (0 ∷ 1 ∷ 0 ∷ 0 ∷ 0 ∷ [])

abbrev stop : List ℕ
stop = row_words (0 ∷ 0 ∷ 0 ∷ 0 ∷ 0 ∷ 0 ∷ 0 ∷ 0 ∷ 1 ∷ 1 ∷ 1 ∷ [])

abbrev bad : List ℕ
bad = row_words (0 ∷ 0 ∷ 0 ∷ 0 ∷ 0 ∷ 0 ∷ 0 ∷ 0 ∷ 2 ∷ 1 ∷ 1 ∷ [])

abbrev tones : List ℕ
tones = 2 ∷ 100 ∷ 100 ∷ 0 ∷ []

abbrev sole : Tape
sole = tape_of [] tones pulses 1

-- P: 99 leaves both in the first half with 1 left; 100 leaves the measured one at the high half, full, the source's ended
measured : map (λ n. play_measured sole (start_at 0) n) (99 ∷ 100 ∷ [])
    ≡ came At (stand (placed 0 (Tones 0 0 false) (T 1)) 1 low) ∷ came At (stand (placed 0 (Tones 0 0 true) (T 100)) 2 high) ∷ []
unfolding play_measured unless judged ruled_out ill_formed well_row well_block well_ranges well_numbers well_cases well_tones well_tone valid has_entry
    remains length_at cycles_of is_single edged start_level cycle_level bit_level pause_level level_at walk_from walked formed first_bad told_reached
    told_as level_here rest_level head_of left_of answer rest over status_here status left_at list_from entries_of sound_of tones_of tone_of data_of
    pause_of entry_of run
measured = refl

source : map (λ n. play_source sole (start_at 0) n) (99 ∷ 100 ∷ [])
    ≡ came At (stand (placed 0 (Tones 0 0 false) (T 1)) 1 low) ∷ came Ended (stand (start_at 1) 6 low) ∷ []
unfolding play_source unless judged ruled_out ill_formed well_row well_block well_ranges well_numbers well_cases well_tones well_tone valid has_entry
    remains length_at cycles_of is_single edged start_level cycle_level bit_level pause_level level_at source_from source_answer sourced turns turn
    after reached walked formed first_bad told_reached told_as level_here rest_level head_of left_of status_here left_at list_from entries_of sound_of
    tones_of tone_of data_of pause_of entry_of run
source = refl

-- exact spending stands at the pause of no length, and at the count's start only behind it; one T-state more is the end
spent : map (λ n. play_measured sole (start_at 0) n) (400 ∷ 401 ∷ [])
    ≡ came At (stand (placed 0 Pause (T 0)) 5 low) ∷ came Ended (stand (start_at 1) 6 low) ∷ []
unfolding play_measured unless judged ruled_out ill_formed well_row well_block well_ranges well_numbers well_cases well_tones well_tone valid has_entry
    remains length_at cycles_of is_single edged start_level cycle_level bit_level pause_level level_at walk_from walked formed first_bad told_reached
    told_as level_here rest_level head_of left_of answer rest over status_here status left_at list_from entries_of sound_of tones_of tone_of data_of
    pause_of entry_of run
spent = refl

-- a start past the count: 0 keeps its number, more is the end at the count's start
past : map (λ n. play_measured sole (start_at 7) n) (0 ∷ 5 ∷ [])
    ≡ came At (stand (start_at 7) 0 low) ∷ came Ended (stand (start_at 1) 0 low) ∷ []
unfolding play_measured unless judged ruled_out ill_formed valid stays walk_from walked formed first_bad told_reached told_as level_here rest_level
    head_of left_of answer rest over status_here status left_at list_from run
past = refl

-- a stop: its start stands, one T-state is stopped at its pause; a call of 0 there too
stopping : play_measured (tape_of [] tones stop 1) (start_at 0) 0 ∷ play_measured (tape_of [] tones stop 1) (start_at 0) 1 ∷
    play_measured (tape_of [] tones stop 1) (placed 0 Pause Endless) 0 ∷ []
    ≡ came At (stand (start_at 0) 0 low) ∷ came Stopped (stand (placed 0 Pause Endless) 1 low) ∷
    came Stopped (stand (placed 0 Pause Endless) 0 low) ∷ []
unfolding play_measured unless judged ruled_out ill_formed well_row well_block well_ranges well_numbers well_cases well_tones well_tone valid has_entry
    remains length_at cycles_of is_single edged start_level cycle_level bit_level pause_level level_at stays walk_from walked formed first_bad
    told_reached told_as level_here rest_level head_of left_of answer rest over status_here status left_at list_from entries_of sound_of tones_of data_of
    pause_of entry_of run
stopping = refl

-- a bad row is needed only where it is entered with T-states left
behind : map (λ n. play_measured (tape_of [] tones (pulses ++ bad) 2) (start_at 0) n) (100 ∷ 400 ∷ 401 ∷ [])
    ≡ came At (stand (placed 0 (Tones 0 0 true) (T 100)) 2 high) ∷ came At (stand (placed 0 Pause (T 0)) 5 low) ∷ Err NotFormed ∷ []
unfolding play_measured unless judged ruled_out ill_formed well_row well_block well_ranges well_numbers well_cases well_tones well_tone valid has_entry
    remains length_at cycles_of is_single edged start_level cycle_level bit_level pause_level level_at walk_from walked formed first_bad told_reached
    told_as level_here rest_level head_of left_of answer rest over status_here status left_at list_from entries_of sound_of tones_of tone_of data_of
    pause_of entry_of run
behind = refl

-- `20 01 00 20 02 00`, two pauses of 1 ms and 2 ms; the second row with a `sort` that there is not
abbrev pauses : Tape
pauses =
    tape_of [] []
    (row_words (0 ∷ 0 ∷ 0 ∷ 0 ∷ 0 ∷ 0 ∷ 0 ∷ 3500 ∷ [])
    ++ row_words (0 ∷ 0 ∷ 0 ∷ 0 ∷ 0 ∷ 0 ∷ 0 ∷ 7000 ∷ 0 ∷ 0 ∷ 0 ∷ 0 ∷ 0 ∷ 2 ∷ []))
    2

-- a start where the head only comes to rest is not reached: its row is not judged. One T-state more is 11
pub resting : map (λ n. play_measured pauses (start_at 0) n) (3500 ∷ 3501 ∷ []) ≡ came At (stand (start_at 1) 2 low) ∷ Err NotFormed ∷ []
unfolding play_measured unless judged ruled_out ill_formed well_row well_block well_ranges well_numbers well_cases well_tones valid
    walk_from walked formed first_bad told_reached told_as level_here rest_level head_of left_of answer rest over status_here status left_at
    list_from entries_of sound_of tones_of data_of start_level bit_level edged pause_level pause_of entry_of run
resting = refl

-- so in the source's play from the pause on; from the start it drops the pause, no longer than the count, and reaches the row
pub resting_source :
    map (λ n. play_source pauses (placed 0 Pause (T 3500)) n) (3500 ∷ 3501 ∷ [])
    ++ map (λ n. play_source pauses (start_at 0) n) (3499 ∷ 3500 ∷ [])
    ≡ came At (stand (start_at 1) 1 low) ∷ Err NotFormed ∷ came At (stand (placed 0 Pause (T 1)) 1 low) ∷ Err NotFormed ∷ []
unfolding play_source unless judged ruled_out ill_formed well_row well_block well_ranges well_numbers well_cases well_tones valid
    has_entry remains length_at source_from source_answer sourced turns turn after reached walked formed first_bad
    told_reached told_as level_here rest_level head_of left_of status_here left_at level_at
    list_from entries_of sound_of tones_of data_of start_level bit_level edged pause_level pause_of entry_of run
resting_source = refl

-- the refusals: 11 for the count, 9 by the block number, 11 for the row, 9
refusals :
    map reached_no (play_measured (tape_of [] tones pulses 2) (start_at 0) 0 ∷ play_measured sole (placed 1 Pause (T 0)) 0 ∷
    play_measured (tape_of [] tones bad 1) (placed 0 Pause (T 9)) 0 ∷ play_measured sole (placed 0 (Tones 0 0 false) (T 0)) 0 ∷
    play_measured sole (placed 0 (Tones 0 2 false) (T 1)) 0 ∷ [])
    ≡ bad_row ∷ no_position ∷ bad_row ∷ no_position ∷ no_position ∷ []
unfolding play_measured unless judged ruled_out ill_formed well_row well_block well_ranges well_numbers well_cases well_tones well_tone valid has_entry
    remains length_at cycles_of is_single edged start_level cycle_level bit_level pause_level level_at reached_no
refusals = refl

-- a position's block: back to a selectable one, 0 where there is none, past the end, a bad row on the way
selected : block_at (tape_of [] tones (stop ++ pulses) 2) (start_at 1) ∷ block_at (tape_of [] tones (pulses ++ pulses) 2) (start_at 1) ∷
    block_at sole (start_at 1) ∷ block_at (tape_of [] tones (bad ++ pulses) 2) (start_at 1) ∷ []
    ≡ Ok 0 ∷ Ok 0 ∷ Ok 4294967295 ∷ Err NotFormed ∷ []
unfolding block_of back_to judged ruled_out ill_formed well_row well_block well_ranges well_numbers well_cases well_tones well_tone valid has_entry
    remains length_at cycles_of is_single edged start_level cycle_level bit_level pause_level level_at
selected = refl
