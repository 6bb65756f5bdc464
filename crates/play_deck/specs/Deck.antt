-- What both players answer (rules 37, 94 to 104, 107, 108). Definitions alone; assumes nothing.
use Rattle.std.specs.Prelude.{ℕ, zero, suc, ◌-◌, Bool, not, ◌&&◌, List, Result, Ok, Err, ltb, leb, eqb, length}
use Rattle.law_base.specs.Rules.{◌⇒◌, ◌∣◌}
use Rattle.law_pulses.specs.Play.{low, Entry, ended, Answer, made, status_here}
use Rattle.law_pulses.specs.Source.{source}
use Rattle.play_entries.specs.Entries.{Label}
use Rattle.play_entries.specs.Places.{Tape, block_in, is_start, is_none, valid}
use Rattle.play_walk.specs.declared.Position.{Position}
use Rattle.play_walk.specs.declared.Reached.{Reached}
use Rattle.play_walk.specs.declared.Fault.{Fault}
use Rattle.play_walk.specs.declared.Fault.TheVariants.{NotValid, NotFormed}
use Rattle.play_deck.specs.declared.Head.{Head}
use Rattle.play_deck.specs.declared.Played.{Played}
use Rattle.play_entries.specs.Mounted.{overfull, well_row, formed}
use Rattle.play_walk.specs.Heads.{fault_no, stand, ahead, level_here, told_as, walked, walk_from}

-- a start with 0 left
abbrev pub at_start : Position → Bool
at_start q = is_start q.phase && is_none q.left

-- a position's block number rules it out: at or past the count it must be a start with 0 left
unfoldable pub ruled_out : Tape → Position → Bool
ruled_out w q = leb w.count q.block && not (at_start q)

-- its row, if below the count, is not well formed
unfoldable pub ill_formed : Tape → Position → Bool
ill_formed w q = ltb q.block w.count && not (well_row w q.block)

abbrev pub valid_at : Tape → Position → Bool
valid_at w q = valid w q.block q.phase q.left

-- the checks are passed
abbrev pub all_fine : Result (Unit {0}) Fault
all_fine = Ok tt

-- WITH A POSITION: 11 for the count, 9 if its block number rules it out, 11 for its row, 9
unfoldable pub judged : Tape → Position → Result (Unit {0}) Fault
judged w q =
    overfull w ⇒ Err NotFormed
    ∣ ruled_out w q ⇒ Err NotValid
    ∣ ill_formed w q ⇒ Err NotFormed
    ∣ not (valid_at w q) ⇒ Err NotValid
    ∣ all_fine

-- the refusal, or r where there is none
unfoldable pub unless : Result (Unit {0}) Fault → Result Reached Fault → Result Reached Fault
unless (Ok u) r = r
unless (Err f) r = Err f

-- a call of 0 alters nothing and answers stopped at an endless pause, otherwise standing
unfoldable pub stays : Tape → Position → Result Reached Fault
stays w q = told_as (status_here (ahead w q)) (stand q 0 (level_here low (ahead w q)))

-- what a player answers to a call of n, by what it comes to from a fine position
abbrev pub answered_by : (Tape → Position → ℕ → Result Reached Fault) → Tape → Position → ℕ → Result Reached Fault
answered_by walks w q n = unless (judged w q) (eqb n 0 ⇒ stays w q ∣ walks w q n)

-- THE MEASURED PLAYER'S ANSWER to a call of n
unfoldable pub play_measured : Tape → Position → ℕ → Result Reached Fault
play_measured = answered_by walk_from

-- what the source's play comes to, as an answer: past the last block with T-states left is the end
unfoldable pub source_answer : List (Entry Label) → ℕ → Answer Label
source_answer es n =
    let o = source es n in
    made o.place (o.done ⇒ ended ∣ status_here o.place) (length es - length o.place)

-- the source's walk of n T-states from a position
unfoldable pub source_from : Tape → Position → ℕ → Result Reached Fault
source_from w q n = walked w (formed w q.block) (source_answer (ahead (formed w q.block) q) n)

-- THE SOURCE'S PLAY's answer to a call of n
unfoldable pub play_source : Tape → Position → ℕ → Result Reached Fault
play_source = answered_by source_from

-- from block b back to a selectable one, or 0; each row on the way is needed
unfoldable pub back_to : Tape → ℕ → Result ℕ Fault
back_to w zero = well_row w 0 ⇒ Ok 0 ∣ Err NotFormed
back_to w (suc b) =
    not (well_row w (suc b)) ⇒ Err NotFormed ∣ eqb (block_in w (suc b)).selectable 1 ⇒ Ok (suc b) ∣ back_to w b

-- the number for no (rule 20); 0 where the query isn't refused
unfoldable pub number_for : Result ℕ Fault → ℕ
number_for (Ok b) = 0
number_for (Err f) = fault_no f

-- A POSITION'S BLOCK: 4,294,967,295 past the end, else back to a selectable one or 0
unfoldable pub block_of : Tape → Position → Result (Unit {0}) Fault → Result ℕ Fault
block_of w q (Ok u) = leb w.count q.block ⇒ Ok 4294967295 ∣ back_to w q.block
block_of w q (Err f) = Err f

abbrev pub block_at : Tape → Position → Result ℕ Fault
block_at w q = block_of w q (judged w q)

-- where the head is after an answer: on a refusal as it was
unfoldable pub head_after : Head → Result Reached Fault → Head
head_after h (Ok a) = record { position = a.stand.position }
head_after h (Err f) = h

-- THE MOUNTED HEAD: the measured player's answer from where it is, and the head after it
unfoldable pub play_mounted : Tape → Head → ℕ → Played
play_mounted w h n =
    let r = play_measured w h.position n in
    record { head = head_after h r; answer = r }
