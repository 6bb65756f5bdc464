-- A RUN OF CALLS, each from where the one before left the head (rules 147, 148). Definitions alone; assumes nothing.
use Rattle.std.specs.Prelude.{ℕ, ◌*◌, Bool, true, false, List, [], ◌∷◌, ltb, eqb, length, Result, Ok, Err}
use Rattle.law_base.specs.Rules.{◌⇒◌, ◌∣◌}
use Rattle.refusals.specs.declared.Refusal.{Refusal}
use Rattle.refusals.specs.declared.Refusal.TheVariants.{NoPosition, NoRoom, BadRow}
use Rattle.refusals.specs.Refusals.{answer_no}
use Rattle.rows.specs.Table.{put_all}
use Rattle.play_entries.specs.Places.{Tape}
use Rattle.play_walk.specs.declared.Position.{Position}
use Rattle.play_walk.specs.declared.Reached.{Reached}
use Rattle.play_walk.specs.declared.Fault.{Fault}
use Rattle.play_walk.specs.declared.Fault.TheVariants.{NotValid, NotFormed}
use Rattle.play_deck.specs.Deck.{judged, play_measured, play_source}
use Rattle.play_deck.specs.Calls.{position_in, passed_in, counting}
use Rattle.host_run.specs.declared.AnswerRow.{AnswerRow}
use Rattle.host_run.specs.Rows.{answer_row, call_row}

-- the measured player, or the source's play
unfoldable pub player_of : Bool → Tape → Position → ℕ → Result Reached Fault
player_of true w = play_measured w
player_of false w = play_source w

-- EACH CALL'S ANSWER
unfoldable pub answers_of : (Position → ℕ → Result Reached Fault) → Position → List ℕ → List (Result Reached Fault)
answers_of play q [] = []
answers_of play q (n ∷ ns) = play q n ∷ answers_of play (position_in q (play q n)) ns

-- the last of them, the entries passed added up
unfoldable pub tallied : Result Reached Fault → List (Result Reached Fault) → Result Reached Fault
tallied r [] = r
tallied r (s ∷ rs) = counting (passed_in r) (tallied s rs)

unfoldable pub last_answer : Result Reached Fault → List (Result Reached Fault) → Result Reached Fault
last_answer r [] = r
last_answer r (s ∷ rs) = last_answer s rs

-- EACH CALL'S ROW
unfoldable pub run_rows : (Position → ℕ → Result Reached Fault) → Position → List ℕ → List AnswerRow
run_rows play q [] = []
run_rows play q (n ∷ ns) = call_row q (play q n) ∷ run_rows play (position_in q (play q n)) ns

-- the rows of answers that were given one after the other, the first to a call from q
unfoldable pub rows_over : Position → List (Result Reached Fault) → List AnswerRow
rows_over q [] = []
rows_over q (r ∷ rs) = call_row q r ∷ rows_over (position_in q r) rs

-- WHAT IS RETURNED: 11 for the count, 9, 11, 9 for the position where the run begins, 10 where the table holds fewer rows
unfoldable pub room_for : List ℕ → List ℕ → Result (Unit {0}) Refusal
room_for ns table = ltb (length table) (length ns * answer_row.width) ⇒ Err NoRoom ∣ Ok tt

unfoldable pub checked : Result (Unit {0}) Fault → Result (Unit {0}) Refusal → Result (Unit {0}) Refusal
checked (Ok u) r = r
checked (Err NotValid) r = Err NoPosition
checked (Err NotFormed) r = Err BadRow

unfoldable pub run_answer : Tape → Position → List ℕ → List ℕ → Result (Unit {0}) Refusal
run_answer w q ns table = checked (judged w q) (room_for ns table)

-- its number; else 0
abbrev pub room_no : List ℕ → List ℕ → ℕ
room_no ns table = answer_no (room_for ns table)

abbrev pub run_no : Tape → Position → List ℕ → List ℕ → ℕ
run_no w q ns table = answer_no (run_answer w q ns table)

-- WHAT IS LEFT OF THE TABLE: a row for each call from row 0 on, then the words that were there; all of them where the run is refused
unfoldable pub run_table : Bool → Tape → Position → List ℕ → List ℕ → List ℕ
run_table measured w q ns table =
    eqb (run_no w q ns table) 0 ⇒ put_all answer_row table 0 (run_rows (player_of measured w) q ns) ∣ table
