-- What an answer holds, and runs of calls, each from where the last one left the head. Definitions alone; assumes nothing.
use Rattle.std.specs.Prelude.{ℕ, ◌+◌, List, [], ◌∷◌, Result, Ok, Err}
use Rattle.law_pulses.specs.Play.{Level, low}
use Rattle.law_pulses.specs.Source.{Outcome}
use Rattle.play_walk.specs.declared.Position.{Position}
use Rattle.play_walk.specs.declared.Stand.{Stand}
use Rattle.play_walk.specs.declared.Reached.{Reached}
use Rattle.play_walk.specs.declared.Fault.{Fault}
use Rattle.play_walk.specs.Heads.{stand, came, ahead, ended_in}
use Rattle.play_entries.specs.Places.{Tape}
use Rattle.play_entries.specs.Entries.{Label}
use Rattle.play_deck.specs.Deck.{play_measured, play_source}

-- where an answer leaves the head, and the entries it counts; a refusal leaves it where it was and counts none
unfoldable pub position_in : Position → Result Reached Fault → Position
position_in q (Ok a) = a.stand.position
position_in q (Err f) = q

unfoldable pub passed_in : Result Reached Fault → ℕ
passed_in (Ok a) = a.stand.passed
passed_in (Err f) = 0

-- j entries more
abbrev pub passed_more : ℕ → Stand → Stand
passed_more j s = stand s.position (j + s.passed) s.level

unfoldable pub counting : ℕ → Result Reached Fault → Result Reached Fault
counting j (Ok a) = came a.how (passed_more j a.stand)
counting j (Err f) = Err f

-- the level in an answer; low where it is refused
unfoldable pub answer_level : Result Reached Fault → Level
answer_level (Ok a) = a.stand.level
answer_level (Err f) = low

-- a call of n and then of each of ms, each from where the head then stands: the last's answer, the entries passed added up
unfoldable pub run_calls : Tape → Position → ℕ → List ℕ → Result Reached Fault
run_calls w q n [] = play_measured w q n
run_calls w q n (m ∷ ms) = counting (passed_in (play_measured w q n)) (run_calls w (position_in q (play_measured w q n)) m ms)

-- a call of n of the source's play and then of each of ms: the last's answer
unfoldable pub run_sources : Tape → Position → ℕ → List ℕ → Result Reached Fault
run_sources w q n [] = play_source w q n
run_sources w q n (m ∷ ms) = run_sources w (position_in q (play_source w q n)) m ms

-- what an answer comes to: what is left to play from where it leaves the head, and whether the tape has ended
unfoldable pub outcome_in : Tape → Position → Result Reached Fault → Outcome Label
outcome_in w q r = record { place = ahead w (position_in q r); done = ended_in r }
