-- Where a head stands, and what a player answers of a list. Definitions alone; assumes nothing.
use Rattle.std.specs.Prelude.{ℕ, ◌≤◌, ◌<◌, ◌≡◌, Bool, true, false, ◌&&◌, List, [], ◌∷◌, ltb, eqb, Option, Some, None, Result, Ok, Err}
use Rattle.law_base.specs.Rules.{◌⇒◌, ◌∣◌}
use Rattle.refusals.specs.Refusals.{no_position, bad_row}
use Rattle.law_pulses.specs.Play.{Level, low, Entry, pulse, endless, Status, standing, stopped, ended, Answer, answer}
use Rattle.law_pulses.specs.Source.{is_ended, dropped}
use Rattle.rows.specs.Table.{capacity_of}
use Rattle.rows.specs.Rows.{block, block_most}
use Rattle.play_entries.specs.declared.Phase.{Phase}
use Rattle.play_entries.specs.declared.Phase.TheVariants.{Start}
use Rattle.play_entries.specs.declared.Duration.{Duration}
use Rattle.play_entries.specs.declared.Duration.TheVariants.{T, Endless}
use Rattle.play_entries.specs.Entries.{Label, start_level}
use Rattle.play_entries.specs.Places.{Tape, block_in, left_at, valid, head_of, left_of, is_start, level_in}
use Rattle.play_entries.specs.Mounted.{well_row, formed}
use Rattle.play_walk.specs.declared.Position.{Position}
use Rattle.play_walk.specs.declared.Stand.{Stand}
use Rattle.play_walk.specs.declared.How.{How}
use Rattle.play_walk.specs.declared.How.TheVariants.{At, Stopped, Ended}
use Rattle.play_walk.specs.declared.Reached.{Reached}
use Rattle.play_walk.specs.declared.Fault.{Fault}
use Rattle.play_walk.specs.declared.Fault.TheVariants.{NotValid, NotFormed}

-- a fault's number for no (rule 20)
abbrev pub fault_no : Fault → ℕ
fault_no NotValid = no_position
fault_no NotFormed = bad_row

-- the number for no; 0 where the call isn't refused
unfoldable pub reached_no : Result Reached Fault → ℕ
reached_no (Ok a) = 0
reached_no (Err f) = fault_no f

-- the refusal of this number
abbrev pub not_reached : ℕ → Result Reached Fault
not_reached n = Err (eqb n no_position ⇒ NotValid ∣ NotFormed)

abbrev pub placed : ℕ → Phase → Duration → Position
placed b f left = record { block = b; phase = f; left = left }

-- a block's start
abbrev pub start_at : ℕ → Position
start_at b = placed b Start (T 0)

abbrev pub stand : Position → ℕ → Level → Stand
stand q k v = record { position = q; passed = k; level = v }

abbrev pub arrived : How → Stand → Reached
arrived h s = record { how = h; stand = s }

-- an answer that is no refusal
abbrev pub came : How → Stand → Result Reached Fault
came h s = Ok (arrived h s)

-- how a call comes out that leaves the head in an entry of which so much is left
abbrev pub how_left : Duration → How
how_left (T t) = At
how_left Endless = Stopped

-- what is left to play from a position
abbrev pub ahead : Tape → Position → List (Entry Label)
ahead w q = left_at w q.block q.phase q.left

-- the position at the head of what is left to play, and the level there
abbrev pub position_of : Tape → List (Entry Label) → Position
position_of w es = placed (head_of w es).block (head_of w es).phase (left_of es)

-- where nothing is left of a list, c
unfoldable pub level_here : Level → List (Entry Label) → Level
level_here c [] = c
level_here c (pulse a v t ∷ es) = v
level_here c (endless a v ∷ es) = v

-- the level at block b's start, where a head comes to rest: the row's own, which is not judged there; low at the count's
unfoldable pub rest_level : Tape → ℕ → Level
rest_level w b = ltb b w.count ⇒ start_level (block_in w b) ∣ low

abbrev pub how_told : Status → How
how_told standing = At
how_told stopped = Stopped
how_told ended = Ended

unfoldable pub told_as : Status → Stand → Result Reached Fault
told_as st s = came (how_told st) s

abbrev pub is_end : How → Bool
is_end At = false
is_end Stopped = false
is_end Ended = true

-- whether an answer is the end
unfoldable pub ended_in : Result Reached Fault → Bool
ended_in (Ok a) = is_end a.how
ended_in (Err f) = false

-- a list's answer, as a player gives it: v is the tape w, or it cut
unfoldable pub told_reached : Tape → Tape → Answer Label → Result Reached Fault
told_reached w v a = told_as a.tells (stand (position_of v a.place) a.passed (level_here (rest_level w v.count) a.place))

-- a walk that reaches a bad row answers 11: it came to the end of v, which is cut there, with T-states left
unfoldable pub walked : Tape → Tape → Answer Label → Result Reached Fault
walked w v a = (is_ended a.tells && ltb v.count w.count) ⇒ not_reached bad_row ∣ told_reached w v a

-- at the start of block b, behind the one before, with d T-states left and i entries passed: none into it, or where the walk has left
unfoldable pub next_of : Tape → ℕ → ℕ → ℕ → Option (Result Reached Fault)
next_of w b d i =
    eqb d 0 ⇒ Some (came At (stand (start_at b) i (rest_level w b)))
    ∣ eqb b w.count ⇒ Some (came Ended (stand (start_at w.count) i low))
    ∣ well_row w b ⇒ None
    ∣ Some (not_reached bad_row)

-- THE MEASURED WALK of n T-states from a position
unfoldable pub walk_from : Tape → Position → ℕ → Result Reached Fault
walk_from w q n = walked w (formed w q.block) (answer (ahead (formed w q.block) q) n)

-- the sum of the finite entries that the source's play drops uncharged in a call of n from a position
unfoldable pub dropped_from : Tape → Position → ℕ → ℕ
dropped_from w q n = dropped (ahead (formed w q.block) q) n

-- a valid position below the count, in a well-formed row, on a tape whose count is within its capacity
pub record Walkable (w : Tape) (q : Position) : Type 0 where
  pub lent : w.count ≤ capacity_of block block_most w.blocks
  pub below : q.block < w.count
  pub row : well_row w q.block ≡ true
  pub stands : valid w q.block q.phase q.left ≡ true

-- where a head stands inside a block the next call goes on: at an entry of a well-formed row, at this level
pub record GoesOn (w : Tape) (s : Stand) : Type 0 where
  pub there : Walkable w s.position
  pub level : s.level ≡ level_in w s.position.block s.position.phase

-- .. but not from a block's start, whose row is judged only when it is reached
abbrev pub Landed : Tape → Stand → Type 0
Landed w s = is_start s.position.phase ≡ false → GoesOn w s

-- of an answer
unfoldable pub Lands : Tape → Result Reached Fault → Type 0
Lands w (Ok a) = Landed w a.stand
Lands w (Err f) = Unit {0}
