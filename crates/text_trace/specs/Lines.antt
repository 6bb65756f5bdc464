-- The line of a call's answer, as a trace prints it; the words are the oracle's. Definitions alone; assumes nothing.
use Rattle.std.specs.Prelude.{ℕ, Bool, true, false, List, ◌++◌, Result, Ok, Err}
use Rattle.text_out.specs.Out.{ascii, decimal, refused_text, refused_line}
use Rattle.play_walk.specs.declared.Stand.{Stand}
use Rattle.play_walk.specs.declared.How.{How}
use Rattle.play_walk.specs.declared.How.TheVariants.{At, Stopped, Ended}
use Rattle.play_walk.specs.declared.Reached.{Reached}
use Rattle.play_walk.specs.declared.Fault.{Fault}
use Rattle.play_walk.specs.Heads.{fault_no}
use Rattle.text_trace.specs.Places.{place_text}

-- the block's number; `refused n` where it is refused
unfoldable pub selected_text : Result ℕ Fault → List ℕ
selected_text (Ok n) = decimal n
selected_text (Err f) = refused_text (fault_no f)

-- `PLACE selected BLOCK`, and the line's end
unfoldable pub stand_line : Stand → Result ℕ Fault → List ℕ
stand_line s b = place_text s ++ ascii " selected " ++ selected_text b ++ ascii "\n"

-- A LINE OF THE SOURCE'S PLAY: the place, or `ended`; `refused n` where the call is refused
unfoldable pub came_line : How → Stand → Result ℕ Fault → List ℕ
came_line At s b = stand_line s b
came_line Stopped s b = stand_line s b
came_line Ended s b = ascii "ended\n"

unfoldable pub source_line : Result Reached Fault → Result ℕ Fault → List ℕ
source_line (Ok a) b = came_line a.how a.stand b
source_line (Err f) b = refused_line (fault_no f)

-- ` passed N at PLACE selected BLOCK`
unfoldable pub passed_line : Stand → Result ℕ Fault → List ℕ
passed_line s b = ascii " passed " ++ decimal s.passed ++ ascii " at " ++ stand_line s b

-- A LINE OF THE MEASURED PLAYER: `stands`, `stopped` or `ended`, the entries passed and the place
unfoldable pub how_text : How → List ℕ
how_text At = ascii "stands"
how_text Stopped = ascii "stopped"
how_text Ended = ascii "ended"

unfoldable pub measured_line : Result Reached Fault → Result ℕ Fault → List ℕ
measured_line (Ok a) b = how_text a.how ++ passed_line a.stand b
measured_line (Err f) b = refused_line (fault_no f)

-- THE LINE of a call's answer, and of the block then shown
unfoldable pub line_of : Bool → Result Reached Fault → Result ℕ Fault → List ℕ
line_of true r b = measured_line r b
line_of false r b = source_line r b
