-- HOW LONG A LINE CAN BE: no longer than 256 bytes, and its parts accordingly. Assumes nothing.
use Prim.Native.Nat.{ℕ, ◌≤◌}
use native.Mathlib.Omega.{arith}
use mathlib.Core.Bool.{Bool, true, false}
use lib.ListN.{length, length-append}
use Rattle.std.specs.Prelude.{Result, Ok, Err}
use Rattle.text_out.specs.Out.{digits, decimal, refused_text, refused_line}
use Rattle.text_out.proofs.Writing.{decimal-length}
use Rattle.play_walk.specs.declared.Stand.{Stand}
use Rattle.play_walk.specs.declared.How.{How}
use Rattle.play_walk.specs.declared.How.TheVariants.{At, Stopped, Ended}
use Rattle.play_walk.specs.declared.Reached.{Reached}
use Rattle.play_walk.specs.declared.Fault.{Fault}
use Rattle.play_walk.specs.declared.Fault.TheVariants.{NotValid, NotFormed}
use Rattle.text_trace.proofs.PlaceLengths.{place_length}
use Rattle.text_trace.specs.Lines.{selected_text, stand_line, came_line, how_text, passed_line, source_line, measured_line, line_of}

pub selected_length : (b : Result ℕ Fault) → length (selected_text b) ≤ 20
unfolding refused_text selected_text digits decimal
selected_length (Ok n) = decimal-length n
selected_length (Err NotValid) = omega arith
selected_length (Err NotFormed) = omega arith

pub shown-length : (s : Stand) (b : Result ℕ Fault) → length (stand_line s b) ≤ 134
unfolding stand_line
shown-length s b = simp length-append (omega (arith, place_length s, selected_length b))

-- by which a line's parts stay below a bound
pub ruleset shown_parts = (place_length, selected_length)

told-length : (s : Stand) (b : Result ℕ Fault) → length (passed_line s b) ≤ 166
unfolding passed_line
told-length s b = simp length-append (omega (arith, decimal-length s.passed, shown-length s b))

came_length : (h : How) (s : Stand) (b : Result ℕ Fault) → length (came_line h s b) ≤ 134
unfolding came_line
came_length At s b = shown-length s b
came_length Stopped s b = shown-length s b
came_length Ended s b = omega arith

pub how_length : (h : How) → length (how_text h) ≤ 7
unfolding how_text
how_length At = omega arith
how_length Stopped = omega arith
how_length Ended = omega arith

source-length : (r : Result Reached Fault) (b : Result ℕ Fault) → length (source_line r b) ≤ 256
unfolding refused_text refused_line source_line digits decimal
source-length (Ok a) b = omega (arith, came_length a.how a.stand b)
source-length (Err NotValid) b = omega arith
source-length (Err NotFormed) b = omega arith

measured_length : (r : Result Reached Fault) (b : Result ℕ Fault) → length (measured_line r b) ≤ 256
unfolding refused_text refused_line measured_line digits decimal
measured_length (Ok a) b = simp length-append (omega (arith, how_length a.how, told-length a.stand b))
measured_length (Err NotValid) b = omega arith
measured_length (Err NotFormed) b = omega arith

pub line_length : (m : Bool) (r : Result Reached Fault) (b : Result ℕ Fault) → length (line_of m r b) ≤ 256
unfolding line_of
line_length true r b = measured_length r b
line_length false r b = source-length r b
