-- HOW LONG the text of a place can be: no longer than 103 bytes, and its parts accordingly. Assumes nothing.
use Prim.Native.Nat.{ℕ, ◌≤◌}
use native.Mathlib.Omega.{arith}
use mathlib.Core.Bool.{Bool}
use lib.ListN.{length, length-append}
use Rattle.text_out.proofs.Writing.{decimal-length}
use Rattle.play_entries.specs.declared.Phase.{Phase}
use Rattle.play_entries.specs.declared.Phase.TheVariants.{Start, Tones, Data, Edge, Pause}
use Rattle.play_entries.specs.declared.Duration.{Duration}
use Rattle.text_value.proofs.Lengths.{flag-length, duration_length}
use Rattle.play_walk.specs.declared.Stand.{Stand}
use Rattle.text_trace.specs.Places.{spaced, numbers, phase_text, left_text, place_text}

pub spaced-length : (n : ℕ) → length (spaced n) ≤ 21
unfolding spaced
spaced-length n = omega (arith, decimal-length n)

pub numbers-length : (n m : ℕ) (v : Bool) → length (numbers n m v) ≤ 44
unfolding numbers
numbers-length n m v =
    simp length-append (omega (arith, spaced-length n, spaced-length m, flag-length v))

pub phase_length : (f : Phase) → length (phase_text f) ≤ 48
unfolding phase_text
phase_length Start = omega arith
phase_length (Tones i p v) = omega (arith, numbers-length i p v)
phase_length (Data pos k v) = omega (arith, numbers-length pos k v)
phase_length Edge = omega arith
phase_length Pause = omega arith

pub rest-length : (d : Duration) (v : Bool) → length (left_text d v) ≤ 34
unfolding left_text
rest-length d v = simp length-append (omega (arith, duration_length d, flag-length v))

pub place_length : (s : Stand) → length (place_text s) ≤ 103
unfolding place_text
place_length s =
    simp length-append
    (omega (arith, decimal-length s.position.block, phase_length s.position.phase, rest-length s.position.left s.level))
