-- How long these texts can be. Assumes nothing.
use Prim.Native.Nat.{◌≤◌}
use native.Mathlib.Omega.{arith}
use mathlib.Core.Bool.{Bool, true, false}
use lib.ListN.{length}
use Rattle.text_out.proofs.Writing.{decimal-length}
use Rattle.play_entries.specs.declared.Duration.{Duration}
use Rattle.play_entries.specs.declared.Duration.TheVariants.{T, Endless}
use Rattle.text_value.specs.Values.{flag, duration_text}

pub flag-length : (v : Bool) → length (flag v) ≤ 1
unfolding flag
flag-length true = omega arith
flag-length false = omega arith

pub duration_length : (d : Duration) → length (duration_text d) ≤ 20
unfolding duration_text
duration_length (T n) = decimal-length n
duration_length Endless = omega arith
