-- ALL OF A DESCRIPTION from byte k on. Assumes nothing.
use Prim.Native.Nat.{ℕ, ◌-◌}
use native.Mathlib.Omega.{arith}
use mathlib.Core.Path.{◌≡◌}
use mathlib.Core.List.{List}
use lib.ListN.{length, length-drop, take, drop}
use lib.Seq.{take_all}

pub all_behind : (s : List ℕ) (k : ℕ) → take (length s - k) (drop k s) ≡ drop k s
all_behind s k = take_all (length s - k) (drop k s) (rw length-drop (omega arith))
