-- The length of a part, and of an array of zeros. Assumes nothing.
use Prim.Native.Nat.{ℕ, ◌≤◌}
use mathlib.Core.Path.{◌≡◌, sym}
use mathlib.Core.List.{List}
use lib.ListN.{length, take, replicate, length-replicate}
use lib.Seq.{length-take-le}

pub take_counted : (d : List ℕ) (r : ℕ) → r ≤ length d → r ≡ length (take r d)
take_counted d r h = sym (length-take-le r d h)

-- as a law: the length of a million is not to be computed
pub zeros-counted : (n : ℕ) → n ≡ length (replicate {A = ℕ} n 0)
zeros-counted n = sym (length-replicate n 0)
