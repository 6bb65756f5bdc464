-- The loop of `low_first`: `value` is the number of the bytes from `at + i` on.
use Prim.Native.Nat.{◌+◌, ◌-◌}
use mathlib.Core.Path.{◌≡◌}
use Rattle.cut_fields.specs.Field.{le_at}
use Rattle.cut_fields.proofs.low_first.Given as goal

abbrev pub invariant-loop-i : goal.invariant-loop-i
invariant-loop-i l = l.value ≡ le_at l.tape (l.at + l.i) (l.width - l.i)
