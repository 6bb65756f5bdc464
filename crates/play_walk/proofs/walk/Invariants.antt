-- The loops of `walk`.
use Prim.Native.Nat.{◌+◌, ◌-◌}
use lib.ListN.{length}
use Rattle.play_entries.specs.Places.{left_at}
use Rattle.play_entries.specs.Mounted.{cut_to, mounted_tape}
use Rattle.play_walk.proofs.Turns.{Gone}
use Rattle.play_walk.proofs.walk.Given as goal

abbrev pub invariant-entries : goal.invariant-entries
invariant-entries l = Gone (mounted_tape l.m) l.fn.pos l.fn.n l.block l.phase l.left l.full l.d l.passed

abbrev pub decreases-entries : goal.decreases-entries
decreases-entries l = length (left_at (cut_to (mounted_tape l.m) (l.block + 1)) l.block l.phase l.left)

abbrev pub invariant-blocks-2 : goal.invariant-blocks-2
invariant-blocks-2 l = Gone (mounted_tape l.m) l.fn.pos l.fn.n l.block l.phase l.left l.full l.d l.passed

abbrev pub decreases-blocks-2 : goal.decreases-blocks-2
decreases-blocks-2 l = l.m.count - l.block
