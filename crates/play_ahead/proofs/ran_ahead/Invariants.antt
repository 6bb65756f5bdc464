-- The loops of `ran_ahead`.
use Prim.Native.Nat.{◌+◌, ◌-◌}
use lib.ListN.{length}
use Rattle.play_entries.specs.Mounted.{cut_to, mounted_tape}
use Rattle.play_steps.proofs.Leaps.{left_from}
use Rattle.play_ahead.proofs.Drops.{Gone}
use Rattle.play_ahead.proofs.ran_ahead.Given as goal

abbrev pub invariant-loop-phase : goal.invariant-loop-phase
invariant-loop-phase l = Gone (mounted_tape l.m) l.fn.pos l.fn.n l.block l.phase l.d l.sum

abbrev pub decreases-loop-phase : goal.decreases-loop-phase
decreases-loop-phase l = length (left_from (cut_to (mounted_tape l.m) (l.block + 1)) l.block l.phase)

abbrev pub invariant-blocks-2 : goal.invariant-blocks-2
invariant-blocks-2 l = Gone (mounted_tape l.m) l.fn.pos l.fn.n l.block l.phase l.d l.sum

abbrev pub decreases-blocks-2 : goal.decreases-blocks-2
decreases-blocks-2 l = l.m.count - l.block
