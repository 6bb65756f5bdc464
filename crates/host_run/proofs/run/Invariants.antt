-- The loops of `run`.
use Prim.Native.Nat.{◌-◌, ◌≤◌}
use mathlib.Core.Path.{◌≡◌}
use lib.ListN.{length}
use Rattle.play_entries.specs.Mounted.{mounted_tape}
use Rattle.host_run.specs.Inside.{leads_to, Known}
use Rattle.host_run.proofs.run.Given as goal

abbrev pub invariant-loop-g : goal.invariant-loop-g
invariant-loop-g l = Known (mounted_tape l.m) l.g
    × ((l.g.next ≤ length l.counts)
    × ((length l.answers ≡ length l.initial.answers)
    × (leads_to l.measured (mounted_tape l.m) l.counts l.answers l.g
    ≡ leads_to l.measured (mounted_tape l.m) l.counts l.initial.answers l.initial.g)))

abbrev pub decreases-loop-g : goal.decreases-loop-g
decreases-loop-g l = length l.counts - l.g.next
