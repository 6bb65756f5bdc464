-- The loop of `ones`.
use Rattle.std.proofs.Common.{◌≡◌}
use Rattle.play_entries.specs.Counted.{ones_from}
use Rattle.play_times.proofs.ones.Given as goal

abbrev pub invariant-loop-v : goal.invariant-loop-v
invariant-loop-v l = l.sum ≡ ones_from l.tape l.from l.v-index
