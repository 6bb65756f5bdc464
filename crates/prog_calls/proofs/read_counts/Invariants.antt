-- The loop of `read_counts`.
use mathlib.Core.Path.{◌≡◌}
use lib.ListN.{length, take}
use Rattle.prog_calls.specs.Playback.{counts_in}
use Rattle.prog_calls.proofs.read_counts.Given as goal

abbrev pub invariant-loop-i : goal.invariant-loop-i
invariant-loop-i l = (length l.counts ≡ 1000) × (take l.i l.counts ≡ counts_in l.bytes l.i)
