-- The loop of `tones_seen`.
use Rattle.std.proofs.Common.{◌≡◌, ◌-◌}
use Rattle.rows_well.specs.Seen.{seen_from}
use Rattle.rows_well.proofs.tones_seen.Given as goal

abbrev pub invariant-loop-i : goal.invariant-loop-i
invariant-loop-i l = l.s ≡ seen_from l.tones l.fn.past l.from (l.i - l.from)
