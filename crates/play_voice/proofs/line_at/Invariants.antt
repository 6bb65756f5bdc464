-- The loop of `line_at`.
use Rattle.std.proofs.Common.{◌≡◌}
use Rattle.play_entries.specs.Entries.{line_at}
use Rattle.play_voice.proofs.line_at.Given as goal

abbrev pub invariant-loop-i : goal.invariant-loop-i
invariant-loop-i l = l.l ≡ line_at l.x.tones.now l.x.row l.i
