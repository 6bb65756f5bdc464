-- The loop of `tone_from`.
use Rattle.std.proofs.Common.{◌≡◌}
use Rattle.play_steps.specs.Steps.{tone_from}
use Rattle.play_steps.proofs.tone_from.Given as goal

abbrev pub invariant-loop-index : goal.invariant-loop-index
invariant-loop-index l = tone_from l.x.tones.now l.x.row l.i ≡ tone_from l.x.tones.now l.x.row l.index
