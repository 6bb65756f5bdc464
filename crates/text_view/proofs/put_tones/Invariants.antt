-- The loop of `put_tones`.
use Rattle.text_out.specs.Writes.{Writes}
use Rattle.text_view.specs.View.{tones_from}
use Rattle.text_view.specs.Dump.{tones_text}
use Rattle.text_view.proofs.put_tones.Given as goal

abbrev pub invariant-loop-i : goal.invariant-loop-i
invariant-loop-i l = Writes l.initial.w (tones_text (tones_from l.tones l.from l.i)) l.w
