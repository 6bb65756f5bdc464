-- The loop of `put_rows`.
use Rattle.play_entries.specs.Mounted.{mounted_tape}
use Rattle.text_out.proofs.Loops.{Goes}
use Rattle.prog_calls.proofs.Saying.{lines_from}
use Rattle.prog_calls.proofs.put_rows.Given as goal

abbrev pub invariant-loop-i : goal.invariant-loop-i
invariant-loop-i l = Goes (lines_from l.measured (mounted_tape l.m) l.answers l.n) 256 l.initial.w l.i l.w
