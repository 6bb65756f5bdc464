-- The loop of `rows_figure`.
use Rattle.std.proofs.Common.{◌≡◌, ◌+◌, ◌-◌}
use Rattle.play_entries.proofs.Figures.{figure_from}
use Rattle.play_times.proofs.rows_figure.Given as goal

abbrev pub invariant-loop-i : goal.invariant-loop-i
invariant-loop-i l =
    let r = l.x.row in
    l.sum + figure_from l.x.tones.now r l.i (r.tones - l.i) ≡ figure_from l.x.tones.now r 0 r.tones
