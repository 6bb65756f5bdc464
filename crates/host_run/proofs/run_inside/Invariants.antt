-- The loop of `run_inside`.
use Rattle.std.proofs.Common.{◌≡◌, ◌+◌, length, drop}
use Rattle.rows.specs.Table.{put_all}
use Rattle.host_run.specs.Rows.{answer_row}
use Rattle.host_run.specs.Inside.{inside_rows, inside_left}
use Rattle.host_run.proofs.run_inside.Given as goal

abbrev pub invariant-loop-i : goal.invariant-loop-i
invariant-loop-i l = (length l.answers ≡ length l.initial.answers)
    × (l.from + length (inside_rows l.row l.row.left (drop l.from l.counts)) ≡ l.i + length (inside_rows l.row l.left (drop l.i l.counts)))
    × (inside_left l.row.left (drop l.from l.counts) ≡ inside_left l.left (drop l.i l.counts))
    × (put_all answer_row l.initial.answers l.from (inside_rows l.row l.row.left (drop l.from l.counts))
    ≡ put_all answer_row l.answers l.i (inside_rows l.row l.left (drop l.i l.counts)))
