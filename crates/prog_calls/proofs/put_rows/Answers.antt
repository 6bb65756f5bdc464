-- `put_rows` meets its contract: each turn writes the line of one row more. Assumes nothing.
use mathlib.Core.Path.{sym, ◌∙◌}
use Rattle.play_entries.specs.Mounted.{mounted_tape}
use Rattle.text_out.proofs.Loops.{goes_over}
use Rattle.prog_calls.proofs.Saying.{no_line, rows_on, rows_end}
use Rattle.prog_calls.proofs.put_rows.Goals as goal

pub returns-then-ends_run : goal.returns-then-ends_run
returns-then-ends_run c =
    let a = c.args in
    rows_end a.measured (mounted_tape a.m.now) a.answers.now a.n c.loop-i.i c.loop-i-test.true c.row_at-a.result c.row_at-a.ensures
    c.loop-i.invariant c.put_row.ensures (sym c.ends_run.ensures ∙ c.if-ends_run.true)

pub loop-i-preserved : goal.loop-i-preserved
loop-i-preserved c =
    let a = c.args in
    rows_on a.measured (mounted_tape a.m.now) a.answers.now a.n c.loop-i.i c.loop-i-test.true c.row_at-a.result c.row_at-a.ensures
    c.loop-i.invariant c.put_row.ensures (sym c.ends_run.ensures ∙ c.if-ends_run.false)

pub returns : goal.returns
returns c =
    let a = c.args in
    goes_over c.loop-i.invariant (no_line a.measured (mounted_tape a.m.now) a.answers.now a.n c.loop-i.i c.loop-i-test.false)
