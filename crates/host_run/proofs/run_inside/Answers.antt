-- `run_inside` meets its contract. Assumes nothing.
use Rattle.std.proofs.Common.{ℕ, ◌+◌, ◌-◌, ◌<◌, ◌≤◌, List, length, drop, arith, sym, ap, ◌∙◌}
use Rattle.rows.specs.Table.{put_all}
use Rattle.host_run.specs.Rows.{answer_row}
use Rattle.host_run.specs.Inside.{with_left, inside_rows}
use Rattle.host_run.proofs.Insides.{put-length, nothing, none-put, rows_end, left_end, rows-stop, left_stop}
use Rattle.host_run.proofs.Insides.{left_on, next_on, table_on}
use Rattle.host_run.proofs.run_inside.Goals as goal

pub put_row-requires : goal.put_row-requires
put_row-requires c = omega (arith, c.loop-i.invariant.0, c.requires.holds_rows)

pub loop-i-preserved : goal.loop-i-preserved
loop-i-preserved c =
    let a = c.args in
    let ns = a.counts.now in
    let n = c.from-n.result in
    let i = c.loop-i.i in
    let h : i < length ns = omega arith in
    let l : n < c.loop-i.left = omega arith in
    let room = put-length c.loop-i.answers i (with_left a.row (c.loop-i.left - n)) (omega (arith, c.loop-i.invariant.0, c.requires.holds_rows)) in (
      ap length c.put_row.ensures ∙ room ∙ c.loop-i.invariant.0,
      c.loop-i.invariant.1 ∙ next_on ns a.row c.loop-i.left i h n c.from-n.ensures l,
      c.loop-i.invariant.2 ∙ left_on ns a.row c.loop-i.left i h n c.from-n.ensures l,
      c.loop-i.invariant.3 ∙ table_on ns a.row c.loop-i.left i h n c.from-n.ensures l c.loop-i.answers
          ∙ ap (λ (x : List ℕ). put_all answer_row x (i + 1) (inside_rows a.row (c.loop-i.left - n) (drop (i + 1) ns)))
          (sym c.put_row.ensures),
    )

pub returns : goal.returns
returns c =
    let a = c.args in
    let ns = a.counts.now in
    let h : length ns ≤ c.loop-i.i = omega arith in
    let z = rows_end ns a.row c.loop-i.left c.loop-i.i h in
    record {
      next_value = sym (c.loop-i.invariant.1 ∙ nothing c.loop-i.i z ∙ omega arith);
      left_value = sym (c.loop-i.invariant.2 ∙ left_end ns a.row c.loop-i.left c.loop-i.i h);
      answers_after = sym (c.loop-i.invariant.3 ∙ none-put c.loop-i.answers c.loop-i.i z);
      answers_len_unchanged = c.loop-i.invariant.0;
    }

pub returns-then-left-n : goal.returns-then-left-n
returns-then-left-n c =
    let a = c.args in
    let ns = a.counts.now in
    let n = c.from-n.result in
    let h : c.loop-i.i < length ns = omega arith in
    let l : c.loop-i.left ≤ n = omega arith in
    let z = rows-stop ns a.row c.loop-i.left c.loop-i.i h n c.from-n.ensures l in
    record {
      next_value = sym (c.loop-i.invariant.1 ∙ nothing c.loop-i.i z);
      left_value = sym (c.loop-i.invariant.2 ∙ left_stop ns a.row c.loop-i.left c.loop-i.i h n c.from-n.ensures l);
      answers_after = sym (c.loop-i.invariant.3 ∙ none-put c.loop-i.answers c.loop-i.i z);
      answers_len_unchanged = c.loop-i.invariant.0;
    }
