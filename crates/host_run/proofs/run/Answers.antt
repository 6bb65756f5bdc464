-- `run` meets its contract. Assumes nothing.
use native.Mathlib.Omega.{arith}
use mathlib.Core.Path.{refl, sym, ◌∙◌}
use Rattle.play_entries.specs.Mounted.{mounted_tape}
use Rattle.host_run.proofs.Runs.{gone_all}
use Rattle.host_run.proofs.run.Goals as goal

pub loop-g-init : goal.loop-g-init
loop-g-init c =
    (c.requires.assayed, (omega arith, (refl, refl)))

pub go_far-g-requires : goal.go_far-g-requires
go_far-g-requires c =
    record { known = c.loop-g.invariant.0; holds_rows = (omega (arith, c.loop-g.invariant.1.1.0, c.requires.holds_rows), c.loop-g.invariant.1.0) }

pub go_on-g-requires : goal.go_on-g-requires
go_on-g-requires c =
    record { known = c.go_far-g.ensures.known_2; holds_rows = (omega (arith, c.go_far-g.ensures.answers_len_unchanged, c.loop-g.invariant.1.1.0, c.requires.holds_rows), omega arith) }

pub loop-g-smaller-then-g-counts : goal.loop-g-smaller-then-g-counts
loop-g-smaller-then-g-counts c =
    omega (arith, c.go_on-g.ensures.next_value, c.go_far-g.ensures.next_le_next.0)

pub loop-g-preserved-then-g-counts : goal.loop-g-preserved-then-g-counts
loop-g-preserved-then-g-counts c =
    (c.go_on-g.ensures.known_2, (omega (arith, c.go_on-g.ensures.next_value), (c.go_on-g.ensures.answers_len_unchanged ∙ c.go_far-g.ensures.answers_len_unchanged ∙ c.loop-g.invariant.1.1.0, c.go_on-g.ensures.result_after ∙ c.go_far-g.ensures.result_after ∙ c.loop-g.invariant.1.1.1)))

pub loop-g-smaller : goal.loop-g-smaller
loop-g-smaller c = omega arith

pub loop-g-preserved : goal.loop-g-preserved
loop-g-preserved c =
    (c.go_far-g.ensures.known_2, (c.go_far-g.ensures.next_le_next.1, (c.go_far-g.ensures.answers_len_unchanged ∙ c.loop-g.invariant.1.1.0, c.go_far-g.ensures.result_after ∙ c.loop-g.invariant.1.1.1)))

pub returns : goal.returns
returns c =
    let a = c.args in
    let w = mounted_tape a.m.now in
    sym (gone_all a.measured w a.counts.now c.loop-g.answers c.loop-g.g (omega arith)) ∙ c.loop-g.invariant.1.1.1
