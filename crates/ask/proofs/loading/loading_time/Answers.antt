-- `loading_time` meets its contract: what is summed up is that of the blocks passed, none of them a stop. Assumes nothing.
use Rattle.std.proofs.Common.{arith, sym, ◌∙◌}
use borrow.Author.Tests.{le-ltb, ltb-false}
use Rattle.ask.specs.Queries.{loading_of}
use Rattle.ask.proofs.Loads.{loads_none, loads_over, loads_bad, summable, loads_stop, loads_on}
use Rattle.ask.proofs.loading.loading_time.Goals as goal

pub returns-then-is_overfull : goal.returns-then-is_overfull
unfolding loading_of
returns-then-is_overfull c = rw (sym c.is_overfull.ensures ∙ c.if-is_overfull.true)

pub loop-b-init : goal.loop-b-init
loop-b-init c =
    let o = sym c.is_overfull.ensures ∙ c.if-is_overfull.false in
    (ltb-false _ _ o, loads_none _ c.none-s.ensures)

pub returns-then-not-row_well : goal.returns-then-not-row_well
returns-then-not-row_well c =
    loads_bad (le-ltb _ _ c.loop-b.invariant.0) c.loop-b.invariant.1 c.loop-b-test.true
    (sym c.row_well.ensures ∙ c.if-not-row_well.true)

pub one_more-s-requires : goal.one_more-s-requires
one_more-s-requires c =
    let g = sym c.row_well.ensures ∙ c.if-not-row_well.false in
    let h = summable c.loop-b.invariant.1 c.row.ensures g (omega arith) in
    record { sum_bound = h.0; r_value = h.1 }

pub loop-b-preserved : goal.loop-b-preserved
loop-b-preserved c =
    let g = sym c.row_well.ensures ∙ c.if-not-row_well.false in
    (c.loop-b.invariant.0, loads_on c.loop-b.invariant.1 c.row.ensures g c.loop-b-test.true c.one_more-s.ensures c.if-s.false)

pub returns : goal.returns
returns c =
    loads_over (le-ltb _ _ c.loop-b.invariant.0) c.loop-b.invariant.1 (omega arith)

pub returns-then-s : goal.returns-then-s
returns-then-s c =
    let g = sym c.row_well.ensures ∙ c.if-not-row_well.false in
    loads_stop c.loop-b.invariant.1 c.row.ensures g c.loop-b-test.true c.one_more-s.ensures (le-ltb _ _ c.loop-b.invariant.0) c.if-s.true
