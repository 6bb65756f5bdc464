-- `put_shown` meets its contract: each turn writes one code point, and what is left ends what was begun. Assumes nothing.
use native.Mathlib.Omega.{arith}
use Rattle.text_listing.proofs.Showing.{shows_none, shows_on, shows_over, width_some}
use Rattle.text_listing.proofs.shown.put_shown.Goals as goal

pub loop-i-init : goal.loop-i-init
loop-i-init c = shows_none _ _

pub byte-requires : goal.byte-requires
byte-requires c = omega (arith, c.requires, c.loop-i.invariant.goes.few)

pub overflow_add-i : goal.overflow_add-i
overflow_add-i c =
    let g = shows_on c.loop-i.invariant c.loop-i-test.true c.is_c1-c1.ensures c.shown_as.ensures c.width_of-i.ensures c.byte.ensures in
    omega (arith, g.inside)

pub loop-i-smaller : goal.loop-i-smaller
loop-i-smaller c =
    let g = shows_on c.loop-i.invariant c.loop-i-test.true c.is_c1-c1.ensures c.shown_as.ensures c.width_of-i.ensures c.byte.ensures in
    omega (arith, g.inside, width_some c.is_c1-c1.result, c.width_of-i.ensures)

pub loop-i-preserved : goal.loop-i-preserved
loop-i-preserved c =
    shows_on c.loop-i.invariant c.loop-i-test.true c.is_c1-c1.ensures c.shown_as.ensures c.width_of-i.ensures c.byte.ensures

pub returns : goal.returns
returns c = shows_over c.loop-i.invariant (omega arith)
