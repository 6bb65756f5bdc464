-- `ran_ahead` meets its contract. Assumes nothing.
use Rattle.std.proofs.Common.{sym, ◌∙◌, arith}
use Rattle.play_walk.proofs.Turns as turns
use Rattle.play_ahead.proofs.Drops as drops
use Rattle.play_ahead.proofs.ran_ahead.Goals as goal
use Rattle.play_ahead.proofs.ran_ahead.Goals.{then-block-m-via-then-block-m, then-block-m-via-else-block-m+then-not-row_well}

pub returns-in_default : goal.returns-in_default
returns-in_default c = drops.dropped-stop _ _ c.requires _ c.in_default.is

pub returns-then-n-t : goal.returns-then-n-t
returns-then-n-t c = drops.dropped-short _ _ c.requires _ _ c.in-T.is c.if-n-t.true

pub invariant_of-own : goal.invariant_of-own
invariant_of-own c = record { lent = (turns.gone_lends c.requires (turns.gone_first _ _ 0 c.requires) _ c.row.ensures).rows }

pub one_step-first-requires : goal.one_step-first-requires
one_step-first-requires c = turns.gone_has c.requires (turns.gone_first _ _ 0 c.requires) _ c.row.ensures

pub blocks-2-init : goal.blocks-2-init
blocks-2-init c = drops.gone_first c.requires _ c.in-T.is (omega arith) _ c.row.ensures _ c.one_step-first.ensures

pub row-requires-in-blocks-2 : goal.row-requires-in-blocks-2
row-requires-in-blocks-2 c = drops.gone_lent c.requires c.blocks-2.invariant

pub invariant_of-x : goal.invariant_of-x
invariant_of-x c = record { lent = (drops.gone_lends c.requires c.loop-phase.invariant _ c.row-in-blocks-2.ensures).rows }

pub drop-requires : goal.drop-requires
drop-requires c =
    let g = c.loop-phase.invariant in
    record {
      r_value = drops.gone_well c.requires g _ c.row-in-blocks-2.ensures;
      f_value = drops.gone_has c.requires g _ c.in-Some.is _ c.row-in-blocks-2.ensures;
    }

pub overflow_add-sum : goal.overflow_add-sum
overflow_add-sum c =
    omega (
      arith,
      drops.gone_fits c.requires c.loop-phase.invariant _ c.in-Some.is _ c.row-in-blocks-2.ensures _
          (sym c.in-Some-drop.is ∙ c.drop.ensures),
    )

pub loop-phase-smaller : goal.loop-phase-smaller
loop-phase-smaller c =
    drops.gone_falls c.requires c.loop-phase.invariant _ c.in-Some.is _ c.row-in-blocks-2.ensures _
    (sym c.in-Some-drop.is ∙ c.drop.ensures)

pub loop-phase-preserved : goal.loop-phase-preserved
loop-phase-preserved c =
    drops.gone_on c.requires c.loop-phase.invariant _ c.in-Some.is _ c.row-in-blocks-2.ensures _
    (sym c.in-Some-drop.is ∙ c.drop.ensures)

pub overflow_add-block : goal.overflow_add-block
overflow_add-block c = omega (arith, drops.gone_below c.requires c.loop-phase.invariant)

pub row_well-requires : goal.row_well-requires
row_well-requires c = omega (arith, drops.gone_below c.requires c.loop-phase.invariant, c.requires.lent)

pub blocks-2-smaller : goal.blocks-2-smaller
blocks-2-smaller c = omega (arith, drops.gone_below c.requires c.loop-phase.invariant)

pub blocks-2-preserved : goal.blocks-2-preserved
blocks-2-preserved c =
    drops.gone_next c.requires c.loop-phase.invariant c.in_default-phase.is (omega arith) (cc)

pub returns-in_default-drop : goal.returns-in_default-drop
returns-in_default-drop c =
    drops.gone_rests c.requires c.loop-phase.invariant _ c.in-Some.is _ c.row-in-blocks-2.ensures
    (sym c.in_default-drop.is ∙ c.drop.ensures)

pub returns-then-block-m : goal.returns-then-block-m
returns-then-block-m c =
    elim c.then-block-m.branch [
      | then-block-m-via-then-block-m w ↦ drops.gone_last c.requires c.loop-phase.invariant c.in_default-phase.is w.if-block-m.true
      | then-block-m-via-else-block-m+then-not-row_well w ↦ drops.gone_bad c.requires c.loop-phase.invariant c.in_default-phase.is (cc)
    ]
