-- `walk` meets its contract. Assumes nothing.
use Rattle.std.proofs.Common.{◌≡◌, ◌<◌, Ok, ap, arith}
use mathlib.Core.Path.{sym, ◌∙◌}
use mathlib.Core.Logic.{◌⊎◌, inl, inr}
use Rattle.play_walk.proofs.Turns as turns
use Rattle.play_walk.proofs.Landing as landing
use Rattle.play_walk.proofs.walk.Goals as goal
use Rattle.play_walk.proofs.walk.Goals.{then-d-eq0-via-then-d-eq0, then-d-eq0-via-else-d-eq0+then-d-t}

pub blocks-2-init : goal.blocks-2-init
blocks-2-init c = turns.gone_first _ _ _ c.requires.walkable

pub row-requires : goal.row-requires
row-requires c = turns.gone_lent c.requires.walkable c.blocks-2.invariant

pub invariant_of-x : goal.invariant_of-x
invariant_of-x c = record { lent = (turns.gone_lends c.requires.walkable c.entries.invariant _ c.row.ensures).rows }

pub stands-requires-clause-standing : goal.stands-requires-clause-standing
stands-requires-clause-standing c = turns.gone_standing c.requires.walkable c.entries.invariant

pub stands-requires-then-d-eq0-clause-standing : goal.stands-requires-then-d-eq0-clause-standing
stands-requires-then-d-eq0-clause-standing c = turns.gone_standing c.requires.walkable c.entries.invariant

pub take-s-requires : goal.take-s-requires
take-s-requires c =
    let g = c.entries.invariant in
    record {
      r_value = turns.gone_well c.requires.walkable g _ c.row.ensures;
      f_value = turns.gone_has c.requires.walkable g _ c.row.ensures;
      d_nonzero = omega arith;
    }

pub overflow_sub-d : goal.overflow_sub-d
overflow_sub-d c = (turns.turn_fits c.requires.walkable c.entries.invariant _ c.in-T.is (omega arith) (omega arith) _ c.row.ensures _ c.take-s.ensures).0

pub overflow_add-passed : goal.overflow_add-passed
overflow_add-passed c =
    omega (arith, turns.turn_fits c.requires.walkable c.entries.invariant _ c.in-T.is (omega arith) (omega arith) _ c.row.ensures _ c.take-s.ensures)

pub length_at-left-requires : goal.length_at-left-requires
length_at-left-requires c =
    let l = turns.gone_lends c.requires.walkable c.entries.invariant _ c.row.ensures in
    record {
      size_in_bounds = l.bytes;
      r_value = l.numbers;
      f_value = turns.turn_has c.requires.walkable c.entries.invariant _ c.in-T.is (omega arith) (omega arith) _ c.row.ensures _ c.take-s.ensures _ c.in-Some.is;
    }

pub entries-smaller : goal.entries-smaller
entries-smaller c =
    turns.turn_falls c.requires.walkable c.entries.invariant _ c.in-T.is (omega arith) (omega arith) _ c.row.ensures _ c.take-s.ensures
    _ c.in-Some.is _ c.length_at-left.ensures

pub entries-preserved : goal.entries-preserved
entries-preserved c =
    turns.turn_goes c.requires.walkable c.entries.invariant _ c.in-T.is (omega arith) (omega arith) _ c.row.ensures _ c.take-s.ensures
    _ c.in-Some.is _ c.length_at-left.ensures

pub overflow_add-block : goal.overflow_add-block
overflow_add-block c = omega (arith, turns.gone_below c.requires.walkable c.entries.invariant)

pub next_block-requires : goal.next_block-requires
next_block-requires c =
    (omega (arith, turns.gone_below c.requires.walkable c.entries.invariant), c.requires.walkable.lent)

pub blocks-2-smaller : goal.blocks-2-smaller
blocks-2-smaller c = omega (arith, turns.gone_below c.requires.walkable c.entries.invariant)

pub blocks-2-preserved : goal.blocks-2-preserved
blocks-2-preserved c =
    turns.block_next c.requires.walkable c.entries.invariant _ c.in-T.is (omega arith) (omega arith) _ c.row.ensures _ c.take-s.ensures
    c.in_default-phase.is (sym c.next_block.ensures ∙ c.in_default-next_block.is)

pub returns-in_default : goal.returns-in_default
returns-in_default c =
    let g = c.entries.invariant in
    let e = ap Ok c.stands.ensures in
    record {
      value = e ∙ turns.gone_stopped c.requires.walkable g c.in_default.is;
      lands = landing.lands_here _ _ _ e (turns.gone_walkable c.requires.walkable g);
    }

pub returns-then-d-eq0 : goal.returns-then-d-eq0
returns-then-d-eq0 c =
    let g = c.entries.invariant in
    let e = ap Ok c.stands-then-d-eq0.ensures in
    let h : (c.entries.d ≡ 0) ⊎ (c.entries.d < c.in-T.t) =
    elim c.then-d-eq0.branch
    [ then-d-eq0-via-then-d-eq0 w ↦ inl w.if-d-eq0.true | then-d-eq0-via-else-d-eq0+then-d-t w ↦ inr w.if-d-t.true ] in
    record {
      value = e ∙ turns.gone_at c.requires.walkable g _ c.in-T.is h;
      lands = landing.lands_here _ _ _ e (turns.gone_less c.requires.walkable g _ c.in-T.is h);
    }

pub returns-in-Some-next_block : goal.returns-in-Some-next_block
returns-in-Some-next_block c =
    let e = sym c.next_block.ensures ∙ c.in-Some-next_block.is in
    record {
      value = turns.block_left c.requires.walkable c.entries.invariant _ c.in-T.is (omega arith) (omega arith) _ c.row.ensures _ c.take-s.ensures
          c.in_default-phase.is _ e;
      lands = landing.lands_next _ _ _ _ _ e;
    }
