-- `call_by` meets its contract. Assumes nothing.
use Rattle.std.proofs.Common.{Ok, sym, ap, subst, ◌∙◌, arith}
use Rattle.play_entries.specs.Mounted.{mounted_tape}
use Rattle.play_walk.specs.Heads.{Lands}
use Rattle.play_walk.proofs.Landing.{lands_ended}
use Rattle.play_deck.proofs.Assays.{found_of, refused_of, level_below, stays_here}
use Rattle.play_deck.proofs.Checks.{fine_below, past-ends}
use Rattle.play_deck.proofs.Inside.{inside_walk}
use Rattle.play_deck.proofs.Landing.{lands_stay, lands_inside}
use Rattle.play_deck.proofs.Players.{handed, at_refusal, at_none, at_some}
use Rattle.play_deck.proofs.call_by.Goals as goal

pub returns-in_err-here : goal.returns-in_err-here
unfolding Lands
returns-in_err-here g c =
    let e = handed _ c.from_residual.ensures.1 in
    let by = g.met.P.Player.by_walks (mounted_tape c.args.m.now) c.args.pos c.args.n in
    let j = refused_of _ _ c.requires c.in_err-here.was in
    record {
      value = e ∙ sym (at_refusal g.P.Player.plays g.P.Player.walks by j);
      lands = subst (Lands (mounted_tape c.args.m.now)) (sym e) tt;
    }

pub returns-then-n-eq0 : goal.returns-then-n-eq0
returns-then-n-eq0 g c =
    let w = mounted_tape c.args.m.now in
    let by = g.met.P.Player.by_walks (mounted_tape c.args.m.now) c.args.pos c.args.n in
    let x = found_of _ _ c.requires c.in_ok-here.was in
    let e = ap Ok c.here.ensures ∙ stays_here w c.args.pos x.fine _ x.level in
    record {
      value = e ∙ sym (at_none g.P.Player.plays g.P.Player.walks by x.fine c.if-n-eq0.true);
      lands = subst (Lands w) (sym e) (lands_stay w c.args.pos x.fine);
    }

pub returns-then-m-pos : goal.returns-then-m-pos
returns-then-m-pos g c =
    let w = mounted_tape c.args.m.now in
    let by = g.met.P.Player.by_walks (mounted_tape c.args.m.now) c.args.pos c.args.n in
    let x = found_of _ _ c.requires c.in_ok-here.was in
    let e = ap Ok c.end.ensures in
    record {
      value =
          e ∙ sym
          (at_some g.P.Player.plays g.P.Player.walks by x.fine (omega arith) ∙ c.spends-d.ensures.walks_value
          ∙ past-ends w c.args.pos x.fine c.if-m-pos.true _ c.spends-d.ensures.nonzero);
      lands = lands_ended w _ 0 _ e;
    }

pub returns-then-ends_inside : goal.returns-then-ends_inside
returns-then-ends_inside g c =
    let w = mounted_tape c.args.m.now in
    let by = g.met.P.Player.by_walks (mounted_tape c.args.m.now) c.args.pos c.args.n in
    let x = found_of _ _ c.requires c.in_ok-here.was in
    let y = fine_below w c.args.pos x.fine (omega arith) in
    let i = sym c.ends_inside.ensures ∙ c.if-ends_inside.true in
    let e = c.stand_inside.ensures w (level_below x (omega arith)) in
    record {
      value =
          e ∙ inside_walk w c.args.pos _ y i
          ∙ sym (at_some g.P.Player.plays g.P.Player.walks by x.fine (omega arith) ∙ c.spends-d.ensures.walks_value);
      lands = lands_inside w c.args.pos _ y _ e i;
    }

pub walk-requires : goal.walk-requires
walk-requires g c =
    let x = found_of _ _ c.requires c.in_ok-here.was in
    record { walkable = fine_below _ _ x.fine (omega arith); told_seen = x.told }

pub returns : goal.returns
returns g c =
    let by = g.met.P.Player.by_walks (mounted_tape c.args.m.now) c.args.pos c.args.n in
    let x = found_of _ _ c.requires c.in_ok-here.was in
    record {
      value =
          c.walk.ensures.value
          ∙ sym (at_some g.P.Player.plays g.P.Player.walks by x.fine (omega arith) ∙ c.spends-d.ensures.walks_value);
      lands = c.walk.ensures.lands;
    }
