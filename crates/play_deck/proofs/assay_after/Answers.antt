-- `assay_after` meets its contract. Assumes nothing.
use Rattle.std.proofs.Common.{subst}
use Rattle.play_entries.specs.Mounted.{mounted_tape}
use Rattle.play_walk.specs.Heads.{Lands}
use Rattle.play_deck.specs.Calls.{position_in}
use Rattle.play_deck.proofs.Assays.{heard_told}
use Rattle.play_deck.proofs.assay_after.Goals as goal

pub assay_stand-requires : goal.assay_stand-requires
unfolding Lands
assay_stand-requires c =
    let w = mounted_tape c.args.m.now in
    record {
      landed = subst (Lands w) c.in-Ok.is c.requires.lands;
      told_seen = rw c.heard_on_way.ensures (heard_told w c.args.pos c.args.a c.requires.assayed);
    }

pub returns-in-Ok : goal.returns-in-Ok
unfolding position_in
returns-in-Ok c = rw c.in-Ok.is c.assay_stand.ensures

pub returns-in-Err : goal.returns-in-Err
unfolding position_in
returns-in-Err c = rw c.in-Err.is c.requires.assayed
