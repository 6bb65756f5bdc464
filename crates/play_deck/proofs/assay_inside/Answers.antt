-- `assay_inside` meets its contract. Assumes nothing.
use Rattle.play_entries.specs.Mounted.{mounted_tape}
use Rattle.play_deck.proofs.Landing.{found_on, hears_on, heard-on}
use Rattle.play_deck.proofs.assay_inside.Goals as goal

pub returns-then-is_source : goal.returns-then-is_source
returns-then-is_source c = found_on _ c.args.s c.requires.goes_on _ c.requires.told_seen

pub invariant_of-x : goal.invariant_of-x
invariant_of-x c =
    let h = hears_on (mounted_tape c.args.m.now) c.args.s.position c.requires.goes_on.there c.args.h
    c.requires.told_seen c.row.result c.row.ensures in
    record { lent = h.0 }

pub hear_on-requires : goal.hear_on-requires
hear_on-requires c =
    (hears_on (mounted_tape c.args.m.now) c.args.s.position c.requires.goes_on.there c.args.h
    c.requires.told_seen c.row.result c.row.ensures).1

pub returns : goal.returns
returns c =
    let w = mounted_tape c.args.m.now in
    found_on w c.args.s c.requires.goes_on _
    (heard-on w c.args.s.position c.row.result c.row.ensures c.hear_on.result c.hear_on.ensures)
