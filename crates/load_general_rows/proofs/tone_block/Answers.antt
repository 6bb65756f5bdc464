-- `tone_block` meets its contract. Assumes nothing.
use Rattle.std.proofs.Common.{sym, ◌∙◌}
use Rattle.load_general.specs.General.{pilot_of, data_part}
use Rattle.load_general_rows.proofs.Answers.{toned_fits, toned_full}
use Rattle.load_general_rows.proofs.tone_block.Goals as goal

pub returns-then-not-room_for : goal.returns-then-not-room_for
returns-then-not-room_for c =
    let p = c.args.p.now in
    toned_full c.args.used c.args.tones.now (pilot_of p.tape.now p.g) (data_part p.tape.now p.g) c.requires.0 c.requires.1
    (sym c.room_for.ensures ∙ c.if-not-room_for.true)

pub returns : goal.returns
returns c =
    let p = c.args.p.now in
    rw (c.put_data.ensures, c.put_pilot.ensures)
    (toned_fits c.args.used c.args.tones.now (pilot_of p.tape.now p.g) (data_part p.tape.now p.g) c.requires.0 c.requires.1
    (sym c.room_for.ensures ∙ c.if-not-room_for.false))
