-- `data_block` meets its contract. Assumes nothing.
use Rattle.std.proofs.Common.{sym, ◌∙◌}
use Rattle.load_general.specs.General.{pilot_of}
use Rattle.load_general.specs.Held.{symbol_words}
use Rattle.load_general_rows.proofs.Answers.{plain_fits, plain_full}
use Rattle.load_general_rows.proofs.data_block.Goals as goal

pub returns-then-not-room_for : goal.returns-then-not-room_for
returns-then-not-room_for c =
    let p = c.args.p.now in
    plain_full c.args.used c.args.tones.now p.tape.now p.g (pilot_of p.tape.now p.g) c.requires.0 c.requires.1
    (sym c.room_for.ensures ∙ c.if-not-room_for.true)

pub returns : goal.returns
unfolding symbol_words
returns c =
    let p = c.args.p.now in
    rw (c.symbol-zero.ensures, c.symbol-one.ensures, c.last_bits.ensures, c.put_pilot.ensures)
    (plain_fits c.args.used c.args.tones.now p.tape.now p.g (pilot_of p.tape.now p.g) c.requires.0 c.requires.1
    (sym c.room_for.ensures ∙ c.if-not-room_for.false))
