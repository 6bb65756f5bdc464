-- `with_pilot` meets its contract. Assumes nothing.
use Rattle.std.proofs.Common.{rules, ◌≡◌, Err, sym, ◌∙◌}
use Rattle.load_general.specs.General.{pilot_of, data_part}
use Rattle.load_general.specs.Made.{part_tones}
use Rattle.load_general_rows.proofs.Answers.{pilot_data, data_none}
use Rattle.load_general_rows.proofs.with_pilot.Goals as goal

pub returns-in_err-m : goal.returns-in_err-m
returns-in_err-m c =
    let p = c.args.p.now in
    let q = pilot_of p.tape.now p.g in
    let e : c.from_residual.result ≡ Err c.in_err-m.field-0.0 = search rules in
    rw (e, pilot_data p.tape.now p.g q c.requires (sym c.ordinary.ensures ∙ c.if-ordinary.false))
    (data_none c.args.used c.args.tones.now (part_tones q) (data_part p.tape.now p.g) (sym c.data_part.ensures ∙ c.in_err-m.was))

pub returns : goal.returns
returns c =
    let p = c.args.p.now in
    rw (pilot_data p.tape.now p.g (pilot_of p.tape.now p.g) c.requires (sym c.ordinary.ensures ∙ c.if-ordinary.false)) c.tone_block.ensures
