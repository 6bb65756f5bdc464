-- `general` meets its contract. Assumes nothing.
use Rattle.std.proofs.Common.{rules, ◌≡◌, Err, sym, ◌∙◌}
use Rattle.load_general.specs.General.{pilot_of, general_of}
use Rattle.load_general_rows.proofs.Answers.{pilot_none}
use Rattle.load_general_rows.proofs.general.Goals as goal

pub returns-in_err-n : goal.returns-in_err-n
unfolding general_of
returns-in_err-n c =
    let a = c.args in
    let e : c.from_residual.result ≡ Err c.in_err-n.field-0.0 = search rules in
    rw e (pilot_none a.used a.tones.now a.tape.now a.g (pilot_of a.tape.now a.g) (sym c.pilot_part.ensures ∙ c.in_err-n.was))
