-- `load_tap` meets its contract. Assumes nothing.
use lib.ListN.{length}
use Rattle.load_tape.proofs.Leaving.{blanked, finds_tap, tap_leaves, tap_fails, tap_refuses, leaves-same}
use mathlib.Core.Path.{ap, ◌∙◌}
use Rattle.std.specs.Prelude.{Err}
use Rattle.load_tape.proofs.load_tap.Goals as goal

pub read_tap-requires : goal.read_tap-requires
read_tap-requires c =
    let a = c.args in
    (blanked (length a.blocks.now) c.blank.ensures, blanked (length a.tones.now) c.blank-2.ensures)

pub returns-in-Ok : goal.returns-in-Ok
returns-in-Ok c =
    let a = c.args in
    tap_leaves (finds_tap c.blank.auto.t c.blank-2.auto.t a.tape.now c.read_tap.ensures)
    a.tzx c.in-Ok.is

pub returns-in-Err-Failed : goal.returns-in-Err-Failed
returns-in-Err-Failed c =
    let a = c.args in
    rw (tap_fails (finds_tap c.blank.auto.t c.blank-2.auto.t a.tape.now c.read_tap.ensures)
    a.tzx (c.in-Err-Failed.is ∙ ap Err c.in-Err-Failed.field-0-is)) (leaves-same (c.read_tap.auto.blocks ∙ c.blank.auto.t)
    (c.read_tap.auto.tones ∙ c.blank-2.auto.t) c.refuse.ensures)

pub returns-in-Err-Refused : goal.returns-in-Err-Refused
returns-in-Err-Refused c =
    let a = c.args in
    rw (tap_refuses (finds_tap c.blank.auto.t c.blank-2.auto.t a.tape.now c.read_tap.ensures)
    a.tzx (c.in-Err-Refused.is ∙ ap Err c.in-Err-Refused.field-0-is)) (leaves-same (c.read_tap.auto.blocks ∙ c.blank.auto.t)
    (c.read_tap.auto.tones ∙ c.blank-2.auto.t) c.refuse-in-Err-Refused.ensures)
