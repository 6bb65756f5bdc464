-- `read` meets its contract. Assumes nothing.
use Rattle.load_tape.proofs.Leaving.{blanked, finds_tzx, tzx-leaves, tzx-fails, tzx-refuses, load_reads}
use Rattle.load_blocks.specs.Does.{lent_of}
use Rattle.load_source.specs.Source.{read_tap}
use borrow.Author.Tests.{lt-leb, le-ltb}
use native.Mathlib.Omega.{arith}
use lib.ListN.{length}
use mathlib.Core.Path.{ap, ◌∙◌}
use Rattle.std.specs.Prelude.{Err}
use Rattle.load_tape.proofs.read.Goals as goal

pub read_tzx-requires : goal.read_tzx-requires
read_tzx-requires c =
    let a = c.args in
    (blanked (length a.blocks.now) c.blank.ensures, blanked (length a.tones.now) c.blank-2.ensures)

pub returns-in-Ok : goal.returns-in-Ok
returns-in-Ok c =
    let a = c.args in
    rw (load_reads (lent_of (length a.blocks.now) (length a.tones.now)) a.tape.now a.model
    (lt-leb 3 a.model (omega arith)) (le-ltb 1048576 (length a.tape.now) (omega arith)))
    (tzx-leaves (finds_tzx c.blank.auto.t c.blank-2.auto.t a.tape.now a.model c.read_tzx.ensures)
    (read_tap (lent_of (length a.blocks.now) (length a.tones.now)) a.tape.now) c.in-Ok.is)

pub returns-in-Err-Failed : goal.returns-in-Err-Failed
returns-in-Err-Failed c =
    let a = c.args in
    rw (load_reads (lent_of (length a.blocks.now) (length a.tones.now)) a.tape.now a.model
    (lt-leb 3 a.model (omega arith)) (le-ltb 1048576 (length a.tape.now) (omega arith))
    ∙ tzx-fails (finds_tzx c.blank.auto.t c.blank-2.auto.t a.tape.now a.model c.read_tzx.ensures)
    (read_tap (lent_of (length a.blocks.now) (length a.tones.now)) a.tape.now) (c.in-Err-Failed.is ∙ ap Err c.in-Err-Failed.field-0-is))
    (grind arith)

pub returns-in-Err-Refused : goal.returns-in-Err-Refused
returns-in-Err-Refused c =
    let a = c.args in
    rw (load_reads (lent_of (length a.blocks.now) (length a.tones.now)) a.tape.now a.model
    (lt-leb 3 a.model (omega arith)) (le-ltb 1048576 (length a.tape.now) (omega arith))
    ∙ tzx-refuses (finds_tzx c.blank.auto.t c.blank-2.auto.t a.tape.now a.model c.read_tzx.ensures)
    (read_tap (lent_of (length a.blocks.now) (length a.tones.now)) a.tape.now) (c.in-Err-Refused.is ∙ ap Err c.in-Err-Refused.field-0-is))
    (grind arith)
