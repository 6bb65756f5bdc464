-- `read_tzx` meets its contract. Assumes nothing.
use Rattle.load_source.proofs.Judged.{done_room, judged_seven, judged-done, judged_err, tzx-headed}
use Rattle.load_blocks.specs.Does.{lent_of}
use Rattle.load_source.specs.Does.{fails}
use Rattle.load_source.specs.Source.{headed}
use lib.ListN.{length}
use mathlib.Core.Path.{sym, ◌∙◌}
use Rattle.load_source.proofs.whole.read_tzx.Goals as goal

pub too_many_bits-requires : goal.too_many_bits-requires
too_many_bits-requires c = done_room c.read_pieces.ensures c.in_ok-s-in-Version.was

pub returns-then-too_many_bits : goal.returns-then-too_many_bits
unfolding headed
returns-then-too_many_bits c =
    let a = c.args in
    rw (tzx-headed (lent_of (length a.blocks.now) (length a.tones.now)) a.tape.now a.model
    (sym c.in-Version.is ∙ c.head.ensures))
    (judged_seven c.read_pieces.ensures c.in_ok-s-in-Version.was c.too_many_bits.ensures c.if-too_many_bits.true)

pub returns-else-too_many_bits : goal.returns-else-too_many_bits
unfolding headed
returns-else-too_many_bits c =
    let a = c.args in
    rw (tzx-headed (lent_of (length a.blocks.now) (length a.tones.now)) a.tape.now a.model
    (sym c.in-Version.is ∙ c.head.ensures))
    (judged-done c.read_pieces.ensures c.in_ok-s-in-Version.was c.too_many_bits.ensures c.if-too_many_bits.false)

pub returns-in_err-s-in-Version : goal.returns-in_err-s-in-Version
unfolding headed
returns-in_err-s-in-Version c =
    let a = c.args in
    rw (tzx-headed (lent_of (length a.blocks.now) (length a.tones.now)) a.tape.now a.model
    (sym c.in-Version.is ∙ c.head.ensures))
    (judged_err c.read_pieces.ensures c.in_err-s-in-Version.was c.from_residual.ensures.1)

pub returns-in-BadSignature : goal.returns-in-BadSignature
unfolding headed
returns-in-BadSignature c =
    let a = c.args in
    rw (tzx-headed (lent_of (length a.blocks.now) (length a.tones.now)) a.tape.now a.model
    (sym c.in-BadSignature.is ∙ c.head.ensures)) fails

pub returns-in-Short : goal.returns-in-Short
unfolding headed
returns-in-Short c =
    let a = c.args in
    rw (tzx-headed (lent_of (length a.blocks.now) (length a.tones.now)) a.tape.now a.model
    (sym c.in-Short.is ∙ c.head.ensures)) fails
