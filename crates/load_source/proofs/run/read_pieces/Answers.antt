-- `read_pieces` meets its contract. Assumes nothing.
use mathlib.Core.Path.{refl, sym, ◌∙◌}
use native.Mathlib.Omega.{arith}
use lib.ListN.{length}
use Rattle.load_state.specs.Holds.{goes}
use Rattle.cut_grammar.proofs.Cutting.{cut_forward}
use Rattle.load_source.specs.Source.{tzx_of}
use Rattle.load_blocks.specs.Does.{lent_of}
use Rattle.load_source.proofs.Rest.{rest_begins, rest_over, rest-bad, rest-refuses, rest-no, rest-on, tzx-stops, tzx_sees}
use Rattle.load_source.proofs.Rest.{sees_piece, blank_holds, cut_fit}
use Rattle.load_source.proofs.run.read_pieces.Goals as goal

pub loop-at-init : goal.loop-at-init
loop-at-init c =
    let a = c.args in
    let pre = c.requires in
    rest_begins 10 (tzx-stops (lent_of (length a.blocks.now) (length a.tones.now)) a.tape.now a.model)
    (blank_holds pre.0 pre.1 (c.new_state-s.ensures _ _))

pub shape_of-blocks-in-End : goal.shape_of-blocks-in-End
shape_of-blocks-in-End c = c.loop-at.invariant.holds.len_b

pub shape_of-tones-in-End : goal.shape_of-tones-in-End
shape_of-tones-in-End c = c.loop-at.invariant.holds.len_t

pub returns-in-End : goal.returns-in-End
unfolding tzx_of
returns-in-End c =
    let a = c.args in
    rest_over c.loop-at.invariant (tzx_sees (lent_of (length a.blocks.now) (length a.tones.now)) a.tape.now a.model c.loop-at.at
    (sym c.in-End.is ∙ c.cut.ensures))

pub act-requires : goal.act-requires
act-requires c =
    let a = c.args in
    cut_fit a.tape.now c.loop-at.at _ (λ i. (c.type_inv.tape i).fits)
    (sym c.cut.ensures ∙ c.in-Whole.is)

pub loop-at-smaller-in-Whole : goal.loop-at-smaller-in-Whole
loop-at-smaller-in-Whole c =
    let a = c.args in
    let f = cut_forward a.tape.now c.loop-at.at 255
    (sym c.cut.ensures ∙ c.in-Whole.is) in
    omega (arith, f.0, c.loop-at-test.true)

pub loop-at-preserved-in-Whole : goal.loop-at-preserved-in-Whole
loop-at-preserved-in-Whole c =
    let a = c.args in
    let q = sym c.in-Whole.is ∙ c.cut.ensures in
    rest-on c.loop-at.invariant (sees_piece (lent_of (length a.blocks.now) (length a.tones.now)) a.tape.now a.model c.loop-at.at q)
    (c.act.ensures _ _ c.loop-at.invariant.here c.loop-at.invariant.holds) c.in_ok-s-in-Whole.was (cut_forward a.tape.now c.loop-at.at 255 (sym q)).0

pub returns-in_err-s-in-Whole : goal.returns-in_err-s-in-Whole
returns-in_err-s-in-Whole c =
    let a = c.args in
    let q = sym c.in-Whole.is ∙ c.cut.ensures in
    rest-no c.loop-at.invariant (sees_piece (lent_of (length a.blocks.now) (length a.tones.now)) a.tape.now a.model c.loop-at.at q)
    (c.act.ensures _ _ c.loop-at.invariant.here c.loop-at.invariant.holds) c.in_err-s-in-Whole.was c.from_residual.ensures.1

pub loop-at-preserved : goal.loop-at-preserved
unfolding tzx_of
loop-at-preserved c =
    let a = c.args in
    rest-on c.loop-at.invariant (tzx_sees (lent_of (length a.blocks.now) (length a.tones.now)) a.tape.now a.model c.loop-at.at
    (sym c.in-Unknown.is ∙ c.cut.ensures)) (goes c.loop-at.invariant.holds) refl (omega arith)

pub shape_of-blocks-in-Short : goal.shape_of-blocks-in-Short
shape_of-blocks-in-Short c = c.loop-at.invariant.holds.len_b

pub shape_of-tones-in-Short : goal.shape_of-tones-in-Short
shape_of-tones-in-Short c = c.loop-at.invariant.holds.len_t

pub returns-in-Short : goal.returns-in-Short
unfolding tzx_of
returns-in-Short c =
    let a = c.args in
    rest-bad c.loop-at.invariant (tzx_sees (lent_of (length a.blocks.now) (length a.tones.now)) a.tape.now a.model c.loop-at.at
    (sym c.in-Short.is ∙ c.cut.ensures))

pub shape_of-blocks-in-Overflow : goal.shape_of-blocks-in-Overflow
shape_of-blocks-in-Overflow c = c.loop-at.invariant.holds.len_b

pub shape_of-tones-in-Overflow : goal.shape_of-tones-in-Overflow
shape_of-tones-in-Overflow c = c.loop-at.invariant.holds.len_t

pub returns-in-Overflow : goal.returns-in-Overflow
unfolding tzx_of
returns-in-Overflow c =
    let a = c.args in
    rest-refuses c.loop-at.invariant (tzx_sees (lent_of (length a.blocks.now) (length a.tones.now)) a.tape.now a.model c.loop-at.at
    (sym c.in-Overflow.is ∙ c.cut.ensures))

pub shape_of-blocks : goal.shape_of-blocks
shape_of-blocks c = c.loop-at.invariant.holds.len_b

pub shape_of-tones : goal.shape_of-tones
shape_of-tones c = c.loop-at.invariant.holds.len_t

pub returns : goal.returns
returns c =
    let a = c.args in
    rest_over c.loop-at.invariant
    (tzx-stops (lent_of (length a.blocks.now) (length a.tones.now)) a.tape.now a.model c.loop-at.at c.loop-at-test.false)
