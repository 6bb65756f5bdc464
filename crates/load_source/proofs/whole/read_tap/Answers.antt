-- `read_tap` meets its contract. Assumes nothing.
use mathlib.Core.Path.{sym, ◌∙◌}
use native.Mathlib.Omega.{arith}
use lib.ListN.{length}
use Rattle.cut_grammar.proofs.CuttingTap.{tap_forward}
use Rattle.load_source.specs.Source.{tap_of, read_tap}
use Rattle.load_blocks.specs.Does.{lent_of}
use Rattle.load_source.proofs.Rest.{rest_begins, rest_over, rest-bad, rest-no, rest-on, tap_stops, tap_sees, tap_over, blank_holds}
use Rattle.load_source.proofs.whole.read_tap.Goals as goal

pub loop-at-init : goal.loop-at-init
loop-at-init c =
    let a = c.args in
    let pre = c.requires in
    rest_begins 0 (tap_stops (lent_of (length a.blocks.now) (length a.tones.now)) a.tape.now)
    (blank_holds pre.0 pre.1 (c.new_state-s.ensures _ _))

pub shape_of-blocks-in-End : goal.shape_of-blocks-in-End
shape_of-blocks-in-End c = c.loop-at.invariant.holds.len_b

pub shape_of-tones-in-End : goal.shape_of-tones-in-End
shape_of-tones-in-End c = c.loop-at.invariant.holds.len_t

pub returns-in-End : goal.returns-in-End
unfolding read_tap
returns-in-End c =
    let a = c.args in
    rest_over c.loop-at.invariant (tap_over (lent_of (length a.blocks.now) (length a.tones.now)) a.tape.now c.loop-at.at c.cut_tap.ensures c.in-End.is)

pub loop-at-smaller : goal.loop-at-smaller
loop-at-smaller c =
    let a = c.args in
    let f = tap_forward a.tape.now c.loop-at.at (sym c.cut_tap.ensures ∙ c.in-Block.is) in
    omega (arith, f.0, f.1)

pub loop-at-preserved : goal.loop-at-preserved
unfolding tap_of
loop-at-preserved c =
    let a = c.args in
    let q = sym c.in-Block.is ∙ c.cut_tap.ensures in
    rest-on c.loop-at.invariant (tap_sees (lent_of (length a.blocks.now) (length a.tones.now)) a.tape.now c.loop-at.at q) (rw (
      c.standard_pause-pause.ensures,
      c.is_header-header.ensures,
    ) at (c.standard_data_block.ensures _ _ c.loop-at.invariant.here c.loop-at.invariant.holds)) c.in_ok-s-in-Block.was
    (omega (arith, (tap_forward a.tape.now c.loop-at.at (sym q)).0))

pub returns-in_err-s-in-Block : goal.returns-in_err-s-in-Block
unfolding tap_of read_tap
returns-in_err-s-in-Block c =
    let a = c.args in
    let q = sym c.in-Block.is ∙ c.cut_tap.ensures in
    rest-no c.loop-at.invariant (tap_sees (lent_of (length a.blocks.now) (length a.tones.now)) a.tape.now c.loop-at.at q) (rw (
      c.standard_pause-pause.ensures,
      c.is_header-header.ensures,
    ) at (c.standard_data_block.ensures _ _ c.loop-at.invariant.here c.loop-at.invariant.holds)) c.in_err-s-in-Block.was
    c.from_residual.ensures.1

pub shape_of-blocks-in-Short : goal.shape_of-blocks-in-Short
shape_of-blocks-in-Short c = c.loop-at.invariant.holds.len_b

pub shape_of-tones-in-Short : goal.shape_of-tones-in-Short
shape_of-tones-in-Short c = c.loop-at.invariant.holds.len_t

pub returns-in-Short : goal.returns-in-Short
unfolding tap_of read_tap
returns-in-Short c =
    let a = c.args in
    rest-bad c.loop-at.invariant (tap_sees (lent_of (length a.blocks.now) (length a.tones.now)) a.tape.now c.loop-at.at
    (sym c.in-Short.is ∙ c.cut_tap.ensures))

pub shape_of-blocks : goal.shape_of-blocks
shape_of-blocks c = c.loop-at.invariant.holds.len_b

pub shape_of-tones : goal.shape_of-tones
shape_of-tones c = c.loop-at.invariant.holds.len_t

pub returns : goal.returns
unfolding read_tap
returns c =
    let a = c.args in
    rest_over c.loop-at.invariant (tap_stops (lent_of (length a.blocks.now) (length a.tones.now)) a.tape.now c.loop-at.at c.loop-at-test.false)
