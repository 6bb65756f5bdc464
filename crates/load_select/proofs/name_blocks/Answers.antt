-- `name_blocks` meets its contract: each turn is one step of the pass. Assumes nothing.
use Rattle.text_name.proofs.Selecting.{next, name_turn, name_all-pass}
use Rattle.text_name.specs.Names.{name_one}
use Rattle.rows.proofs.Passes.{turned_all}
use Rattle.rows.proofs.Whole.{block-whole}
use Rattle.rows.proofs.Tables.{rows-length, over-rows}
use Rattle.rows.specs.Table.{rows_of}
use Rattle.rows.specs.Rows.{block}
use lib.ListN.{length}
use mathlib.Core.Bool.{false}
use mathlib.Core.Path.{◌≡◌, refl, sym, ◌∙◌}
use Prim.Native.Nat.{◌<◌}
use native.Mathlib.Omega.{arith}
use Rattle.load_select.proofs.name_blocks.Goals as goal

pub loop-i-init : goal.loop-i-init
loop-i-init c =
    let a = c.args in
    (refl, sym (over-rows block block-whole a.n a.blocks.now c.requires))

pub loop-i-preserved : goal.loop-i-preserved
loop-i-preserved c =
    let a = c.args in
    let rs = rows_of block a.blocks.now a.n in
    let h : c.loop-i.i < length rs = rw (rows-length block a.n a.blocks.now) (omega arith) in
    let w = name_turn a.tape.now c.loop-i.i rs a.blocks.now h c.loop-i.invariant.0 c.loop-i.invariant.1 c.row_at-r.ensures
    c.is_header-header.ensures c.name_row.ensures c.put_row.ensures in
    w

pub returns : goal.returns
returns c =
    let a = c.args in
    let e : c.loop-i.i ≡ a.n = omega arith in
    let rs = rows_of block a.blocks.now a.n in
    c.loop-i.invariant.1 ∙ rw (
      e,
      turned_all (name_one a.tape.now) (next a.tape.now) false rs a.n (rows-length block a.n a.blocks.now),
      name_all-pass a.tape.now false rs,
    )
