-- `add_block` meets its contract. Assumes nothing.
use Rattle.load_state.proofs.Adds.{row_full, row_fits, row_adds, holds_block}
use Rattle.load_state.specs.Holds.{goes, refuses}
use Rattle.load_state.specs.Parser.{named, add_block}
use Rattle.rows.specs.Rows.{block, block_most}
use borrow.Author.Tests.{lt-ltb, le-ltb}
use native.Mathlib.Omega.{arith}
use Rattle.load_state.proofs.add_block.Goals as goal

pub returns-then-append : goal.returns-then-append
unfolding add_block
returns-then-append c =
    λ B N tt t h.
    let p = c.args in
    let e = c.if-append.true in
    let k = row_fits block block_most p.blocks.now t.blocks B p.s.blocks h.len_b h.nb c.append.ensures.value e in
    let q = rw (c.take_name.ensures, h.pends) at c.append.ensures.t_after in
    let r = named t.pending p.r in
    rw (lt-ltb _ _ k)
    (goes (holds_block h r k (omega arith) (row_adds block block_most p.blocks.now t.blocks B p.s.blocks h.len_b h.nb
    c.append.ensures.value r h.is_b q e) (rw h.pends at c.after_use.ensures)))

pub returns-else-append : goal.returns-else-append
unfolding add_block
returns-else-append c =
    λ B N tt t h.
    let p = c.args in
    let k = row_full block block_most p.blocks.now t.blocks B p.s.blocks h.len_b h.nb c.append.ensures.value
    c.if-append.false in
    rw (le-ltb _ _ k) refuses
