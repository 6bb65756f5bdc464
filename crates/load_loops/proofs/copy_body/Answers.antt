-- `copy_body` meets its contract: at each turn a tape is held from which the rows left give what the whole body gives. Assumes nothing.
use Rattle.load_state.proofs.Copies.{begins, begins_block, row_turn, rows_end}
use Rattle.load_state.proofs.Laws.{going_starts, going_on, going_no, going_ends}
use Rattle.load_state.specs.Holds.{block_room}
use Rattle.load_state.specs.Parser.{nameless, add_block, copy_rows}
use Rattle.rows.specs.Rows.{block}
use Rattle.rows.specs.Table.{get}
use lib.Seq.{slice}
use native.Mathlib.Omega.{arith}
use Prim.Native.Nat.{◌+◌}
use Rattle.load_loops.proofs.copy_body.Goals as goal

pub loop-i-init : goal.loop-i-init
loop-i-init c = λ B N tt t h e. going_starts (begins t) h

pub returns-in_err-s : goal.returns-in_err-s
returns-in_err-s c =
    λ B N tt t h e.
    let g = c.loop-i.invariant B N tt t h e in
    let m = block_room B in
    let end = c.args.end in
    let gave = rw (c.rename.ensures, c.row_at.ensures) at (c.add_block.ensures B N tt g.at g.holds) in
    going_no g (add_block m (nameless (get block c.loop-i.blocks c.loop-i.i))) (copy_rows m (slice (c.loop-i.i + 1) end t.blocks))
    (row_turn m c.loop-i.i end g.holds g.known (omega arith) e) gave c.in_err-s.was c.from_residual.ensures.1

pub loop-i-preserved : goal.loop-i-preserved
loop-i-preserved c =
    λ B N tt t h e.
    let g = c.loop-i.invariant B N tt t h e in
    let m = block_room B in
    let end = c.args.end in
    let r = nameless (get block c.loop-i.blocks c.loop-i.i) in
    let gave = rw (c.rename.ensures, c.row_at.ensures) at (c.add_block.ensures B N tt g.at g.holds) in
    going_on g (add_block m r) (copy_rows m (slice (c.loop-i.i + 1) end t.blocks))
    (row_turn m c.loop-i.i end g.holds g.known (omega arith) e) gave c.in_ok-s.was (λ u q. begins_block t.blocks m r g.known q)

pub returns : goal.returns
returns c =
    λ B N tt t h e.
    let g = c.loop-i.invariant B N tt t h e in
    going_ends g (rows_end t.blocks (block_room B) c.loop-i.i c.args.end g.at (omega arith))
