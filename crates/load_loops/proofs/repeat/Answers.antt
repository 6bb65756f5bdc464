-- `repeat` meets its contract. Assumes nothing.
use Rattle.load_state.proofs.Copies.{copies-none}
use Rattle.load_state.specs.Holds.{block_room, goes}
use lib.Seq.{take_all}
use lib.ListN.{length, drop_of_length-le}
use native.Mathlib.Omega.{arith}
use Prim.Native.Nat.{◌≤◌}
use Rattle.load_loops.proofs.repeat.Goals as goal

pub returns-then-end-b : goal.returns-then-end-b
returns-then-end-b c =
    λ B N tt t h.
    let p = c.args in
    let k : length t.blocks ≤ p.b.start = omega arith in
    rw (drop_of_length-le t.blocks k, copies-none (block_room B) p.b.times t) (goes h)

pub returns : goal.returns
returns c =
    λ B N tt t h.
    let a = c.args in
    let k : length t.blocks ≤ a.s.blocks = omega arith in
    rw (take_all _ t.blocks k) at (c.copy_bodies.ensures B N tt t h (omega arith))
