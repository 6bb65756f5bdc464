-- `copy_bodies` meets its contract: at each turn a tape is held from which the bodies left give what all of them give. Assumes nothing.
use Rattle.load_state.proofs.Copies.{begins, begins_rows, begins_length, body_turn, bodies_end}
use Rattle.load_state.proofs.Laws.{going_on, going_no, going_ends}
use Rattle.load_state.specs.Holds.{block_room}
use Rattle.load_state.specs.Parser.{copy_rows, copies}
use lib.Seq.{slice}
use mathlib.Core.Path.{◌≡◌, ap}
use native.Mathlib.Omega.{arith}
use Prim.Native.Nat.{ℕ, ◌+◌, ◌-◌}
use Rattle.load_loops.proofs.copy_bodies.Goals as goal

pub loop-init : goal.loop-init
loop-init c =
    let p = c.args in
    λ B N tt t h e.
    let z : p.times - 0 ≡ p.times = omega arith in
    let same = ap (λ (n : ℕ). copies (block_room B) n (slice p.start p.end t.blocks) t) z in
    record { at = t; known = begins t; holds = h; same = same }

pub returns-in_err-s : goal.returns-in_err-s
returns-in_err-s c =
    λ B N tt t h e.
    let p = c.args in
    let g = c.loop.invariant B N tt t h e in
    let m = block_room B in
    going_no g (copy_rows m (slice p.start p.end g.at.blocks))
    (copies m (p.times - (c.loop.counter + 1)) (slice p.start p.end t.blocks))
    (body_turn m p.times c.loop.counter p.start p.end g.known (omega arith) e)
    (c.copy_body.ensures B N tt g.at g.holds (begins_length p.end g.known e)) c.in_err-s.was c.from_residual.ensures.1

pub loop-preserved : goal.loop-preserved
loop-preserved c =
    λ B N tt t h e.
    let p = c.args in
    let g = c.loop.invariant B N tt t h e in
    let m = block_room B in
    let rs = slice p.start p.end g.at.blocks in
    going_on g (copy_rows m rs) (copies m (p.times - (c.loop.counter + 1)) (slice p.start p.end t.blocks))
    (body_turn m p.times c.loop.counter p.start p.end g.known (omega arith) e)
    (c.copy_body.ensures B N tt g.at g.holds (begins_length p.end g.known e)) c.in_ok-s.was
    (λ u q. begins_rows t.blocks m rs g.known q)

pub returns : goal.returns
returns c =
    λ B N tt t h e.
    let p = c.args in
    let g = c.loop.invariant B N tt t h e in
    going_ends g (bodies_end (block_room B) (p.times - c.loop.counter) (slice p.start p.end t.blocks) g.at (omega arith))
