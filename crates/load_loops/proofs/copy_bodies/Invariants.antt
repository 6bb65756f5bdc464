-- The loops of `copy_bodies`.
use Rattle.load_state.proofs.Copies.{Begins}
use Rattle.load_state.proofs.Laws.{Going}
use Rattle.load_state.specs.Holds.{Holds, block_room}
use Rattle.load_state.specs.Parser.{Parsed, copies}
use lib.Seq.{slice}
use lib.ListN.{length}
use mathlib.Core.List.{List}
use Prim.Native.Nat.{ℕ, ◌-◌, ◌≤◌}
use Rattle.load_loops.proofs.copy_bodies.Given as goal

abbrev pub invariant-loop : goal.invariant-loop
invariant-loop l =
    (B N : ℕ) (tt : List ℕ) (t : Parsed) → Holds B N l.initial.s l.initial.blocks tt t → l.end ≤ length t.blocks
    → Going (Begins t.blocks) B N l.s l.blocks tt (copies (block_room B) (l.times - l.counter) (slice l.start l.end t.blocks))
    (copies (block_room B) l.times (slice l.start l.end t.blocks) t)
