-- The loops of `copy_body`.
use Rattle.load_state.proofs.Copies.{Begins}
use Rattle.load_state.proofs.Laws.{Going}
use Rattle.load_state.specs.Holds.{Holds, block_room}
use Rattle.load_state.specs.Parser.{Parsed, copy_rows}
use lib.Seq.{slice}
use lib.ListN.{length}
use mathlib.Core.List.{List}
use Prim.Native.Nat.{ℕ, ◌≤◌}
use Rattle.load_loops.proofs.copy_body.Given as goal

abbrev pub invariant-loop-i : goal.invariant-loop-i
invariant-loop-i l =
    (B N : ℕ) (tt : List ℕ) (t : Parsed) → Holds B N l.initial.s l.initial.blocks tt t → l.end ≤ length t.blocks
    → Going (Begins t.blocks) B N l.s l.blocks tt (copy_rows (block_room B) (slice l.i l.end t.blocks))
    (copy_rows (block_room B) (slice l.start l.end t.blocks) t)
