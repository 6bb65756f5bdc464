-- The loops of `add_rows`.
use Prim.Native.Nat.{ℕ}
use lib.ListN.{drop}
use Rattle.load_state.specs.Parser.{Parsed}
use Rattle.load_state.specs.Holds.{Holds}
use Rattle.load_state.proofs.Laws.{Going}
use Rattle.load_blocks.specs.Adds.{add_rows}
use Rattle.load_blocks.specs.Does.{lent_of}
use Rattle.load_blocks.proofs.Laws.{Any}
use Rattle.load_blocks.proofs.add_rows.Given as goal

abbrev pub invariant-loop-a : goal.invariant-loop-a
invariant-loop-a l =
    (B N : ℕ) (t : Parsed) → Holds B N l.initial.s l.blocks l.initial.tones t
    → Going Any B N l.s l.blocks l.tones (add_rows (lent_of B N) (drop l.a-index l.rows) l.r) (add_rows (lent_of B N) l.rows l.r t)
