-- The loops of `pulse_blocks`.
use Prim.Native.Nat.{ℕ, ◌-◌, ◌*◌}
use Rattle.load_state.specs.Parser.{Parsed}
use Rattle.load_state.specs.Holds.{Holds}
use Rattle.load_state.proofs.Laws.{Going}
use Rattle.load_blocks.specs.Sounds.{add_sounds}
use Rattle.load_blocks.specs.Blocks.{pair_sounds}
use Rattle.load_blocks.specs.Does.{lent_of}
use Rattle.load_blocks.proofs.Laws.{Any}
use Rattle.load_pulsed.proofs.pulse_blocks.Given as goal

abbrev pub invariant-loop-i : goal.invariant-loop-i
invariant-loop-i l =
    (B N : ℕ) (t : Parsed) → Holds B N l.initial.s l.initial.blocks l.initial.tones t
    → Going Any B N l.s l.blocks l.tones (add_sounds (lent_of B N) l.tape l.origin (pair_sounds l.tape l.from (2 * l.i) (l.n - l.i)))
    (add_sounds (lent_of B N) l.tape l.origin (pair_sounds l.tape l.from 0 l.n) t)
