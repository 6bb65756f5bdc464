-- The shape of contracts inside a load: what a step does to every tape that its state and tables hold. Assumes nothing.
use Rattle.std.specs.Prelude.{ℕ, List, Result}
use Rattle.load_state.specs.declared.State.{State}
use Rattle.load_state.specs.declared.Halt.{Halt}
use Rattle.load_state.specs.Parser.{Parsed, Out}
use Rattle.load_state.specs.Holds.{Holds, GivesOut, block_room, tone_room}
use Rattle.load_blocks.specs.Adds.{Lent}

-- tables of B and N words have room for so many rows
abbrev pub lent_of : ℕ → ℕ → Lent
lent_of B N = record { blocks = block_room B; tones = tone_room N }

abbrev pub Does : (Lent → Parsed → Out) → State → Result State Halt → List ℕ → List ℕ → List ℕ → List ℕ → Type 0
Does f s a bt tt bt' tt' = (B N : ℕ) (t : Parsed) → Holds B N s bt tt t → GivesOut B N a bt' tt' (f (lent_of B N) t)

-- a state with another count of tone rows
abbrev pub with_used : ℕ → State → State
with_used tones s = record { blocks = s.blocks; tones = tones; pending = s.pending; body = s.body }
