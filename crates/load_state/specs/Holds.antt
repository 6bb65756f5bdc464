-- The code's state and tables hold a tape read so far: the rows, then zeros. Contracts inside a load speak of every tape so held.
-- Assumes nothing.
use Rattle.std.specs.Prelude.{ℕ, ◌/◌, ◌≤◌, min, ◌≡◌, List, length, Result, Ok, Err}
use Rattle.rows.specs.Table.{table_of}
use Rattle.rows.specs.Rows.{block, tone, block_most, tone_most}
use Rattle.load_state.specs.declared.State.{State}
use Rattle.load_state.specs.declared.Halt.{Halt}
use Rattle.load_state.specs.Parser.{Parsed, Out, on, no}

-- the rows that so many lent words have room for
abbrev pub block_room : ℕ → ℕ
block_room words = min block_most (words / block.width)

abbrev pub tone_room : ℕ → ℕ
tone_room words = min tone_most (words / tone.width)

-- in tables of B and N words
pub record Holds (B N : ℕ) (s : State) (bt tt : List ℕ) (t : Parsed) : Type 0 where
  pub nb : s.blocks ≡ length t.blocks
  pub nt : s.tones ≡ length t.tones
  pub pends : s.pending ≡ t.pending
  pub loops : s.body ≡ t.body
  pub room_b : length t.blocks ≤ block_room B
  pub room_t : length t.tones ≤ tone_room N
  pub len_b : length bt ≡ B
  pub len_t : length tt ≡ N
  pub is_b : bt ≡ table_of block t.blocks B
  pub is_t : tt ≡ table_of tone t.tones N

-- the code's answer is the definition's; a refusal says nothing of the tables, which the load then blanks
pub data GivesOut (B N : ℕ) : Result State Halt → List ℕ → List ℕ → Out → Type 0 where
  goes : {s : State} {bt tt : List ℕ} {t : Parsed} → Holds B N s bt tt t → GivesOut B N (Ok s) bt tt (on t)
  refuses : {k : Halt} {bt tt : List ℕ} → GivesOut B N (Err k) bt tt (no k)
