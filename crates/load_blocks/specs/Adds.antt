-- What adding a block does to the tape read so far: its tone rows, then its row; refusals 5 and 6 in the order of rule 34. Assumes nothing.
use Rattle.std.specs.Prelude.{ℕ, List}
use Rattle.rows.specs.declared.Block.{Block}
use Rattle.rows.specs.declared.Tone.{Tone}
use Rattle.load_state.specs.Parser.{Parsed, Out, ◌⟫◌, add_tones, add_block}

-- how many rows are lent
pub record Lent : Type 0 where
  pub blocks : ℕ
  pub tones : ℕ

-- a block that needs these tone rows: 5, then 6
unfoldable pub add_rows : Lent → List Tone → Block → Parsed → Out
add_rows lent ts r t = add_tones lent.tones ts t ⟫ add_block lent.blocks r
