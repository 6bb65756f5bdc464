-- EVERY ROW: what is so of every row at its birth, and lasts, is so of every row of every load.
-- Assumes nothing but that bytes are below 256.
use Prim.Native.Nat.{ℕ}
use mathlib.Core.Bool.{false}
use mathlib.Core.List.{List}
use Rattle.rows.specs.Rows.{tones_in}
use Rattle.rows.specs.declared.Block.{Block}
use Rattle.rows.specs.declared.Tone.{Tone}
use Rattle.load_state.specs.Parser.{Parsed}
use Rattle.load_state.specs.Kept.{All}
use Rattle.load_blocks.specs.Adds.{Lent}
use Rattle.load_source.specs.Source.{load_of}
use Rattle.text_name.specs.Names.{unselected, name_all}
use Rattle.law_every_load.specs.Sizes.{Bytes}
use Rattle.law_every_load.specs.Made.{RowOver}
use Rattle.law_every_load.specs.OfSource.{Everywhere, Reads}
use Rattle.law_every_load.proofs.Loading.{load_keeps}
use Rattle.law_every_load.proofs.Rows.{rows_keep, named_all}

module _ {P : List Tone → Block → Type 0} (lent : Lent) (s : List ℕ) (model : ℕ) {t : Parsed} where
  -- EVERY ROW THAT A LOAD READS, before names are given out
  pub every_read : Everywhere s P → Bytes s → Reads (load_of lent s model) t → All (RowOver P t.tones) t.blocks
  every_read k b r =
      load_keeps lent s model b (rows_keep k.lasts k.pieces lent) (rows_keep k.lasts k.taps lent) (λ u h. h.kept.rows)
      (λ u h. h.rows) r

  -- EVERY ROW OF EVERY LOAD
  pub every_row : Everywhere s P → Bytes s → Reads (load_of lent s model) t → All (RowOver P t.tones) (name_all s false t.blocks)
  unfolding unselected
  every_row k b r =
      named_all s (λ q h. record { inside = h.inside; has = k.lasts.passing (tones_in t.tones q) q h.has }) false
      (every_read k b r)
