-- What is asked of a property of tapes that is to hold of every load. Definitions alone; assumes nothing.
use Rattle.std.specs.Prelude.{ℕ, ◌+◌, ◌≤◌, ◌<◌, length, ◌≡◌, false, List}
use Rattle.load_state.specs.declared.Pending.{Pending}
use Rattle.load_state.specs.Parser.{Parsed, empty, with_tones, with_block}
use Rattle.load_state.specs.Kept.{Steps}
use Rattle.load_blocks.specs.declared.Origin.{Origin}
use Rattle.load_blocks.specs.Adds.{Lent}
use Rattle.load_blocks.specs.Sounds.{Sound, row_of}
use Rattle.load_source.specs.Source.{too_many_bits}

-- WHAT IS ASKED OF A PROPERTY K OF TAPES: the empty tape has it; a block of a sound and an origin with M, with room for all of its tone
-- rows, keeps it; so do the parser's steps
pub record Invariant (lent : Lent) (s : List ℕ) (M : Sound → Origin → Type 0) (Q : Pending → Type 0) (K : Parsed → Type 0) : Type 0 where
  pub begins : K empty
  pub adding : (origin : Origin) (d : Sound) (t : Parsed) → M d origin → length t.tones + length d.tones ≤ lent.tones
      → length t.blocks < lent.blocks
      → K t → K (with_block (row_of s origin d (length t.tones)) (with_tones d.tones t))
  pub steps : Steps lent.blocks Q K

-- K of a TZX that refusal 7 lets through
pub record LetThrough (K : Parsed → Type 0) (t : Parsed) : Type 0 where
  pub kept : K t
  pub bits : too_many_bits t.blocks ≡ false
