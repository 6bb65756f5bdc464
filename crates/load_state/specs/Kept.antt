-- What theorems of a load say: a property that every step keeps, of tapes read so far and of their blocks.
-- Definitions alone; assumes nothing.
use Rattle.std.specs.Prelude.{ℕ, ◌<◌, zero, suc, length, Option}
use mathlib.Core.List.{List, [], ◌∷◌, Memᴰ, ◌++◌}
use Rattle.rows.specs.declared.Block.{Block}
use Rattle.load_state.specs.declared.Pending.{Pending}
use Rattle.load_state.specs.declared.Pending.TheVariants.{Nothing}
use Rattle.load_state.specs.declared.Body.{Body}
use Rattle.load_state.specs.declared.Halt.{Halt}
use Rattle.load_state.specs.Parser.{Parsed, parsed_of, with_block, with_pending, with_body, Out, on, no, named, used, paused}
use Rattle.load_state.specs.Parser.{last_paused, nameless}

-- where an answer is a tape, it has the property K
pub data Sure (K : Parsed → Type 0) : Out → Type 0 where
  sure : {t : Parsed} → K t → Sure K (on t)
  none : {k : Halt} → Sure K (no k)

-- all elements of a list
pub data All {A : Type 0} (P : A → Type 0) : List A → Type 0 where
  nil : All P []
  cons : {x : A} {xs : List A} → P x → All P xs → All P (x ∷ xs)

-- the tape read so far with other blocks
abbrev pub with_blocks : List Block → Parsed → Parsed
with_blocks bs t = parsed_of bs t.tones t.pending t.body

-- K of tapes is kept by a copy of a block that is there and has room, by a pending name with Q, by 22's pause and by a loop's start and end
pub record Steps (m : ℕ) (Q : Pending → Type 0) (K : Parsed → Type 0) : Type 0 where
  pub copying : (r : Block) (t : Parsed) → Memᴰ r t.blocks → length t.blocks < m → K t → K (with_block (nameless r) t)
  pub naming : (p : Pending) (t : Parsed) → Q p → K t → K (with_pending p t)
  pub pausing : (t : Parsed) → K t → K (with_blocks (last_paused t.blocks) t)
  pub looping : (l : Option Body) (t : Parsed) → K t → K (with_body l t)

-- P of blocks is kept by every pending name with Q, by a copy and by a pause; a used name with Q has Q, and so has none
pub record Lasting (P : Block → Type 0) (Q : Pending → Type 0) : Type 0 where
  pub naming : (p : Pending) (r : Block) → Q p → P r → P (named p r)
  pub copying : (r : Block) → P r → P (nameless r)
  pub pausing : (r : Block) → P r → P (paused r)
  pub uses : (p : Pending) → Q p → Q (used p)
  pub nothing : Q Nothing

-- all blocks have P, and the pending name has Q
pub record KeptSoFar (P : Block → Type 0) (Q : Pending → Type 0) (t : Parsed) : Type 0 where
  pub rows : All P t.blocks
  pub name : Q t.pending

-- so many repetitions of a list
abbrev pub repeated : {A : Type 0} → ℕ → List A → List A
repeated zero xs = []
repeated (suc n) xs = xs ++ repeated n xs

-- a block's tone rows: the first, and how many
abbrev pub tone_rows : Block → ℕ × ℕ
tone_rows r = (r.tone, r.tones)
