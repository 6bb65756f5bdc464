-- What rows a reading makes, and of what; what is asked of a property that is to hold of every row.
-- Of any reading: its table is a parameter.
-- Definitions alone; assumes nothing.
use Rattle.std.specs.Prelude.{ℕ, ◌+◌, ◌≤◌, ◌≡◌, length}
use mathlib.Core.List.{List, Memᴰ}
use Rattle.rows.specs.Rows.{tones_in}
use Rattle.rows.specs.declared.Block.{Block}
use Rattle.rows.specs.declared.Tone.{Tone}
use Rattle.load_state.specs.declared.Pending.{Pending}
use Rattle.load_state.specs.declared.Pending.TheVariants as pending
use Rattle.load_state.specs.Parser.{renamed, paused}
use Rattle.load_blocks.specs.declared.Origin.{Origin}
use Rattle.load_blocks.specs.Sounds.{Sound, origin_at, row_of}
use Rattle.text_name.specs.Names.{unselected}

-- A READING'S TABLE over a tape: the tape's bytes, its pieces, which of them is cut at a place and with what kind,
-- and each one's sounds and the name that it brings
pub record Table : Type 1 where
  pub bytes : List ℕ
  pub Piece : Type 0
  pub Cut : ℕ → Piece → Type 0
  pub kind : ℕ → ℕ
  pub sounds : Piece → List Sound
  pub brings : Piece → Pending

-- a sound of a piece of the tape, and its origin
pub data OfPiece (T : Table) (d : Sound) : Origin → Type 0 where
  of : {at : ℕ} {piece : T.Piece} → T.Cut at piece → Memᴰ d (T.sounds piece) → OfPiece T d (origin_at (T.kind at) at)

-- a name that a piece of the tape brings
pub record Brought (T : Table) (p : Pending) : Type 0 where
  pub at : ℕ
  pub piece : T.Piece
  pub cut : T.Cut at piece
  pub is : T.brings piece ≡ p

-- a pending name comes from a group's start or a text
abbrev pub Pends : Table → Pending → Type 0
Pends T pending.Nothing = Unit {0}
Pends T (pending.First from size) = Brought T (pending.First from size)
Pends T (pending.Later from size) = Brought T (pending.First from size)
Pends T (pending.Text from size) = Brought T (pending.Text from size)

-- a name that a block can be given: its mark, its case, its place and length; a copy's is none
pub data GivenName (T : Table) : ℕ → ℕ → ℕ → ℕ → Type 0 where
  none : GivenName T 0 0 0 0
  first : {from size : ℕ} → Brought T (pending.First from size) → GivenName T 1 3 from size
  later : {from size : ℕ} → Brought T (pending.First from size) → GivenName T 0 4 from size
  text : {from size : ℕ} → Brought T (pending.Text from size) → GivenName T 1 2 from size

-- a row over tone rows of the table, of which P holds
pub record RowOver (P : List Tone → Block → Type 0) (all : List Tone) (r : Block) : Type 0 where
  pub inside : r.tone + r.tones ≤ length all
  pub has : P (tones_in all r) r

-- WHAT IS ASKED OF P: every row at its birth has it, and a name, a copy (a name that is none), 22's pause and the naming pass keep it
abbrev pub Births : Table → (List Tone → Block → Type 0) → Type 0
Births T P = (origin : Origin) (d : Sound) (tone : ℕ) → OfPiece T d origin → P d.tones (row_of T.bytes origin d tone)

pub record LastsThrough (T : Table) (P : List Tone → Block → Type 0) : Type 0 where
  pub naming : (mark case text chars : ℕ) (ts : List Tone) (r : Block) → GivenName T mark case text chars → P ts r
      → P ts (renamed mark case text chars r)
  pub pausing : (ts : List Tone) (r : Block) → P ts r → P ts (paused r)
  pub passing : (ts : List Tone) (r : Block) → P ts r → P ts (unselected r)
