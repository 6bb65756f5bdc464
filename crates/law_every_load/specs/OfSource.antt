-- The source reading's tables: what a TZX's pieces give, and what a TAP's blocks do. Definitions alone; assumes nothing.
use Rattle.std.specs.Prelude.{ℕ, ◌≡◌, List, [], ◌∷◌, length, get_or}
use Rattle.rows.specs.declared.Block.{Block}
use Rattle.rows.specs.declared.Tone.{Tone}
use Rattle.cut_grammar.specs.declared.Piece.{Piece}
use Rattle.cut_grammar.specs.declared.Taken.TheVariants.{Whole}
use Rattle.cut_grammar.specs.declared.TakenTap.TheVariants as tap
use Rattle.cut_grammar.specs.Cut.{cut_at, tap_at}
use Rattle.load_state.specs.declared.Pending.TheVariants.{Nothing}
use Rattle.load_state.specs.Parser.{Parsed}
use Rattle.load_blocks.specs.Blocks.{standard_header, standard_pause, standard_sound}
use Rattle.load_blocks.specs.Deeds.{sounds_of, brings}
use Rattle.load_source.specs.Meaning.{deed_of}
use Rattle.load_source.specs.Source.{full, tap_kind, Load, tzx, tapped}
use Rattle.law_every_load.specs.Sizes.{Range, Sized}
use Rattle.law_every_load.specs.Made.{Table, Births, LastsThrough}

-- a piece of the tape, cut at a place, and how large it is
pub record From (s : List ℕ) (at : ℕ) (piece : Piece) : Type 0 where
  pub next : ℕ
  pub cut : cut_at s at full ≡ Whole (get_or s at 0) at next piece
  pub sized : Sized s piece

abbrev pub source_table : List ℕ → Table
source_table s = record {
  bytes = s;
  Piece = Piece;
  Cut = From s;
  kind = λ at. get_or s at 0;
  sounds = λ piece. sounds_of (deed_of s piece);
  brings = λ piece. brings (deed_of s piece);
}

-- a block of the tape read as TAP: where its data stand
pub record TapData : Type 0 where
  pub from : ℕ
  pub size : ℕ

pub record FromTap (s : List ℕ) (at : ℕ) (d : TapData) : Type 0 where
  pub next : ℕ
  pub cut : tap_at s at ≡ tap.Block d.from d.size next
  pub range : Range (length s) 65536 d.from d.size

abbrev pub tap_table : List ℕ → Table
tap_table s = record {
  bytes = s;
  Piece = TapData;
  Cut = FromTap s;
  kind = λ at. tap_kind;
  sounds = λ d. let header = standard_header s d.from d.size in
      standard_sound header d.from d.size (standard_pause header) ∷ [];
  brings = λ d. Nothing;
}

-- P of every row of every load; no TAP brings a name
pub record Everywhere (s : List ℕ) (P : List Tone → Block → Type 0) : Type 0 where
  pub pieces : Births (source_table s) P
  pub taps : Births (tap_table s) P
  pub lasts : LastsThrough (source_table s) P

-- a load that was not refused, and the tape that it read
pub data Reads : Load → Parsed → Type 0 where
  as_tzx : {t : Parsed} → Reads (tzx t) t
  as_tap : {t : Parsed} → Reads (tapped t) t
