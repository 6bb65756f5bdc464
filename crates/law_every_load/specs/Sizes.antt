-- How large a whole piece's numbers are, and where its bytes stand. Definitions alone; assumes nothing.
use Rattle.std.specs.Prelude.{ℕ, ◌+◌, ◌≤◌, ◌<◌, List, length, get_or}
use Rattle.cut_grammar.specs.declared.GeneralizedData.{GeneralizedData}
use Rattle.cut_grammar.specs.declared.TurboData.{TurboData}
use Rattle.cut_grammar.specs.declared.Piece.{Piece}
use Rattle.cut_grammar.specs.declared.Piece.TheVariants.{Standard, Turbo, Tone, Pulses, Pure, Generalized, Pause, GroupStart, GroupEnd}
use Rattle.cut_grammar.specs.declared.Piece.TheVariants.{LoopStart, LoopEnd, Stop48, Text, Message, Archive, Hardware, Custom, Glue}
use Rattle.load_source.specs.Does.{Fit}

-- a tape is bytes
abbrev pub Bytes : List ℕ → Type 0
Bytes s = (i : ℕ) → get_or s i 0 < 256

-- a length of up to 1, 2, 3 or 4 bytes, and so many bytes among the first `most`
pub record Range (most width from size : ℕ) : Type 0 where
  pub inside : from + size ≤ most
  pub small : size < width

pub record TurboNumbers (most : ℕ) (d : TurboData) : Type 0 where
  pub pilot : d.pilot < 65536
  pub sync1 : d.sync1 < 65536
  pub sync2 : d.sync2 < 65536
  pub zero : d.zero < 65536
  pub one : d.one < 65536
  pub pilots : d.pilots < 65536
  pub last : d.last < 256
  pub pause : d.pause < 65536
  pub bytes : Range most 16777216 d.from d.size

pub record PureNumbers (most nil unit used wait from size : ℕ) : Type 0 where
  pub zero : nil < 65536
  pub one : unit < 65536
  pub last : used < 256
  pub pause : wait < 65536
  pub bytes : Range most 16777216 from size

pub record GeneralNumbers (g : GeneralizedData) : Type 0 where
  pub pause : g.pause < 65536
  pub totp : g.totp < 4294967296
  pub npp : g.npp < 256
  pub totd : g.totd < 4294967296
  pub npd : g.npd < 256

-- each number as its width allows, each range among the first `most` bytes
abbrev pub Numbers : ℕ → Piece → Type 0
Numbers most (Standard pause from size) = (pause < 65536) × Range most 65536 from size
Numbers most (Turbo d) = TurboNumbers most d
Numbers most (Tone half count) = (half < 65536) × (count < 65536)
Numbers most (Pulses count from) = count < 256
Numbers most (Pure nil one last pause from size) = PureNumbers most nil one last pause from size
Numbers most (Generalized g) = GeneralNumbers g
Numbers most (Pause n) = n < 65536
Numbers most (GroupStart from size) = Range most 256 from size
Numbers most GroupEnd = Unit {0}
Numbers most (LoopStart times) = times < 65536
Numbers most LoopEnd = Unit {0}
Numbers most (Stop48 length) = length < 4294967296
Numbers most (Text from size) = Range most 256 from size
Numbers most Message = Unit {0}
Numbers most Archive = Unit {0}
Numbers most Hardware = Unit {0}
Numbers most Custom = Unit {0}
Numbers most Glue = Unit {0}

-- WHAT A WHOLE PIECE IS: its numbers, and its pulses or its tables of 19 inside the tape
pub record Sized (s : List ℕ) (piece : Piece) : Type 0 where
  pub numbers : Numbers (length s) piece
  pub fit : Fit s piece
