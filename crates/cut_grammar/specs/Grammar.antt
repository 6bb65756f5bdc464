-- What a layout is made of, and how one is read: `read_at` hands what a part holds, and the cursor past it, to the rest.
-- A cursor that came up short stays, so a layout ends at its last part or at the first field that is not there. Assumes nothing.
use Rattle.std.specs.Prelude.{ℕ, zero, suc, ◌+◌, ◌/◌, Bool, List, take, leb, eqb, Result, Ok, Err}
use Rattle.law_base.specs.Rules.{◌⇒◌, ◌∣◌}
use Rattle.cut_fields.specs.Field.{Cursor, field_at, place_of}
use Rattle.cut_fields.specs.Run.{times, each_at, groups_at}
use Rattle.cut_grammar.specs.declared.Piece.{Piece}
use Rattle.cut_grammar.specs.declared.Whole.{Whole}
use Rattle.cut_grammar.specs.declared.NotCut.{NotCut}
use Rattle.cut_grammar.specs.declared.NotCut.TheVariants.{Unknown, Short, Overflow}

-- what stands after a kind byte: a whole piece and the place past it, or why there is none
abbrev pub Body : Type 0
Body = Result Whole NotCut

abbrev pub whole_body : Piece → ℕ → Body
whole_body piece p = Ok (record { piece = piece; next = p })

abbrev pub short_body : ℕ → ℕ → Body
short_body p w = Err (Short (record { place = p; width = w }))

-- a length and as many bytes: their place, their number, and the cursor past them
pub record Span : Type 0 where
  pub from : ℕ
  pub size : ℕ
  pub cursor : Cursor

-- what is passed over: n bytes, one field; n fields of w bytes; n groups of a field of h bytes and k fields of w bytes;
-- n texts, each an id of 1 byte, a length of 1 byte and as many bytes
pub data Passed : Type 0 where
  bytes : ℕ → Passed
  fields : ℕ → ℕ → Passed
  groups : ℕ → ℕ → ℕ → ℕ → Passed
  texts : ℕ → Passed

pub data Layout : Type 0 where
  -- a number of w bytes
  number : ℕ → (ℕ → Layout) → Layout
  -- a length of w bytes and as many bytes: their place, and how many they are
  counted : ℕ → (ℕ → ℕ → Layout) → Layout
  -- the place reached
  here : (ℕ → Layout) → Layout
  pass : Passed → Layout → Layout
  -- a body of n bytes: its parts see no byte past it, and the piece ends where it ends
  within : ℕ → Layout → Layout
  -- a count of bits, which is to fit 32 bits
  fitting : ℕ → Layout → Layout
  -- the piece, which ends where the cursor stands
  whole : Piece → Layout
  -- no row of ours, though the format may describe the kind
  unknown : Bool → Layout

abbrev pub span_read : ℕ → ℕ → Cursor → Span
span_read from size c = record { from = from; size = size; cursor = c }

unfoldable pub counted_at : List ℕ → Cursor → ℕ → Span
counted_at s c w =
    let size = field_at s c w in
    record { from = place_of size.cursor; size = size.value; cursor = (field_at s size.cursor size.value).cursor }

unfoldable pub texts_at : List ℕ → Cursor → ℕ → Cursor
texts_at s c n = times (λ c. (counted_at s (field_at s c 1).cursor 1).cursor) n c

unfoldable pub pass_at : Passed → List ℕ → Cursor → Cursor
pass_at (bytes n) s c = (field_at s c n).cursor
pass_at (fields n w) s c = each_at s c n w
pass_at (groups n h k w) s c = groups_at s c n h k w
pass_at (texts n) s c = texts_at s c n

unfoldable pub whole_at : Piece → Cursor → Body
whole_at piece (Ok p) = whole_body piece p
whole_at piece (Err e) = Err (Short e)

-- what a body's parts gave, in a body that ends at `end`
unfoldable pub sealed : ℕ → Body → Body
sealed end (Ok x) = whole_body x.piece end
sealed end (Err e) = Err e

unfoldable pub enclosed : (ℕ → Body) → Cursor → Body
enclosed inner (Ok end) = sealed end (inner end)
enclosed inner (Err e) = Err (Short e)

unfoldable pub fitting_at : ℕ → Cursor → Body → Body
fitting_at bits (Ok p) rest = leb bits 4294967295 ⇒ rest ∣ Err (Overflow p)
fitting_at bits (Err e) rest = rest

abbrev pub unknown_at : Bool → Cursor → Body
unknown_at described (Ok p) = Err (Unknown described)
unknown_at described (Err e) = Err (Short e)

unfoldable pub read_at : Layout → List ℕ → Cursor → Body
read_at (number w rest) s c = read_at (rest (field_at s c w).value) s (field_at s c w).cursor
read_at (counted w rest) s c = read_at (rest (counted_at s c w).from (counted_at s c w).size) s (counted_at s c w).cursor
read_at (here rest) s c = read_at (rest (place_of c)) s c
read_at (pass part rest) s c = read_at rest s (pass_at part s c)
read_at (within n inner) s c = enclosed (λ end. read_at inner (take end s) c) (field_at s c n).cursor
read_at (fitting bits rest) s c = fitting_at bits c (read_at rest s c)
read_at (whole piece) s c = whole_at piece c
read_at (unknown described) s c = unknown_at described c

-- the binary digits of n, f of them at the most; a number of 32 bits has no more than 32
unfoldable pub binary_digits : ℕ → ℕ → ℕ
binary_digits zero n = 0
binary_digits (suc f) n = eqb n 0 ⇒ 0 ∣ 1 + binary_digits f (n / 2)

abbrev pub bits_of : ℕ → ℕ
bits_of n = binary_digits 32 n

-- an alphabet's size, where 0 means `full`; an alphabet that nothing uses is left out
unfoldable pub or_full : ℕ → ℕ → ℕ
or_full full size = eqb size 0 ⇒ full ∣ size

unfoldable pub held_if : ℕ → ℕ → ℕ
held_if uses size = eqb uses 0 ⇒ 0 ∣ size
