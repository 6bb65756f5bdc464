-- One field at a cursor. Once a field came up short the cursor keeps that field's place and width. Assumes nothing.
use Rattle.std.specs.Prelude.{ℕ, zero, suc, ◌+◌, ◌*◌, List, length, get_or, leb, Result, Ok, Err}
use Rattle.law_base.specs.Rules.{◌⇒◌, ◌∣◌}
use Rattle.cut_fields.specs.declared.Short.{Short}

-- a place, or the place and the width of the first field in reading order that came up short
abbrev pub Cursor : Type 0
Cursor = Result ℕ Short

abbrev pub came_short : ℕ → ℕ → Cursor
came_short p w = Err (record { place = p; width = w })

-- a field's number, and the cursor past it
pub record Read : Type 0 where
  pub value : ℕ
  pub cursor : Cursor

-- the number that the w bytes from p on spell, the lowest first
unfoldable pub le_at : List ℕ → ℕ → ℕ → ℕ
le_at s p zero = 0
le_at s p (suc w) = le_at s (p + 1) w * 256 + get_or s p 0

-- a field of up to four bytes has a number; a wider one is passed over, with 0 in its place
unfoldable pub number_at : List ℕ → ℕ → ℕ → ℕ
number_at s p w = leb w 4 ⇒ le_at s p w ∣ 0

-- a field of w bytes: its number and the cursor past it, where the tape holds it
unfoldable pub field_at : List ℕ → Cursor → ℕ → Read
field_at s (Ok p) w =
    leb (p + w) (length s) ⇒ record { value = number_at s p w; cursor = Ok (p + w) }
    ∣ record { value = 0; cursor = came_short p w }
field_at s (Err e) w = record { value = 0; cursor = Err e }

-- where a cursor stands
unfoldable pub place_of : Cursor → ℕ
place_of (Ok p) = p
place_of (Err e) = 0

-- what a reader gives of a field, and its cursor behind it
abbrev pub read_of : Result ℕ Short → Cursor → Read
read_of (Ok v) c = record { value = v; cursor = c }
read_of (Err e) c = record { value = 0; cursor = Err e }
