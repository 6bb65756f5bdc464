-- Code points as UTF-8, as the Unicode standard has it (table 3-6, one to four bytes), and as they are shown (rule 116). Assumes nothing.
use Rattle.std.specs.Prelude.{ℕ, ◌+◌, ◌/◌, ◌%◌, ◌≡◌, Bool, true, ◌&&◌, ◌||◌, List, [], ◌∷◌, ltb, leb}
use Rattle.law_base.specs.Rules.{◌⇒◌, ◌∣◌}
use Rattle.text_out.specs.Out.{each_byte}

-- a code point's bytes
unfoldable pub bytes_of : ℕ → List ℕ
bytes_of p =
    ltb p 0x80 ⇒ (p ∷ [])
    ∣ ltb p 0x800 ⇒ ((0xC0 + p / 64) ∷ (0x80 + p % 64) ∷ [])
    ∣ ltb p 0x10000 ⇒ ((0xE0 + p / 4096) ∷ (0x80 + p / 64 % 64) ∷ (0x80 + p % 64) ∷ [])
    ∣ ((0xF0 + p / 262144) ∷ (0x80 + p / 4096 % 64) ∷ (0x80 + p / 64 % 64) ∷ (0x80 + p % 64) ∷ [])

-- the code points that a text may have, the scalar values: all up to 10FFFF but the surrogates
unfoldable pub is_scalar : ℕ → Bool
is_scalar p = ltb p 0xD800 || (ltb 0xDFFF p && ltb p 0x110000)

unfoldable pub are_scalars : List ℕ → Bool
are_scalars [] = true
are_scalars (p ∷ ps) = is_scalar p && are_scalars ps

-- BYTES ARE THE UTF-8 OF CODE POINTS
pub record Utf8 (bytes points : List ℕ) : Type 0 where
  pub whole : bytes ≡ each_byte bytes_of points
  pub scalars : are_scalars points ≡ true

-- those that don't print: below 32, and from 127 to 159
unfoldable pub is_control : ℕ → Bool
is_control p = ltb p 32 || (leb 127 p && leb p 159)

-- a code point as it is shown: `?` for one that doesn't print
unfoldable pub shown_point : ℕ → ℕ
shown_point p = is_control p ⇒ 63 ∣ p
