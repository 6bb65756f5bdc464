-- A name as it is shown (rule 116), and its code points. Definitions alone; assumes nothing.
use Rattle.std.specs.Prelude.{ℕ, ◌+◌, Bool, false, ◌&&◌, ◌||◌, List, [], ◌∷◌, length, get_or, ltb, eqb}
use Rattle.law_base.specs.Rules.{◌⇒◌, ◌∣◌}
use Rattle.text_out.specs.Out.{ascii}

-- code points below 32 and 127 to 159 print as `?`; in UTF-8 those from 128 to 159 are C2 and a byte below A0
unfoldable pub shown : List ℕ → List ℕ
shown [] = []
shown (b ∷ []) = (ltb b 32 || eqb b 127) ⇒ ascii "?" ∣ (b ∷ [])
shown (b ∷ c ∷ bs) =
    (eqb b 0xC2 && ltb c 0xA0) ⇒ 0x3F ∷ shown bs
    ∣ (ltb b 32 || eqb b 127) ⇒ 0x3F ∷ shown (c ∷ bs)
    ∣ b ∷ shown (c ∷ bs)

-- a code point from 128 to 159 begins at i
abbrev pub is_c1 : List ℕ → ℕ → Bool
is_c1 s i = ltb (i + 1) (length s) ⇒ (eqb (get_or s i 0) 0xC2 && ltb (get_or s (i + 1) 0) 0xA0) ∣ false

-- what prints for it, or for the byte b, and how many bytes it takes
abbrev pub printed : Bool → ℕ → ℕ
printed c1 b = c1 ⇒ 0x3F ∣ (ltb b 32 || eqb b 127) ⇒ 0x3F ∣ b

abbrev pub width : Bool → ℕ
width c1 = c1 ⇒ 2 ∣ 1
