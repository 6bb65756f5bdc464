-- Text as a list of bytes, and what writing it into lent bytes leaves. Assumes nothing.
use Rattle.std.specs.Prelude.{ℕ, zero, suc, ◌+◌, ◌/◌, ◌%◌, ◌≡◌, Bool, true, List, [], ◌∷◌, ◌++◌, length, drop, ltb, leb}
use Prim.Native.Char.{code}
use Prim.Native.String.{String, [] as []ᵗ, ◌∷◌ as ◌∷ᵗ◌}
use Rattle.std.proofs.lemmas.List.Edits.{sets}
use Rattle.law_base.specs.Rules.{◌⇒◌, ◌∣◌}

-- `dst'` and `next` are what writing `text` into `dst` from `at` on leaves: bytes past the end of dst are not written, and counted
pub record Wrote (dst : List ℕ) (at : ℕ) (text : List ℕ) (dst' : List ℕ) (next : ℕ) : Type 0 where
  pub count : next ≡ at + length text
  pub bytes : dst' ≡ sets dst at text

-- the bytes of an ASCII text
abbrev pub ascii : String → List ℕ
ascii []ᵗ = []
ascii (c ∷ᵗ t) = code c ∷ ascii t

-- a code point below 65,536 in UTF-8, and a text of such
abbrev pub utf8_of : ℕ → List ℕ
utf8_of n =
    ltb n 128 ⇒ (n ∷ [])
    ∣ ltb n 2048 ⇒ ((192 + n / 64) ∷ (128 + n % 64) ∷ [])
    ∣ ((224 + n / 4096) ∷ (128 + n / 64 % 64) ∷ (128 + n % 64) ∷ [])

abbrev pub utf8 : String → List ℕ
utf8 []ᵗ = []
utf8 (c ∷ᵗ t) = utf8_of (code c) ++ utf8 t

-- a number in decimal, of f digits at the most; a number of 64 bits has no more than 20
unfoldable pub digits : ℕ → ℕ → List ℕ
digits zero n = []
digits (suc f) n = ltb n 10 ⇒ ((48 + n) ∷ []) ∣ digits f (n / 10) ++ ((48 + n % 10) ∷ [])

unfoldable pub decimal : ℕ → List ℕ
decimal n = digits 20 n

-- a byte as a code point, in UTF-8
unfoldable pub latin1 : ℕ → List ℕ
latin1 b = ltb b 128 ⇒ (b ∷ []) ∣ ((192 + b / 64) ∷ (128 + b % 64) ∷ [])

-- the texts of bytes, one after the other
unfoldable pub each_byte : (ℕ → List ℕ) → List ℕ → List ℕ
each_byte f [] = []
each_byte f (b ∷ bs) = f b ++ each_byte f bs

abbrev pub latin : List ℕ → List ℕ
latin bs = each_byte latin1 bs

-- lent bytes that are not shorter than a text
abbrev pub fits : List ℕ → List ℕ → Bool
fits text out = leb (length text) (length out)

-- a text told into lent bytes: nothing is written where they are shorter, and bytes past the text stay
unfoldable pub told : List ℕ → List ℕ → List ℕ
told text out = fits text out ⇒ text ++ drop (length text) out ∣ out

-- a text that fits, told after a dry run that counted n bytes
pub record Fitted (t out out' : List ℕ) (n : ℕ) : Type 0 where
  pub count : n ≡ length t
  pub room : fits t out ≡ true
  pub bytes : out' ≡ told t out

-- `refused n` (rule 110), and the line of it
unfoldable pub refused_text : ℕ → List ℕ
refused_text k = ascii "refused " ++ decimal k

unfoldable pub refused_line : ℕ → List ℕ
refused_line k = refused_text k ++ ascii "\n"
