-- A block's name as UTF-8 text (rules 83, 86, 87), and the naming pass (rule 85). Assumes nothing.
use Rattle.std.specs.Prelude.{ℕ, ◌/◌, zero, suc, Bool, ◌&&◌, List, [], ◌∷◌, ◌++◌, get_or, take, drop, eqb}
use Rattle.law_base.specs.Rules.{◌⇒◌, ◌∣◌}
use Rattle.text_out.specs.Out.{ascii, decimal, latin}
use Rattle.rows.specs.declared.Block.{Block}
use Rattle.rows.specs.Rows.{with_mark}
use Rattle.text_name.specs.Headers.{header_name}

-- 19 data bytes with first byte 0 is a header
unfoldable pub is_header : List ℕ → Block → Bool
is_header s r = eqb r.size 19 && eqb (get_or s r.start 0) 0

-- `n bytes`, n the data size or, without data, tones/8
unfoldable pub size_shown : Block → ℕ
size_shown r = eqb r.size 0 ⇒ r.tones / 8 ∣ r.size

unfoldable pub size_name : Block → List ℕ
size_name r = decimal (size_shown r) ++ ascii " bytes"

-- the name of a block to which none was given: the header's or the size's
unfoldable pub guessed : List ℕ → Block → List ℕ
guessed s r = is_header s r ⇒ header_name s r.start ∣ size_name r

-- a block's name: that, `stop`, or the one given
unfoldable pub name_of : List ℕ → Block → List ℕ
name_of s r =
    eqb r.named 0 ⇒ guessed s r
    ∣ eqb r.named 1 ⇒ ascii "stop"
    ∣ latin (take r.chars (drop r.text s))

-- the naming pass, in order over blocks: the next non-header block after a header loses selectability
unfoldable pub unselected : Block → Block
unselected r = with_mark 0 r

unfoldable pub name_one : List ℕ → Bool → Block → Block
name_one s prefixed r = is_header s r ⇒ r ∣ prefixed ⇒ unselected r ∣ r

unfoldable pub name_all : List ℕ → Bool → List Block → List Block
name_all s prefixed [] = []
name_all s prefixed (r ∷ rs) = name_one s prefixed r ∷ name_all s (is_header s r) rs

-- row i of the pass: what is carried to it is whether row i - 1 is a header
abbrev pub header_before : List ℕ → Bool → List Block → ℕ → Block → Bool
header_before s p rs zero d = p
header_before s p rs (suc i) d = is_header s (get_or rs i d)
