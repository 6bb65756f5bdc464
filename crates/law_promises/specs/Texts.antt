-- The code points of a block's name (rules 84, 86, 87), part by part as `name_of` has its bytes. Definitions alone; assumes nothing.
use Rattle.std.specs.Prelude.{ℕ, ◌+◌, List, ◌++◌, get_or, take, drop, eqb}
use Rattle.law_base.specs.Rules.{◌⇒◌, ◌∣◌}
use Rattle.text_out.specs.Out.{ascii, each_byte}
use Rattle.text_codes.specs.Encoding.{code_texts}
use Rattle.text_name.specs.Headers.{type_name}
use Rattle.rows.specs.declared.Block.{Block}
use Rattle.text_name.specs.Names.{is_header, size_name}

-- the code points of a code's text in SPECTRUM_ENCODING
unfoldable pub code_points : ℕ → List ℕ
code_points code = ascii (get_or code_texts code "")

-- a header's name: the type is ASCII, then bytes 2 to 11 through the encoding
unfoldable pub header_points : List ℕ → ℕ → List ℕ
header_points s start = type_name (get_or s (start + 1) 0) ++ (ascii ": " ++ each_byte code_points (take 10 (drop (start + 2) s)))

-- `n bytes` and `stop` are ASCII; byte b of a given name is code point b
unfoldable pub name_points : List ℕ → Block → List ℕ
name_points s r =
    eqb r.named 0 ⇒ (is_header s r ⇒ header_points s r.start ∣ size_name r)
    ∣ eqb r.named 1 ⇒ ascii "stop"
    ∣ take r.chars (drop r.text s)
