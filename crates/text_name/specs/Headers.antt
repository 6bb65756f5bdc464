-- A header's name as UTF-8 text (rule 84). Assumes nothing.
use Rattle.std.specs.Prelude.{ℕ, ◌+◌, List, ◌++◌, get_or, take, drop, eqb}
use Rattle.law_base.specs.Rules.{◌⇒◌, ◌∣◌}
use Rattle.text_out.specs.Out.{ascii, decimal}
use Rattle.text_codes.specs.Encoding.{spelled}

-- `Program`, `Array`, `Bytes` for second byte 0, 1, 3, else `Type x`
unfoldable pub type_name : ℕ → List ℕ
type_name b =
    eqb b 0 ⇒ ascii "Program"
    ∣ eqb b 1 ⇒ ascii "Array"
    ∣ eqb b 3 ⇒ ascii "Bytes"
    ∣ ascii "Type " ++ decimal b

-- then `: ` and bytes 2 to 11 through `SPECTRUM_ENCODING`; the header's data begin at `start`
unfoldable pub header_name : List ℕ → ℕ → List ℕ
header_name s start = type_name (get_or s (start + 1) 0) ++ (ascii ": " ++ spelled (take 10 (drop (start + 2) s)))
