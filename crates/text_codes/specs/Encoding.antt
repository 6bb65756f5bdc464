-- The Rust's SPECTRUM_ENCODING: for each of the 256 codes its text, in UTF-8. Assumes nothing.
use Rattle.std.specs.Prelude.{ℕ, ◌+◌, List, [], ◌∷◌, ◌++◌, map, get_or, length}
use Prim.Native.String.{String}
use Rattle.text_out.specs.Out.{utf8, each_byte}

-- the texts of the codes 00 to FF, eight a line
abbrev pub code_texts : List String
code_texts =
    "" ∷ "" ∷ "" ∷ "" ∷ "" ∷ "" ∷ "" ∷ "" ∷
    "" ∷ "" ∷ "" ∷ "" ∷ "" ∷ "" ∷ "" ∷ "" ∷
    "" ∷ "" ∷ "" ∷ "" ∷ "" ∷ "" ∷ "" ∷ "" ∷
    "" ∷ "" ∷ "" ∷ "" ∷ "" ∷ "" ∷ "" ∷ "" ∷
    " " ∷ "!" ∷ "\"" ∷ "#" ∷ "$" ∷ "%" ∷ "&" ∷ "'" ∷
    "(" ∷ ")" ∷ "*" ∷ "+" ∷ "," ∷ "-" ∷ "." ∷ "/" ∷
    "0" ∷ "1" ∷ "2" ∷ "3" ∷ "4" ∷ "5" ∷ "6" ∷ "7" ∷
    "8" ∷ "9" ∷ ":" ∷ ";" ∷ "<" ∷ "=" ∷ ">" ∷ "?" ∷
    "@" ∷ "A" ∷ "B" ∷ "C" ∷ "D" ∷ "E" ∷ "F" ∷ "G" ∷
    "H" ∷ "I" ∷ "J" ∷ "K" ∷ "L" ∷ "M" ∷ "N" ∷ "O" ∷
    "P" ∷ "Q" ∷ "R" ∷ "S" ∷ "T" ∷ "U" ∷ "V" ∷ "W" ∷
    "X" ∷ "Y" ∷ "Z" ∷ "[" ∷ "\\" ∷ "]" ∷ "↑" ∷ "_" ∷
    "£" ∷ "a" ∷ "b" ∷ "c" ∷ "d" ∷ "e" ∷ "f" ∷ "g" ∷
    "h" ∷ "i" ∷ "j" ∷ "k" ∷ "l" ∷ "m" ∷ "n" ∷ "o" ∷
    "p" ∷ "q" ∷ "r" ∷ "s" ∷ "t" ∷ "u" ∷ "v" ∷ "w" ∷
    "x" ∷ "y" ∷ "z" ∷ "{" ∷ "|" ∷ "}" ∷ "~" ∷ "©" ∷
    " " ∷ "▝" ∷ "▘" ∷ "▀" ∷ "▗" ∷ "▐" ∷ "▚" ∷ "▜" ∷
    "▖" ∷ "▞" ∷ "▌" ∷ "▛" ∷ "▄" ∷ "▟" ∷ "▙" ∷ "█" ∷
    "A" ∷ "B" ∷ "C" ∷ "D" ∷ "E" ∷ "F" ∷ "G" ∷ "H" ∷
    "I" ∷ "J" ∷ "K" ∷ "L" ∷ "M" ∷ "N" ∷ "O" ∷ "P" ∷
    "Q" ∷ "R" ∷ "S" ∷ "T" ∷ "U" ∷ "RND" ∷ "INKEY$" ∷ "PI" ∷
    "FN" ∷ "POINT" ∷ "SCREEN$" ∷ "ATTR" ∷ "AT" ∷ "TAB" ∷ "VAL$" ∷ "CODE" ∷
    "VAL" ∷ "LEN" ∷ "SIN" ∷ "COS" ∷ "TAN" ∷ "ASN" ∷ "ACS" ∷ "ATN" ∷
    "LN" ∷ "EXP" ∷ "INT" ∷ "SQR" ∷ "SGN" ∷ "ABS" ∷ "PEEK" ∷ "IN" ∷
    "USR" ∷ "STR$" ∷ "CHR$" ∷ "NOT" ∷ "BIN" ∷ "OR" ∷ "AND" ∷ "<=" ∷
    ">=" ∷ "<>" ∷ "LINE" ∷ "THEN" ∷ "TO" ∷ "STEP" ∷ "DEF FN" ∷ "CAT" ∷
    "FORMAT" ∷ "MOVE" ∷ "ERASE" ∷ "OPEN #" ∷ "CLOSE #" ∷ "MERGE" ∷ "VERIFY" ∷ "BEEP" ∷
    "CIRCLE" ∷ "INK" ∷ "PAPER" ∷ "FLASH" ∷ "BRIGHT" ∷ "INVERSE" ∷ "OVER" ∷ "OUT" ∷
    "LPRINT" ∷ "LLIST" ∷ "STOP" ∷ "READ" ∷ "DATA" ∷ "RESTORE" ∷ "NEW" ∷ "BORDER" ∷
    "CONTINUE" ∷ "DIM" ∷ "REM" ∷ "FOR" ∷ "GO TO" ∷ "GO SUB" ∷ "INPUT" ∷ "LOAD" ∷
    "LIST" ∷ "LET" ∷ "PAUSE" ∷ "NEXT" ∷ "POKE" ∷ "PRINT" ∷ "PLOT" ∷ "RUN" ∷
    "SAVE" ∷ "RANDOMIZE" ∷ "IF" ∷ "CLS" ∷ "DRAW" ∷ "CLEAR" ∷ "RETURN" ∷ "COPY" ∷ []

unfoldable pub table : List (List ℕ)
table = map utf8 code_texts

unfoldable pub encoded : ℕ → List ℕ
encoded code = get_or table code []

-- codes one after the other
abbrev pub spelled : List ℕ → List ℕ
spelled codes = each_byte encoded codes

-- texts one after the other, and where each of them begins and the last one ends, counted from a
unfoldable pub flat_texts : List (List ℕ) → List ℕ
flat_texts [] = []
flat_texts (t ∷ ts) = t ++ flat_texts ts

unfoldable pub offsets : ℕ → List (List ℕ) → List ℕ
offsets a [] = a ∷ []
offsets a (t ∷ ts) = a ∷ offsets (a + length t) ts
