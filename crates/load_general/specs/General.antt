-- What a generalised piece (19) gives in the source reading: rules 71 to 78, 81 and 82. Assumes nothing.
use Rattle.std.specs.Prelude.{ℕ, zero, suc, ◌+◌, ◌*◌, ◌-◌, ◌/◌, ◌%◌, ◌^◌, Bool, ◌&&◌, ◌||◌, Option, None, Some, List, [], ◌∷◌, ◌++◌, get_or, leb, ltb, eqb}
use Rattle.law_base.specs.Rules.{◌⇒◌, ◌∣◌}
use Rattle.cut_fields.specs.Field.{le_at}
use Rattle.rows.specs.declared.Tone.{Tone}
use Rattle.cut_grammar.specs.declared.GeneralizedData.{GeneralizedData}

-- a symbol: up to two pulses, the second 0 where it has one alone
pub record Symbol : Type 0 where
  pub first : ℕ
  pub second : ℕ

-- symbol i of an alphabet at `place`, each a flag byte and n pulses
unfoldable pub symbol_at : List ℕ → ℕ → ℕ → ℕ → Symbol
symbol_at s place n i =
    let at = place + i * (1 + n * 2) + 1 in
    record { first = le_at s at 2; second = ltb 1 n ⇒ le_at s (at + 2) 2 ∣ 0 }

abbrev pub plain_tone : ℕ → ℕ → ℕ → Tone
plain_tone num len1 len2 = record { num = num; len1 = len1; len2 = len2; wave = 0 }

-- one part's answer: the piece is refused, it is a stop block, or the part is these tones
pub data Part : Type 0 where
  refused : Part
  stops : Part
  tones : List Tone → Part

-- an entry's or a symbol's row, which is a tone or refused, before the others of its part
unfoldable pub before : Option Tone → Part → Part
before None rest = refused
before (Some t) refused = refused
before (Some t) stops = stops
before (Some t) (tones ts) = tones (t ∷ ts)

-- the rows of n entries or symbols from index i on
unfoldable pub rows_from : (ℕ → Option Tone) → ℕ → ℕ → Part
rows_from row i zero = tones []
rows_from row i (suc n) = before (row i) (rows_from row (i + 1) n)

-- one pulse, or second pulse 0, gives (repeat + 1)/2 cycles, refused with repeat 65,535; two give repeat cycles
unfoldable pub cycles : Symbol → ℕ → Option Tone
cycles y repeat =
    eqb y.second 0 ⇒ (eqb repeat 65535 ⇒ None ∣ Some (plain_tone ((repeat + 1) / 2) y.first y.first))
    ∣ Some (plain_tone repeat y.first y.second)

-- pilot entry i: a symbol's number and its repetitions
unfoldable pub entry_symbol : List ℕ → GeneralizedData → ℕ → ℕ
entry_symbol s g i = get_or s (g.entries + i * 3) 0

unfoldable pub entry_repeat : List ℕ → GeneralizedData → ℕ → ℕ
entry_repeat s g i = le_at s (g.entries + i * 3 + 1) 2

-- refused with a symbol not below asp
unfoldable pub entry_row : List ℕ → GeneralizedData → ℕ → Option Tone
entry_row s g i =
    leb g.asp (entry_symbol s g i) ⇒ None
    ∣ cycles (symbol_at s g.pilot g.npp (entry_symbol s g i)) (entry_repeat s g i)

-- the pilot part: npp 0 or above 2 at the first entry makes the piece a stop block
unfoldable pub pilot_of : List ℕ → GeneralizedData → Part
pilot_of s g =
    eqb g.totp 0 ⇒ tones []
    ∣ (eqb g.npp 1 || eqb g.npp 2) ⇒ rows_from (entry_row s g) 0 g.totp
    ∣ leb g.asp (entry_symbol s g 0) ⇒ refused
    ∣ stops

-- data: asd 2, npd 2 and equal halves in both symbols give an ordinary data block
unfoldable pub equal_halves : Symbol → Bool
equal_halves y = eqb y.first y.second

unfoldable pub ordinary : List ℕ → GeneralizedData → Bool
ordinary s g =
    eqb g.asd 2 && (eqb g.npd 2 && (equal_halves (symbol_at s g.symbols 2 0) && equal_halves (symbol_at s g.symbols 2 1)))

-- last bits totd mod 8 or 8
unfoldable pub used_bits : ℕ → ℕ
used_bits totd = eqb (totd % 8) 0 ⇒ 8 ∣ totd % 8

-- the symbol number at a bit of the data bytes: the byte shifted right by 7 - r, r the bit's place in its byte, less `more`, cut to nb bits
unfoldable pub symbol_number : List ℕ → GeneralizedData → ℕ → ℕ → ℕ
symbol_number s g bit more = get_or s (g.from + bit / 8) 0 / 2 ^ (7 - bit % 8 - more) % 2 ^ g.nb

abbrev pub data_symbol : List ℕ → GeneralizedData → ℕ → Symbol
data_symbol s g b = symbol_at s g.symbols g.npd b

-- npd 2: one tone for each symbol; refused with a used symbol not below asd
unfoldable pub single_row : List ℕ → GeneralizedData → ℕ → Option Tone
single_row s g i =
    let b = symbol_number s g (i * g.nb) 0 in
    leb g.asd b ⇒ None
    ∣ Some (plain_tone 1 (data_symbol s g b).first (data_symbol s g b).second)

-- npd 1: one tone for each pair, the second symbol shifted by one less at the first one's bit
unfoldable pub pair_row : List ℕ → GeneralizedData → ℕ → Option Tone
pair_row s g i =
    let b = symbol_number s g (2 * i * g.nb) 0 in
    let d = symbol_number s g (2 * i * g.nb) 1 in
    leb g.asd b ⇒ None
    ∣ leb g.asd d ⇒ None
    ∣ Some (plain_tone 1 (data_symbol s g b).first (data_symbol s g d).first)

-- nb 0 is refused with npd 2, and with npd 1 and totd above 1; an odd last symbol is dropped
unfoldable pub singles_of : List ℕ → GeneralizedData → Part
singles_of s g = eqb g.nb 0 ⇒ refused ∣ rows_from (single_row s g) 0 g.totd

unfoldable pub pairs_of : List ℕ → GeneralizedData → Part
pairs_of s g = (eqb g.nb 0 && ltb 1 g.totd) ⇒ refused ∣ rows_from (pair_row s g) 0 (g.totd / 2)

-- the data part where it is no ordinary block: refused for totd 0 and nb 8; npd above 2 or 0, a stop block
unfoldable pub data_part : List ℕ → GeneralizedData → Part
data_part s g =
    eqb g.totd 0 ⇒ refused
    ∣ leb 8 g.nb ⇒ refused
    ∣ eqb g.npd 2 ⇒ singles_of s g
    ∣ eqb g.npd 1 ⇒ pairs_of s g
    ∣ stops

-- what the piece gives: refusal 4; a stop block; or a block of these tones, with the data bytes as its data or without data
pub data Given : Type 0 where
  refused4 : Given
  stop : Given
  plain : List Tone → ℕ → ℕ → ℕ → Given
  toned : List Tone → Given

unfoldable pub with_data : List Tone → Part → Given
with_data ps refused = refused4
with_data ps stops = stop
with_data ps (tones ts) = toned (ps ++ ts)

unfoldable pub with_pilot : List ℕ → GeneralizedData → Part → Given
with_pilot s g refused = refused4
with_pilot s g stops = stop
with_pilot s g (tones ps) =
    (ltb 0 g.totd && ordinary s g)
    ⇒ plain ps (symbol_at s g.symbols 2 0).first (symbol_at s g.symbols 2 1).first (used_bits g.totd)
    ∣ with_data ps (data_part s g)

unfoldable pub general_of : List ℕ → GeneralizedData → Given
general_of s g = with_pilot s g (pilot_of s g)
