-- Worked examples of rules 72 to 78, 81 and 82: each branch, each clause, and the answers with rooms of 0 to 3 rows. Assumes nothing.
use Prim.Native.Nat.{ℕ, ◌+◌, ◌-◌}
use mathlib.Core.Path.{◌≡◌, refl}
use mathlib.Core.List.{List, [], ◌∷◌, ◌++◌, map}
use lib.ListN.{length, replicate}
use Rattle.cut_fields.specs.Field.{le_at}
use Rattle.rows.specs.Table.{put_all}
use Rattle.cut_grammar.specs.Grammar.{binary_digits, bits_of}
use Rattle.std.specs.Prelude.{Ok, Err}
use Rattle.load_general.specs.declared.NoRows.TheVariants.{Refused, Full, Stop}
use Rattle.load_general.specs.declared.Made.TheVariants.{Data, Tones}
use Rattle.load_general.specs.General.{symbol_at, plain_tone, before, rows_from, cycles, entry_symbol, entry_repeat, entry_row, pilot_of}
use Rattle.load_general.specs.General.{equal_halves, ordinary, used_bits, symbol_number, single_row, pair_row, singles_of, pairs_of}
use Rattle.load_general.specs.General.{data_part, Given, refused4, stop, plain, toned, with_data, with_pilot, general_of}
use Rattle.load_general.specs.Made.{made_of, leaves}

-- a part: how many entries or symbols use it, the pulses and the number of its symbols, its alphabet, its entries or bytes
pub record PartTable : Type 0 where
  pub uses : ℕ
  pub pulses : ℕ
  pub size : ℕ
  pub alphabet : List ℕ
  pub rest : List ℕ

abbrev part : ℕ → ℕ → ℕ → List ℕ → List ℕ → PartTable
part uses pulses size alphabet rest = record { uses = uses; pulses = pulses; size = size; alphabet = alphabet; rest = rest }

-- the piece of a pilot part and a data part, and what it gives
unfoldable pub gives : PartTable → PartTable → Given
gives p d =
    let entries = length p.alphabet in
    let symbols = entries + length p.rest in
    general_of (p.alphabet ++ p.rest ++ d.alphabet ++ d.rest)
    (record {
      length = 0;
      pause = 0;
      totp = p.uses;
      npp = p.pulses;
      asp0 = p.size;
      asp = p.size;
      pilot = 0;
      entries = entries;
      totd = d.uses;
      npd = d.pulses;
      asd0 = d.size;
      asd = d.size;
      nb = bits_of (d.size - 1);
      symbols = symbols;
      from = symbols + length d.alphabet;
      size = length d.rest;
    })

-- symbols of one and two short pulses, and entries of a symbol and its repetitions
abbrev y1 : ℕ → List ℕ
y1 a = 0 ∷ a ∷ 0 ∷ []

abbrev y2 : ℕ → ℕ → List ℕ
y2 a b = 0 ∷ a ∷ 0 ∷ b ∷ 0 ∷ []

abbrev y3 : ℕ → ℕ → ℕ → List ℕ
y3 a b d = 0 ∷ a ∷ 0 ∷ b ∷ 0 ∷ d ∷ 0 ∷ []

abbrev times : ℕ → ℕ → List ℕ
times n y = y ∷ n ∷ 0 ∷ []

abbrev times65535 : ℕ → List ℕ
times65535 y = y ∷ 255 ∷ 255 ∷ []

abbrev times65534 : ℕ → List ℕ
times65534 y = y ∷ 254 ∷ 255 ∷ []

-- no pilot; ordinary data of n bits, of which 10 is zero and 20 is one
abbrev no_pilot : PartTable
no_pilot = part 0 1 1 [] []

abbrev bits : ℕ → List ℕ → PartTable
bits n = part n 2 2 (y2 10 10 ++ y2 20 20)

pub record Example : Type 0 where
  pub pilot : PartTable
  pub data' : PartTable
  pub wants : Given

abbrev row : PartTable → PartTable → Given → Example
row p d w = record { pilot = p; data' = d; wants = w }

unfoldable pub examples : List Example
examples =
    -- totp 0; ordinary data of whole bytes, and of one bit more
    row no_pilot (bits 8 (0xA5 ∷ [])) (plain [] 10 20 8) ∷
    row no_pilot (bits 9 (0xA5 ∷ 0x80 ∷ [])) (plain [] 10 20 1) ∷
    row no_pilot (bits 7 (0xA5 ∷ [])) (plain [] 10 20 7) ∷
    -- npp 1: (repeat + 1)/2 cycles
    row (part 2 1 2 (y1 100 ++ y1 50) (times 3 0 ++ times 4 1)) (bits 8 (0 ∷ []))
    (plain (plain_tone 2 100 100 ∷ plain_tone 2 50 50 ∷ []) 10 20 8) ∷
    row (part 1 1 1 (y1 100) (times 0 0)) (bits 8 (0 ∷ [])) (plain (plain_tone 0 100 100 ∷ []) 10 20 8) ∷
    row (part 1 1 1 (y1 100) (times65534 0)) (bits 8 (0 ∷ [])) (plain (plain_tone 32767 100 100 ∷ []) 10 20 8) ∷
    row (part 1 1 1 (y1 100) (times65535 0)) (bits 8 (0 ∷ [])) refused4 ∷
    -- npp 2: a second pulse of 0 is none; otherwise repeat cycles
    row (part 2 2 2 (y2 100 0 ++ y2 100 30) (times 5 0 ++ times 5 1)) (bits 8 (0 ∷ []))
    (plain (plain_tone 3 100 100 ∷ plain_tone 5 100 30 ∷ []) 10 20 8) ∷
    row (part 1 2 1 (y2 100 0) (times65535 0)) (bits 8 (0 ∷ [])) refused4 ∷
    row (part 1 2 1 (y2 100 30) (times65535 0)) (bits 8 (0 ∷ [])) (plain (plain_tone 65535 100 30 ∷ []) 10 20 8) ∷
    -- a symbol not below asp, at the first and at a later entry
    row (part 1 1 1 (y1 100) (times 3 1)) (bits 8 (0 ∷ [])) refused4 ∷
    row (part 2 2 1 (y2 100 30) (times 3 0 ++ times 3 1)) (bits 8 (0 ∷ [])) refused4 ∷
    -- npp 0 and 3: the first entry alone is reached
    row (part 2 0 1 (0 ∷ []) (times65535 0 ++ times 3 1)) (bits 8 (0 ∷ [])) stop ∷
    row (part 2 3 1 (y3 100 30 7) (times65535 0 ++ times 3 1)) (bits 8 (0 ∷ [])) stop ∷
    row (part 1 0 1 (0 ∷ []) (times 3 1)) (bits 8 (0 ∷ [])) refused4 ∷
    row (part 1 3 1 (y3 100 30 7) (times 3 1)) (bits 8 (0 ∷ [])) refused4 ∷
    row (part 1 3 1 (y3 100 30 7) (times 3 0)) (part 0 2 2 [] []) stop ∷
    -- totd 0
    row no_pilot (part 0 2 2 [] []) refused4 ∷
    row no_pilot (part 0 3 1 [] []) refused4 ∷
    -- npd 2, halves not equal: a tone for each symbol
    row no_pilot (part 3 2 2 (y2 10 11 ++ y2 20 20) (0xA0 ∷ []))
    (toned (plain_tone 1 20 20 ∷ plain_tone 1 10 11 ∷ plain_tone 1 20 20 ∷ [])) ∷
    row (part 1 1 1 (y1 100) (times 3 0)) (part 1 2 2 (y2 10 10 ++ y2 20 21) (0x80 ∷ []))
    (toned (plain_tone 2 100 100 ∷ plain_tone 1 20 21 ∷ [])) ∷
    -- npd 2, nb 2: the first symbol has one bit of its byte alone
    row no_pilot (part 2 2 4 (y2 1 2 ++ y2 3 4 ++ y2 5 6 ++ y2 7 8) (0xE0 ∷ [])) (toned (plain_tone 1 3 4 ∷ plain_tone 1 7 8 ∷ [])) ∷
    -- npd 2, nb 3: a symbol across two bytes has the first one's bits alone
    row no_pilot (part 3 2 5 (y2 1 1 ++ y2 2 2 ++ y2 3 3 ++ y2 4 4 ++ y2 5 5) (0x03 ∷ 0x80 ∷ []))
    (toned (plain_tone 1 1 1 ∷ plain_tone 1 1 1 ∷ plain_tone 1 2 2 ∷ [])) ∷
    -- npd 1: pairs, an odd last symbol dropped
    row no_pilot (part 4 1 2 (y1 10 ++ y1 20) (0xB0 ∷ [])) (toned (plain_tone 1 20 10 ∷ plain_tone 1 20 20 ∷ [])) ∷
    row no_pilot (part 3 1 2 (y1 10 ++ y1 20) (0xB0 ∷ [])) (toned (plain_tone 1 20 10 ∷ [])) ∷
    row no_pilot (part 1 1 2 (y1 10 ++ y1 20) (0xB0 ∷ [])) (toned []) ∷
    -- npd 1, nb 2: the second symbol is one bit further down
    row no_pilot (part 2 1 4 (y1 1 ++ y1 2 ++ y1 3 ++ y1 4) (0xC0 ∷ [])) (toned (plain_tone 1 2 4 ∷ [])) ∷
    -- a used symbol not below asd, and one that is not used
    row no_pilot (part 2 2 3 (y2 1 1 ++ y2 2 2 ++ y2 3 3) (0x60 ∷ [])) refused4 ∷
    row no_pilot (part 1 2 3 (y2 1 1 ++ y2 2 2 ++ y2 3 3) (0x60 ∷ [])) (toned (plain_tone 1 1 1 ∷ [])) ∷
    row no_pilot (part 2 1 3 (y1 1 ++ y1 2 ++ y1 3) (0xC0 ∷ [])) refused4 ∷
    row no_pilot (part 4 1 3 (y1 1 ++ y1 2 ++ y1 3) (0x18 ∷ [])) refused4 ∷
    -- nb 0
    row no_pilot (part 1 2 1 (y2 1 1) []) refused4 ∷
    row no_pilot (part 2 1 1 (y1 1) []) refused4 ∷
    row no_pilot (part 1 1 1 (y1 1) []) (toned []) ∷
    row no_pilot (part 4294967295 2 1 (y2 1 1) []) refused4 ∷
    row no_pilot (part 4294967295 3 1 (y3 1 1 1) []) stop ∷
    -- nb 8 whatever npd is, and nb 7
    row no_pilot (part 1 0 129 (replicate 129 0) (0 ∷ [])) refused4 ∷
    row no_pilot (part 1 0 128 (replicate 128 0) (0 ∷ [])) stop ∷
    -- npd 0 and 3
    row no_pilot (part 1 0 2 (0 ∷ 0 ∷ []) (0 ∷ [])) stop ∷
    row no_pilot (part 1 3 2 (y3 1 1 1 ++ y3 2 2 2) (0 ∷ [])) stop ∷ []

pub worked : map (λ e. gives e.pilot e.data') examples ≡ map (λ e. e.wants) examples
unfolding examples gives binary_digits le_at symbol_at before rows_from cycles entry_symbol entry_repeat entry_row pilot_of equal_halves ordinary
    used_bits symbol_number single_row pair_row singles_of pairs_of data_part with_data with_pilot general_of
worked = refl

-- 4 and a stop need no room; two rows need two
abbrev two : Given
two = toned (plain_tone 1 2 3 ∷ plain_tone 4 5 6 ∷ [])

pub answered : (made_of 0 refused4 ∷ made_of 0 stop ∷ made_of 0 (plain [] 10 20 8) ∷ made_of 1 two ∷ made_of 2 two ∷ made_of 3 two ∷
    [])
    ≡ (Err Refused ∷ Err Stop ∷ Ok (Data 0 10 20 8) ∷ Err Full ∷ Ok (Tones 2) ∷ Ok (Tones 2) ∷ [])
unfolding made_of
answered = refl

pub written : (leaves 1 (replicate 13 9) 1 two ∷ leaves 2 (replicate 13 9) 1 two ∷ [])
    ≡ (replicate 13 9 ∷ (9 ∷ 9 ∷ 9 ∷ 9 ∷ 1 ∷ 2 ∷ 3 ∷ 0 ∷ 4 ∷ 5 ∷ 6 ∷ 0 ∷ 9 ∷ []) ∷ [])
unfolding leaves put_all
written = refl
