-- Refusal 4 exactly: rules 79 to 82, clause by clause. Definitions alone; assumes nothing.
use Rattle.std.specs.Prelude.{ℕ, ◌+◌, ◌*◌, ◌-◌, ◌/◌, ◌≤◌, ◌<◌, ◌≡◌, ◌⊎◌, List, length, get_or}
use Rattle.cut_fields.specs.Field.{le_at}
use Rattle.cut_grammar.specs.declared.GeneralizedData.{GeneralizedData}
use Rattle.cut_grammar.specs.declared.Piece.TheVariants.{Generalized}
use Rattle.cut_grammar.specs.declared.Taken.TheVariants.{Whole}
use Rattle.cut_grammar.specs.Grammar.{bits_of, or_full, held_if}
use Rattle.cut_grammar.specs.Cut.{cut_at}
use Rattle.load_general.specs.General.{symbol_at, entry_symbol, entry_repeat, symbol_number}
use Rattle.load_source.specs.Source.{full}

-- BEFORE ITS DATA BYTES (rule 80): of the 19 whose kind byte stands at a place, by the bytes there
module _ (s : List ℕ) (at : ℕ) where
  -- length 4, pause 2, totp 4, npp 1, asp 1, totd 4, npd 1, asd 1; an asp or asd of 0 means 255
  abbrev pub totp_at : ℕ
  totp_at = le_at s (at + 7) 4

  abbrev pub npp_at : ℕ
  npp_at = le_at s (at + 11) 1

  abbrev pub asp_at : ℕ
  asp_at = or_full 255 (le_at s (at + 12) 1)

  abbrev pub totd_at : ℕ
  totd_at = le_at s (at + 13) 4

  abbrev pub npd_at : ℕ
  npd_at = le_at s (at + 17) 1

  abbrev pub asd_at : ℕ
  asd_at = or_full 255 (le_at s (at + 18) 1)

  -- nb: the number of binary digits of asd - 1
  abbrev pub nb_at : ℕ
  nb_at = bits_of (asd_at - 1)

  -- where the data alphabet ends: past the pilot's, asp symbols of a flag byte and npp pulses, if totp is above 0; past totp entries; and
  -- past asd symbols of a flag byte and npd pulses, if totd is above 0
  abbrev pub data_at : ℕ
  data_at = at + 19 + held_if totp_at asp_at * (1 + npp_at * 2) + totp_at * 3 + held_if totd_at asd_at * (1 + npd_at * 2)

  pub record Overflows : Type 0 where
    pub kind : get_or s at 0 ≡ 0x19
    pub whole : data_at ≤ length s
    pub some : 0 < totd_at
    pub wide : 4294967295 < nb_at * totd_at

-- BY ITS ENTRIES AND SYMBOLS (rules 81, 82), of a 19 that is all there
module _ (s : List ℕ) (g : GeneralizedData) where
  -- a pilot entry with symbol not below asp, or repeat 65,535 where one is added
  pub data BadEntry (i : ℕ) : Type 0 where
    symbol : g.asp ≤ entry_symbol s g i → BadEntry i
    repeat : (symbol_at s g.pilot g.npp (entry_symbol s g i)).second ≡ 0 → entry_repeat s g i ≡ 65535 → BadEntry i

  -- a reached pilot entry: with npp 1 or 2 each in order, otherwise the first alone, whose repeat is not looked at
  pub data BadPilot : Type 0 where
    entry : {i : ℕ} → (g.npp ≡ 1) ⊎ (g.npp ≡ 2) → i < g.totp → BadEntry i → BadPilot
    first : (g.npp ≡ 1 → ⊥) → (g.npp ≡ 2 → ⊥) → 0 < g.totp → g.asp ≤ entry_symbol s g 0 → BadPilot

  -- the pilot part gives no stop: it has no entry, or npp is 1 or 2
  pub data NoStop : Type 0 where
    no-entry : g.totp ≡ 0 → NoStop
    pulses : (g.npp ≡ 1) ⊎ (g.npp ≡ 2) → NoStop

  -- totd 0; nb 8; nb 0 with npd 2, or npd 1 and totd above 1; a used data symbol not below asd
  pub data BadData : Type 0 where
    none : g.totd ≡ 0 → BadData
    eight : 8 ≤ g.nb → BadData
    no_bits : g.nb ≡ 0 → g.npd ≡ 2 → BadData
    no_bits_paired : g.nb ≡ 0 → g.npd ≡ 1 → 1 < g.totd → BadData
    single : {i : ℕ} → g.npd ≡ 2 → i < g.totd → g.asd ≤ symbol_number s g (i * g.nb) 0 → BadData
    pair : {i : ℕ} → g.npd ≡ 1 → i < g.totd / 2
        → (g.asd ≤ symbol_number s g (2 * i * g.nb) 0) ⊎ (g.asd ≤ symbol_number s g (2 * i * g.nb) 1) → BadData

  abbrev pub BadParts : Type 0
  BadParts = BadPilot ⊎ (NoStop × BadData)

-- REFUSAL 4, at a place
pub data Four (s : List ℕ) (at : ℕ) : Type 0 where
  before : Overflows s at → Four s at
  within : {kind from next : ℕ} {g : GeneralizedData} → cut_at s at full ≡ Whole kind from next (Generalized g)
      → BadParts s g → Four s at
