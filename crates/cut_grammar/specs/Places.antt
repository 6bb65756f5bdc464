-- Where a 19 has its tables: each begins where the one before it ended, and the data bytes end inside the tape. Assumes nothing.
use Rattle.std.specs.Prelude.{ℕ, ◌+◌, ◌*◌, ◌-◌, ◌/◌, ◌≤◌, ◌<◌, ◌≡◌, List, length, get_or}
use Rattle.cut_grammar.specs.declared.GeneralizedData.{GeneralizedData}
use Rattle.cut_grammar.specs.Grammar.{bits_of, held_if}

pub record Places (s : List ℕ) (g : GeneralizedData) : Type 0 where
  -- the pilot's alphabet and its entries, the data's alphabet and its bytes
  pub entries : g.entries ≡ g.pilot + held_if g.totp g.asp * (1 + g.npp * 2)
  pub symbols : g.symbols ≡ g.entries + g.totp * 3
  pub from : g.from ≡ g.symbols + held_if g.totd g.asd * (1 + g.npd * 2)
  pub inside : g.from + g.size ≤ length s
  -- the bits of a symbol, and the bytes of all symbols
  pub bits : g.nb ≡ bits_of (g.asd - 1)
  pub size : g.size ≡ (g.nb * g.totd + 7) / 8
  pub fits : g.nb * g.totd ≤ 4294967295

-- a 19 that ends at `next`: its places, and its alphabets' sizes, which are bytes or `full`
pub record Found19 (full : ℕ) (s : List ℕ) (g : GeneralizedData) (next : ℕ) : Type 0 where
  pub end : next ≡ g.from + g.size
  pub places : Places s g
  pub sizes : ((i : ℕ) → get_or s i 0 < 256) → (most : ℕ) → full ≤ most → 255 ≤ most
      → (g.asp ≤ most) × (g.asd ≤ most)
