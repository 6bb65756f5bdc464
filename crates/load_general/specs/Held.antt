-- What the code takes for a 19, and an alphabet as it keeps one. Assumes nothing.
use Rattle.std.specs.Prelude.{ℕ, ◌<◌, ◌≤◌, ◌≡◌, List, [], ◌∷◌, get_or}
use Rattle.cut_grammar.specs.declared.GeneralizedData.{GeneralizedData}
use Rattle.cut_grammar.specs.Places.{Places}
use Rattle.load_general.specs.General.{Symbol, symbol_at}

-- a 19 of this tape, with no alphabet larger than 255
pub record Held (s : List ℕ) (g : GeneralizedData) : Type 0 where
  pub places : Places s g
  pub asp : g.asp ≤ 255
  pub asd : g.asd ≤ 255

-- a symbol as the code keeps it
unfoldable pub symbol_words : Symbol → List ℕ
symbol_words y = y.first ∷ y.second ∷ []

unfoldable pub symbol_of : List ℕ → Symbol
symbol_of w = record { first = get_or w 0 0; second = get_or w 1 0 }

-- an array that holds the n symbols of an alphabet
abbrev pub Kept : List ℕ → ℕ → ℕ → ℕ → List (List ℕ) → Type 0
Kept s place pulses n a = (i : ℕ) → i < n → get_or a i [] ≡ symbol_words (symbol_at s place pulses i)
