-- Small values as text. Definitions alone; assumes nothing.
use Rattle.std.specs.Prelude.{ℕ, Bool, true, false, List}
use Rattle.text_out.specs.Out.{ascii, decimal}
use Rattle.play_entries.specs.declared.Duration.{Duration}
use Rattle.play_entries.specs.declared.Duration.TheVariants.{T, Endless}

-- a mark, a half or a level: `1` for marked, for the last half and for high
unfoldable pub flag : Bool → List ℕ
flag false = ascii "0"
flag true = ascii "1"

-- T-states, or a word for what never ends
abbrev pub lasts_text : List ℕ → Duration → List ℕ
lasts_text word (T n) = decimal n
lasts_text word Endless = word

-- that word is `endless`
unfoldable pub duration_text : Duration → List ℕ
duration_text d = lasts_text (ascii "endless") d
