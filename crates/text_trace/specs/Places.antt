-- The text of a place, as a trace prints it; the words are the oracle's. Definitions alone; assumes nothing.
use Rattle.std.specs.Prelude.{ℕ, Bool, List, ◌∷◌, ◌++◌}
use Rattle.text_out.specs.Out.{ascii, decimal}
use Rattle.play_entries.specs.declared.Phase.{Phase}
use Rattle.play_entries.specs.declared.Phase.TheVariants.{Start, Tones, Data, Edge, Pause}
use Rattle.play_entries.specs.declared.Duration.{Duration}
use Rattle.text_value.specs.Values.{flag, duration_text}
use Rattle.play_walk.specs.declared.Stand.{Stand}

-- ` n`
unfoldable pub spaced : ℕ → List ℕ
spaced n = 0x20 ∷ decimal n

-- ` n m last`
unfoldable pub numbers : ℕ → ℕ → Bool → List ℕ
numbers n m last = spaced n ++ spaced m ++ (0x20 ∷ flag last)

-- `start`; `tone` with row, cycle and half; `data` with byte, bit and half; `edge`; `pause`
unfoldable pub phase_text : Phase → List ℕ
phase_text Start = ascii "start"
phase_text (Tones i p last) = ascii "tone" ++ numbers i p last
phase_text (Data pos k last) = ascii "data" ++ numbers pos k last
phase_text Edge = ascii "edge"
phase_text Pause = ascii "pause"

-- ` left LEFT level LEVEL`
unfoldable pub left_text : Duration → Bool → List ℕ
left_text left level = ascii " left " ++ duration_text left ++ ascii " level " ++ flag level

-- `BLOCK PHASE left LEFT level LEVEL`
unfoldable pub place_text : Stand → List ℕ
place_text s = decimal s.position.block ++ ascii " " ++ phase_text s.position.phase ++ left_text s.position.left s.level
