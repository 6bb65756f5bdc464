-- A DOCUMENT ROW'S SIGNALS in order, as the format says them, and the line behind the row by arithmetic.
-- Definitions alone; assumes nothing.
use Rattle.std.specs.Prelude.{ℕ, not, List, [], ◌∷◌, ◌++◌, eqb}
use Rattle.law_base.specs.Rules.{◌⇒◌, ◌∣◌}
use Rattle.rows.specs.declared.Block.{Block}
use Rattle.play_levels.specs.declared.Line.{Line}
use Rattle.play_levels.specs.Voiced.{Signal, tick, silence, halt, lined, quiet, lots}
use Rattle.play_levels.specs.Closed.{tone_signals}
use Rattle.play_entries.specs.Entries.{tone_at, bits_at, bit_of, half_of, byte_at, line_at}

-- a bit: two pulses of begin 0
abbrev pub bit_signals : Block → ℕ → ℕ → List Signal
bit_signals r v k = tick 0 (half_of r (bit_of v k)) ∷ tick 0 (half_of r (bit_of v k)) ∷ []

unfoldable pub byte_signals : List ℕ → Block → ℕ → List Signal
byte_signals tape r pos = lots (bit_signals r (byte_at tape r pos)) 0 (bits_at r pos)

abbrev pub end_signal : Block → Signal
end_signal r = eqb r.endless 1 ⇒ halt ∣ silence r.pause

unfoldable pub signals_of : List ℕ → List ℕ → Block → List Signal
signals_of tape tones r =
    lots (λ i. tone_signals (tone_at tones r i)) 0 r.tones ++ (lots (byte_signals tape r) 0 r.size ++ end_signal r ∷ [])

-- behind bits: the level before them is current again, and the other one was played last
abbrev pub steady : Line → Line
steady l = lined l.current (not l.current)

-- THE LINE behind the data, and behind the row
unfoldable pub line_data : List ℕ → Block → Line
line_data tones r = eqb r.size 0 ⇒ line_at tones r r.tones ∣ steady (line_at tones r r.tones)

unfoldable pub line_behind : List ℕ → Block → Line
line_behind tones r = eqb r.endless 1 ⇒ quiet ∣ eqb r.pause 0 ⇒ line_data tones r ∣ quiet
