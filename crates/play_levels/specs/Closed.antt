-- THE SAME BY ARITHMETIC: the level of any pulse of a tone row, and the line behind the row, from the line before it.
-- Definitions alone; assumes nothing.
use Rattle.std.specs.Prelude.{ℕ, ◌-◌, ◌/◌, ◌%◌, Bool, true, false, not, List, [], ◌∷◌, eqb}
use Rattle.law_base.specs.Rules.{◌⇒◌, ◌∣◌}
use Rattle.law_pulses.specs.Play.{Level, low, high, Entry, pulse}
use Rattle.rows.specs.declared.Tone.{Tone}
use Rattle.play_levels.specs.declared.Line.{Line}
use Rattle.play_levels.specs.Voiced.{Signal, tick, behind, lots}

-- the word `wave` is 3 * begin + pulses
abbrev pub begin_of : Tone → ℕ
begin_of t = t.wave / 3

abbrev pub pulses_of : Tone → ℕ
pulses_of t = t.wave % 3

-- one pulse a repetition; else two, or none
abbrev pub is_one : Tone → Bool
is_one t = eqb (pulses_of t) 1

-- repetitions that have pulses
unfoldable pub times_of : Tone → ℕ
times_of t = eqb (pulses_of t) 0 ⇒ 0 ∣ t.num

-- a repetition's signals: the first of the tone's begin, the second at the level that is then current
abbrev pub second_signal : Tone → List Signal
second_signal t = is_one t ⇒ [] ∣ tick 0 t.len2 ∷ []

abbrev pub wave_signals : Tone → List Signal
wave_signals t = eqb (pulses_of t) 0 ⇒ [] ∣ tick (begin_of t) t.len1 ∷ second_signal t

-- A TONE ROW'S SIGNALS: its wave, so many times
unfoldable pub tone_signals : Tone → List Signal
tone_signals t = lots (λ q. wave_signals t) 0 t.num

-- v turned n times
unfoldable pub turned : ℕ → Level → Level
turned n v = eqb (n % 2) 0 ⇒ v ∣ not v

-- turned where h is true
abbrev pub flipped : Bool → Level → Level
flipped true v = not v
flipped false v = v

-- THE LEVEL of repetition q's first pulse, l being the line before the row. The second pulse's is the other one
unfoldable pub first_level : Tone → Line → ℕ → Level
first_level t l q =
    eqb (begin_of t) 0 ⇒ (is_one t ⇒ turned q l.current ∣ l.current)
    ∣ eqb (begin_of t) 1 ⇒ (is_one t ⇒ l.played ∣ turned q l.played)
    ∣ eqb (begin_of t) 2 ⇒ low
    ∣ high

-- the level last played in repetition q
abbrev pub last_level : Tone → Line → ℕ → Level
last_level t l q = is_one t ⇒ first_level t l q ∣ not (first_level t l q)

-- THE LINE before repetition q, and behind the row
unfoldable pub line_before : Tone → Line → ℕ → Line
line_before t l q = eqb q 0 ⇒ l ∣ behind (last_level t l (q - 1))

unfoldable pub line_after : Tone → Line → Line
line_after t l = line_before t l (times_of t)

-- a repetition's entries, of any labels a for the first pulse and c for the second, where the first is at level v
abbrev pub wave_entries : {A : Type 0} → Tone → A → A → Level → List (Entry A)
wave_entries t a c v = pulse a v t.len1 ∷ (is_one t ⇒ [] ∣ pulse c (not v) t.len2 ∷ [])

-- repetition q of a tone row, whatever its labels, l being the line before the row
abbrev pub wave_item : {A : Type 0} → Tone → Line → (ℕ → A) → (ℕ → A) → ℕ → List (Entry A)
wave_item t l a c q = wave_entries t (a q) (c q) (first_level t l q)
