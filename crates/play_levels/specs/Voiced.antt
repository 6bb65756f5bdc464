-- THE DOCUMENT'S LEVELS, step by step: signals are voiced one by one, each from the line that the one before it left.
-- Definitions alone; assumes nothing.
use Rattle.std.specs.Prelude.{ℕ, zero, suc, ◌+◌, ◌-◌, min, not, List, [], ◌∷◌, ◌++◌, ◌≡◌, eqb}
use Rattle.law_base.specs.Rules.{◌⇒◌, ◌∣◌}
use Rattle.law_pulses.specs.Play.{Level, low, high, Entry, pulse, endless}
use Rattle.play_levels.specs.declared.Line.{Line}

abbrev pub lined : Level → Level → Line
lined c p = record { current = c; played = p }

-- behind a pulse of level v
abbrev pub behind : Level → Line
behind v = lined (not v) v

abbrev pub quiet : Line
quiet = lined low low

-- what stands in a block: a pulse with its begin and its length, a pause, a stop
pub data Signal : Type 0 where
  tick : ℕ → ℕ → Signal
  silence : ℕ → Signal
  halt : Signal

-- the level of a pulse of this begin: 0 the current level, 1 the level last played, 2 low, 3 high
abbrev pub voice : ℕ → Line → Level
voice begin l = eqb begin 0 ⇒ l.current ∣ eqb begin 1 ⇒ l.played ∣ eqb begin 2 ⇒ low ∣ high

-- entries without their labels
abbrev pub Bare : Type 0
Bare = Entry (Unit {0})

-- one signal's entries, and the line behind it
unfoldable pub sounded : Line → Signal → List Bare
sounded l (tick begin n) = pulse tt (voice begin l) n ∷ []
sounded l (silence n) =
    eqb n 0 ⇒ (pulse tt l.current 0 ∷ []) ∣ (pulse tt l.current (min 3500 n) ∷ pulse tt low (n - 3500) ∷ [])
sounded l halt = endless tt low ∷ []

unfoldable pub line_by : Line → Signal → Line
line_by l (tick begin n) = behind (voice begin l)
line_by l (silence n) = eqb n 0 ⇒ l ∣ quiet
line_by l halt = quiet

-- SIGNALS ONE BY ONE: their entries, and the line behind them
unfoldable pub voiced : Line → List Signal → List Bare
voiced l [] = []
voiced l (s ∷ ss) = sounded l s ++ voiced (line_by l s) ss

unfoldable pub line_past : Line → List Signal → Line
line_past l [] = l
line_past l (s ∷ ss) = line_past (line_by l s) ss

-- m lots of signals from lot p on, one after the other
unfoldable pub lots : (ℕ → List Signal) → ℕ → ℕ → List Signal
lots lot p zero = []
lots lot p (suc m) = lot p ++ lots lot (p + 1) m

-- an entry without its label
abbrev pub bare_of : {A : Type 0} → Entry A → Bare
bare_of (pulse a v t) = pulse tt v t
bare_of (endless a v) = endless tt v

unfoldable pub bare : {A : Type 0} → List (Entry A) → List Bare
bare [] = []
bare (e ∷ es) = bare_of e ∷ bare es

-- from line l the signals xs are heard as the entries es, and leave line m
pub record Voices {A : Type 0} (l : Line) (xs : List Signal) (m : Line) (es : List (Entry A)) : Type 0 where
  pub heard : bare es ≡ voiced l xs
  pub line : line_past l xs ≡ m
