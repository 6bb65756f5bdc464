-- Positions as plain words, and words as positions. Definitions alone; assumes nothing.
use Rattle.std.specs.Prelude.{ℕ, Bool, true, false, ◌&&◌, List, [], ◌∷◌, ltb, eqb, length, get_or, Option, Some, None}
use Rattle.law_base.specs.Rules.{◌⇒◌, ◌∣◌}
use Rattle.play_entries.specs.declared.Phase.{Phase}
use Rattle.play_entries.specs.declared.Phase.TheVariants.{Start, Tones, Data, Edge, Pause}
use Rattle.play_entries.specs.declared.Duration.{Duration}
use Rattle.play_entries.specs.declared.Duration.TheVariants.{T, Endless}
use Rattle.play_walk.specs.declared.Position.{Position}
use Rattle.play_walk.specs.declared.How.{How}
use Rattle.play_walk.specs.declared.How.TheVariants.{At, Stopped, Ended}
use Rattle.play_walk.specs.Heads.{placed}
use Rattle.host_words.specs.declared.Spot.{Spot}
use Rattle.host_words.specs.declared.Span.{Span}

-- a flag as a word
unfoldable pub flag_of : Bool → ℕ
flag_of false = 0
flag_of true = 1

-- HOW A CALL LEAVES THE HEAD: 0 it stands, 1 it has stopped at an endless pause, 2 it has ended
abbrev pub how_number : How → ℕ
how_number At = 0
how_number Stopped = 1
how_number Ended = 2

abbrev pub spot : ℕ → ℕ → ℕ → ℕ → Spot
spot f a b h = record { phase = f; item = a; part = b; half = h }

-- A PHASE AS WORDS: its number; the tone row or the data byte; the cycle or the bit; whether it is the last half. Words not used are 0
unfoldable pub spot_of : Phase → Spot
spot_of Start = spot 0 0 0 0
spot_of (Tones i p h) = spot 1 i p (flag_of h)
spot_of (Data i k h) = spot 2 i k (flag_of h)
spot_of Edge = spot 4 0 0 0
spot_of Pause = spot 3 0 0 0

abbrev pub span : ℕ → ℕ → Span
span e n = record { endless = e; left = n }

-- A DURATION AS WORDS: whether it never ends; its T-states, 0 where it never ends
unfoldable pub span_of : Duration → Span
span_of (T n) = span 0 n
span_of Endless = span 1 0

-- A POSITION AS WORDS: its block, its phase, what is left
unfoldable pub words_of : Position → List ℕ
words_of q =
    let f = spot_of q.phase in
    let d = span_of q.left in
    q.block ∷ f.phase ∷ f.item ∷ f.part ∷ f.half ∷ d.endless ∷ d.left ∷ []

-- a phase that uses no further word: they are 0
unfoldable pub unhalved : Phase → ℕ → ℕ → ℕ → Option Phase
unhalved f a b h = (eqb a 0 && (eqb b 0 && eqb h 0)) ⇒ Some f ∣ None

-- A WORD AS A FLAG, where it names one: 0 or 1
unfoldable pub flag_from : ℕ → Option Bool
flag_from w = eqb w 0 ⇒ Some false ∣ eqb w 1 ⇒ Some true ∣ None

-- a phase with halves: the flag is 0 or 1
unfoldable pub halved : (Bool → Phase) → ℕ → Option Phase
halved f h = eqb h 0 ⇒ Some (f false) ∣ eqb h 1 ⇒ Some (f true) ∣ None

-- WORDS AS A PHASE, where they name one
unfoldable pub phase_from : ℕ → ℕ → ℕ → ℕ → Option Phase
phase_from f a b h =
    eqb f 0 ⇒ unhalved Start a b h
    ∣ eqb f 1 ⇒ halved (Tones a b) h
    ∣ eqb f 2 ⇒ halved (Data a b) h
    ∣ eqb f 3 ⇒ unhalved Pause a b h
    ∣ eqb f 4 ⇒ unhalved Edge a b h
    ∣ None

-- WORDS AS A DURATION, where they name one
unfoldable pub span_from : ℕ → ℕ → Option Duration
span_from e n =
    eqb e 0 ⇒ Some (T n)
    ∣ (eqb e 1 && eqb n 0) ⇒ Some Endless
    ∣ None

unfoldable pub joined : ℕ → Option Phase → Option Duration → Option Position
joined b (Some f) (Some d) = Some (placed b f d)
joined b (Some f) None = None
joined b None d = None

-- WORDS AS A POSITION: the first seven of a lent row, where they name one; words past them are not read
unfoldable pub position_from : List ℕ → Option Position
position_from ws =
    ltb (length ws) 7 ⇒ None
    ∣ joined (get_or ws 0 0) (phase_from (get_or ws 1 0) (get_or ws 2 0) (get_or ws 3 0) (get_or ws 4 0)) (span_from (get_or ws 5 0) (get_or ws 6 0))
