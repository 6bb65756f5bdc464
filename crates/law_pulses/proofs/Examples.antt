-- Worked examples, each by computation alone; labels are numbers. Assumes nothing.
use mathlib.Core.Path.{◌≡◌, refl}
use mathlib.Core.Bool.{true, false}
use mathlib.Core.Logic.{inl}
use mathlib.Core.List.{List, [], ◌∷◌, map}
use Prim.Native.Nat.{ℕ, ◌%◌}
use native.Mathlib.Omega.{arith}
use lib.Dec.{eqb}
use Rattle.law_pulses.specs.Play.{Entry, pulse, endless, low, high, standing, stopped, ended, made, rest, over, status_here, status}
use Rattle.law_pulses.specs.Play.{answer, counted_on, calls, time}
use Rattle.law_pulses.specs.Runs.{run}
use Rattle.law_pulses.specs.Sounding.{ends_at, sounding_time}
use Rattle.law_pulses.specs.Source.{after, turn, turns, sourced, reached, sum_dropped, source, dropped, sources, with_dropped, heard}
use Rattle.law_pulses.specs.Source.{lasting_entries, Agrees}

-- a sole 12 of 100 and 4: its start, two cycles, no pause
abbrev halves : List (Entry ℕ)
halves = pulse 3 low 100 ∷ pulse 4 high 100 ∷ pulse 5 low 0 ∷ []

abbrev sole : List (Entry ℕ)
sole = pulse 0 low 0 ∷ pulse 1 low 100 ∷ pulse 2 high 100 ∷ halves

sum_400 : time sole ≡ 400
unfolding time
sum_400 = refl

-- 99 leaves both players in the first half with 1 left
first_99 : answer sole 99 ≡ made (pulse 1 low 1 ∷ pulse 2 high 100 ∷ halves) standing 1
unfolding answer rest over status status_here
first_99 = refl

source_99 : source sole 99 ≡ record { place = pulse 1 low 1 ∷ pulse 2 high 100 ∷ halves; done = false }
unfolding sourced reached turns turn after
source_99 = refl

-- 100 leaves the measured one at the high half, full, the source's ended, having dropped all four
first_100 : answer sole 100 ≡ made (pulse 2 high 100 ∷ halves) standing 2
unfolding answer rest over status status_here
first_100 = refl

source_100 : source sole 100 ≡ record { place = []; done = true }
unfolding sourced reached turns turn after
source_100 = refl

dropped_100 : dropped sole 100 ≡ 400
unfolding sourced sum_dropped turns turn after
dropped_100 = refl

-- so at 100, which is not below the durations, the two do not agree
apart_100 : Agrees (source sole 100) (heard (answer sole 100)) → ⊥
unfolding sourced reached turns turn after heard answer rest over status status_here
apart_100 g =
    let e : true ≡ false = g.ends in
    let z : ◌≡◌ {A = ℕ} 0 1 = cc in
    omega arith

-- the sum spends the last half and leaves the pause of no length; one more ends, all entries passed
at_400 : answer sole 400 ≡ made (pulse 5 low 0 ∷ []) standing 5
unfolding answer rest over status status_here
at_400 = refl

above_401 : answer sole 401 ≡ made [] ended 6
unfolding answer rest over status status_here
above_401 = refl

-- cut into 99, 1 and 301
cut_401 : calls sole 99 (1 ∷ 301 ∷ []) ≡ made [] ended 6
unfolding calls counted_on answer rest over status status_here
cut_401 = refl

-- exactly spent after the tape's last is not yet ended; the next call is, and passes none
spent_last : answer {A = ℕ} (pulse 0 low 7 ∷ []) 7 ≡ made [] standing 1
unfolding answer rest over status status_here
spent_last = refl

next_ends : answer {A = ℕ} [] 1 ≡ made [] ended 0
unfolding answer rest over status status_here
next_ends = refl

-- a stop behind entries of no length: 5 stands before them, 6 stops, 0 at the stop tells that it is one
abbrev stop : List (Entry ℕ)
stop = endless 3 low ∷ pulse 4 low 9 ∷ []

before-stop : answer (pulse 0 high 5 ∷ pulse 1 low 0 ∷ pulse 2 low 0 ∷ stop) 5
    ≡ made (pulse 1 low 0 ∷ pulse 2 low 0 ∷ stop) standing 1
unfolding answer rest over status status_here
before-stop = refl

at_stop : answer (pulse 0 high 5 ∷ pulse 1 low 0 ∷ pulse 2 low 0 ∷ stop) 6 ≡ made stop stopped 3
unfolding answer rest over status status_here
at_stop = refl

none_at_stop : answer stop 0 ≡ made stop stopped 0
unfolding answer rest over status status_here
none_at_stop = refl

-- heads that differ by an entry of no length agree
agree_none : Agrees (record { place = pulse 2 low 0 ∷ stop; done = false }) (record { place = stop; done = false })
unfolding lasting_entries
agree_none = record { ends = refl; left = refl; heads = inl (record { gone = pulse 2 low 0 ∷ []; none = refl; split = refl }) }

-- two pauses, the source's calls of 1, 3,499 and 7,000: with none left it stands at the next start; the last call drops the second pause
abbrev pauses : List (Entry ℕ)
pauses = pulse 0 low 0 ∷ pulse 1 low 3500 ∷ pulse 2 low 0 ∷ pulse 3 low 7000 ∷ []

none_left : sources pauses 1 (3499 ∷ []) ≡ record { place = pulse 2 low 0 ∷ pulse 3 low 7000 ∷ []; done = false }
unfolding sources sourced reached turns turn after
none_left = refl

drops_last : sources pauses 1 (3499 ∷ 7000 ∷ []) ≡ record { place = []; done = true }
unfolding sources sourced reached turns turn after
drops_last = refl

charged : with_dropped pauses (1 ∷ 3499 ∷ 7000 ∷ []) ≡ 1 ∷ 3499 ∷ 14000 ∷ []
unfolding with_dropped sourced reached sum_dropped turns turn after
charged = refl

-- the time up to the last entry that sounds, where odd labels are taken: the pauses before it count, what is behind it doesn't; nor does
-- an entry of no length, nor anything behind an endless one
abbrev soundings : List (List (Entry ℕ) × ℕ)
soundings =
    (pulse 0 low 7 ∷ pulse 1 low 3 ∷ pulse 2 low 5 ∷ [], 10) ∷
    (pulse 1 low 3 ∷ pulse 2 low 5 ∷ pulse 3 low 4 ∷ pulse 4 low 9 ∷ pulse 5 high 0 ∷ pulse 6 low 1 ∷ [], 12) ∷
    (pulse 1 high 3 ∷ endless 2 low ∷ pulse 3 low 4 ∷ [], 3) ∷
    (pulse 0 low 7 ∷ pulse 1 low 0 ∷ [], 0) ∷
    ([], 0) ∷
    []

sounding_said : map (λ e. sounding_time (λ a. eqb (a % 2) 1) e.0) soundings ≡ map (λ e. e.1) soundings
unfolding sounding_time ends_at
sounding_said = refl

-- items of two pulses; and of one, its level flipping
abbrev cycle : ℕ → List (Entry ℕ)
cycle i = pulse i low 2 ∷ pulse i high 3 ∷ []

cycles : run cycle 6 2 ≡ pulse 6 low 2 ∷ pulse 6 high 3 ∷ pulse 7 low 2 ∷ pulse 7 high 3 ∷ []
unfolding run
cycles = refl

abbrev odd : ℕ → List (Entry ℕ)
odd i = pulse i (eqb (i % 2) 1) 4 ∷ []

odds : run odd 0 3 ≡ pulse 0 low 4 ∷ pulse 1 high 4 ∷ pulse 2 low 4 ∷ []
unfolding run
odds = refl
