-- The source's play over a list, turn by turn as the Rust (rules 103, 104), and agreement (rule 105). Definitions alone; assumes nothing.
use Rattle.std.specs.Prelude.{◌≡◌, Bool, true, false, ◌⊎◌, List, [], ◌∷◌, ◌++◌, ℕ, zero, suc, ◌+◌, ◌-◌, ◌<◌, ltb, eqb, length}
use Rattle.law_base.specs.Rules.{◌⇒◌, ◌∣◌}
use Rattle.law_pulses.specs.Play.{Entry, pulse, endless, Status, standing, stopped, ended, Answer}

-- where turns have come to: what is left to play, the count left, and the sum of the entries dropped uncharged
pub data Turned (A : Type 0) : Type 0 where
  turned_to : List (Entry A) → ℕ → ℕ → Turned A

-- a player's outcome: what is left to play, and whether it has ended
pub record Outcome (A : Type 0) : Type 0 where
  pub place : List (Entry A)
  pub done : Bool

abbrev pub is_ended : Status → Bool
is_ended standing = false
is_ended stopped = false
is_ended ended = true

module _ {A : Type 0} where
  -- an entry is finished: in the same turn the next one takes the count left, or, if no longer than it, is dropped with nothing charged
  unfoldable pub after : List (Entry A) → ℕ → ℕ → Turned A
  after [] d s = turned_to [] d s
  after (endless a v ∷ es) d s = turned_to (endless a v ∷ es) 0 s
  after (pulse a v u ∷ es) d s = ltb d u ⇒ turned_to (pulse a v (u - d) ∷ es) 0 s ∣ turned_to (pulse a v 0 ∷ es) d (s + u)

  -- (behind a pause the Rust looks at no entry in that turn; a start has 0 T-states, so the list's turn leaves the same)
  unfoldable pub turn : List (Entry A) → ℕ → ℕ → Turned A
  turn [] d s = turned_to [] d s
  turn (endless a v ∷ es) d s = turned_to (endless a v ∷ es) 0 s
  turn (pulse a v t ∷ es) d s = ltb d t ⇒ turned_to (pulse a v (t - d) ∷ es) 0 s ∣ after es (d - t) s

  -- while the count is not 0, f turns at most
  unfoldable pub turns : ℕ → Turned A → Turned A
  turns zero x = x
  turns (suc f) (turned_to es d s) = eqb d 0 ⇒ turned_to es d s ∣ turns f (turn es d s)

  -- a call of n: a turn for each entry and one more are enough (`enough` in Ahead)
  unfoldable pub sourced : List (Entry A) → ℕ → Turned A
  sourced es n = turns (suc (length es)) (turned_to es n 0)

  -- past the last entry with T-states left is the end
  unfoldable pub reached : Turned A → Outcome A
  reached (turned_to es d s) = record { place = es; done = ltb 0 d }

  unfoldable pub sum_dropped : Turned A → ℕ
  sum_dropped (turned_to es d s) = s

  abbrev pub source : List (Entry A) → ℕ → Outcome A
  source es n = reached (sourced es n)

  -- the sum of the finite entries that the call drops uncharged
  abbrev pub dropped : List (Entry A) → ℕ → ℕ
  dropped es n = sum_dropped (sourced es n)

  -- a call of n and the calls after it
  unfoldable pub sources : List (Entry A) → ℕ → List ℕ → Outcome A
  sources es n [] = source es n
  sources es n (m ∷ ms) = sources (source es n).place m ms

  -- the same calls, each with the sum that it drops
  unfoldable pub with_dropped : List (Entry A) → List ℕ → List ℕ
  with_dropped es [] = []
  with_dropped es (n ∷ ns) = (n + dropped es n) ∷ with_dropped (source es n).place ns

  -- the measured player's outcome
  unfoldable pub heard : Answer A → Outcome A
  heard r = record { place = r.place; done = is_ended r.tells }

  -- the entries with length that are left, an endless one included, with their T-states
  unfoldable pub lasting_entries : List (Entry A) → List (Entry A)
  lasting_entries [] = []
  lasting_entries (endless a v ∷ es) = endless a v ∷ lasting_entries es
  lasting_entries (pulse a v zero ∷ es) = lasting_entries es
  lasting_entries (pulse a v (suc t) ∷ es) = pulse a v (suc t) ∷ lasting_entries es

  -- n is below every finite duration of es but 0
  unfoldable pub Below : List (Entry A) → ℕ → Type 0
  Below [] n = Unit
  Below (endless a v ∷ es) n = Below es n
  Below (pulse a v t ∷ es) n = (0 < t → n < t) × Below es n

  -- so of those behind the head's own entry, of which some may be played
  unfoldable pub Behind : List (Entry A) → ℕ → Type 0
  Behind [] n = Unit
  Behind (x ∷ es) n = Below es n

  -- and so for each call
  unfoldable pub ShortCalls : List (Entry A) → List ℕ → Type 0
  ShortCalls es [] = Unit
  ShortCalls es (n ∷ ns) = Behind es n × ShortCalls es ns

-- xs is ys after entries of no length
pub record After {A : Type 0} (xs ys : List (Entry A)) : Type 0 where
  pub gone : List (Entry A)
  pub none : lasting_entries gone ≡ []
  pub split : xs ≡ gone ++ ys

-- AGREEMENT: both have ended or neither has, the same entries with length are left with the same T-states,
-- and the heads differ by entries of no length only
pub record Agrees {A : Type 0} (x y : Outcome A) : Type 0 where
  pub ends : x.done ≡ y.done
  pub left : lasting_entries x.place ≡ lasting_entries y.place
  pub heads : After x.place y.place ⊎ After y.place x.place
