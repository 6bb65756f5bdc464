-- DEMAND 3's CLAUSE on the source's play, on the answers that both players give. Assumes nothing.
use Rattle.std.specs.Prelude.{Result}
use Rattle.play_walk.specs.declared.Fault.{Fault}
use Prim.Native.Nat.{ℕ, ◌+◌, ◌<◌}
use native.Mathlib.Omega.{arith}
use mathlib.Core.Path.{◌≡◌, sym, ap, ap₂, ◌∙◌}
use mathlib.Core.Bool.{Bool, true}
use mathlib.Core.List.{List, ◌∷◌}
use Rattle.law_pulses.specs.Play.{Entry, Answer, answer, calls, sum, Positive}
use Rattle.law_pulses.specs.Source.{Outcome, is_ended, sources, heard, ShortCalls, Agrees}
use Rattle.law_pulses.proofs.Demand.{any_cut}
use Rattle.law_pulses.proofs.Agreement.{agrees_short}
use Rattle.play_entries.specs.Entries.{Label}
use Rattle.play_entries.specs.Places.{Tape}
use Rattle.play_entries.specs.Mounted.{WholeTape}
use Rattle.play_walk.specs.declared.Position.{Position}
use Rattle.play_walk.specs.declared.Reached.{Reached}
use Rattle.play_walk.specs.Heads.{ahead, ended_in, told_reached}
use Rattle.play_deck.specs.Deck.{valid_at}
use Rattle.play_deck.specs.Calls.{position_in, run_calls, run_sources, outcome_in}
use Rattle.play_deck.proofs.Answers.{told-ended}
use Rattle.play_deck.proofs.Plays.{play_place, calls-told, cut_at_will}
use Rattle.play_deck.proofs.Sources.{sources-told, sources_place}

abbrev outcome : List (Entry Label) → Bool → Outcome Label
outcome es b = record { place = es; done = b }

module _ (w : Tape) (whole : WholeTape w) (q : Position) (n : ℕ) (ms : List ℕ) (v : valid_at w q ≡ true) (p : 0 < n)
    (h : Positive ms) where
  calls_place : ahead w (position_in q (run_calls w q n ms)) ≡ (calls (ahead w q) n ms).place
  unfolding answer
  calls_place =
      ap (λ (r : Result Reached Fault). ahead w (position_in q r)) (cut_at_will w whole q n ms v p h)
      ∙ (play_place w whole q (n + sum ms) v (omega arith)).0
      ∙ sym (ap (λ (a : Answer Label). a.place) (any_cut (ahead w q) n ms h))

  calls-ended : ended_in (run_calls w q n ms) ≡ is_ended (calls (ahead w q) n ms).tells
  unfolding told_reached
  calls-ended = ap ended_in (calls-told w whole q n ms v p h) ∙ told-ended (calls (ahead w q) n ms).tells _

  calls_outcome : outcome_in w q (run_calls w q n ms) ≡ heard (calls (ahead w q) n ms)
  unfolding outcome_in heard
  calls_outcome = ap₂ outcome calls_place calls-ended

  sources_outcome : outcome_in w q (run_sources w q n ms) ≡ sources (ahead w q) n ms
  unfolding outcome_in
  sources_outcome = ap₂ outcome (sources_place w whole q q n ms v p h) (sources-told w whole q n ms v p h)

  -- THE PLAYERS AGREE: calls of 1 or more, each below every finite duration but 0 behind the head, from one position
  pub players_agree : ShortCalls (ahead w q) (n ∷ ms) → Agrees (outcome_in w q (run_sources w q n ms)) (outcome_in w q (run_calls w q n ms))
  players_agree s = rw (sources_outcome, calls_outcome) (agrees_short (ahead w q) n ms s)
