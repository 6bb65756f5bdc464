-- What rules 7, 8 and 31 say of playing a whole tape, where no definition has it yet. Definitions alone; assumes nothing.
use Rattle.std.specs.Prelude.{ℕ, ◌≡◌, true, false, ◌↔◌, List, [], ◌∷◌}
use Rattle.refusals.specs.Refusals.{no_position, bad_row}
use Rattle.law_pulses.specs.Play.{Entry, answer}
use Rattle.law_pulses.specs.Source.{Below}
use Rattle.play_entries.specs.Entries.{Label}
use Rattle.play_entries.specs.Places.{Tape, list_from}
use Rattle.play_walk.specs.declared.Position.{Position}
use Rattle.play_walk.specs.Heads.{position_of, told_reached}
use Rattle.play_deck.specs.declared.Head.{Head}
use Rattle.play_deck.specs.declared.Played.{Played}
use Rattle.play_deck.specs.Deck.{valid_at, play_mounted}

-- each of these counts is below every nonzero finite duration on the tape: on its whole list, wherever the head stands
unfoldable pub Under : Tape → List ℕ → Type 0
Under w [] = Unit
Under w (n ∷ ns) = Below (list_from w 0) n × Under w ns

-- calls of the mounted head one after the other: each head and each answer, in order
unfoldable pub play_heads : Tape → Head → List ℕ → List Played
play_heads w h [] = []
play_heads w h (n ∷ ns) = play_mounted w h n ∷ play_heads w (play_mounted w h n).head ns

-- the same calls over a list: each answer as a player tells it, and the head where that answer stands
abbrev pub told_head : Tape → List (Entry Label) → ℕ → Played
told_head w es n = record { head = record { position = position_of w (answer es n).place }; answer = told_reached w w (answer es n) }

unfoldable pub told_heads : Tape → List (Entry Label) → List ℕ → List Played
told_heads w es [] = []
told_heads w es (n ∷ ns) = told_head w es n ∷ told_heads w (answer es n).place ns

-- the number of an answer about a position is never 11; it is 9 exactly where the position is not valid; otherwise nothing is refused
pub record PlayNumbered (w : Tape) (q : Position) (number : ℕ) : Type 0 where
  pub never_11 : number ≡ bad_row → ⊥
  pub only_9 : (number ≡ no_position) ↔ (valid_at w q ≡ false)
  pub else_none : valid_at w q ≡ true → number ≡ 0
