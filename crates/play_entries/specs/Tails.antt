-- What theorems of positions say: where a position stands in the tape's list, which lists are left to play, and their levels.
-- Definitions alone; assumes nothing.
use Rattle.std.specs.Prelude.{ℕ, ◌≡◌, List, [], ◌∷◌, ◌++◌, true}
use Rattle.law_pulses.specs.Play.{Entry, pulse, endless, Finite}
use Rattle.play_entries.specs.declared.Phase.{Phase}
use Rattle.play_entries.specs.declared.Duration.{Duration}
use Rattle.play_entries.specs.Entries.{Label, label_at, entry_of}
use Rattle.play_entries.specs.Places.{Tape, level_in, list_from, left_at, length_in, valid, head_of, left_of}

-- es comes to ys behind entries that all end
pub record LeadsInto (es ys : List (Entry Label)) : Type 0 where
  pub gone : List (Entry Label)
  pub finite : Finite gone
  pub whole : es ≡ gone ++ ys

-- a position's entry in the list from its block on, and what is left there
pub record PartAt (w : Tape) (b : ℕ) (f : Phase) (left : Duration) : Type 0 where
  pub next : List (Entry Label)
  pub entry : LeadsInto (list_from w b) (entry_of (label_at b f) (level_in w b f) (length_in w b f) ∷ next)
  pub rest : left_at w b f left ≡ entry_of (label_at b f) (level_in w b f) left ∷ next

-- es is what is left to play from the position at its head, and that position is valid
pub record Tail (w : Tape) (es : List (Entry Label)) : Type 0 where
  pub ahead : left_at w (head_of w es).block (head_of w es).phase (left_of es) ≡ es
  pub stands : valid w (head_of w es).block (head_of w es).phase (left_of es) ≡ true

-- each entry has the level of its block and phase
module _ (w : Tape) where
  unfoldable pub Levels : List (Entry Label) → Type 0
  Levels [] = Unit
  Levels (pulse a v t ∷ es) = (v ≡ level_in w a.block a.phase) × Levels es
  Levels (endless a v ∷ es) = (v ≡ level_in w a.block a.phase) × Levels es
