-- Which player a call is of. Assumes nothing.
use Prim.Native.Nat.{ℕ}
use mathlib.Core.Path.{◌≡◌}
use mathlib.Core.Bool.{Bool, true, false}
use Rattle.play_entries.specs.Places.{Tape}
use Rattle.play_walk.specs.declared.Position.{Position}
use Rattle.play_deck.specs.Deck.{play_measured, play_source}
use Rattle.host_run.specs.Runs.{player_of}

pub by_measured : (measured : Bool) (w : Tape) (pos : Position) (n : ℕ) → measured ≡ true
    → player_of measured w pos n ≡ play_measured w pos n
unfolding player_of
by_measured measured w pos n e = rw e

pub by_source : (measured : Bool) (w : Tape) (pos : Position) (n : ℕ) → measured ≡ false
    → player_of measured w pos n ≡ play_source w pos n
unfolding player_of
by_source measured w pos n e = rw e
