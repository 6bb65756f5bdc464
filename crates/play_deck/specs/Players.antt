-- Both players by what they come to from a fine position, which the trait `Player` asks; each by its definition. Assumes nothing.
use Rattle.std.specs.Prelude.{ℕ, ◌≡◌, refl}
use Rattle.play_entries.specs.Places.{Tape}
use Rattle.play_walk.specs.declared.Position.{Position}
use Rattle.play_walk.specs.Heads.{walk_from}
use Rattle.play_deck.specs.Deck.{source_from, answered_by, play_measured, play_source}

pub measured_by : (w : Tape) (q : Position) (n : ℕ) → play_measured w q n ≡ answered_by walk_from w q n
unfolding play_measured
measured_by w q n = refl

pub source_by : (w : Tape) (q : Position) (n : ℕ) → play_source w q n ≡ answered_by source_from w q n
unfolding play_source
source_by w q n = refl
