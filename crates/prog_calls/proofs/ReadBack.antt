-- A ROW READ BACK says the answer that it was made of, and where that leaves the head. Assumes nothing.
use Prim.Native.Nat.{ℕ}
use mathlib.Core.Path.{◌≡◌, refl, ap, ◌∙◌}
use mathlib.Core.Bool.{Bool, true, false}
use mathlib.Core.List.{[]}
use lib.Dec.{eqb}
use Rattle.play_walk.specs.declared.Position.{Position}
use Rattle.play_walk.specs.declared.Stand.{Stand}
use Rattle.play_walk.specs.declared.Reached.{Reached}
use Rattle.std.specs.Prelude.{Result, Ok, Err}
use Rattle.play_walk.specs.declared.How.{How}
use Rattle.play_walk.specs.declared.How.TheVariants.{At, Stopped, Ended}
use Rattle.play_walk.specs.declared.Fault.{Fault}
use Rattle.play_walk.specs.declared.Fault.TheVariants.{NotValid, NotFormed}
use Rattle.play_walk.specs.Heads.{stand, came}
use Rattle.play_deck.specs.Calls.{position_in, passed_in, answer_level}
use Rattle.host_words.specs.Words.{how_number, flag_of, words_of}
use Rattle.host_words.proofs.Positions.{position-words}
use Rattle.host_run.specs.Rows.{how_of, stand_row, call_row}
use Rattle.prog_calls.specs.Answers.{or_start, place_in, stand_in, reached_in}

level_back : (b : Bool) → eqb (flag_of b) 1 ≡ b
unfolding flag_of
level_back true = refl
level_back false = refl

stand_place : (how : ℕ) (s : Stand) → place_in (stand_row how s) ≡ s.position
unfolding place_in or_start words_of
stand_place how s = ap or_start (position-words.0 s.position [])

stand-back : (how : ℕ) (s : Stand) → stand_in (stand_row how s) ≡ s
stand-back how s =
    ap (λ (q : Position). stand q s.passed (eqb (flag_of s.level) 1)) (stand_place how s)
    ∙ ap (λ (v : Bool). stand s.position s.passed v) (level_back s.level)

came_back : (h : How) (s : Stand) → reached_in (stand_row (how_number h) s) ≡ came h s
unfolding reached_in
came_back At s = ap (came At) (stand-back 0 s)
came_back Stopped s = ap (came Stopped) (stand-back 1 s)
came_back Ended s = ap (came Ended) (stand-back 2 s)

module _ (q : Position) where
  pub place_back : (r : Result Reached Fault) → place_in (call_row q r) ≡ position_in q r
  unfolding call_row
  place_back r = stand_place (how_of r) (stand (position_in q r) (passed_in r) (answer_level r))

  pub reached-back : (r : Result Reached Fault) → reached_in (call_row q r) ≡ r
  unfolding reached_in call_row how_of position_in passed_in answer_level
  reached-back (Ok a) = came_back a.how a.stand
  reached-back (Err NotValid) = refl
  reached-back (Err NotFormed) = refl
