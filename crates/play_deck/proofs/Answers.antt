-- WHAT AN ANSWER HOLDS: where it leaves the head, the entries it counts, its level, whether it is the end; one answer is permitted.
-- Assumes nothing.
use Prim.Native.Nat.{ℕ}
use mathlib.Core.Path.{◌≡◌, refl}
use Rattle.law_pulses.specs.Play.{Status, standing, stopped, ended, Answer, counted_on}
use Rattle.law_pulses.specs.Source.{is_ended}
use Rattle.play_entries.specs.Entries.{Label}
use Rattle.play_entries.specs.Places.{Tape}
use Rattle.play_walk.specs.declared.Position.{Position}
use Rattle.play_walk.specs.declared.Stand.{Stand}
use Rattle.play_walk.specs.Heads.{level_here, rest_level, told_as, told_reached, ended_in}
use Rattle.play_deck.specs.Calls.{position_in, passed_in, passed_more, counting, answer_level}

pub told-position : (q : Position) (st : Status) (s : Stand) → position_in q (told_as st s) ≡ s.position
unfolding told_as position_in
told-position q standing s = refl
told-position q stopped s = refl
told-position q ended s = refl

pub told_passed : (st : Status) (s : Stand) → passed_in (told_as st s) ≡ s.passed
unfolding told_as passed_in
told_passed standing s = refl
told_passed stopped s = refl
told_passed ended s = refl

pub told-counted : (j : ℕ) (st : Status) (s : Stand) → counting j (told_as st s) ≡ told_as st (passed_more j s)
unfolding told_as counting
told-counted j standing s = refl
told-counted j stopped s = refl
told-counted j ended s = refl

pub passed_of : (w v : Tape) (a : Answer Label) → passed_in (told_reached w v a) ≡ a.passed
unfolding told_reached
passed_of w v a = told_passed a.tells _

pub counted-told : (w v : Tape) (j : ℕ) (a : Answer Label) → counting j (told_reached w v a) ≡ told_reached w v (counted_on j a)
unfolding told_reached counted_on
counted-told w v j a = told-counted j a.tells _

pub told_level : (st : Status) (s : Stand) → answer_level (told_as st s) ≡ s.level
unfolding told_as answer_level
told_level standing s = refl
told_level stopped s = refl
told_level ended s = refl

pub level_told : (w v : Tape) (a : Answer Label) → answer_level (told_reached w v a) ≡ level_here (rest_level w v.count) a.place
unfolding told_reached
level_told w v a = told_level a.tells _

pub told-ended : (st : Status) (s : Stand) → ended_in (told_as st s) ≡ is_ended st
unfolding told_as ended_in
told-ended standing s = refl
told-ended stopped s = refl
told-ended ended s = refl
