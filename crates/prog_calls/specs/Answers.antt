-- A ROW OF A RUN READ BACK: the answer that its words say, and where that leaves the head. Definitions alone; assumes nothing.
use Rattle.std.specs.Prelude.{[], ◌∷◌, eqb, Option, Some, None, Result}
use Rattle.law_base.specs.Rules.{◌⇒◌, ◌∣◌}
use Rattle.play_walk.specs.declared.Position.{Position}
use Rattle.play_walk.specs.declared.Stand.{Stand}
use Rattle.play_walk.specs.declared.Reached.{Reached}
use Rattle.play_walk.specs.declared.How.TheVariants.{At, Stopped, Ended}
use Rattle.play_walk.specs.declared.Fault.{Fault}
use Rattle.play_walk.specs.Heads.{start_at, stand, came, not_reached}
use Rattle.host_words.specs.Words.{position_from}
use Rattle.host_run.specs.declared.AnswerRow.{AnswerRow}

-- the position that words name; no row of a run names none
unfoldable pub or_start : Option Position → Position
or_start (Some q) = q
or_start None = start_at 0

unfoldable pub place_in : AnswerRow → Position
place_in a = or_start (position_from (a.block ∷ a.phase ∷ a.item ∷ a.part ∷ a.half ∷ a.endless ∷ a.left ∷ []))

abbrev pub stand_in : AnswerRow → Stand
stand_in a = stand (place_in a) a.passed (eqb a.level 1)

unfoldable pub reached_in : AnswerRow → Result Reached Fault
reached_in a =
    eqb a.how 0 ⇒ came At (stand_in a)
    ∣ eqb a.how 1 ⇒ came Stopped (stand_in a)
    ∣ eqb a.how 2 ⇒ came Ended (stand_in a)
    ∣ not_reached a.how
