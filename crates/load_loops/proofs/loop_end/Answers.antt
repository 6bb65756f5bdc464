-- `loop_end` meets its contract. Assumes nothing.
use Rattle.std.specs.Prelude.{Option}
use Rattle.load_state.specs.declared.Body.{Body}
use Rattle.load_state.proofs.Laws.{holds_loop}
use Rattle.load_state.specs.Holds.{block_room, goes}
use Rattle.load_state.specs.Parser.{on, closed, close_loop}
use mathlib.Core.Path.{◌≡◌, refl, sym, ap, ◌∙◌}
use Rattle.load_loops.proofs.loop_end.Goals as goal

pub returns-in-None : goal.returns-in-None
unfolding close_loop closed
returns-in-None c =
    λ B N tt t h.
    let q : closed (block_room B) t.body t ≡ on t =
    ap (λ (l : Option Body). closed (block_room B) l t) (sym h.loops ∙ c.in-None.is) in
    rw q (goes h)

pub returns-in-Some : goal.returns-in-Some
unfolding close_loop closed
returns-in-Some c = λ B N tt t h. rw (← h.loops, c.in-Some.is) (c.repeat.ensures B N tt _ (holds_loop h refl))
