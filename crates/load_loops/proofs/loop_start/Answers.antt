-- `loop_start` meets its contract. Assumes nothing.
use Rattle.load_state.proofs.Laws.{holds_loop}
use Rattle.load_state.specs.Parser.{open_loop}
use Rattle.load_state.specs.Holds.{goes}
use Rattle.load_loops.proofs.loop_start.Goals as goal

pub returns : goal.returns
unfolding open_loop
returns c = λ B N bt tt t h. goes (holds_loop h (rw (h.nb, h.loops) at c.or.ensures))
