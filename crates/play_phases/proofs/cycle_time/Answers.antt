-- `cycle_time` meets its contract. Assumes nothing.
use native.Mathlib.Omega.{arith}
use Rattle.rows.proofs.WellLaws.{tone-most}
use Rattle.play_phases.proofs.cycle_time.Goals as goal

pub overflow_add-result : goal.overflow_add-result
overflow_add-result c = let h = tone-most c.args.t c.requires in omega arith
