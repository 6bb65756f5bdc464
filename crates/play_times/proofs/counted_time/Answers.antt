-- `counted_time` meets its contract. Assumes nothing.
use Rattle.std.proofs.Common.{◌-◌, arith}
use Rattle.play_entries.proofs.Bounds.{few}
use Rattle.play_times.proofs.counted_time.Goals as goal

pub overflow_mul-result-2 : goal.overflow_mul-result-2
overflow_mul-result-2 c =
    let g = few c.args.r (c.args.n - c.args.k) c.requires.r_value (omega arith) in
    omega arith
