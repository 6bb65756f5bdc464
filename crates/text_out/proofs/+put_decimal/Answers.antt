-- `put_decimal` meets its contract: the digits of n / 10, then the last one. Assumes nothing.
use native.Mathlib.Omega.{arith}
use Prim.Native.Nat.{◌/◌}
use Rattle.text_out.proofs.Writing.{decimal-length, decimal_one, decimal_more, wrote_then}
use Rattle.text_out.proofs.+put_decimal.Goals as goal

pub returns-then-n-lt10 : goal.returns-then-n-lt10
returns-then-n-lt10 t c = rw (decimal_one c.args.n (omega arith)) c.put.ensures

pub put-requires-2 : goal.put-requires-2
put-requires-2 t c = omega (arith, c.put_decimal-next.ensures.count, decimal-length (c.args.n / 10))

pub returns : goal.returns
returns t c = rw (decimal_more c.args.n (omega arith) (omega arith)) (wrote_then c.put_decimal-next.ensures c.put-2.ensures)
