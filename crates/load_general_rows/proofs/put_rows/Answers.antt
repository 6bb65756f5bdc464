-- `put_rows` meets its contract: with the rows from i on put, the table is what it is to become. Assumes nothing.
use Rattle.std.proofs.Common.{rules, arith, ◌≡◌}
use Rattle.load_general.proofs.Loops.{writing_on, writing_over}
use Rattle.load_general_rows.proofs.put_rows.Goals as goal

pub loop-i-preserved : goal.loop-i-preserved
loop-i-preserved g c =
    λ rows h e.
    rw c.put_row.ensures (writing_on rows c.args.n c.args.used c.args.tones.now c.loop-i.tones c.loop-i.i (omega arith)
    (c.loop-i.invariant rows h e) _ (h c.loop-i.i _ (omega arith) (search rules)))

pub returns : goal.returns
returns g c =
    λ rows h e.
    let q : c.loop-i.i ≡ c.args.n = omega arith in
    writing_over rows c.args.n c.args.used c.args.tones.now c.loop-i.tones (rw q at (c.loop-i.invariant rows h e))
