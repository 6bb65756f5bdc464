-- `first` meets its contract: each return is one rule. Assumes nothing.
use native.Mathlib.Omega.{arith}
use Rattle.dump.specs.Dumped.{FirstHeard, FirstRefused}
use Rattle.dump.proofs.Hearing.{first-none, first_long, first_tape}
use Rattle.dump.proofs.first.Goals as goal

pub returns-then-input-eq0 : goal.returns-then-input-eq0
unfolding FirstHeard FirstRefused
returns-then-input-eq0 c =
    first-none c.args.input.now c.requires.blocks_len.0 c.requires.blocks_len.1 (omega arith) c.refuse.ensures

pub returns-then-tape-gt65535 : goal.returns-then-tape-gt65535
unfolding FirstHeard FirstRefused
returns-then-tape-gt65535 c =
    first_long c.args.input.now c.requires.blocks_len.0 c.requires.blocks_len.1 (omega arith) c.model_of-model.ensures (omega arith)
    (omega arith) c.refuse-then-tape-gt65535.ensures

pub returns : goal.returns
unfolding FirstHeard
returns c =
    first_tape c.args.input.now c.requires.blocks_len.0 c.requires.blocks_len.1 (omega arith) c.model_of-model.ensures (omega arith)
    (omega arith) c.begin.ensures
