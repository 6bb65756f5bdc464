-- `stop_on_48` meets its contract. Assumes nothing.
use borrow.Author.Tests.{eq-eqb, ne_eqb}
use native.Mathlib.Omega.{arith}
use Rattle.load_state.specs.Holds.{goes, refuses}
use Rattle.load_blocks.specs.Deeds.{does, stop48_deed}
use Rattle.load_stops.proofs.stop_on_48.Goals as goal

pub returns-then-length-ne0 : goal.returns-then-length-ne0
unfolding does stop48_deed
returns-then-length-ne0 c = λ tape tt B N t h. rw (ne_eqb c.args.length 0 (λ e. omega arith)) refuses

pub returns : goal.returns
unfolding does stop48_deed
returns c =
    let a = c.args in
    λ tape tt B N t h. rw (eq-eqb a.length 0 (omega arith), ne_eqb a.model 0 (λ e. omega arith)) (goes h)
