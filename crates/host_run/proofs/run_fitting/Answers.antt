-- `run_fitting` meets its contract. Assumes nothing.
use Rattle.host_run.proofs.Runs.{no_room_lem, room}
use native.Mathlib.Omega.{arith}
use mathlib.Core.Path.{sym}
use Rattle.host_run.proofs.run_fitting.Goals as goal

pub returns-then-answers-counts : goal.returns-then-answers-counts
returns-then-answers-counts c =
    let z = no_room_lem c.args.counts.now c.args.answers.now c.if-answers-counts.true in
    record { value = sym z; answers_after = rw z }

pub returns : goal.returns
returns c =
    let z = room c.args.counts.now c.args.answers.now (omega arith) in
    record { value = sym z; answers_after = rw z c.run.ensures }
