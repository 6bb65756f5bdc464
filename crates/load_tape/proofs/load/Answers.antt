-- `load` meets its contract. Assumes nothing.
use mathlib.Core.Path.{ap}
use lib.ListN.{length}
use Rattle.std.proofs.lemmas.Result.{err_from_is_err_and}
use Rattle.load_blocks.specs.Does.{lent_of}
use Rattle.load_source.specs.Source.{load_of}
use Rattle.load_tape.specs.Load.{load_named}
use Rattle.load_tape.proofs.Naming.{is_tape, named_room, named-leaves, named_refusal}
use native.Mathlib.Omega.{arith}
use Rattle.load_tape.proofs.load.Goals as goal

pub name_blocks-requires : goal.name_blocks-requires
name_blocks-requires c =
    let a = c.args in
    let l = load_of (lent_of (length a.blocks.now) (length a.tones.now)) a.tape.now a.model in
    omega (arith, named_room l c.read.ensures c.in_ok-loaded.was)

pub returns-in_err-loaded : goal.returns-in_err-loaded
unfolding load_named
returns-in_err-loaded c =
    let a = c.args in
    let l = load_of (lent_of (length a.blocks.now) (length a.tones.now)) a.tape.now a.model in
    let p = err_from_is_err_and c.from_residual.result c.from_residual.ensures.1 in
    rw (p.1, p.2, ← c.in_err-loaded.was) (named_refusal a.tape.now l c.read.ensures (ap is_tape c.in_err-loaded.was))

pub returns : goal.returns
unfolding load_named
returns c =
    let a = c.args in
    let l = load_of (lent_of (length a.blocks.now) (length a.tones.now)) a.tape.now a.model in
    named-leaves a.tape.now l c.read.ensures c.in_ok-loaded.was c.name_blocks.ensures
