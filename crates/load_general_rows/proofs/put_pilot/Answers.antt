-- `put_pilot` meets its contract. Assumes nothing.
use Rattle.std.proofs.Common.{rules, arith}
use Rattle.load_general.proofs.Parts.{pilot_sorted, sorted_tones, sorted_count, given_each}
use Rattle.load_general.proofs.Symbols.{pilot_inside}
use Rattle.load_general.specs.Made.{part_tones}
use Rattle.load_general.specs.General.{pilot_of, entry_row}
use Rattle.rows.specs.Table.{put_all}
use borrow.Author.Tests.{eq-eqb}
use Rattle.load_general_rows.proofs.put_pilot.Goals as goal

pub read_alphabet-requires : goal.read_alphabet-requires
read_alphabet-requires c =
    let p = c.args.p.now in
    let o = pilot_sorted p.tape.now p.g c.if-p-gt0.true c.requires.0 in
    (omega arith, o.ready, pilot_inside p.tape.now p.g (search rules) c.if-p-gt0.true)

pub put_rows-requires-clause-fits : goal.put_rows-requires-clause-fits
put_rows-requires-clause-fits c =
    let p = c.args.p.now in
    sorted_count (pilot_sorted p.tape.now p.g c.if-p-gt0.true c.requires.0) c.requires.0 c.requires.1

pub put_rows-requires-clause-given : goal.put_rows-requires-clause-given
put_rows-requires-clause-given c =
    λ i h.
    let p = c.args.p.now in
    let o = pilot_sorted p.tape.now p.g c.if-p-gt0.true c.requires.0 in
    let e = given_each (entry_row p.tape.now p.g) p.g.totp i (sorted_tones o c.requires.0) h in
    search rules

pub returns-then-p-gt0 : goal.returns-then-p-gt0
returns-then-p-gt0 c =
    let p = c.args.p.now in
    let o = pilot_sorted p.tape.now p.g c.if-p-gt0.true c.requires.0 in
    rw o.rows (c.put_rows.ensures (entry_row p.tape.now p.g) (λ i t h k. search rules) (sorted_tones o c.requires.0))

pub returns-else-p-gt0 : goal.returns-else-p-gt0
unfolding pilot_of part_tones put_all
returns-else-p-gt0 c = rw (eq-eqb c.args.p.now.g.totp 0 (omega arith))
