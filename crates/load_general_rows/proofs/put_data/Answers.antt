-- `put_data` meets its contract. Assumes nothing.
use Rattle.std.proofs.Common.{rules, arith, ◌/◌}
use Rattle.load_general.proofs.Parts.{data_ready, singles_sorted, pairs_sorted, sorted_tones, sorted_count, given_each}
use Rattle.load_general.proofs.Symbols.{data_inside}
use Rattle.load_general.specs.General.{single_row, pair_row}
use Rattle.load_general_rows.proofs.put_data.Goals as goal

pub read_alphabet-requires : goal.read_alphabet-requires
read_alphabet-requires c =
    let p = c.args.p.now in
    let r = data_ready p.tape.now p.g c.requires.0 in
    (omega arith, r.1, data_inside p.tape.now p.g (search rules) r.0)

pub put_rows-requires-clause-fits : goal.put_rows-requires-clause-fits
put_rows-requires-clause-fits c =
    let p = c.args.p.now in
    sorted_count (singles_sorted p.tape.now p.g c.requires.0 c.if-p-eq2.true) c.requires.0 c.requires.1

pub put_rows-requires-clause-given : goal.put_rows-requires-clause-given
put_rows-requires-clause-given c =
    λ i h.
    let p = c.args.p.now in
    let o = singles_sorted p.tape.now p.g c.requires.0 c.if-p-eq2.true in
    let r = o.ready in
    let e = given_each (single_row p.tape.now p.g) p.g.totd i (sorted_tones o c.requires.0) h in
    search rules

pub returns-then-p-eq2 : goal.returns-then-p-eq2
returns-then-p-eq2 c =
    let p = c.args.p.now in
    let o = singles_sorted p.tape.now p.g c.requires.0 c.if-p-eq2.true in
    rw o.rows (c.put_rows.ensures (single_row p.tape.now p.g) (λ i t h k. search rules) (sorted_tones o c.requires.0))

pub put_rows-requires-else-p-eq2-clause-fits : goal.put_rows-requires-else-p-eq2-clause-fits
put_rows-requires-else-p-eq2-clause-fits c =
    let p = c.args.p.now in
    rw c.pairs_of.ensures (sorted_count (pairs_sorted p.tape.now p.g c.requires.0 c.if-p-eq2.false) c.requires.0 c.requires.1)

pub put_rows-requires-else-p-eq2-clause-given : goal.put_rows-requires-else-p-eq2-clause-given
put_rows-requires-else-p-eq2-clause-given c =
    λ i h.
    let p = c.args.p.now in
    let o = pairs_sorted p.tape.now p.g c.requires.0 c.if-p-eq2.false in
    let r = o.ready in
    let l = rw c.pairs_of.ensures at h in
    let e = given_each (pair_row p.tape.now p.g) (p.g.totd / 2) i (sorted_tones o c.requires.0) l in
    search rules

pub returns-else-p-eq2 : goal.returns-else-p-eq2
returns-else-p-eq2 c =
    let p = c.args.p.now in
    let o = pairs_sorted p.tape.now p.g c.requires.0 c.if-p-eq2.false in
    rw o.rows ((rw c.pairs_of.ensures at c.put_rows-else-p-eq2.ensures) (pair_row p.tape.now p.g) (λ i t h k. search rules) (sorted_tones o c.requires.0))
