-- `line` meets its contract: the row that the load left is ready, and its line is the dump's. Assumes nothing.
use native.Mathlib.Omega.{arith}
use Rattle.dump.proofs.Hearing.{line_heard, part_short, part_ready, part_told}
use Rattle.dump.proofs.line.Goals as goal

pub slice_bounds-block_line-count : goal.slice_bounds-block_line-count
slice_bounds-block_line-count c =
    let a = c.args in
    let f = line_heard a.input.now a.i (λ j. (c.type_inv.input j).fits) c.requires.dumping c.requires.i_in_bounds in
    omega (arith, f.some)

pub slice_bounds-block_line-start : goal.slice_bounds-block_line-start
slice_bounds-block_line-start c =
    let a = c.args in
    let f = line_heard a.input.now a.i (λ j. (c.type_inv.input j).fits) c.requires.dumping c.requires.i_in_bounds in
    omega (arith, f.some)

pub block_line-requires : goal.block_line-requires
block_line-requires c =
    let a = c.args in
    let f = line_heard a.input.now a.i (λ j. (c.type_inv.input j).fits) c.requires.dumping c.requires.i_in_bounds in record { ready_line = part_ready a.input.now a.i f; tones_in_bounds = omega (arith, c.requires.tones_len, part_short a.input.now a.i f) }

pub returns : goal.returns
returns c =
    let a = c.args in
    let f = line_heard a.input.now a.i (λ j. (c.type_inv.input j).fits) c.requires.dumping c.requires.i_in_bounds in
    part_told a.input.now a.i f c.block_line.ensures
