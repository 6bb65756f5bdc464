-- `add_tone` meets its contract. Assumes nothing.
use Rattle.load_state.proofs.Adds.{row_full, row_fits, row_adds, holds_tone}
use Rattle.load_state.specs.Holds.{tone_room, goes, refuses}
use Rattle.load_state.specs.Parser.{add_tones}
use Rattle.rows.specs.Rows.{tone, tone_most}
use borrow.Author.Tests.{le-leb, lt-leb}
use lib.ListN.{length}
use native.Mathlib.Omega.{arith}
use Prim.Native.Nat.{◌+◌, ◌≤◌, ◌<◌}
use Rattle.load_state.proofs.add_tone.Goals as goal

pub returns-then-append : goal.returns-then-append
unfolding add_tones
returns-then-append c =
    λ B N bt t h.
    let p = c.args in
    let e = c.if-append.true in
    let k = row_fits tone tone_most p.tones.now t.tones N p.s.tones h.len_t h.nt c.append.ensures.value e in
    let l : length t.tones + 1 ≤ tone_room N = omega arith in
    rw (le-leb _ _ l)
    (goes (holds_tone h p.r k (omega arith) (row_adds tone tone_most p.tones.now t.tones N p.s.tones h.len_t h.nt
    c.append.ensures.value p.r h.is_t c.append.ensures.t_after e)))

pub returns-else-append : goal.returns-else-append
unfolding add_tones
returns-else-append c =
    λ B N bt t h.
    let p = c.args in
    let k : tone_room N < length t.tones + 1 = omega (
      arith,
      row_full tone tone_most p.tones.now t.tones N p.s.tones h.len_t h.nt c.append.ensures.value c.if-append.false,
    ) in
    rw (lt-leb _ _ k) refuses
