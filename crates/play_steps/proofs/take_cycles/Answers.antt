-- `take_cycles` meets its contract. Assumes nothing.
use Prim.Native.Nat.{ℕ, ◌-◌, ◌*◌, ◌≤◌}
use native.Mathlib.Omega.{arith}
use native.Mathlib.Nat.{mul-le-mul}
use mathlib.Core.Path.{ap, ◌∙◌}
use Rattle.rows.specs.Well.{well_tone}
use Rattle.rows.proofs.WellLaws.{tones-each}
use Rattle.play_entries.specs.Entries.{cycles_of}
use Rattle.play_steps.proofs.Facts as facts
use Rattle.play_steps.proofs.take_cycles.Goals as goal

pub cycle_time-c-requires : goal.cycle_time-c-requires
cycle_time-c-requires c =
    let x = c.args.x.now in
    ap well_tone c.tone-tone.ensures
    ∙ tones-each x.tones.now x.row.tone x.row.tones c.args.i c.requires.row_value c.requires.i_lt_tones.0

pub overflow_add-p : goal.overflow_add-p
overflow_add-p c =
    let a = c.args in
    let x = a.x.now in
    let l = facts.small_of x.tones.now x.row a.i c.tone-tone.result c.tone-tone.ensures c.requires.row_value c.requires.i_lt_tones.0 in
    let k = facts.fit c.cycle_time-c.result (c.cycles_of.result - a.p) a.d c.requires.d_nonzero in
    omega (
      arith,
      c.fits-k.ensures,
      k.most,
      c.cycles_of.ensures,
      ap (cycles_of x.row) c.tone-tone.ensures,
      l.cycles,
      c.requires.i_lt_tones.1,
    )

pub overflow_mul-k : goal.overflow_mul-k
overflow_mul-k c =
    let a = c.args in
    let k = facts.fit c.cycle_time-c.result (c.cycles_of.result - a.p) a.d c.requires.d_nonzero in
    let e = ap (λ (m : ℕ). m * c.cycle_time-c.result) c.fits-k.ensures in
    omega (arith, e, k.before, c.ranges)

pub overflow_mul-k-then-k-gt0 : goal.overflow_mul-k-then-k-gt0
overflow_mul-k-then-k-gt0 c =
    let a = c.args in
    let x = a.x.now in
    let l = facts.small_of x.tones.now x.row a.i c.tone-tone.result c.tone-tone.ensures c.requires.row_value c.requires.i_lt_tones.0 in
    let k = facts.fit c.cycle_time-c.result (c.cycles_of.result - a.p) a.d c.requires.d_nonzero in
    let f : c.fits-k.result ≤ 65535 = omega (arith, c.fits-k.ensures, k.most, c.cycles_of.ensures, l.cycles) in
    let g : c.cycle_pulses-m.result ≤ 2 = omega (arith, c.cycle_pulses-m.ensures, l.pulses) in
    let q : c.fits-k.result * c.cycle_pulses-m.result ≤ 65535 * 2 = mul-le-mul f g in
    omega arith

pub returns-then-k-gt0 : goal.returns-then-k-gt0
returns-then-k-gt0 c =
    let a = c.args in
    let x = a.x.now in
    c.step_to.ensures
    ∙ rw c.cycle_from.ensures
    (facts.takes_run x.tones.now x.row a.i a.p a.t a.d c.tone-tone.result c.cycles_of.result c.cycle_time-c.result
    c.cycle_pulses-m.result c.fits-k.result c.tone-tone.ensures c.cycles_of.ensures c.cycle_time-c.ensures c.fits-k.ensures
    c.cycle_pulses-m.ensures c.if-k-gt0.true)

pub returns : goal.returns
returns c =
    let a = c.args in
    let x = a.x.now in
    c.tone_step.ensures
    ∙ facts.takes_one x.tones.now x.row a.i a.p a.t a.d c.tone-tone.result c.cycles_of.result
    c.cycle_time-c.result 0 c.fits-k.result c.tone-tone.ensures c.cycles_of.ensures c.cycle_time-c.ensures c.fits-k.ensures
    c.if-k-gt0.false
