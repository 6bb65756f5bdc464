-- `go_inside` meets its contract. Assumes nothing.
use Rattle.host_run.proofs.Runs.{inside_few, gone_inside}
use Rattle.play_entries.specs.Mounted.{mounted_tape}
use Rattle.play_entries.specs.declared.Duration.TheVariants.{T}
use Rattle.play_walk.specs.Heads.{placed}
use mathlib.Core.Path.{refl, ap}
use Prim.Native.Nat.{ℕ}
use lib.ListN.{drop, length-drop}
use native.Mathlib.Omega.{arith}
use Rattle.host_run.proofs.go_inside.Goals as goal

pub returns : goal.returns
returns c =
    let a = c.args in
    let w = mounted_tape a.m.now in
    let few = inside_few c.stand_row.result c.stand_row.result.left (drop a.g.next a.counts.now) in
    let all = length-drop a.g.next a.counts.now in
    let y = gone_inside a.measured w a.counts.now a.answers.now a.g a.t c.requires.known a.a c.requires.finding_value.0 c.requires.finding_value.1
    c.stand_row.result c.stand_row.ensures _ (ap (λ (u : ℕ). placed a.g.position.block a.g.position.phase (T u)) c.run_inside-ran.ensures.left_value) refl
    c.run_inside-ran.ensures.next_value _ c.run_inside-ran.ensures.answers_after in
    record { known_2 = y.0; next_le_next = (omega (arith, c.run_inside-ran.ensures.next_value), omega (arith, c.run_inside-ran.ensures.next_value, c.requires.holds_rows)); result_after = y.1; answers_len_unchanged = c.run_inside-ran.ensures.answers_len_unchanged }
