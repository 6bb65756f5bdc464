-- `pause_last` meets its contract. Assumes nothing.
use Rattle.load_state.proofs.Adds.{last_none, table-paused}
use lib.ListN.{length}
use mathlib.Core.Path.{◌≡◌}
use native.Mathlib.Omega.{arith}
use Prim.Native.Nat.{suc, ◌-◌}
use Rattle.load_groups.proofs.pause_last.Goals as goal

pub returns-then-n-eq0 : goal.returns-then-n-eq0
returns-then-n-eq0 c =
    λ B rs len k room e.
    let z : 0 ≡ length rs = omega arith in
    rw (last_none rs z) e

pub returns-then-i-capacity : goal.returns-then-i-capacity
returns-then-i-capacity c =
    λ B rs len k room e.
    let n = c.args.n in
    let q : length rs ≡ suc (n - 1) = omega arith in
    table-paused c.row_at.result rs B (n - 1) q e (rw (c.paused.ensures, c.row_at.ensures) at c.put_row.ensures)

pub returns-else-i-capacity : goal.returns-else-i-capacity
returns-else-i-capacity c = λ B rs len k room e. absurd (omega arith)
