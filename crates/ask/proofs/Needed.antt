-- THE ROWS THAT THE LOADING TIME NEEDS, one by one: a row that is not well formed, a stop, another row, and none left. Assumes nothing.
use Prim.Native.Nat.{ℕ, zero, suc, ◌+◌}
use native.Mathlib.Omega.{arith}
use mathlib.Core.Path.{◌≡◌, refl}
use mathlib.Core.Bool.{true, false, or-true}
use lib.Dec.{eqb}
use Rattle.play_entries.specs.Places.{Tape, block_in}
use Rattle.play_entries.specs.Mounted.{well_row, WholeTape}
use Rattle.ask.specs.Queries.{well_to_stop}

pub need_none : (w : Tape) (b : ℕ) → well_to_stop w b 0 ≡ true
unfolding well_to_stop
need_none w b = refl

module _ (w : Tape) (b n : ℕ) where
  pub need_bad : well_row w b ≡ false → well_to_stop w b (suc n) ≡ false
  unfolding well_to_stop
  need_bad e = rw e

  pub need_stop : well_row w b ≡ true → eqb (block_in w b).endless 1 ≡ true → well_to_stop w b (suc n) ≡ true
  unfolding well_to_stop
  need_stop e f = rw (e, f)

  pub need_on : well_row w b ≡ true → eqb (block_in w b).endless 1 ≡ false → well_to_stop w (b + 1) n ≡ well_to_stop w b (suc n)
  unfolding well_to_stop
  need_on e f = rw (e, f)

-- on a whole tape nothing is wanting
pub need_whole : (w : Tape) → WholeTape w → (b n : ℕ) → b + n ≡ w.count → well_to_stop w b n ≡ true
unfolding well_to_stop
need_whole w whole b zero e = refl
need_whole w whole b (suc n) e =
    rw (whole.rows b (omega arith), need_whole w whole (b + 1) n (omega arith)) (or-true (eqb (block_in w b).endless 1))
