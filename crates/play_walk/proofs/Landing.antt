-- WHERE A CALL LEAVES THE HEAD inside a block, the next call may go on without judging. Assumes nothing.
use Prim.Native.Nat.{ℕ}
use native.Mathlib.Omega.{arith}
use mathlib.Core.Path.{◌≡◌, refl, sym, ap, subst}
use mathlib.Core.Bool.{Bool, true, false}
use lib.Dec.{eqb}
use Rattle.law_base.specs.Rules.{◌⇒◌, ◌∣◌}
use Rattle.law_pulses.specs.Play.{Level}
use Rattle.play_entries.specs.Places.{Tape, level_in}
use Rattle.play_entries.specs.Mounted.{well_row}
use Rattle.play_walk.specs.declared.Position.{Position}
use Rattle.play_walk.specs.declared.Reached.{Reached}
use Rattle.std.specs.Prelude.{Result, Some}
use Rattle.play_walk.specs.declared.How.{How}
use Rattle.play_walk.specs.declared.Fault.{Fault}
use Rattle.play_walk.specs.Heads.{start_at, stand, rest_level, next_of, Walkable, Landed, Lands, came}
use Rattle.play_walk.proofs.Turns.{left_by}

-- it stands there, at its level
pub lands_there : (w : Tape) (q : Position) (p : ℕ) → Walkable w q → Landed w (stand q p (level_in w q.block q.phase))
lands_there w q p a = λ e. record { there = a; level = refl }

pub lands_here : (w : Tape) (q : Position) (p : ℕ) {h : How} {r : Result Reached Fault}
    → r ≡ came h (stand q p (level_in w q.block q.phase)) → Walkable w q → Lands w r
unfolding Lands
lands_here w q p e a = subst (Lands w) (sym e) (lands_there w q p a)

never : true ≡ false → ⊥
never e = let y : ◌≡◌ {A = ℕ} 0 1 = ap (λ (t : Bool). t ⇒ 0 ∣ 1) e in absurd (omega arith)

-- a start is not inside
pub lands_start : (w : Tape) (b p : ℕ) (v : Level) → Landed w (stand (start_at b) p v)
lands_start w b p v = λ e. absurd (never e)

pub lands_ended : (w : Tape) (b p : ℕ) (v : Level) {h : How} {r : Result Reached Fault} → r ≡ came h (stand (start_at b) p v) → Lands w r
unfolding Lands
lands_ended w b p v e = subst (Lands w) (sym e) (lands_start w b p v)

-- behind a block
pub lands_next : (w : Tape) (b d i : ℕ) (r : Result Reached Fault) → next_of w b d i ≡ Some r → Lands w r
unfolding next_of Lands
lands_next w b d i r e =
    left_by (Lands w) (eqb d 0) (eqb b w.count) (well_row w b) _ _ _ r e
    (λ z. lands_start w b i (rest_level w b))
    (λ z q. lands_start w w.count i false)
    (λ z q f. tt)
