-- `pulse_blocks` meets its contract. Assumes nothing.
use Prim.Native.Nat.{ℕ, ◌+◌, ◌-◌, ◌*◌}
use mathlib.Core.Path.{◌≡◌, ap}
use native.Mathlib.Omega.{arith}
use Rattle.rows.specs.declared.Block.{Block}
use Rattle.load_state.proofs.Laws.{going_on, going_no, going_ends}
use Rattle.load_blocks.specs.Sounds.{add_sound, add_sounds}
use Rattle.load_blocks.specs.Blocks.{tone_sound, pair_sound, pair_sounds}
use Rattle.load_blocks.specs.Does.{lent_of}
use Rattle.load_blocks.proofs.Laws.{does_born, one_alone, pairs_more}
use Rattle.load_pulsed.proofs.pulse_blocks.Goals as goal

-- a row without data
abbrev size : Block → ℕ
size r = r.size

pub loop-i-init : goal.loop-i-init
loop-i-init c =
    let a = c.args in
    λ B N t h.
    let z : a.n - 0 ≡ a.n = omega arith in
    let same = ap (λ (n : ℕ). add_sounds (lent_of B N) a.tape.now a.origin (pair_sounds a.tape.now a.from 0 n) t) z in
    record { at = t; known = tt; holds = h; same = same }

pub returns-in_err-s : goal.returns-in_err-s
returns-in_err-s c =
    λ B N t h.
    let a = c.args in
    let i = c.loop-i.i in
    let g = c.loop-i.invariant B N t h in
    let f = add_sound (lent_of B N) a.tape.now a.origin (pair_sound a.tape.now a.from (2 * i)) in
    let born = does_born a.tape.now a.origin (tone_sound _) c.bare_row-r.ensures
    (one_alone a.tape.now _ _ (ap size c.bare_row-r.ensures) c.tone_figure-sound.ensures.value
    c.with_sound.ensures) c.add_rows.ensures in
    let told = rw (c.pulse_at.ensures, c.pulse_at-in-loop-i.ensures) at born in
    going_no g f (add_sounds (lent_of B N) a.tape.now a.origin (pair_sounds a.tape.now a.from (2 * (i + 1)) (a.n - (i + 1))))
    (pairs_more (lent_of B N) a.origin a.tape.now a.from a.n i g.at (omega arith)) (told B N g.at g.holds) c.in_err-s.was
    c.from_residual.ensures.1

pub loop-i-preserved : goal.loop-i-preserved
loop-i-preserved c =
    λ B N t h.
    let a = c.args in
    let i = c.loop-i.i in
    let g = c.loop-i.invariant B N t h in
    let f = add_sound (lent_of B N) a.tape.now a.origin (pair_sound a.tape.now a.from (2 * i)) in
    let born = does_born a.tape.now a.origin (tone_sound _) c.bare_row-r.ensures
    (one_alone a.tape.now _ _ (ap size c.bare_row-r.ensures) c.tone_figure-sound.ensures.value
    c.with_sound.ensures) c.add_rows.ensures in
    let told = rw (c.pulse_at.ensures, c.pulse_at-in-loop-i.ensures) at born in
    going_on g f (add_sounds (lent_of B N) a.tape.now a.origin (pair_sounds a.tape.now a.from (2 * (i + 1)) (a.n - (i + 1))))
    (pairs_more (lent_of B N) a.origin a.tape.now a.from a.n i g.at (omega arith)) (told B N g.at g.holds) c.in_ok-s.was
    (λ u q. tt)

pub returns : goal.returns
unfolding add_sounds pair_sounds
returns c =
    λ B N t h.
    let z : c.args.n - c.loop-i.i ≡ 0 = omega arith in
    going_ends (c.loop-i.invariant B N t h) (rw z)
