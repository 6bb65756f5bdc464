-- `add_rows` meets its contract. Assumes nothing.
use Prim.Native.Nat.{◌+◌}
use mathlib.Core.List.{[], ◌∷◌}
use native.Mathlib.Omega.{arith}
use lib.ListN.{get_or, drop}
use Rattle.load_general.specs.General.{plain_tone}
use Rattle.load_state.specs.Holds.{tone_room}
use Rattle.load_state.specs.Parser.{add_tones}
use Rattle.load_state.proofs.Laws.{going_starts, going_on, going_no}
use Rattle.load_blocks.specs.Adds.{add_rows}
use Rattle.load_blocks.specs.Does.{lent_of}
use Rattle.load_blocks.proofs.Laws.{rows_turn, rows_end}
use Rattle.load_blocks.proofs.add_rows.Goals as goal

pub loop-a-init : goal.loop-a-init
loop-a-init c = λ B N t h. going_starts tt h

pub returns-in_err-s : goal.returns-in_err-s
returns-in_err-s c =
    λ B N t h.
    let ts = c.args.rows.now in
    let i = c.loop-a.a-index in
    let d = plain_tone 0 0 0 in
    let g = c.loop-a.invariant B N t h in
    going_no g (add_tones (tone_room N) (get_or ts i d ∷ [])) (add_rows (lent_of B N) (drop (i + 1) ts) c.args.r)
    (rows_turn ts i c.args.r g.at (lent_of B N) d (omega arith)) (c.add_tone.ensures B N _ g.at g.holds) c.in_err-s.was
    c.from_residual.ensures.1

pub loop-a-preserved : goal.loop-a-preserved
loop-a-preserved c =
    λ B N t h.
    let ts = c.args.rows.now in
    let i = c.loop-a.a-index in
    let d = plain_tone 0 0 0 in
    let g = c.loop-a.invariant B N t h in
    going_on g (add_tones (tone_room N) (get_or ts i d ∷ [])) (add_rows (lent_of B N) (drop (i + 1) ts) c.args.r)
    (rows_turn ts i c.args.r g.at (lent_of B N) d (omega arith)) (c.add_tone.ensures B N _ g.at g.holds) c.in_ok-s.was
    (λ u q. tt)

pub returns : goal.returns
returns c =
    λ B N t h.
    let g = c.loop-a.invariant B N t h in
    rw (← g.same, rows_end c.args.rows.now c.loop-a.a-index c.args.r g.at g.holds (omega arith)) (c.add_block.ensures B N _ g.at g.holds)
