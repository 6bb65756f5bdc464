-- `group_end` meets its contract. Assumes nothing.
use Rattle.load_state.proofs.Adds.{holds_paused}
use Rattle.load_state.proofs.Laws.{holds_name}
use Rattle.load_state.specs.Holds.{goes}
use Rattle.load_state.specs.Parser.{in_group, end_group}
use mathlib.Core.Bool.{true, false}
use mathlib.Core.Path.{◌≡◌, refl, sym, ◌∙◌}
use native.Mathlib.Omega.{arith}
use Rattle.load_groups.proofs.group_end.Goals as goal

pub returns-then-in_group : goal.returns-then-in_group
unfolding end_group
returns-then-in_group c =
    λ B N tt t h.
    let q : in_group t.pending ≡ true = sym (rw h.pends at c.in_group.ensures) ∙ c.if-in_group.true in
    let k = holds_paused h (omega arith) (c.pause_last.ensures B t.blocks h.len_b h.nb h.room_b h.is_b) in
    rw q (goes (holds_name k refl))

pub returns : goal.returns
unfolding end_group
returns c =
    λ B N tt t h.
    let q : in_group t.pending ≡ false = sym (rw h.pends at c.in_group.ensures) ∙ c.if-in_group.false in
    rw q (goes (holds_paused h (omega arith) (c.pause_last.ensures B t.blocks h.len_b h.nb h.room_b h.is_b)))
