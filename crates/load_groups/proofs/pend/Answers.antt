-- `pend` meets its contract. Assumes nothing.
use Rattle.load_state.proofs.Laws.{holds_name}
use Rattle.load_state.specs.Holds.{goes}
use Rattle.load_state.specs.Parser.{in_group, pend}
use mathlib.Core.Bool.{true, false}
use mathlib.Core.Path.{◌≡◌, refl, sym, ◌∙◌}
use Rattle.load_groups.proofs.pend.Goals as goal

pub returns-then-in_group : goal.returns-then-in_group
unfolding pend
returns-then-in_group c =
    λ B N bt tt t h.
    let q : in_group t.pending ≡ true = sym (rw h.pends at c.in_group.ensures) ∙ c.if-in_group.true in
    rw q (goes (holds_name h h.pends))

pub returns : goal.returns
unfolding pend
returns c =
    λ B N bt tt t h.
    let q : in_group t.pending ≡ false = sym (rw h.pends at c.in_group.ensures) ∙ c.if-in_group.false in
    rw q (goes (holds_name h refl))
