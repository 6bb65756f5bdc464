-- `block` meets its contract. Assumes nothing.
use Rattle.std.proofs.Common.{sym, ◌∙◌, arith}
use Rattle.play_deck.specs.Deck.{block_of}
use Rattle.play_deck.proofs.Checks.{fine_below}
use Rattle.play_deck.proofs.Players.{handed}
use Rattle.play_menu.proofs.block.Goals as goal

pub returns-in_err-judge : goal.returns-in_err-judge
unfolding block_of
returns-in_err-judge c = handed _ c.from_residual.ensures.1 ∙ rw (← c.judge.ensures, c.in_err-judge.was)

pub back-requires : goal.back-requires
back-requires c =
    let a = fine_below _ _ (sym c.judge.ensures ∙ c.in_ok-judge.was) (omega arith) in omega (arith, a.below, a.lent)
