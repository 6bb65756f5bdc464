-- `spends` of the source's play meets its contract. Assumes nothing.
use Rattle.std.proofs.Common.{◌+◌, sym, ap, ◌∙◌, arith}
use Rattle.play_entries.specs.Mounted.{mounted_tape}
use Rattle.play_walk.specs.Heads.{walk_from}
use Rattle.play_ahead.proofs.Drops.{dropped-most}
use Rattle.play_deck.proofs.Checks.{fine_below, past-ends}
use Rattle.play_deck.proofs.Sourced.{source_walk}
use Rattle.play_deck.proofs.SourcePlayer.spends.Goals as goal

pub returns-then-m-pos-clause-walks_value : goal.returns-then-m-pos-clause-walks_value
returns-then-m-pos-clause-walks_value c =
    let a = c.args in
    let w = mounted_tape a.m.now in
    let ends = past-ends w a.pos c.requires.fine c.if-m-pos.true in
    source_walk w a.pos a.n ∙ ends _ (omega arith) ∙ sym (ends a.n (omega arith))

pub ran_ahead-more-requires : goal.ran_ahead-more-requires
ran_ahead-more-requires c = fine_below _ _ c.requires.fine (omega arith)

pub overflow_add-result : goal.overflow_add-result
overflow_add-result c =
    let a = c.args in
    omega (arith, dropped-most (mounted_tape a.m.now) a.pos a.n (fine_below _ _ c.requires.fine (omega arith)))

pub returns-clause-walks_value : goal.returns-clause-walks_value
returns-clause-walks_value c =
    let a = c.args in
    let w = mounted_tape a.m.now in
    source_walk w a.pos a.n ∙ ap (λ x. walk_from w a.pos (a.n + x)) (sym c.ran_ahead-more.ensures)
