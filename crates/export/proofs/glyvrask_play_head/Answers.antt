-- `glyvrask_play_head` meets its contract: words that name no position are told as such, and stay. Assumes nothing.
use Rattle.std.proofs.Common.{◌∙◌}
use Rattle.play_entries.specs.Mounted.{tape_of}
use Rattle.play_deck.specs.Deck.{play_measured}
use Rattle.play_walk.specs.declared.Position.{Position}
use Rattle.host_answers.specs.Answers.{Reply, of_reached}
use Rattle.export.specs.Export.{from_place}
use Rattle.export.proofs.Placing.{tell_misplaced}
use Rattle.export.proofs.glyvrask_play_head.Goals as goal

pub returns-in-None : goal.returns-in-None
unfolding from_place
returns-in-None c =
    let a = c.args in
    let w = tape_of a.tape.now a.tones.now a.blocks.now a.count in
    let z = c.in-None.ensures in
    let f : Position → Reply = λ q. of_reached (play_measured w q a.n) in
    let t = tell_misplaced w f a.head.now a.answer.now (c.number.ensures ∙ c.misplaced.ensures) in
    record { value = rw (← z) t.0; head_after = rw (← z); answer_after = rw (← z) t.1 }
