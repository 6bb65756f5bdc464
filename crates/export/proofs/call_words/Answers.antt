-- `call_words` meets its contract: where the call ends inside its entry, the words told are the answer's. Assumes nothing.
use Rattle.std.proofs.Common.{sym, ◌∙◌}
use Rattle.play_entries.specs.Mounted.{mounted_tape}
use Rattle.export.proofs.Inside.{call_inside}
use Rattle.export.proofs.call_words.Goals as goal

pub tell_inside-requires : goal.tell_inside-requires
tell_inside-requires c =
    let a = c.args in
    let t = call_inside a.measured (mounted_tape a.m.now) a.position.now a.pos a.n c.in-Ok.found c.requires c.in-Ok.ensures
    (sym c.ends_inside.ensures ∙ c.if-ends_inside.true) in
    (t.seven, t.less)

pub returns-then-ends_inside : goal.returns-then-ends_inside
returns-then-ends_inside c =
    let a = c.args in
    let t = call_inside a.measured (mounted_tape a.m.now) a.position.now a.pos a.n c.in-Ok.found c.requires c.in-Ok.ensures
    (sym c.ends_inside.ensures ∙ c.if-ends_inside.true) in
    record {
      value = c.tell_inside.ensures.value ∙ sym (t.number a.answer.now);
      answer_after = c.tell_inside.ensures.answer_after ∙ sym (t.values a.answer.now);
    }
