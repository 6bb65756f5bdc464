-- `move_head` meets its contract: the head's words are told where the call isn't refused. Assumes nothing.
use Rattle.std.specs.Prelude.{Result}
use Rattle.std.proofs.Common.{sym, ap, ◌∙◌}
use Rattle.host_answers.specs.Answers.{number_of, values_of, of_reached}
use Rattle.host_words.specs.Words.{words_of}
use Rattle.text_out.specs.Out as out
use Rattle.play_entries.specs.Mounted.{mounted_tape}
use Rattle.play_walk.specs.declared.Reached.{Reached}
use Rattle.play_walk.specs.declared.Fault.{Fault}
use Rattle.play_deck.specs.declared.Head.{Head}
use Rattle.play_deck.specs.declared.Played.{Played}
use Rattle.play_deck.specs.Deck.{play_mounted}
use Rattle.export.proofs.Heads.{moved_not, moved_so}
use Rattle.export.proofs.move_head.Goals as goal

pub returns-else-k-eq0 : goal.returns-else-k-eq0
unfolding play_mounted
returns-else-k-eq0 c =
    let a = c.args in
    let w = mounted_tape a.m.now in
    let e = ap (λ (p : Played). p.answer) c.play_once-p.ensures in
    let k = c.tell_answer-k.ensures.value ∙ ap (λ (r : Result Reached Fault). number_of (of_reached r) a.answer.now) e in
    record {
      value = k;
      head_after = moved_not w a.pos a.n a.answer.now a.head.now k c.if-k-eq0.false;
      answer_after = c.tell_answer-k.ensures.answer_after ∙ ap (λ (r : Result Reached Fault). values_of (of_reached r) a.answer.now) e;
    }

pub returns-then-k-eq0 : goal.returns-then-k-eq0
unfolding play_mounted
returns-then-k-eq0 c =
    let a = c.args in
    let w = mounted_tape a.m.now in
    let e = ap (λ (p : Played). p.answer) c.play_once-p.ensures in
    let k = c.tell_answer-k.ensures.value ∙ ap (λ (r : Result Reached Fault). number_of (of_reached r) a.answer.now) e in
    record {
      value = k;
      head_after = c.tell.ensures.answer_after ∙ ap (λ (y : Head). out.told (words_of y.position) a.head.now) (ap (λ (p : Played). p.head) c.play_once-p.ensures)
          ∙ sym (moved_so w a.pos a.n a.answer.now a.head.now k c.if-k-eq0.true);
      answer_after = c.tell_answer-k.ensures.answer_after ∙ ap (λ (r : Result Reached Fault). values_of (of_reached r) a.answer.now) e;
    }
