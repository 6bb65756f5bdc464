-- `say` meets its contract: a number below 32 is the load's refusal, and another the text's length. Assumes nothing.
use native.Mathlib.Omega.{arith}
use Rattle.listing.proofs.Saying.{say_refusal, say_text}
use Rattle.listing.proofs.say.Goals as goal

pub returns-then-n-lt32 : goal.returns-then-n-lt32
returns-then-n-lt32 c =
    let a = c.args in
    say_refusal a.tape.now a.out.now a.model (λ i. (c.type_inv.tape i).fits)
    c.requires c.glyvrask_listing-n.ensures.value c.glyvrask_listing-n.ensures.out_after
    (omega arith) c.say_refused.ensures

pub returns : goal.returns
returns c =
    let a = c.args in
    say_text a.tape.now a.out.now a.model (λ i. (c.type_inv.tape i).fits)
    c.requires c.glyvrask_listing-n.ensures.value
    c.glyvrask_listing-n.ensures.out_after (omega arith)
