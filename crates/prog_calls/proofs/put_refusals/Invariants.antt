-- The loop of `put_refusals`.
use Rattle.text_out.specs.Out.{refused_line}
use Rattle.text_out.proofs.Loops.{Goes}
use Rattle.prog_calls.proofs.Saying.{same_from}
use Rattle.prog_calls.proofs.put_refusals.Given as goal

abbrev pub invariant-loop : goal.invariant-loop
invariant-loop l = Goes (same_from (refused_line l.k) l.n) 256 l.initial.w l.counter l.w
