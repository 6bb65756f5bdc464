-- The loop of `texts`: from the place reached on, the texts that are left end where all of them do.
use Prim.Native.Nat.{◌-◌}
use mathlib.Core.Path.{◌≡◌}
use Rattle.cut_grammar.specs.Grammar.{texts_at}
use Rattle.cut_bodies.proofs.texts.Given as goal

abbrev pub invariant-loop : goal.invariant-loop
invariant-loop l = record {
  same : l.r.tape ≡ l.fn.r.tape;
  rest : texts_at l.fn.r.tape.now l.r.at (l.n - l.counter) ≡ texts_at l.fn.r.tape.now l.fn.r.at l.n;
}
