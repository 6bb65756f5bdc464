-- What `from` gives is what `halted` says. Assumes nothing.
use Rattle.load_source.specs.Source.{halted}
use Rattle.load_source.specs.Does.{refuses, fails}
use Rattle.load_source.proofs.NotReadFromHalt.from.Goals as goal

pub returns-in-Refusal : goal.returns-in-Refusal
unfolding halted
returns-in-Refusal c = λ B N bt tt. rw c.in-Refusal.is refuses

pub returns-in-Length : goal.returns-in-Length
unfolding halted
returns-in-Length c = λ B N bt tt. rw c.in-Length.is fails
