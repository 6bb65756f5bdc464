-- `put_failure` meets its contract: a bad signature is its word. Assumes nothing.
use Rattle.prog_unread.specs.Report.{failure_text}
use Rattle.prog_unread.proofs.put_failure.Goals as goal

pub returns-in-BadSignature : goal.returns-in-BadSignature
unfolding failure_text
returns-in-BadSignature c = rw c.in-BadSignature.is c.bytes.ensures
