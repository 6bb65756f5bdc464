-- `put_report` meets its contract: every report fits. Assumes nothing.
use Rattle.std.proofs.Common.{rules}
use Rattle.prog_unread.proofs.Lengths.{report_fits}
use Rattle.prog_unread.proofs.put_report.Goals as goal

pub returns : goal.returns
returns c = report_fits c.args.loaded (search rules) c.requires
