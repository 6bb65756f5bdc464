-- `put_first` meets its contract: every first line fits. Assumes nothing.
use Rattle.std.proofs.Common.{rules}
use Rattle.prog_tape.proofs.Room.{first_fits}
use Rattle.prog_tape.proofs.put_first.Goals as goal

pub returns-clause-fitted : goal.returns-clause-fitted
returns-clause-fitted c = first_fits c.args.loaded (search rules) c.requires
