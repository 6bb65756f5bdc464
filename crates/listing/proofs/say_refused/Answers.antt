-- `say_refused` meets its contract: the line fits. Assumes nothing.
use Rattle.std.proofs.Common.{rules}
use native.Mathlib.Omega.{arith}
use Rattle.text_out.proofs.Writing.{refused_line_length}
use Rattle.listing.proofs.Saying.{says_written}
use Rattle.listing.proofs.say_refused.Goals as goal

pub returns : goal.returns
returns c = says_written {d = c.args.out.now} (search rules) (omega (arith, c.requires, refused_line_length c.args.k))
