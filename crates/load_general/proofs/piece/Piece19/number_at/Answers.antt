-- `number_at` meets its contract. Assumes nothing.
use lib.Bits.{and_mask}
use Rattle.load_general.specs.General.{symbol_number}
use Rattle.load_general.proofs.piece.Piece19.number_at.Goals as goal

pub returns : goal.returns
unfolding symbol_number
returns c = rw (c.power.ensures, and_mask, c.shift.ensures, c.byte_at-byte.ensures)
