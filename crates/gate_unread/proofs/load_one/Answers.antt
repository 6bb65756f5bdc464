-- `load_one` meets its contract: what is said is the front of the bytes lent. Assumes nothing.
use Rattle.law_base.proofs.Parts.{take_counted}
use Rattle.text_out.proofs.Writing.{fitted_most}
use Rattle.gate_unread.proofs.load_one.Goals as goal

pub slice_bounds-write_all-end : goal.slice_bounds-write_all-end
slice_bounds-write_all-end c = fitted_most c.say_unread-k.ensures.fitted

pub slice_bounds-write_all-end-2 : goal.slice_bounds-write_all-end-2
slice_bounds-write_all-end-2 c = take_counted _ _ (fitted_most c.say_unread-k.ensures.fitted)
