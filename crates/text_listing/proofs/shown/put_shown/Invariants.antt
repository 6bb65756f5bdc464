-- The loop of `shown.put_shown`.
use Prim.Native.Nat.{◌-◌}
use lib.ListN.{length}
use Rattle.text_listing.proofs.Showing.{Shows}
use Rattle.text_listing.proofs.shown.put_shown.Given as goal

abbrev pub invariant-loop-i : goal.invariant-loop-i
invariant-loop-i l = Shows l.initial.w l.name l.i l.w

abbrev pub decreases-loop-i : goal.decreases-loop-i
decreases-loop-i l = length l.name - l.i
