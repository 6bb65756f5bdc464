-- What is told of a text, over plain lists. Assumes nothing.
use Prim.Native.Nat.{ℕ, ◌≤◌, ◌<◌}
use mathlib.Core.Path.{◌≡◌}
use mathlib.Core.List.{List}
use lib.ListN.{length}
use borrow.Author.Tests.{lt-leb, le-leb}
use Rattle.refusals.specs.Refusals.{no_room}
use Rattle.text_out.specs.Out.{Wrote, told}
use Rattle.text_out.proofs.Writing.{wrote_whole, wrote_counted}
use Rattle.listing.specs.Listing.{text, answer_to, bytes_after}

-- what is told of a text that has no room, and of one that has
pub tells_short : (t out : List ℕ) → length out < length t → (no_room ≡ answer_to (text t) out) × (out ≡ bytes_after (text t) out)
unfolding answer_to bytes_after told
tells_short t out h = let e = lt-leb (length t) (length out) h in (rw e, rw e)

pub tells : {out out' t : List ℕ} {n : ℕ} → length t ≤ length out → Wrote out 0 t out' n
    → (n ≡ answer_to (text t) out) × (out' ≡ bytes_after (text t) out)
unfolding answer_to bytes_after told
tells {out} {t = t} h p = let e = le-leb (length t) (length out) h in (rw e (wrote_counted p), rw e (wrote_whole p h))
