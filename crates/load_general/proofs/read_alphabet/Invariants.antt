-- The loops of `read_alphabet`.
use mathlib.Core.Path.{◌≡◌}
use lib.ListN.{length}
use Rattle.load_general.specs.Held.{Kept}
use Rattle.load_general.proofs.read_alphabet.Given as goal

abbrev pub invariant-loop-i : goal.invariant-loop-i
invariant-loop-i l = (length l.a ≡ 255) × Kept l.tape l.place l.pulses l.i l.a
