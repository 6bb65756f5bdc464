-- `main` meets its contract: the longest line fits. Lengths of the larger arrays are by a law, as lists of so many are not to be computed.
use Prim.Native.Nat.{ℕ, ◌+◌, ◌*◌, ◌≤◌}
use native.Mathlib.Omega.{arith}
use mathlib.Core.Path.{◌≡◌}
use mathlib.Core.List.{List}
use lib.ListN.{length, replicate}
use Rattle.law_base.proofs.Parts.{zeros-counted}
use Rattle.gate_replay.proofs.main.Goals as goal

room : (bytes : List ℕ) (t o : ℕ) → 65536 ≡ length bytes → 1200 + 2 * 65536 + 5 * t ≤ o
    → 1200 + 2 * length bytes + 5 * length (replicate {A = ℕ} t 0) ≤ length (replicate {A = ℕ} o 0)
room bytes t o e h = omega (arith, zeros-counted t, zeros-counted o)

pub slice_bounds-replay_all-end-4 : goal.slice_bounds-replay_all-end-4
slice_bounds-replay_all-end-4 c = zeros-counted 1450000

pub replay_all-requires : goal.replay_all-requires
replay_all-requires c =
    room c.large_buffer-bytes.result 262264 1450000 c.large_buffer-bytes.ensures (omega arith)
