-- A run of items, each a list of pulses with their own labels, levels and lengths: cycles, odd pulses, bits, bytes.
-- Definitions alone; assumes nothing.
use Rattle.std.specs.Prelude.{List, [], ◌++◌, ℕ, zero, suc, ◌+◌}
use Rattle.law_pulses.specs.Play.{Entry}

module _ {A : Type 0} (item : ℕ → List (Entry A)) where
  -- m items, from item p on
  unfoldable pub run : ℕ → ℕ → List (Entry A)
  run p zero = []
  run p (suc m) = item p ++ run (p + 1) m
