-- The model's byte in a program's input. Definitions alone; assumes nothing.
use Rattle.std.specs.Prelude.{ℕ, eqb}
use Rattle.law_base.specs.Rules.{◌⇒◌, ◌∣◌}

-- `4`, `1` or `3`; 3 is no model
unfoldable pub model_of : ℕ → ℕ
model_of b = eqb b 0x34 ⇒ 0 ∣ eqb b 0x31 ⇒ 1 ∣ eqb b 0x33 ⇒ 2 ∣ 3
