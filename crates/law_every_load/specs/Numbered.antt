-- What a load answers: a tape, or a refusal by a number from 1 to 7. Definitions alone; assumes nothing.
use Rattle.std.specs.Prelude.{ℕ, ◌≤◌}
use Rattle.load_state.specs.Parser.{Parsed}
use Rattle.load_source.specs.declared.Failure.{Failure}
use Rattle.load_source.specs.Source.{Load, tzx, tapped, both_err, no}

-- what both attempts met stands with 3
pub data Numbered : Load → Type 0 where
  as_tzx : {t : Parsed} → Numbered (tzx t)
  as_tap : {t : Parsed} → Numbered (tapped t)
  both : {f g : Failure} → Numbered (both_err f g)
  by : {k : ℕ} → 1 ≤ k → k ≤ 7 → Numbered (no k)
