-- A block's row without its tone rows. Definitions alone; assumes nothing.
use Rattle.std.specs.Prelude.{ℕ, Bool, ◌&&◌, List}
use Rattle.rows.specs.Well.{well_ranges, well_numbers, well_sound, well_cases}
use Rattle.rows.specs.declared.Block.{Block}

-- its ranges, its numbers, its sound, its flags and cases
unfoldable pub well_words : ℕ → List ℕ → Block → Bool
well_words tape tones r = well_ranges tape tones r && (well_numbers r && (well_sound r && well_cases r))
