-- The loop of `put_rows`.
use Rattle.std.proofs.Common.{◌≡◌, ℕ, ◌<◌, true, Option, Some}
use Rattle.rows.specs.declared.Tone.{Tone}
use Rattle.load_general.specs.General.{rows_from}
use Rattle.load_general.specs.Made.{is_tones}
use Rattle.load_general.proofs.Loops.{Writing}
use Rattle.load_general_rows.proofs.put_rows.Given as goal

abbrev pub invariant-loop-i : goal.invariant-loop-i
invariant-loop-i g l =
    (rows : ℕ → Option Tone) → ((i : ℕ) (t : Tone) → i < l.n → goal.F-post g l.row i t → rows i ≡ Some t)
    → is_tones (rows_from rows 0 l.n) ≡ true → Writing rows l.n l.used l.initial.tones l.tones l.i
