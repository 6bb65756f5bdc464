-- A loop that writes n rows, whatever the sort: what holds at row i, after a turn and at the end.
-- Assumes nothing.
use Prim.Native.Nat.{ℕ, ◌+◌, ◌-◌, ◌<◌}
use mathlib.Core.Path.{◌≡◌, sym, ap, ◌∙◌}
use mathlib.Core.Bool.{true}
use mathlib.Core.List.{List}
use native.Mathlib.Omega.{arith}
use Rattle.rows.specs.Table.{put, put_all}
use Rattle.rows.specs.Rows.{tone}
use Rattle.rows.specs.declared.Tone.{Tone}
use Rattle.std.specs.Prelude.{Option, Some}
use Rattle.load_general.specs.General.{before, rows_from}
use Rattle.load_general.specs.Made.{is_tones, part_tones}
use Rattle.load_general.proofs.Parts.{before_tones, before_puts, turn, end_put}

-- with the rows from i on put, the table is what it is to become
abbrev pub Writing : (ℕ → Option Tone) → ℕ → ℕ → List ℕ → List ℕ → ℕ → Type 0
Writing row n used t₀ t i =
    (is_tones (rows_from row i (n - i)) ≡ true)
    × (put_all tone t (used + i) (part_tones (rows_from row i (n - i))) ≡ put_all tone t₀ used (part_tones (rows_from row 0 n)))

module _ (row : ℕ → Option Tone) (n used : ℕ) (t₀ : List ℕ) where
  pub writing_over : (t : List ℕ) → Writing row n used t₀ t n → t ≡ put_all tone t₀ used (part_tones (rows_from row 0 n))
  writing_over t v = sym (end_put row n (used + n) t) ∙ v.1

  pub writing_on : (t : List ℕ) (i : ℕ) → i < n → Writing row n used t₀ t i → (r : Tone) → row i ≡ Some r
      → Writing row n used t₀ (put tone t (used + i) r) (i + 1)
  writing_on t i h v r e =
      let rest = rows_from row (i + 1) (n - (i + 1)) in
      let w : rows_from row i (n - i) ≡ before (Some r) rest = turn row i n h ∙ ap (λ (x : Option Tone). before x rest) e in
      let b : is_tones rest ≡ true = before_tones (Some r) rest (rw w at v.0) in
      let k : used + i + 1 ≡ used + (i + 1) = omega arith in
      (b, rw (← k) (sym (before_puts r rest b t (used + i)) ∙ (rw w at v.1)))
