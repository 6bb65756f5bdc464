-- The tones of a row, read from the table that was made of them. Assumes nothing.
use Prim.Native.Nat.{ℕ, zero, suc, ◌+◌, ◌≤◌, ◌<◌}
use native.Mathlib.Numerals.{add-one}
use native.Mathlib.Omega.{arith}
use mathlib.Core.Path.{◌≡◌, refl, sym, ap, ap₂, ◌∙◌}
use mathlib.Core.List.{List, [], ◌∷◌}
use lib.ListN.{length, take, drop, get_or}
use lib.Seq.{drop-cons}
use Rattle.rows.specs.Table.{table_of, zeros}
use Rattle.rows.specs.Rows.{tone, decode_tone}
use Rattle.rows.specs.declared.Tone.{Tone}
use Rattle.rows.proofs.Tables.{get_row}
use Rattle.text_view.specs.View.{tones_from}

none : Tone
none = decode_tone []

-- n tone rows of a table are the n tones that it was made of
pub tones_read : (ts : List Tone) (N from n : ℕ) → from + n ≤ length ts
    → tones_from (table_of tone ts N) from n ≡ take n (drop from ts)
unfolding tones_from
tones_read ts N from zero h = refl
tones_read ts N from (suc n) h =
    let i : from < length ts = omega arith in
    ap₂ (λ (a : Tone) (l : List Tone). a ∷ l) (get_row tone ts (zeros N) from none i) (tones_read ts N (from + 1) n (omega arith))
    ∙ ap (λ (j : ℕ). get_or ts from none ∷ take n (drop j ts)) (add-one from)
    ∙ sym (ap (take (suc n)) (drop-cons ts from none i))
