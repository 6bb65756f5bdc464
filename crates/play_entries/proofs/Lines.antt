-- The line before a tone row, one row further: the turn of every loop over it. Assumes nothing.
use Prim.Native.Nat.{ℕ, ◌+◌}
use native.Mathlib.Numerals.{add-one}
use mathlib.Core.Path.{◌≡◌, ap₂, ◌∙◌}
use mathlib.Core.List.{List}
use Rattle.rows.specs.declared.Tone.{Tone}
use Rattle.rows.specs.declared.Block.{Block}
use Rattle.play_levels.specs.declared.Line.{Line}
use Rattle.play_levels.specs.Closed.{line_after}
use Rattle.play_entries.specs.Entries.{tone_at, line_start, line_at}

pub line_none : (tones : List ℕ) (r : Block) (l : Line) → l ≡ line_start r → l ≡ line_at tones r 0
unfolding line_at
line_none tones r l e = e

pub line_next : (tones : List ℕ) (r : Block) (i : ℕ) (t : Tone) (l m : Line) → l ≡ line_at tones r i → t ≡ tone_at tones r i
    → m ≡ line_after t l → m ≡ line_at tones r (i + 1)
unfolding line_at
line_next tones r i t l m e f g = rw (add-one i) (g ∙ ap₂ line_after f e)
