-- The loop of `put_rows`.
use Prim.Native.Nat.{ℕ}
use mathlib.Core.Path.{◌≡◌}
use mathlib.Core.List.{List}
use Rattle.text_out.specs.Writes.{Writes}
use Rattle.play_entries.specs.Mounted.{tape_of}
use Rattle.play_loading.specs.Sums.{loading_after}
use Rattle.text_listing.specs.Lines.{rows_text}
use Rattle.text_listing.proofs.put_rows.Given as goal

-- whatever the tone rows are, the lines of the first i rows are written, and their words are summed up
abbrev pub invariant-loop-i : goal.invariant-loop-i
invariant-loop-i l = ((tones : List ℕ) → Writes l.initial.w (rows_text (tape_of l.tape tones l.blocks l.n) l.i) l.w)
    × ((tones : List ℕ) → l.load ≡ loading_after (tape_of l.tape tones l.blocks l.n) l.i)
