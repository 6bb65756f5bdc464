-- A 2A on the 48K is a stop. Assumes nothing.
use Prim.Native.Nat.{ℕ}
use mathlib.Core.Path.{◌≡◌}
use mathlib.Core.List.{List}
use borrow.Author.Tests.{eq-eqb}
use Rattle.load_state.specs.Parser.{Parsed}
use Rattle.load_blocks.specs.declared.Origin.{Origin}
use Rattle.load_blocks.specs.Adds.{Lent}
use Rattle.load_blocks.specs.Sounds.{add_sound}
use Rattle.load_blocks.specs.Blocks.{stop_sound}
use Rattle.load_blocks.specs.Deeds.{does, stop48_deed}
use Rattle.load_blocks.proofs.Laws.{one_sound}

pub stops_on_48 : (lent : Lent) (tape : List ℕ) (model : ℕ) (origin : Origin) (length : ℕ) (t : Parsed) → length ≡ 0 → model ≡ 0
    → does lent tape model origin (stop48_deed length) t ≡ add_sound lent tape origin stop_sound t
unfolding does stop48_deed
stops_on_48 lent tape model origin length t e m = rw (eq-eqb length 0 e, eq-eqb model 0 m, one_sound lent tape origin stop_sound t)
