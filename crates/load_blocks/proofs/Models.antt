-- Only a deed of the 48K asks for the model. Assumes nothing.
use Prim.Native.Nat.{ℕ}
use mathlib.Core.Path.{◌≡◌, refl}
use mathlib.Core.Bool.{true, false}
use mathlib.Core.List.{List}
use lib.Dec.{eqb}
use Rattle.load_state.specs.Parser.{Parsed}
use Rattle.load_blocks.specs.declared.Origin.{Origin}
use Rattle.load_blocks.specs.Adds.{Lent}
use Rattle.load_blocks.specs.Deeds.{Deed, adding, groups, texts, group_ends, opens, closes, panics, errs, does, asks48}

pub does_model : (lent : Lent) (s : List ℕ) (m m' : ℕ) (origin : Origin) (d : Deed) (t : Parsed) → (asks48 d ≡ true → eqb m 0 ≡ eqb m' 0)
    → does lent s m origin d t ≡ does lent s m' origin d t
unfolding does asks48
does_model lent s m m' origin (adding true ds) t e = rw (e refl)
does_model lent s m m' origin (adding false ds) t e = refl
does_model lent s m m' origin (groups from size) t e = refl
does_model lent s m m' origin (texts from size) t e = refl
does_model lent s m m' origin group_ends t e = refl
does_model lent s m m' origin (opens n) t e = refl
does_model lent s m m' origin closes t e = refl
does_model lent s m m' origin panics t e = refl
does_model lent s m m' origin (errs n) t e = refl
