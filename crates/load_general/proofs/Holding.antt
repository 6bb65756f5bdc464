-- A 19 that was cut with 0 as 255 is one that `general` takes. Assumes nothing but that bytes are below 256.
use Prim.Native.Nat.{ℕ, ◌<◌}
use mathlib.Core.Path.{◌≡◌}
use mathlib.Core.List.{List}
use native.Mathlib.Nat.{le_refl}
use lib.ListN.{get_or}
use Rattle.cut_grammar.specs.declared.GeneralizedData.{GeneralizedData}
use Rattle.cut_grammar.specs.declared.Piece.TheVariants.{Generalized}
use Rattle.cut_grammar.specs.declared.Taken.TheVariants.{Whole}
use Rattle.cut_grammar.specs.Cut.{cut_at}
use Rattle.cut_grammar.proofs.Places.{cut_places}
use Rattle.load_general.specs.Held.{Held}

pub cut_held : (s : List ℕ) (at : ℕ) {k a next : ℕ} {g : GeneralizedData} → ((i : ℕ) → get_or s i 0 < 256)
    → cut_at s at 255 ≡ Whole k a next (Generalized g) → Held s g
cut_held s at b e =
    let f = cut_places s at 255 e in
    let z = f.sizes b 255 (le_refl 255) (le_refl 255) in
    record { places = f.places; asp = z.0; asd = z.1 }
