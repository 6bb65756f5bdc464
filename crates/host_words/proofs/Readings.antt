-- Rows of words and the positions that they name, by computation: one of each phase, and each way to name none. Assumes nothing.
use Prim.Native.Nat.{ℕ}
use mathlib.Core.Path.{◌≡◌, refl}
use mathlib.Core.Bool.{true, false}
use mathlib.Core.List.{List, [], ◌∷◌, map}
use Rattle.play_entries.specs.declared.Phase.TheVariants.{Start, Tones, Data, Edge, Pause}
use Rattle.play_entries.specs.declared.Duration.TheVariants.{T, Endless}
use Rattle.play_walk.specs.declared.Position.{Position}
use Rattle.play_walk.specs.Heads.{placed}
use Rattle.std.specs.Prelude.{Option, Some, None}
use Rattle.host_words.specs.Words.{unhalved, halved, phase_from, span_from, joined, position_from}

abbrev named : List (List ℕ × Option Position)
named =
    ((5 ∷ 0 ∷ 0 ∷ 0 ∷ 0 ∷ 0 ∷ 0 ∷ []), Some (placed 5 Start (T 0)))
    ∷ ((0 ∷ 1 ∷ 0 ∷ 1 ∷ 0 ∷ 0 ∷ 100 ∷ []), Some (placed 0 (Tones 0 1 false) (T 100)))
    ∷ ((0 ∷ 1 ∷ 0 ∷ 1 ∷ 1 ∷ 0 ∷ 1 ∷ []), Some (placed 0 (Tones 0 1 true) (T 1)))
    ∷ ((3 ∷ 2 ∷ 17 ∷ 7 ∷ 0 ∷ 0 ∷ 855 ∷ []), Some (placed 3 (Data 17 7 false) (T 855)))
    ∷ ((3 ∷ 2 ∷ 17 ∷ 7 ∷ 1 ∷ 0 ∷ 855 ∷ []), Some (placed 3 (Data 17 7 true) (T 855)))
    ∷ ((2 ∷ 4 ∷ 0 ∷ 0 ∷ 0 ∷ 0 ∷ 3500 ∷ []), Some (placed 2 Edge (T 3500)))
    ∷ ((2 ∷ 3 ∷ 0 ∷ 0 ∷ 0 ∷ 0 ∷ 3500 ∷ []), Some (placed 2 Pause (T 3500)))
    ∷ ((2 ∷ 3 ∷ 0 ∷ 0 ∷ 0 ∷ 1 ∷ 0 ∷ []), Some (placed 2 Pause Endless))
    ∷ ((2 ∷ 3 ∷ 0 ∷ 0 ∷ 0 ∷ 1 ∷ 0 ∷ 99 ∷ 99 ∷ []), Some (placed 2 Pause Endless))  -- words past the seventh
    ∷ ((5 ∷ 0 ∷ 0 ∷ 0 ∷ 0 ∷ 0 ∷ []), None)  -- six words
    ∷ ((5 ∷ 5 ∷ 0 ∷ 0 ∷ 0 ∷ 0 ∷ 0 ∷ []), None)  -- phase 5
    ∷ ((5 ∷ 0 ∷ 1 ∷ 0 ∷ 0 ∷ 0 ∷ 0 ∷ []), None)  -- words that a start, an edge or a pause doesn't use
    ∷ ((5 ∷ 0 ∷ 0 ∷ 1 ∷ 0 ∷ 0 ∷ 0 ∷ []), None)
    ∷ ((5 ∷ 4 ∷ 0 ∷ 1 ∷ 0 ∷ 0 ∷ 0 ∷ []), None)
    ∷ ((5 ∷ 3 ∷ 0 ∷ 0 ∷ 1 ∷ 0 ∷ 0 ∷ []), None)
    ∷ ((0 ∷ 1 ∷ 0 ∷ 1 ∷ 2 ∷ 0 ∷ 1 ∷ []), None)  -- a last half of 2
    ∷ ((3 ∷ 2 ∷ 17 ∷ 7 ∷ 2 ∷ 0 ∷ 855 ∷ []), None)
    ∷ ((2 ∷ 3 ∷ 0 ∷ 0 ∷ 0 ∷ 2 ∷ 0 ∷ []), None)  -- an endless flag of 2
    ∷ ((2 ∷ 3 ∷ 0 ∷ 0 ∷ 0 ∷ 1 ∷ 1 ∷ []), None)  -- endless with T-states left
    ∷ []

pub words_named : map (λ (e : List ℕ × Option Position). position_from e.0) named ≡ map (λ (e : List ℕ × Option Position). e.1) named
unfolding position_from joined phase_from span_from unhalved halved
words_named = refl
