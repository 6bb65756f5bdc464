-- A CALL OF EITHER PLAYER, way by way. Assumes nothing.
use Rattle.std.proofs.Common.{◌≡◌, ℕ, ◌<◌, ap, ◌∙◌, arith}
use Rattle.std.specs.Prelude.{Result, Ok, Err}
use Rattle.std.specs.Result.{IsErrAnd}
use borrow.Author.Tests.{eq-eqb, ne_eqb}
use Rattle.play_entries.specs.Places.{Tape}
use Rattle.play_walk.specs.declared.Position.{Position}
use Rattle.play_walk.specs.declared.Reached.{Reached}
use Rattle.play_walk.specs.declared.Fault.{Fault}
use Rattle.play_deck.specs.Deck.{all_fine, judged, unless, stays, answered_by}

-- what `?` hands on
pub handed : {A : Type 0} (r : Result A Fault) {f : Fault} → IsErrAnd r (λ e. e ≡ f) → r ≡ Err f
handed (Ok a) h = absurd h
handed (Err e) h = ap Err h

module _ (plays walks : Tape → Position → ℕ → Result Reached Fault) {w : Tape} {q : Position} {n : ℕ}
    (by : plays w q n ≡ answered_by walks w q n) where
  pub at_refusal : {f : Fault} → judged w q ≡ Err f → plays w q n ≡ Err f
  unfolding unless
  at_refusal e = by ∙ rw e

  module _ (fine : judged w q ≡ all_fine) where
    pub at_none : n ≡ 0 → plays w q n ≡ stays w q
    unfolding unless
    at_none z = by ∙ rw (fine, eq-eqb n 0 z)

    pub at_some : 0 < n → plays w q n ≡ walks w q n
    unfolding unless
    at_some h = by ∙ rw (fine, ne_eqb n 0 (omega arith))
