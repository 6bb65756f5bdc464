-- A CALL THAT ENDS INSIDE ITS ENTRY walks nowhere, and the source's drops nothing. Assumes nothing.
use Rattle.play_walk.specs.Heads.{came}
use Prim.Native.Nat.{ℕ, ◌+◌, ◌<◌}
use native.Mathlib.Omega.{arith}
use borrow.Author.Tests.{ltb-true}
use mathlib.Core.Path.{◌≡◌, refl, sym, ap, ◌∙◌}
use mathlib.Core.Bool.{Bool, true, false}
use mathlib.Core.Logic.{inr}
use Rattle.law_base.specs.Rules.{◌⇒◌, ◌∣◌}
use Rattle.law_pulses.proofs.Lead.{lead_here}
use Rattle.play_entries.specs.declared.Duration.{Duration}
use Rattle.play_entries.specs.declared.Duration.TheVariants.{T, Endless}
use Rattle.play_entries.specs.Places.{Tape, level_in}
use Rattle.play_entries.specs.Mounted.{formed}
use Rattle.play_walk.specs.declared.Position.{Position}
use Rattle.play_walk.specs.declared.How.TheVariants.{At}
use Rattle.play_walk.specs.Heads.{placed, stand, walk_from, Walkable}
use Rattle.play_walk.proofs.Turns.{cut_of, rows_of, on-first, leaves_at}
use Rattle.play_ahead.proofs.Drops.{dropped-short}
use Rattle.play_deck.specs.Deck.{source_from}
use Rattle.play_deck.specs.Inside.{ends_inside, less_by, in_place}
use Rattle.play_deck.proofs.Sourced.{source_walk}

never : false ≡ true → ⊥
never e = let y : ◌≡◌ {A = ℕ} 1 0 = ap (λ (t : Bool). t ⇒ 0 ∣ 1) e in absurd (omega arith)

pub inside_less : (left : Duration) (t n : ℕ) → left ≡ T t → ends_inside left n ≡ true → n < t
unfolding ends_inside
inside_less left t n e h = ltb-true n t (sym (ap (λ (x : Duration). ends_inside x n) e) ∙ h)

module _ (w : Tape) (q : Position) (n : ℕ) (p : Walkable w q) where
  -- by what is left
  walks : (left : Duration) → q.left ≡ left → ends_inside left n ≡ true
      → came At (stand (placed q.block q.phase (less_by left n)) 0 (level_in w q.block q.phase)) ≡ walk_from w q n
  unfolding ends_inside less_by walk_from formed
  walks (T t) e h =
      let k = cut_of w q in
      sym (leaves_at w k q.block q.phase q.left false 0 (on-first w q k p (rows_of w q p)) (lead_here _ _ _) t e
      (inr (ltb-true n t h)))
  walks Endless e h = absurd (never h)

  pub inside_walk : ends_inside q.left n ≡ true → in_place w q n ≡ walk_from w q n
  inside_walk h = walks q.left refl h

  follows : (left : Duration) → q.left ≡ left → ends_inside left n ≡ true → source_from w q n ≡ walk_from w q n
  unfolding ends_inside
  follows (T t) e h =
      source_walk w q n ∙ ap (λ (x : ℕ). walk_from w q (n + x)) (sym (dropped-short w q p n t e (ltb-true n t h)))
      ∙ ap (walk_from w q) (omega arith)
  follows Endless e h = absurd (never h)

  pub inside-source : ends_inside q.left n ≡ true → in_place w q n ≡ source_from w q n
  inside-source h = inside_walk h ∙ sym (follows q.left refl h)
