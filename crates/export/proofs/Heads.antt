-- A LENT HEAD: moved where the call isn't refused, else as it was. Assumes nothing.
use Prim.Native.Nat.{ℕ, ◌≤◌}
use native.Mathlib.Omega.{arith}
use borrow.Author.Tests.{ne_eqb, le-leb}
use mathlib.Core.Path.{◌≡◌, refl, sym, ◌∙◌}
use mathlib.Core.List.{List, [], ◌∷◌}
use lib.ListN.{length}
use Rattle.text_out.specs.Out.{told}
use Rattle.play_entries.specs.Places.{Tape}
use Rattle.play_walk.specs.declared.Position.{Position}
use Rattle.play_deck.specs.Deck.{play_measured, play_mounted}
use Rattle.std.specs.Prelude.{Some, None}
use Rattle.host_words.specs.Words.{words_of, position_from}
use Rattle.host_answers.specs.Answers.{number_of, values_of, of_position, of_reached}
use Rattle.export.specs.Export.{moved_to}

no : {A : Type 0} {p : Position} → None ≡ Some p → A
no e = let z : ◌≡◌ {A = ℕ} 0 1 = cc in absurd (omega arith)

-- words that name a position are seven at least
pub named_seven : (ws : List ℕ) (q : Position) → position_from ws ≡ Some q → 7 ≤ length ws
unfolding position_from
named_seven [] q e = no e
named_seven (b ∷ []) q e = no e
named_seven (b ∷ f ∷ []) q e = no e
named_seven (b ∷ f ∷ a ∷ []) q e = no e
named_seven (b ∷ f ∷ a ∷ p ∷ []) q e = no e
named_seven (b ∷ f ∷ a ∷ p ∷ h ∷ []) q e = no e
named_seven (b ∷ f ∷ a ∷ p ∷ h ∷ d ∷ []) q e = no e
named_seven (b ∷ f ∷ a ∷ p ∷ h ∷ d ∷ k ∷ rest) q e = omega arith

-- so they hold a position's words
pub seven_held : (ws : List ℕ) (q : Position) → 7 ≤ length ws
    → (number_of (of_position q) ws ≡ 0) × (values_of (of_position q) ws ≡ told (words_of q) ws)
unfolding number_of values_of of_position words_of
seven_held ws q h = (rw (le-leb 7 (length ws) h), refl)

module _ (w : Tape) (q : Position) (n : ℕ) (row ws : List ℕ) {k : ℕ} (e : k ≡ number_of (of_reached (play_measured w q n)) row) where
  pub moved_not : (k ≡ 0 → ⊥) → ws ≡ moved_to w q n row ws
  unfolding moved_to play_mounted
  moved_not h = rw (ne_eqb (number_of (of_reached (play_measured w q n)) row) 0 (λ z. h (e ∙ z)))

  pub moved_so : k ≡ 0 → moved_to w q n row ws ≡ told (words_of (play_mounted w (record { position = q }) n).head.position) ws
  unfolding moved_to play_mounted
  moved_so z = rw (sym e ∙ z)
