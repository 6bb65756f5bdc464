-- NUMBERS FOR NO, 9 AND 11 OF WORDS THAT NAME NO POSITION (rule 139), 'given exactly when'. Assumes nothing.
use Prim.Native.Nat.{ℕ, ◌<◌}
use native.Mathlib.Omega.{arith}
use borrow.Author.Tests.{lt-leb, leb-false}
use mathlib.Core.Path.{◌≡◌, refl}
use mathlib.Core.Bool.{Bool, true, false}
use mathlib.Core.List.{List, [], ◌∷◌}
use mathlib.Core.Logic.{◌↔◌, inl, inr, ⊎_elim}
use lib.Dec.{leb}
use Rattle.law_base.specs.Rules.{◌⇒◌, ◌∣◌}
use Rattle.refusals.specs.Refusals.{no_position, bad_row}
use Rattle.play_entries.specs.Places.{Tape}
use Rattle.play_entries.specs.Mounted.{overfull, well_row}
use Rattle.export.specs.Export.{misplaced_no}
use Rattle.law_promises.specs.Numbers.{Unformed}

-- the tests in order: the count, the block number, the row
data Tests (o p r : Bool) : ℕ → Type 0 where
  full : o ≡ true → Tests o p r bad_row
  past : o ≡ false → p ≡ true → Tests o p r no_position
  fine : o ≡ false → p ≡ false → r ≡ true → Tests o p r no_position
  row : o ≡ false → p ≡ false → r ≡ false → Tests o p r bad_row

tests : (o p r : Bool) → Tests o p r (o ⇒ bad_row ∣ p ⇒ no_position ∣ r ⇒ no_position ∣ bad_row)
tests true p r = full refl
tests false true r = past refl refl
tests false false true = fine refl refl refl
tests false false false = row refl refl refl

-- ONE WORD AT LEAST, the block's number: 11 for the count or its row, else 9
module _ (w : Tape) (b : ℕ) (ws : List ℕ) where
  of-tests : Tests (overfull w) (leb w.count b) (well_row w b) (misplaced_no w (b ∷ ws))
  unfolding misplaced_no
  of-tests = tests (overfull w) (leb w.count b) (well_row w b)

  pub given_11_words : (misplaced_no w (b ∷ ws) ≡ bad_row) ↔ Unformed w b
  unfolding misplaced_no
  given_11_words = (λ e. of e of-tests, λ h. ⊎_elim (λ x. rw x) (λ x. back (overfull w) x) h)
    where
      of : {k : ℕ} → k ≡ bad_row → Tests (overfull w) (leb w.count b) (well_row w b) k → Unformed w b
      of e (full o) = inl o
      of e (past o p) = absurd (omega arith)
      of e (fine o p r) = absurd (omega arith)
      of e (row o p r) = inr (leb-false _ _ p, r)

      back : (o : Bool) → (b < w.count) × (well_row w b ≡ false)
          → (o ⇒ bad_row ∣ leb w.count b ⇒ no_position ∣ well_row w b ⇒ no_position ∣ bad_row) ≡ bad_row
      back true x = refl
      back false x = rw (lt-leb w.count b x.0, x.1)

  pub given_9_words : (misplaced_no w (b ∷ ws) ≡ no_position) ↔ (Unformed w b → ⊥)
  given_9_words = (λ e h. let f = given_11_words.1 h in omega arith, λ n. of of-tests n)
    where
      of : {k : ℕ} → Tests (overfull w) (leb w.count b) (well_row w b) k → (Unformed w b → ⊥) → k ≡ no_position
      of (full o) n = absurd (n (inl o))
      of (past o p) n = refl
      of (fine o p r) n = refl
      of (row o p r) n = absurd (n (inr (leb-false _ _ p, r)))

-- NO WORD: 11 for the count, else 9
pub given_11_no_words : (w : Tape) → (misplaced_no w [] ≡ bad_row) ↔ (overfull w ≡ true)
unfolding misplaced_no
given_11_no_words w = (λ e. of (overfull w) e, λ h. rw h)
  where
    of : (o : Bool) → (o ⇒ bad_row ∣ no_position) ≡ bad_row → o ≡ true
    of true e = refl
    of false e = absurd (omega arith)

pub given_9_no_words : (w : Tape) → (misplaced_no w [] ≡ no_position) ↔ (overfull w ≡ false)
unfolding misplaced_no
given_9_no_words w = (λ e. of (overfull w) e, λ h. rw h)
  where
    of : (o : Bool) → (o ⇒ bad_row ∣ no_position) ≡ no_position → o ≡ false
    of true e = absurd (omega arith)
    of false e = refl
