-- A CALL THAT ENDS INSIDE ITS ENTRY, straight on the position's words. Assumes nothing.
use Prim.Native.Nat.{ℕ, ◌-◌, ◌≤◌}
use native.Mathlib.Omega.{arith}
use mathlib.Core.Path.{◌≡◌, refl, sym, ap, ◌∙◌}
use mathlib.Core.Bool.{Bool, true}
use mathlib.Core.Logic.{⊎_elim}
use mathlib.Core.List.{List, [], ◌∷◌}
use lib.ListN.{length, get_or}
use Rattle.law_base.specs.Rules.{◌⇒◌, ◌∣◌}
use Rattle.law_base.proofs.Numbers.{lt_or_ge}
use Rattle.law_pulses.specs.Play.{Level}
use Rattle.refusals.specs.Refusals.{no_room}
use Rattle.text_out.specs.Out.{fits, told}
use Rattle.play_entries.specs.declared.Duration.{Duration}
use Rattle.play_entries.specs.declared.Duration.TheVariants.{T, Endless}
use Rattle.play_entries.specs.Places.{Tape, level_in}
use Rattle.play_walk.specs.declared.Position.{Position}
use Rattle.play_walk.specs.declared.How.TheVariants.{At}
use Rattle.play_walk.specs.Heads.{came, placed, stand, Walkable}
use Rattle.play_deck.specs.declared.Finding.{Finding}
use Rattle.play_deck.specs.Assay.{Found}
use Rattle.play_deck.specs.Inside.{ends_inside, less_by}
use Rattle.play_deck.proofs.Assays.{level_below}
use Rattle.play_deck.proofs.Checks.{fine_below, fine_none}
use Rattle.play_deck.proofs.Inside.{inside_less}
use Rattle.std.specs.Prelude.{Some, None}
use Rattle.host_words.specs.Words.{flag_of, span_of, words_of, position_from}
use Rattle.host_words.proofs.Positions.{position-words}
use Rattle.host_run.specs.Runs.{player_of}
use Rattle.host_run.proofs.Runs.{inside_play, never_none}
use Rattle.host_answers.specs.Answers.{stand_words, inside_words, of_reached, number_of, values_of}

-- the words told, of the seven that a position has
abbrev on_words : List ℕ → ℕ → Bool → List ℕ
on_words l n v =
    0 ∷ 0 ∷ flag_of v ∷ get_or l 0 0 ∷ get_or l 1 0 ∷ get_or l 2 0 ∷ get_or l 3 0 ∷ get_or l 4 0 ∷ get_or l 5 0 ∷ (get_or l 6 0 - n) ∷ []

pub record Inside (ws : List ℕ) (q : Position) (t n : ℕ) (v : Bool) : Type 0 where
  pub seven : 7 ≤ length ws
  pub left : get_or ws 6 0 ≡ t
  pub words : inside_words ws n v ≡ stand_words 0 (stand (placed q.block q.phase (T (t - n))) 0 v)

no : {ws : List ℕ} {q p : Position} {t n : ℕ} {v : Bool} → None ≡ Some p → Inside ws q t n v
no e = let z : ◌≡◌ {A = ℕ} 0 1 = cc in absurd (omega arith)

-- words that name a position with t T-states left
pub words_inside : (ws : List ℕ) (q : Position) (t n : ℕ) (v : Bool) → position_from ws ≡ Some q → q.left ≡ T t → Inside ws q t n v
unfolding position_from inside_words stand_words words_of span_of
words_inside [] q t n v e l = no e
words_inside (b ∷ []) q t n v e l = no e
words_inside (b ∷ f ∷ []) q t n v e l = no e
words_inside (b ∷ f ∷ a ∷ []) q t n v e l = no e
words_inside (b ∷ f ∷ a ∷ p ∷ []) q t n v e l = no e
words_inside (b ∷ f ∷ a ∷ p ∷ h ∷ []) q t n v e l = no e
words_inside (b ∷ f ∷ a ∷ p ∷ h ∷ d ∷ []) q t n v e l = no e
words_inside (b ∷ f ∷ a ∷ p ∷ h ∷ d ∷ k ∷ rest) q t n v e l =
    let ws = b ∷ f ∷ a ∷ p ∷ h ∷ d ∷ k ∷ rest in
    let y : b ∷ f ∷ a ∷ p ∷ h ∷ d ∷ k ∷ [] ≡ words_of (placed q.block q.phase (T t)) =
    position-words.1 ws q e ∙ ap (λ (x : Duration). words_of (placed q.block q.phase x)) l in
    record { seven = omega arith; left = ap (λ (x : List ℕ). get_or x 6 0) y; words = ap (λ (x : List ℕ). on_words x n v) y }

-- what a call that ends inside tells
pub record Told (m : Bool) (w : Tape) (ws : List ℕ) (q : Position) (n : ℕ) (v : Bool) : Type 0 where
  pub seven : 7 ≤ length ws
  pub less : n ≤ get_or ws 6 0
  pub number : (row : List ℕ) → number_of (of_reached (player_of m w q n)) row ≡ (fits (inside_words ws n v) row ⇒ 0 ∣ no_room)
  pub values : (row : List ℕ) → values_of (of_reached (player_of m w q n)) row ≡ told (inside_words ws n v) row

module _ (m : Bool) (w : Tape) (ws : List ℕ) (q : Position) (n : ℕ) (a : Finding) (e : position_from ws ≡ Some q) (x : Found w q a) where
  told_left : (left : Duration) → q.left ≡ left → ends_inside left n ≡ true → Told m w ws q n a.level
  unfolding ends_inside less_by number_of values_of
  told_left (T t) l i =
      let h = inside_less (T t) t n refl i in
      let y : Walkable w q = ⊎_elim (λ b. fine_below w q x.fine b)
      (λ b. absurd (never_none t (sym l ∙ fine_none w q x.fine b) (omega arith))) (lt_or_ge q.block w.count) in
      let z = words_inside ws q t n a.level e l in
      let s = inside_play w q n t y l h m
      ∙ ap (λ (d : Duration). came At (stand (placed q.block q.phase (less_by d n)) 0 (level_in w q.block q.phase))) l
      ∙ ap (λ (k : Level). came At (stand (placed q.block q.phase (T (t - n))) 0 k)) (sym (level_below x y.below)) in
      record {
        seven = z.seven;
        less = omega (arith, z.left);
        number = λ row. rw (s, z.words);
        values = λ row. rw (s, z.words);
      }
  told_left Endless l i = let y : ◌≡◌ {A = ℕ} 1 0 = ap (λ (t : Bool). t ⇒ 0 ∣ 1) i in absurd (omega arith)

  pub call_inside : ends_inside q.left n ≡ true → Told m w ws q n a.level
  call_inside i = told_left q.left refl i
