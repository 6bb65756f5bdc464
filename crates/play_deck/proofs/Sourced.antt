-- THE SOURCE'S WALK is the measured walk of the count and the sum that it drops; and the walk back to a block. Assumes nothing.
use Rattle.std.specs.Prelude.{Ok, Err}
use Prim.Native.Nat.{ℕ, zero, suc, ◌+◌, ◌-◌}
use native.Mathlib.Omega.{arith}
use native.Mathlib.Nat.{eq-zero-or-pos}
use borrow.Author.Tests.{eq-eqb, ne_eqb}
use mathlib.Core.Path.{◌≡◌, refl, sym, ap, ◌∙◌}
use mathlib.Core.Bool.{true, false}
use mathlib.Core.Logic.{⊎_elim}
use mathlib.Core.List.{List, [], ◌∷◌}
use lib.ListN.{length}
use Rattle.law_base.specs.Rules.{◌⇒◌, ◌∣◌}
use Rattle.law_pulses.specs.Play.{Entry, pulse, endless, Status, ended, Answer, made, rest, over, status_here, status, answer}
use Rattle.law_pulses.proofs.Demand.{status_left, status-over}
use Rattle.law_pulses.specs.Source.{Outcome, is_ended, dropped, heard}
use Rattle.law_pulses.proofs.Agreement.{source-heard}
use Rattle.play_entries.specs.Entries.{Label}
use Rattle.play_entries.specs.Places.{Tape, block_in}
use Rattle.play_walk.specs.declared.Position.{Position}
use Rattle.play_entries.specs.Mounted.{well_row, formed}
use Rattle.play_walk.specs.Heads.{ahead, walked, walk_from, dropped_from}
use Rattle.play_walk.specs.declared.Fault.TheVariants.{NotFormed}
use Rattle.play_deck.specs.Deck.{source_answer, source_from, back_to}

never_ended : (rs : List (Entry Label)) → (is_ended (status_here rs) ⇒ ended ∣ status_here rs) ≡ status_here rs
unfolding status_here
never_ended [] = refl
never_ended (pulse a v t ∷ es) = refl
never_ended (endless a v ∷ es) = refl

told-again : (rs : List (Entry Label)) (u : ℕ) → (is_ended (status rs u) ⇒ ended ∣ status_here rs) ≡ status rs u
told-again rs u =
    ⊎_elim
    (λ z. ap (λ (s : Status). is_ended s ⇒ ended ∣ status_here rs) (status_left rs u z) ∙ never_ended rs ∙ sym (status_left rs u z))
    (λ p. ap (λ (s : Status). is_ended s ⇒ ended ∣ status_here rs) (status-over rs u p) ∙ sym (status-over rs u p))
    (eq-zero-or-pos u)

abbrev as_answer : List (Entry Label) → Outcome Label → Answer Label
as_answer es o = made o.place (o.done ⇒ ended ∣ status_here o.place) (length es - length o.place)

-- the source's answer is the measured one for the count and the sum dropped
pub source-answer : (es : List (Entry Label)) (n : ℕ) → source_answer es n ≡ answer es (n + dropped es n)
unfolding source_answer answer heard
source-answer es n =
    let m = n + dropped es n in
    ap (as_answer es) (source-heard es n)
    ∙ ap (λ (s : Status). made (rest es m) s (length es - length (rest es m))) (told-again (rest es m) (over es m))

pub source_walk : (w : Tape) (q : Position) (n : ℕ) → source_from w q n ≡ walk_from w q (n + dropped_from w q n)
unfolding source_from walk_from dropped_from
source_walk w q n = ap (walked w (formed w q.block)) (source-answer (ahead (formed w q.block) q) n)

-- the walk back, row by row
module _ (w : Tape) where
  pub back_bad : (b : ℕ) → well_row w b ≡ false → Err NotFormed ≡ back_to w b
  unfolding back_to
  back_bad zero e = rw e
  back_bad (suc b) e = rw e

  pub back_none : (b : ℕ) → well_row w b ≡ true → b ≡ 0 → Ok 0 ≡ back_to w b
  unfolding back_to
  back_none zero e z = rw e
  back_none (suc b) e z = absurd (omega arith)

  pub back_here : (b : ℕ) → well_row w b ≡ true → (b ≡ 0 → ⊥) → (block_in w b).selectable ≡ 1 → Ok b ≡ back_to w b
  unfolding back_to
  back_here zero e z f = absurd (z refl)
  back_here (suc b) e z f = rw (e, eq-eqb (block_in w (suc b)).selectable 1 f)

  pub back_on : (b : ℕ) → well_row w b ≡ true → (b ≡ 0 → ⊥) → ((block_in w b).selectable ≡ 1 → ⊥)
      → back_to w (b - 1) ≡ back_to w b
  unfolding back_to
  back_on zero e z f = absurd (z refl)
  back_on (suc b) e z f =
      let y : suc b - 1 ≡ b = omega arith in
      rw (e, ne_eqb (block_in w (suc b)).selectable 1 f) (ap (back_to w) y)
