-- What adding a block keeps, of any reading. Assumes nothing.
use Prim.Native.Nat.{ℕ, ◌+◌}
use mathlib.Core.Path.{◌≡◌, refl}
use mathlib.Core.Bool.{Bool, true, false}
use mathlib.Core.List.{List}
use lib.ListN.{length}
use lib.Dec.{leb}
use borrow.Author.Tests.{leb-true}
use Rattle.refusals.specs.Refusals.{tones_full}
use Rattle.law_base.specs.Rules.{◌⇒◌, ◌∣◌}
use Rattle.load_state.specs.declared.Pending.{Pending}
use Rattle.load_state.specs.declared.Halt.TheVariants.{Refusal}
use Rattle.load_state.specs.Parser.{Parsed, on, no, ◌⟫◌, with_tones, add_tones, add_block}
use Rattle.load_state.proofs.Kept.{sure_then, block-sure}
use Rattle.load_state.specs.Kept.{Sure, sure, none, All, nil, cons}
use Rattle.load_blocks.specs.declared.Origin.{Origin}
use Rattle.load_blocks.specs.Adds.{Lent, add_rows}
use Rattle.load_blocks.specs.Sounds.{Sound, row_of, add_sound, add_sounds}
use Rattle.law_every_load.specs.Keeps.{Invariant}

module _ {lent : Lent} {s : List ℕ} {M : Sound → Origin → Type 0} {Q : Pending → Type 0} {K : Parsed → Type 0}
    (k : Invariant lent s M Q K) where
  pub sound_keeps : (origin : Origin) (d : Sound) (t : Parsed) → M d origin → K t → Sure K (add_sound lent s origin d t)
  unfolding add_sound add_rows add_tones ◌⟫◌
  sound_keeps origin d t m h = by_cases (leb (length t.tones + length d.tones) lent.tones) refl
    where
      by_cases : (b : Bool) → leb (length t.tones + length d.tones) lent.tones ≡ b
          → Sure K
          ((b ⇒ on (with_tones d.tones t) ∣ no (Refusal tones_full)) ⟫ add_block lent.blocks (row_of s origin d (length t.tones)))
      by_cases true e = block-sure lent.blocks _ (with_tones d.tones t) (λ room. k.adding origin d t m (leb-true _ _ e) room h)
      by_cases false e = none

  pub sounds_keep : (origin : Origin) {ds : List Sound} → All (λ d. M d origin) ds → (t : Parsed) → K t
      → Sure K (add_sounds lent s origin ds t)
  unfolding add_sounds
  sounds_keep origin nil t h = sure h
  sounds_keep origin (cons {x = d} {xs = ds} m ms) t h =
      sure_then (add_sounds lent s origin ds) (sound_keeps origin d t m h) (sounds_keep origin ms)
