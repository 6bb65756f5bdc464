-- EVERY ROW SAYS WHAT IT SOUNDS: it is born so, and a name, a copy, 22's pause and the naming pass keep it. Assumes nothing.
use Prim.Native.Nat.{ℕ}
use native.Mathlib.Omega.{arith}
use borrow.Author.Tests.{eqb-true}
use mathlib.Core.Path.{◌≡◌, refl, sym, ◌∙◌}
use mathlib.Core.Bool.{Bool, true, false, ◌&&◌}
use mathlib.Core.List.{List}
use lib.Dec.{eqb}
use Rattle.law_base.specs.Rules.{◌⇒◌, ◌∣◌}
use Rattle.law_base.proofs.Tests.{second}
use Rattle.rows.specs.Rows.{with_pause}
use Rattle.rows.specs.declared.Block.{Block}
use Rattle.rows.specs.declared.Tone.{Tone}
use Rattle.play_entries.proofs.Figures.{sound_changed, sound_paused}
use Rattle.load_state.specs.Parser.{paused}
use Rattle.load_blocks.specs.declared.Origin.{Origin}
use Rattle.load_blocks.specs.Sounds.{Sound, row_for, row_of}
use Rattle.text_name.specs.Names.{unselected}
use Rattle.law_every_load.specs.OfSource.{Everywhere}
use Rattle.law_every_load.specs.Formed.{SaysSound}

born : (s : List ℕ) (origin : Origin) (d : Sound) (tone : ℕ) → SaysSound s d.tones (row_of s origin d tone)
unfolding row_of
born s origin d tone = sym (sound_changed s d.tones _ _ _ _ _ (row_for origin tone _ d.bits d.ending d.selectable))

pausing : (s : List ℕ) (ts : List Tone) (r : Block) → SaysSound s ts r → SaysSound s ts (paused r)
unfolding paused
pausing s ts r h = by_cases (eqb r.endless 0 && eqb r.pause 0) refl
  where
    by_cases : (b : Bool) → (eqb r.endless 0 && eqb r.pause 0) ≡ b → SaysSound s ts (b ⇒ with_pause 3500 r ∣ r)
    by_cases true e =
        h ∙ sym (sound_paused s ts 3500 r (eqb-true r.pause 0 (second (eqb r.endless 0) (eqb r.pause 0) e)) (omega arith))
    by_cases false e = h

pub every_sound : (s : List ℕ) → Everywhere s (SaysSound s)
unfolding unselected
every_sound s = record {
  pieces = λ origin d tone m. born s origin d tone;
  taps = λ origin d tone m. born s origin d tone;
  lasts = record {
    naming = λ mark case text chars ts r g h. h ∙ sym (sound_changed s ts r.sound mark case text chars r);
    pausing = pausing s;
    passing = λ ts r h. h ∙ sym (sound_changed s ts r.sound 0 r.named r.text r.chars r);
  };
}
