-- `pure_tone_block` meets its contract. Assumes nothing.
use Prim.Native.Nat.{ℕ}
use borrow.Author.Tests.{eq-eqb, ne_eqb}
use mathlib.Core.Path.{ap}
use Rattle.rows.specs.declared.Block.{Block}
use Rattle.load_blocks.proofs.Laws.{does_born, one_alone, two_alone}
use Rattle.load_blocks.specs.Blocks.{pure_tone_tones, tone_sound}
use Rattle.load_toned.proofs.pure_tone_block.Goals as goal

-- a row without data
abbrev size : Block → ℕ
size r = r.size

pub returns-then-count-eq0 : goal.returns-then-count-eq0
unfolding pure_tone_tones
returns-then-count-eq0 c =
    λ tape. rw (eq-eqb _ _ c.if-count-eq0.true)
    (does_born tape _ (tone_sound _) c.bare_row-r.ensures
    (one_alone tape _ _ (ap size c.bare_row-r.ensures) c.tone_figure-sound.ensures.value c.with_sound.ensures)
    c.add_rows.ensures)

pub returns : goal.returns
unfolding pure_tone_tones
returns c =
    λ tape. rw (ne_eqb _ _ c.if-count-eq0.false)
    (does_born tape _ (tone_sound _) c.bare_row-r-2.ensures
    (two_alone tape _ _ _ (ap size c.bare_row-r-2.ensures) c.tone_figure.ensures.value c.tone_figure-2.ensures.value
    c.with_sound-2.ensures) c.add_rows-2.ensures)
