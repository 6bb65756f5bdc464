-- `sounding` meets its contract: the sound is that of the tone rows in the table and of the data. Assumes nothing.
use Prim.Native.Nat.{ℕ, ◌+◌}
use native.Mathlib.Omega.{arith}
use mathlib.Core.Path.{ap, ap₂, ◌∙◌}
use Rattle.rows.specs.Rows.{with_sound}
use Rattle.play_entries.specs.Figures.{sound_in}
use Rattle.load_pulsed.proofs.sounding.Goals as goal

pub overflow_add-sound : goal.overflow_add-sound
overflow_add-sound c = omega (arith, c.tones_figure.ensures.upper_bound, c.data_figure.ensures.upper_bound)

pub returns : goal.returns
unfolding sound_in
returns c =
    λ ts o. c.with_sound.ensures
    ∙ ap (λ (n : ℕ). with_sound n c.args.r)
    (ap₂ (λ (x y : ℕ). x + y) (c.tones_figure.ensures.value ts o) c.data_figure.ensures.value)
