-- `act` meets its contract. Assumes nothing.
use Rattle.load_source.specs.Meaning.{deed_of}
use Rattle.load_source.specs.Source.{act}
use Rattle.load_blocks.specs.Deeds.{does}
use Rattle.load_blocks.specs.Sounds.{add_sounds}
use Rattle.load_blocks.proofs.Laws.{does_one}
use Rattle.load_state.specs.Holds.{goes}
use native.Mathlib.Omega.{arith}
use Prim.Native.Nat.{ℕ}
use mathlib.Core.Path.{◌≡◌}
use mathlib.Core.List.{List}
use mathlib.Core.Logic.{◌⊎◌, inl, inr}
use Rattle.cut_grammar.specs.declared.Piece.{Piece}
use Rattle.cut_grammar.specs.declared.Piece.TheVariants.{Message, Archive, Hardware, Custom, Glue}
use Rattle.load_state.specs.Parser.{Parsed, on}
use Rattle.load_blocks.specs.declared.Origin.{Origin}
use Rattle.load_blocks.specs.Adds.{Lent}
use Rattle.load_blocks.specs.Does.{lent_of}
use Rattle.load_source.proofs.act.Goals as goal

pub pulse_blocks-requires : goal.pulse_blocks-requires
pulse_blocks-requires c =
    let f = c.requires.pulses _ _ c.in-Pulses.is in
    omega (arith, f)

pub generalized_data_block-requires : goal.generalized_data_block-requires
generalized_data_block-requires c = c.requires.general _ c.in-Generalized.is

pub returns-in-Standard : goal.returns-in-Standard
unfolding act deed_of
returns-in-Standard c =
    λ B N t h. rw (c.in-Standard.is, ← c.is_header-header.ensures)
    (does_one _ _ _ _ c.standard_data_block.ensures B N t h)

pub returns-in-Turbo : goal.returns-in-Turbo
unfolding act deed_of
returns-in-Turbo c =
    λ B N t h. rw c.in-Turbo.is (does_one _ _ _ _ c.turbo_data_block.ensures B N t h)

pub returns-in-Tone : goal.returns-in-Tone
unfolding act deed_of
returns-in-Tone c =
    λ B N t h. rw c.in-Tone.is (does_one _ _ _ _ (c.pure_tone_block.ensures _) B N t h)

pub returns-in-Pulses : goal.returns-in-Pulses
unfolding act deed_of does
returns-in-Pulses c =
    λ B N t h. rw c.in-Pulses.is (c.pulse_blocks.ensures B N t h)

pub returns-in-Pure : goal.returns-in-Pure
unfolding act deed_of
returns-in-Pure c =
    λ B N t h. rw c.in-Pure.is (does_one _ _ _ _ c.pure_data_block.ensures B N t h)

pub returns-in-Generalized : goal.returns-in-Generalized
unfolding act deed_of
returns-in-Generalized c =
    λ B N t h. rw c.in-Generalized.is (c.generalized_data_block.ensures _ B N t h)

pub returns-in-Pause : goal.returns-in-Pause
unfolding act deed_of
returns-in-Pause c =
    λ B N t h. rw c.in-Pause.is (does_one _ _ _ _ (c.pause_block.ensures _ _) B N t h)

pub returns-in-GroupStart : goal.returns-in-GroupStart
unfolding act deed_of does
returns-in-GroupStart c = λ B N t h. rw c.in-GroupStart.is (c.pend.ensures B N _ _ t h)

pub returns-in-GroupEnd : goal.returns-in-GroupEnd
unfolding act deed_of does
returns-in-GroupEnd c = λ B N t h. rw c.in-GroupEnd.is (c.group_end.ensures B N _ t h)

pub returns-in-LoopStart : goal.returns-in-LoopStart
unfolding act deed_of does
returns-in-LoopStart c = λ B N t h. rw c.in-LoopStart.is (c.loop_start.ensures B N _ _ t h)

pub returns-in-LoopEnd : goal.returns-in-LoopEnd
unfolding act deed_of does
returns-in-LoopEnd c = λ B N t h. rw c.in-LoopEnd.is (c.loop_end.ensures B N _ t h)

pub returns-in-Stop48 : goal.returns-in-Stop48
unfolding act deed_of
returns-in-Stop48 c = λ B N t h. rw c.in-Stop48.is (c.stop_on_48.ensures _ _ B N t h)

pub returns-in-Text : goal.returns-in-Text
unfolding act deed_of does
returns-in-Text c = λ B N t h. rw c.in-Text.is (c.pend-in-Text.ensures B N _ _ t h)

-- a piece that is skipped
idle : (lent : Lent) (s : List ℕ) (model : ℕ) (origin : Origin) (t : Parsed) {p : Piece}
    → (p ≡ Message) ⊎ ((p ≡ Archive) ⊎ ((p ≡ Hardware) ⊎ ((p ≡ Custom) ⊎ (p ≡ Glue)))) → act lent s model origin p t ≡ on t
unfolding act deed_of does add_sounds
idle lent s model origin t (inl e) = rw e
idle lent s model origin t (inr (inl e)) = rw e
idle lent s model origin t (inr (inr (inl e))) = rw e
idle lent s model origin t (inr (inr (inr (inl e)))) = rw e
idle lent s model origin t (inr (inr (inr (inr e)))) = rw e

pub returns-in-Message : goal.returns-in-Message
returns-in-Message c = λ B N t h. rw (idle (lent_of B N) c.args.tape.now c.args.model c.args.origin t c.in-Message.is) (goes h)
