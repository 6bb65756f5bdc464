-- `generalized_data_block` meets its contract. Assumes nothing.
use Rattle.load_pulsed.proofs.Generals.{data_fits, tones_fit, general_no4, general_no5, general_stop, general_data, general_tones}
use native.Mathlib.Omega.{arith}
use mathlib.Core.Path.{ap, ◌∙◌}
use Rattle.std.specs.Prelude.{Ok, Err}
use Rattle.load_pulsed.proofs.generalized_data_block.Goals as goal

pub general_block-requires : goal.general_block-requires
general_block-requires c =
    omega (arith, data_fits c.general.ensures (c.in-Ok-Data.is ∙ ap Ok c.in-Ok-Data.field-0-is))

pub general_block-requires-in-Ok-Tones : goal.general_block-requires-in-Ok-Tones
general_block-requires-in-Ok-Tones c =
    omega (arith, tones_fit c.general.ensures (c.in-Ok-Tones.is ∙ ap Ok c.in-Ok-Tones.field-0-is))

pub returns-in-Err-Refused : goal.returns-in-Err-Refused
returns-in-Err-Refused c = λ model B N t h. general_no4 h _ _ model _ c.general.ensures (c.in-Err-Refused.is ∙ ap Err c.in-Err-Refused.field-0-is)

pub returns-in-Err-Full : goal.returns-in-Err-Full
returns-in-Err-Full c = λ model B N t h. general_no5 h _ _ model _ c.general.ensures (c.in-Err-Full.is ∙ ap Err c.in-Err-Full.field-0-is)

pub returns-in-Err-Stop : goal.returns-in-Err-Stop
returns-in-Err-Stop c =
    λ model B N t h.
    general_stop h _ _ model _ c.general.ensures (c.in-Err-Stop.is ∙ ap Err c.in-Err-Stop.field-0-is)
    (c.stop_block.ensures _ _ B N t h)

pub returns-in-Ok-Data : goal.returns-in-Ok-Data
returns-in-Ok-Data c =
    λ model B N t h. general_data h _ _ model _ c.general.ensures (c.in-Ok-Data.is ∙ ap Ok c.in-Ok-Data.field-0-is) c.general.auto.tones
    (λ ts n k. c.general_block.ensures B N ts t n h.nt k)

pub returns-in-Ok-Tones : goal.returns-in-Ok-Tones
returns-in-Ok-Tones c =
    λ model B N t h. general_tones h _ _ model _ c.general.ensures (c.in-Ok-Tones.is ∙ ap Ok c.in-Ok-Tones.field-0-is) c.general.auto.tones
    (λ ts n k. rw c.no_bits.ensures at c.general_block-in-Ok-Tones.ensures B N ts t n h.nt k)
