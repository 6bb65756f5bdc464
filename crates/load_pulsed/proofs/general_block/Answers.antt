-- `general_block` meets its contract: its tone rows are the table's last. Assumes nothing.
use Prim.Native.Nat.{ℕ}
use mathlib.Core.Path.{◌≡◌, refl, sym, ap, subst, ◌∙◌}
use mathlib.Core.List.{List}
use lib.ListN.{length}
use Rattle.rows.specs.declared.Block.{Block}
use Rattle.rows.specs.declared.Tone.{Tone}
use Rattle.load_state.specs.Parser.{with_tones}
use Rattle.play_entries.specs.Figures.{Owns, sounding}
use Rattle.load_blocks.specs.Sounds.{ms, ends_after, row_for, row_of}
use Rattle.load_pulsed.proofs.Generals.{owns}
use Rattle.load_pulsed.proofs.general_block.Goals as goal

pub returns : goal.returns
unfolding row_of
returns c =
    let a = c.args in
    λ B N ts t n e h.
    let made = c.data_row-r.result in
    let r = row_for a.origin a.s.tones (length ts) a.bits (ends_after (ms a.pause)) 1 in
    let v : made ≡ r =
    c.data_row-r.ensures ∙ ap (λ (i : ℕ). row_for a.origin a.s.tones i a.bits (ends_after (ms a.pause)) 1) (sym n) in
    let born : c.sounding.result ≡ sounding a.tape.now ts r =
    subst (λ (y : Block). (us : List Tone) → Owns a.tones.now y us → c.sounding.result ≡ sounding a.tape.now us y) v
    c.sounding.ensures ts (owns t.tones ts N r h.is_t h.len_t h.room_t e refl) in
    rw (← born)
    (c.add_block.ensures B N _ (with_tones ts t) h)
