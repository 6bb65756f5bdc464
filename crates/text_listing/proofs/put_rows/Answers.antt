-- `put_rows` meets its contract: each turn writes one line more, and sums up what it lasts. Assumes nothing.
use native.Mathlib.Omega.{arith}
use mathlib.Core.Path.{◌≡◌, ap, ◌∙◌}
use mathlib.Core.List.{[]}
use Rattle.text_out.proofs.Writing.{writes_nothing}
use Rattle.rows.specs.Table.{get}
use Rattle.rows.specs.Rows.{block}
use Rattle.play_entries.specs.Mounted.{tape_of}
use Rattle.play_loading.specs.declared.Loading.{Loading}
use Rattle.play_loading.specs.Sums.{one_more, loading_after}
use Rattle.play_loading.proofs.Summing.{after_next, after-whole}
use Rattle.text_listing.proofs.Lines.{rows_fit}
use Rattle.text_listing.proofs.Texts.{rows-most, rows_next}
use Rattle.text_listing.specs.Lines.{rows_text_by}
use Rattle.text_listing.proofs.put_rows.Goals as goal

pub loop-i-init : goal.loop-i-init
unfolding rows_text_by loading_after
loop-i-init c = ((λ tones. writes_nothing _), λ tones. c.none-load.ensures)

pub put_row-load-requires-clause-at_bound : goal.put_row-load-requires-clause-at_bound
put_row-load-requires-clause-at_bound c =
    let w = (c.loop-i.invariant.0 []).wrote.count in
    let m = rows-most c.requires.ready [] c.loop-i.i c.loop-i.auto.i-end in
    let few = c.requires.ready.few in
    let sum = ap (λ (x : Loading). x.sum) (c.loop-i.invariant.1 []) in
    (omega (arith, c.requires.at_bound), omega (arith, rows_fit c.requires.ready [] c.loop-i.i c.loop-i.auto.i-end))

pub loop-i-preserved : goal.loop-i-preserved
loop-i-preserved c =
    let a = c.args in (
      (λ tones. rows_next _ _ (c.loop-i.invariant.0 tones) (c.put_row-load.ensures.by_index tones _)),
      λ tones.
          c.put_row-load.ensures.load_value
          ∙ ap (λ (x : Loading). one_more x (get block a.blocks.now c.loop-i.i)) (c.loop-i.invariant.1 tones)
          ∙ after_next (tape_of a.tape.now tones a.blocks.now a.n) c.loop-i.i,
    )

pub returns : goal.returns
returns c =
    let a = c.args in
    let e : c.loop-i.i ≡ a.n = omega arith in record {
      by_index = λ tones. rw e at (c.loop-i.invariant.0 tones);
      by_index_2 = λ tones.
          let w = tape_of a.tape.now tones a.blocks.now a.n in
          ap (λ (x : Loading). x.end) (c.loop-i.invariant.1 tones ∙ ap (loading_after w) e) ∙ after-whole w;
    }
