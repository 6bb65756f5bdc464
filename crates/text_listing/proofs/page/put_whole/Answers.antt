-- `put_whole` meets its contract: five writes, one after the other. Assumes nothing.
use native.Mathlib.Omega.{arith}
use mathlib.Core.List.{[]}
use Rattle.play_entries.specs.Mounted.{tape_of}
use Rattle.text_listing.proofs.Texts.{rows-most}
use Rattle.text_listing.proofs.PageTexts.{model_most, count_most, listing_written}
use Rattle.text_listing.proofs.page.put_whole.Goals as goal

pub put_total-requires : goal.put_total-requires
put_total-requires c =
    let a = c.args in
    omega (
      arith,
      model_most a.model,
      count_most a.format a.n,
      (c.put_rows-load.ensures.by_index []).wrote.count,
      rows-most c.requires.ready [] a.n (omega arith),
      c.requires.ready.few,
    )

pub returns : goal.returns
returns c =
    let a = c.args in
    λ tones.
    listing_written a.model a.format (tape_of a.tape.now tones a.blocks.now a.n) c.put_rows-load.result.end
    (c.put_rows-load.ensures.by_index_2 tones) c.bytes.ensures c.put_model.ensures c.put_count.ensures
    (c.put_rows-load.ensures.by_index tones) c.put_total.ensures
