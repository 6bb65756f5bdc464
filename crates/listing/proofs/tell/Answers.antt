-- `tell` meets its contract: the text is written where it has room. Assumes nothing.
use Prim.Native.Nat.{ℕ, ◌<◌}
use native.Mathlib.Omega.{arith}
use mathlib.Core.List.{List, []}
use lib.ListN.{length}
use Rattle.play_entries.specs.Mounted.{tape_of}
use Rattle.text_out.proofs.Writing.{wrote_counted}
use Rattle.text_listing.specs.Page.{listing_text}
use Rattle.text_listing.proofs.PageTexts.{text-most}
use Rattle.listing.proofs.Texts.{tells_short, tells}
use Rattle.listing.proofs.tell.Goals as goal

pub returns-then-out-k : goal.returns-then-out-k
returns-then-out-k c =
    let a = c.args in
    let t : List ℕ → List ℕ = λ tones. listing_text a.model a.format (tape_of a.tape.now tones a.blocks.now a.n) in
    let h : (tones : List ℕ) → length a.out.now < length (t tones) = λ tones.
    omega (arith, c.enough-k.ensures.by_index_2 tones (omega arith)) in
    record { by_index = λ tones. (tells_short (t tones) a.out.now (h tones)).0; by_index_2 = λ tones. (tells_short (t tones) a.out.now (h tones)).1 }

pub overflow_cast-result : goal.overflow_cast-result
overflow_cast-result c =
    omega (
      arith,
      wrote_counted (c.put_listing.ensures []),
      text-most c.args.model c.args.format c.requires [],
    )

pub returns : goal.returns
returns c =
    let k = c.enough-k.ensures.by_index in
    record { by_index = λ tones. (tells (omega (arith, k tones)) (c.put_listing.ensures tones)).0; by_index_2 = λ tones. (tells (omega (arith, k tones)) (c.put_listing.ensures tones)).1 }
