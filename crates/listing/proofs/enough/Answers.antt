-- `enough` meets its contract: the most by the rows' number, or the length that the dry run tells. Assumes nothing.
use native.Mathlib.Omega.{arith}
use Rattle.text_out.proofs.Writing.{wrote_counted}
use Rattle.text_listing.proofs.PageTexts.{text-rows}
use Rattle.listing.proofs.enough.Goals as goal

pub returns-then-most-len : goal.returns-then-most-len
returns-then-most-len c =
    record { by_index = λ tones. omega (arith, text-rows c.args.model c.args.format c.requires tones); by_index_2 = λ tones h. absurd (omega arith) }

pub returns : goal.returns
returns c =
    record { by_index = λ tones. omega (arith, wrote_counted (c.put_listing.ensures tones)); by_index_2 = λ tones h. wrote_counted (c.put_listing.ensures tones) }
