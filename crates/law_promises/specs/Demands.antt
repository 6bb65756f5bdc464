-- What demand 2 compares: the block list, from the definition and from the tables. Definitions alone; assumes nothing.
use Rattle.std.specs.Prelude.{ℕ, List, []}
use Rattle.load_source.specs.Source.{Load, tzx, tapped, both_err, no}
use Rattle.text_view.specs.View.{View, block_list}
use Rattle.law_promises.specs.Boundless.{boundless_load}

-- THE BLOCK LIST that the rules give a tape (rule 6): names, selectability, tones, zero, one, last bits, pause, data; none for a refusal
unfoldable pub list_of : List ℕ → Load → List View
list_of s (tzx t) = block_list s t.tones t.blocks
list_of s (tapped t) = block_list s t.tones t.blocks
list_of s (both_err f g) = []
list_of s (no k) = []

-- .. whatever is lent: a tape's and a model's
unfoldable pub block_list_of : List ℕ → ℕ → List View
block_list_of s model = list_of s (boundless_load s model)
