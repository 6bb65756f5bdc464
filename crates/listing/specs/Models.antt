-- What the model changes of a listing. Definitions alone; assumes nothing.
use Rattle.std.specs.Prelude.{ℕ, List, [], ◌∷◌, ◌++◌}
use Rattle.text_listing.specs.Page.{model_text}
use Rattle.listing.specs.Listing.{Listing, text, refused}

-- `model `
abbrev pub model_word : List ℕ
model_word = 0x6D ∷ 0x6F ∷ 0x64 ∷ 0x65 ∷ 0x6C ∷ 0x20 ∷ []

-- the same refusal, or texts that are equal behind the model's name
pub data Alike (m m' : ℕ) : Listing → Listing → Type 0 where
  refusals : {k : ℕ} → Alike m m' (refused k) (refused k)
  texts : (rest : List ℕ) → Alike m m' (text (model_word ++ model_text m ++ rest)) (text (model_word ++ model_text m' ++ rest))
