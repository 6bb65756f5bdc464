-- What the program `list` prints of its input (rule 110). Definitions alone; assumes nothing.
use Rattle.std.specs.Prelude.{ℕ, List, [], ◌∷◌}
use Rattle.refusals.specs.Refusals.{bad_model}
use Rattle.prog_model.specs.Models.{model_of}
use Rattle.listing.specs.Listing.{Listing, refused, listing_of}

-- a missing first byte is 1; else it names the model, a bad one too, and the rest is the tape
unfoldable pub listing_heard : List ℕ → Listing
listing_heard [] = refused bad_model
listing_heard (b ∷ tape) = listing_of tape (model_of b)
