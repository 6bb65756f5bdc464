-- What a program prints of a listing (rule 110): its text, or `refused n` and a line feed. Definitions alone; assumes nothing.
use Rattle.std.specs.Prelude.{ℕ, ◌≤◌, ◌≡◌, List, ◌++◌, length, take, drop}
use Rattle.text_out.specs.Out.{refused_line}
use Rattle.listing.specs.Listing.{Listing, text, refused}

unfoldable pub printed_of : Listing → List ℕ
printed_of (text t) = t
printed_of (refused k) = refused_line k

-- the first r bytes of `out` are the text
pub record Says (t : List ℕ) (r : ℕ) (out : List ℕ) : Type 0 where
  pub count : r ≤ length out
  pub front : take r out ≡ t

-- the text of a listing, its length and the bytes with it in front
pub data Spoken (l : Listing) (out : List ℕ) (r : ℕ) (out' : List ℕ) : Type 0 where
  spoken : {t : List ℕ} → l ≡ text t → r ≡ length t → out' ≡ t ++ drop (length t) out → Spoken l out r out'
