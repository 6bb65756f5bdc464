-- ONE NUMBER IS ENOUGH for the C host: no text is shorter than 37 bytes, and no refusal's number is above 10;
-- what the number says of the bytes. Assumes nothing.
use Prim.Native.Nat.{ℕ, ◌≤◌, ◌<◌}
use native.Mathlib.Omega.{arith}
use mathlib.Core.Path.{◌≡◌, refl, sym}
use mathlib.Core.Bool.{Bool, true, false}
use mathlib.Core.List.{List, ◌++◌}
use lib.ListN.{length, drop}
use lib.Dec.{leb, ltb}
use borrow.Author.Tests.{leb-true, leb-false}
use Rattle.law_base.specs.Rules.{◌⇒◌, ◌∣◌}
use Rattle.refusals.specs.Refusals.{bad_model, tape_long, tape_bad, last_bits, no_room}
use Rattle.text_out.specs.Out.{fits, told}
use Rattle.load_source.specs.Source.{Load}
use Rattle.load_tape.specs.Load.{load_named}
use Rattle.load_tape.specs.declared.Format.TheVariants.{Tap, Tzx}
use Rattle.law_every_load.proofs.Refusals.{load_numbered, named_numbered}
use Rattle.law_every_load.specs.Numbered.{Numbered, as_tzx, as_tap, both, by}
use Rattle.listing.specs.Listing.{loaded_of, Listing, text, refused, listed, listed_by, listing_of, listing_by, answer_to, bytes_after}
use Rattle.listing.specs.Printed.{Spoken, spoken}
use Rattle.text_listing.proofs.PageTexts.{text_least}

-- a text of 37 bytes at least, or a refusal by a number from 1 to 7
pub data TextOrNo : Listing → Type 0 where
  long : {t : List ℕ} → 37 ≤ length t → TextOrNo (text t)
  small : {k : ℕ} → bad_model ≤ k → k ≤ last_bits → TextOrNo (refused k)

listed_sized : (s : List ℕ) (model : ℕ) {l : Load} → Numbered l → TextOrNo (listed s model l)
unfolding listed_by
listed_sized s model as_tzx = long (text_least model Tzx _)
listed_sized s model as_tap = long (text_least model Tap _)
listed_sized s model both = small {k = tape_bad} (omega arith) (omega arith)
listed_sized s model (by a b) = small a b

-- EVERY LISTING: so `text-length` is that of a text
pub listing_sized : (s : List ℕ) (model : ℕ) → TextOrNo (listing_of s model)
unfolding listing_by loaded_of load_named
listing_sized s model = by_cases (leb 3 model) (ltb 65535 (length s))
  where
    by_cases : (a b : Bool) → TextOrNo (a ⇒ refused bad_model ∣ b ⇒ refused tape_long ∣ listed s model (loaded_of s model))
    by_cases true b = small {k = bad_model} (omega arith) (omega arith)
    by_cases false true = small {k = tape_long} (omega arith) (omega arith)
    by_cases false false = listed_sized s model (named_numbered s (load_numbered _ s model))

pub text-length : (s : List ℕ) (model : ℕ) {t : List ℕ} → listing_of s model ≡ text t → 37 ≤ length t
text-length s model {t} e = of (listing_sized s model) e
  where
    of : {l : Listing} → TextOrNo l → l ≡ text t → 37 ≤ length t
    of (long {t = u} h) q = let z : u ≡ t = cc in rw (sym z) h
    of (small a b) q = absurd (let z : ◌≡◌ {A = ℕ} 0 1 = cc in omega arith)

-- what the number r, and the output bytes after the call, are
pub data Tells (l : Listing) (out : List ℕ) : ℕ → List ℕ → Type 0 where
  refusal : {k : ℕ} → l ≡ refused k → bad_model ≤ k → k ≤ last_bits → Tells l out k out
  too_short : {t : List ℕ} → l ≡ text t → length out < length t → Tells l out no_room out
  listing : {t : List ℕ} → l ≡ text t → 37 ≤ length t → length t ≤ length out
      → Tells l out (length t) (t ++ drop (length t) out)

pub tells_number : (l : Listing) (out : List ℕ) → TextOrNo l → Tells l out (answer_to l out) (bytes_after l out)
unfolding answer_to bytes_after told
tells_number (text t) out (long h) = by_room (fits t out) refl
  where
    by_room : (b : Bool) → fits t out ≡ b → Tells (text t) out (b ⇒ length t ∣ no_room) (b ⇒ t ++ drop (length t) out ∣ out)
    by_room true e = listing refl h (leb-true _ _ e)
    by_room false e = too_short refl (leb-false _ _ e)
tells_number (refused k) out (small a b) = refusal refl a b

-- BELOW 32 A REFUSAL, and no byte is written; ELSE THE TEXT'S LENGTH, and the text stands in front
below : {l : Listing} {out out' : List ℕ} {r : ℕ} → Tells l out r out' → r < 32 → (r ≤ no_room) × (out' ≡ out)
below (refusal e a b) h = (omega arith, refl)
below (too_short e k) h = (omega arith, refl)
below (listing e k m) h = absurd (omega arith)

above : {l : Listing} {out out' : List ℕ} {r : ℕ} → Tells l out r out' → 32 ≤ r → Spoken l out r out'
above (refusal e a b) h = absurd (omega arith)
above (too_short e k) h = absurd (omega arith)
above (listing e k m) h = spoken e refl refl

pub number_tells : (s : List ℕ) (model : ℕ) (out : List ℕ)
    → (answer_to (listing_of s model) out < 32
    → (answer_to (listing_of s model) out ≤ no_room) × (bytes_after (listing_of s model) out ≡ out))
    × (32 ≤ answer_to (listing_of s model) out
    → Spoken (listing_of s model) out (answer_to (listing_of s model) out) (bytes_after (listing_of s model) out))
number_tells s model out = let x = tells_number (listing_of s model) out (listing_sized s model) in (below x, above x)
