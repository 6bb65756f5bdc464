-- WHAT THE MODEL CHANGES OF A LISTING: between 1 and 2, and between all three where no 2A is reached,
-- nothing but its name and what the name's length causes.
-- Assumes nothing.
use Prim.Native.Nat.{ℕ, zero, suc, ◌+◌, ◌≤◌, ◌<◌}
use native.Mathlib.Omega.{arith}
use mathlib.Core.Path.{◌≡◌, refl, sym, ap, subst, ◌∙◌}
use mathlib.Core.Bool.{Bool, true, false}
use mathlib.Core.List.{List, ◌++◌}
use mathlib.Core.Logic.{⊎_elim}
use lib.ListN.{length, length-append}
use lib.Dec.{ltb}
use borrow.Author.Tests.{lt-leb, le-leb}
use Rattle.law_base.specs.Rules.{◌⇒◌, ◌∣◌}
use Rattle.law_base.proofs.Numbers.{lt_or_ge}
use Rattle.refusals.specs.Refusals.{tape_long}
use Rattle.text_out.specs.Out.{fits}
use Rattle.load_source.specs.Source.{Load, tzx, tapped, both_err, no}
use Rattle.load_source.specs.Reached.{reaches_2a}
use Rattle.load_source.proofs.Models.{models_equal, models_agree}
use Rattle.load_tape.specs.Load.{named_load, load_named}
use Rattle.text_listing.specs.Page.{model_text, listing_text}
use Rattle.listing.specs.Listing.{listing_lent, loaded_of, Listing, text, refused, listed, listed_by, listing_of, listing_by}
use Rattle.listing.specs.Models.{model_word, Alike, refusals, texts}

-- one load listed for two models
listed_alike : (s : List ℕ) (m m' : ℕ) (l : Load) → Alike m m' (listed s m l) (listed s m' l)
unfolding listed_by listing_text
listed_alike s m m' (tzx t) = texts _
listed_alike s m m' (tapped t) = texts _
listed_alike s m m' (both_err f g) = refusals
listed_alike s m m' (no k) = refusals

module _ (s : List ℕ) where
  loads_alike : (m m' : ℕ) → m < 3 → m' < 3 → loaded_of s m ≡ loaded_of s m'
      → Alike m m' (listing_of s m) (listing_of s m')
  unfolding listing_by
  loads_alike m m' h h' e =
      rw (lt-leb 3 m h, lt-leb 3 m' h') (by_length (ltb 65535 (length s))
      (subst (λ (l : Load). Alike m m' (listed s m (loaded_of s m)) (listed s m' l)) e (listed_alike s m m' (loaded_of s m))))
    where
      by_length : (b : Bool) {x y : Listing} → Alike m m' x y
          → Alike m m' (b ⇒ refused tape_long ∣ x) (b ⇒ refused tape_long ∣ y)
      by_length true a = refusals
      by_length false a = a

  equal : loaded_of s 1 ≡ loaded_of s 2
  unfolding loaded_of load_named
  equal = ap (named_load s) (models_equal listing_lent s)

  agree : reaches_2a listing_lent s ≡ false → loaded_of s 0 ≡ loaded_of s 1
  unfolding loaded_of load_named
  agree e = ap (named_load s) (models_agree listing_lent s e)

  as_128 : reaches_2a listing_lent s ≡ false → (m : ℕ) → m < 3 → loaded_of s m ≡ loaded_of s 1
  as_128 e zero h = agree e
  as_128 e (suc zero) h = refl
  as_128 e (suc (suc zero)) h = sym equal
  as_128 e (suc (suc (suc m))) h = absurd (omega arith)

  -- MODELS 1 AND 2 always; ALL THREE where no 2A is reached
  pub models_12 : Alike 1 2 (listing_of s 1) (listing_of s 2)
  models_12 = loads_alike 1 2 (omega arith) (omega arith) equal

  pub models_all : reaches_2a listing_lent s ≡ false → (m m' : ℕ) → m < 3 → m' < 3
      → Alike m m' (listing_of s m) (listing_of s m')
  models_all e m m' h h' = loads_alike m m' h h' (as_128 e m h ∙ sym (as_128 e m' h'))

-- WHAT THE NAME'S LENGTH CAUSES: the texts' lengths differ by it, and bytes that are longer by it have room alike: 10 is given alike
apart : (m m' : ℕ) (rest : List ℕ)
    → length (model_word ++ model_text m ++ rest) + length (model_text m')
    ≡ length (model_word ++ model_text m' ++ rest) + length (model_text m)
apart m m' rest = simp length-append (omega arith)

pub lengths_apart : {m m' : ℕ} {l l' : Listing} {t t' : List ℕ} → Alike m m' l l' → l ≡ text t → l' ≡ text t'
    → length t + length (model_text m') ≡ length t' + length (model_text m)
lengths_apart {t = t} refusals e f = absurd (let z : ◌≡◌ {A = ℕ} 0 1 = cc in omega arith)
lengths_apart {m} {m'} {t = t} {t'} (texts rest) e f =
    let a : model_word ++ model_text m ++ rest ≡ t = cc in
    let b : model_word ++ model_text m' ++ rest ≡ t' = cc in
    omega (arith, ap length a, ap length b, apart m m' rest)

pub room_alike : {m m' : ℕ} {l l' : Listing} {t t' : List ℕ} → Alike m m' l l' → l ≡ text t → l' ≡ text t'
    → (out out' : List ℕ) → length out + length (model_text m') ≡ length out' + length (model_text m)
    → fits t out ≡ fits t' out'
room_alike {t = t} {t'} a e f out out' d =
    let z = lengths_apart a e f in
    ⊎_elim
    (λ (h : length out < length t). lt-leb (length t) (length out) h ∙ sym (lt-leb (length t') (length out') (omega arith)))
    (λ (h : length t ≤ length out). le-leb (length t) (length out) h ∙ sym (le-leb (length t') (length out') (omega arith)))
    (lt_or_ge (length out) (length t))
