-- NUMBERS FOR NO, OF THE LISTING: 1, 2 over 65,535 bytes, then the load's, and 10. Assumes nothing.
use Prim.Native.Nat.{ℕ, ◌≤◌, ◌<◌}
use native.Mathlib.Omega.{arith}
use borrow.Author.Tests.{le-leb, lt-leb, leb-true, leb-false, lt-ltb, le-ltb, ltb-true, ltb-false}
use mathlib.Core.Path.{◌≡◌, refl, ap}
use mathlib.Core.Bool.{Bool, true, false}
use mathlib.Core.Logic.Iff
use mathlib.Core.Logic.{◌↔◌}
use mathlib.Core.List.{List}
use lib.ListN.{length}
use lib.Dec.{leb, ltb}
use Rattle.text_out.specs.Out.{fits}
use Rattle.law_base.specs.Rules.{◌⇒◌, ◌∣◌}
use Rattle.refusals.specs.Refusals.{bad_model, tape_long, tape_bad, last_bits, no_room}
use Rattle.load_source.specs.Source.{Load, tzx, tapped, both_err, no}
use Rattle.load_tape.specs.Load.{answer_of, refusal_no}
use Rattle.listing.specs.Listing.{loaded_of, Listing, text, refused, listed, listed_by, listing_of, listing_by, answer_to}
use Rattle.listing.proofs.Numbers.{TextOrNo, long, small, listing_sized}
use Rattle.law_promises.specs.Numbers.{Admitted}
use Rattle.law_promises.proofs.Loads.{Ways, by_model, by_size, by-rest, ways, ways_back}
use Rattle.law_promises.proofs.Numbers.{given_1, given_2}

-- the number that the host gets, of a refusal and of a text
sized_no : (out : List ℕ) (k : ℕ) → k ≤ last_bits → {l : Listing} → TextOrNo l → (answer_to l out ≡ k) ↔ (l ≡ refused k)
unfolding answer_to
sized_no out k m (long {t = t} h) = (λ e. absurd (of (fits t out) e), λ e. let z : ◌≡◌ {A = ℕ} 0 1 = cc in absurd (omega arith))
  where
    of : (b : Bool) → (b ⇒ length t ∣ no_room) ≡ k → ⊥
    of true e = absurd (omega arith)
    of false e = absurd (omega arith)
sized_no out k m (small {k = j} a b) = (λ e. ap refused e, λ e. let z : j ≡ k = cc in z)

sized_10 : (out : List ℕ) {l : Listing} → TextOrNo l
    → (answer_to l out ≡ no_room) ↔ ((t : List ℕ) × (l ≡ text t) × (length out < length t))
unfolding answer_to
sized_10 out (long {t = t} h) = (
  λ e. (t, refl, of (fits t out) refl e),
  λ x. let e = x.1 in
      let z : t ≡ x.0 = cc in
      let y : length t ≡ length x.0 = ap length z in
      rw (lt-leb (length t) (length out) (omega (arith, x.2, y))),
)
  where
    of : (b : Bool) → fits t out ≡ b → (b ⇒ length t ∣ no_room) ≡ no_room → length out < length t
    of true q e = absurd (omega arith)
    of false q e = leb-false _ _ q
sized_10 out (small {k = j} a b) =
    (λ e. absurd (omega arith), λ x. let e = x.1 in let z : ◌≡◌ {A = ℕ} 0 1 = cc in absurd (omega arith))

apart : (i j : ℕ) → refused i ≡ refused j → i ≡ j
apart i j e = cc

-- a listing is refused where the load is
listed-no : (s : List ℕ) (model k : ℕ) (l : Load) → 0 < k → (listed s model l ≡ refused k) ↔ (refusal_no (answer_of l) ≡ k)
unfolding listed_by answer_of refusal_no
listed-no s model k (tzx t) h = (λ e. let z : ◌≡◌ {A = ℕ} 0 1 = cc in absurd (omega arith), λ e. absurd (omega arith))
listed-no s model k (tapped t) h = (λ e. let z : ◌≡◌ {A = ℕ} 0 1 = cc in absurd (omega arith), λ e. absurd (omega arith))
listed-no s model k (both_err f g) h = (λ e. apart tape_bad k e, λ e. ap refused e)
listed-no s model k (no j) h = (λ e. apart j k e, λ e. ap refused e)

module _ (s : List ℕ) (model : ℕ) where
  abbrev Checks : ℕ → Type 0
  Checks k = Ways refused (leb 3 model) (ltb 65535 (length s)) (listed s model (loaded_of s model)) k

  checks : (k : ℕ) → (listing_of s model ≡ refused k) ↔ Checks k
  unfolding listing_by
  checks k = (λ e. ways refused apart _ _ _ k e, λ w. ways_back refused apart w)

  module _ (out : List ℕ) where
    number : (k : ℕ) → k ≤ last_bits → (answer_to (listing_of s model) out ≡ k) ↔ Checks k
    number k m = Iff.trans (sized_no out k m (listing_sized s model)) (checks k)

    pub listing_1 : (answer_to (listing_of s model) out ≡ bad_model) ↔ (3 ≤ model)
    unfolding loaded_of
    listing_1 = (λ e. of ((number bad_model (omega arith)).0 e), λ h. (number bad_model (omega arith)).1 (by_model (le-leb _ _ h) refl))
      where
        of : Checks bad_model → 3 ≤ model
        of (by_model e q) = leb-true _ _ e
        of (by_size e f q) = absurd (omega arith)
        of (by-rest e f q) = (given_1 _ s model).0 ((listed-no s model bad_model _ (omega arith)).0 q)

    -- 2: in the listing, over 65,535
    pub listing_2 : (answer_to (listing_of s model) out ≡ tape_long) ↔ ((model < 3) × (65535 < length s))
    unfolding loaded_of
    listing_2 = (
      λ e. of ((number tape_long (omega arith)).0 e),
      λ h. (number tape_long (omega arith)).1 (by_size (lt-leb _ _ h.0) (lt-ltb _ _ h.1) refl),
    )
      where
        of : Checks tape_long → (model < 3) × (65535 < length s)
        of (by_model e q) = absurd (omega arith)
        of (by_size e f q) = (leb-false _ _ e, ltb-true _ _ f)
        of (by-rest e f q) =
            let x = (given_2 _ s model).0 ((listed-no s model tape_long _ (omega arith)).0 q) in
            absurd (omega (arith, x.1, ltb-false 65535 (length s) f))

    -- 3 to 7: the load's, with 512 block and 2,048 tone rows
    pub listing_load : (k : ℕ) → tape_bad ≤ k → k ≤ last_bits
        → (answer_to (listing_of s model) out ≡ k) ↔ (Admitted 65535 s model × (refusal_no (answer_of (loaded_of s model)) ≡ k))
    listing_load k l m = (
      λ e. of ((number k m).0 e),
      λ h. (number k m).1 (by-rest (lt-leb _ _ h.0.known) (le-ltb _ _ h.0.short) ((listed-no s model k _ (omega arith)).1 h.1)),
    )
      where
        of : Checks k → Admitted 65535 s model × (refusal_no (answer_of (loaded_of s model)) ≡ k)
        of (by_model e q) = absurd (omega arith)
        of (by_size e f q) = absurd (omega arith)
        of (by-rest e f q) = (record { known = leb-false _ _ e; short = ltb-false _ _ f }, (listed-no s model k _ (omega arith)).0 q)

    -- 10: output buffer shorter than the text
    pub listing_10 : (answer_to (listing_of s model) out ≡ no_room)
        ↔ ((t : List ℕ) × (listing_of s model ≡ text t) × (length out < length t))
    listing_10 = sized_10 out (listing_sized s model)
