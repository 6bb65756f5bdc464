-- WHAT A PROGRAM PRINTS: every text fits 300,000 bytes, so that a number below 32 is the load's refusal.
-- Assumes nothing but that bytes are below 256.
use Prim.Native.Nat.{ℕ, ◌≤◌, ◌<◌}
use native.Mathlib.Omega.{arith}
use mathlib.Core.Path.{◌≡◌, refl, sym, subst, ◌∙◌}
use mathlib.Core.Bool.{Bool, true, false}
use mathlib.Core.List.{List}
use lib.ListN.{length, length-append, drop}
use lib.Seq.{take-length, take-append-le}
use lib.Dec.{leb, ltb}
use Rattle.law_base.specs.Rules.{◌⇒◌, ◌∣◌}
use Rattle.refusals.specs.Refusals.{bad_model, tape_long}
use Rattle.text_out.specs.Out.{Wrote, refused_line}
use Rattle.text_out.proofs.Writing.{wrote_counted, same_len}
use Rattle.load_source.specs.Source.{Load, tzx, tapped, both_err, no}
use Rattle.load_tape.specs.declared.Format.TheVariants.{Tap, Tzx}
use Rattle.load_tape.specs.Load.{answer_of, block_table, tone_table, Leaves}
use Rattle.law_every_load.specs.Sizes.{Bytes}
use Rattle.listing.specs.Listing.{block_words, tone_words, loaded_of, Listing, text, refused, mounted, listed, listed_by, listing_of}
use Rattle.listing.specs.Listing.{listing_by}
use Rattle.listing.specs.Listing.{answer_to, bytes_after}
use Rattle.listing.specs.Printed.{printed_of, Says}
use Rattle.text_listing.proofs.Showing.{name_part}
use Rattle.text_listing.proofs.PageTexts.{text-most}
use Rattle.listing.proofs.Mounting.{load_ready}
use Rattle.listing.proofs.Numbers.{Tells, refusal, too_short, listing, listing_sized, tells_number}

-- a text of at most 300,000 bytes, or a refusal
data Fits : Listing → Type 0 where
  fit : {t : List ℕ} → length t ≤ 300000 → Fits (text t)
  none : {k : ℕ} → Fits (refused k)

module _ (s : List ℕ) (model : ℕ) (b : Bytes s) where
  listed-fits : (l : Load) → loaded_of s model ≡ l → Fits (listed s model l)
  unfolding listed_by mounted answer_of
  listed-fits (tzx t) e =
      let y : Leaves block_words tone_words (tzx t) (answer_of (tzx t)) (block_table block_words (tzx t)) (tone_table tone_words (tzx t)) =
      record { answer = refl; blocks = refl; tones = refl } in
      let l = subst (λ (x : Load).
      Leaves block_words tone_words x (answer_of (tzx t)) (block_table block_words (tzx t)) (tone_table tone_words (tzx t))) (sym e) y in
      fit (text-most model Tzx (load_ready s model b l) _)
  listed-fits (tapped t) e =
      let y : Leaves block_words tone_words (tapped t) (answer_of (tapped t)) (block_table block_words (tapped t))
      (tone_table tone_words (tapped t)) = record { answer = refl; blocks = refl; tones = refl } in
      let l = subst (λ (x : Load).
      Leaves block_words tone_words x (answer_of (tapped t)) (block_table block_words (tapped t)) (tone_table tone_words (tapped t))) (sym e) y in
      fit (text-most model Tap (load_ready s model b l) _)
  listed-fits (both_err f g) e = none
  listed-fits (no k) e = none

  -- EVERY TEXT FITS
  listing_fits : Fits (listing_of s model)
  unfolding listing_by
  listing_fits = by_cases (leb 3 model) (ltb 65535 (length s))
    where
      by_cases : (c d : Bool) → Fits (c ⇒ refused bad_model ∣ d ⇒ refused tape_long ∣ listed s model (loaded_of s model))
      by_cases true d = none
      by_cases false true = none
      by_cases false false = listed-fits (loaded_of s model) refl

  pub text-fits : {t : List ℕ} → listing_of s model ≡ text t → length t ≤ 300000
  text-fits {t} e = of listing_fits e
    where
      of : {l : Listing} → Fits l → l ≡ text t → length t ≤ 300000
      of (fit {t = u} h) q = let z : u ≡ t = cc in rw (sym z) h
      of none q = absurd (let z : ◌≡◌ {A = ℕ} 0 1 = cc in omega arith)

-- a text written from the front of bytes that have room for it
pub says_written : {d d1 t : List ℕ} {n : ℕ} → Wrote d 0 t d1 n → length t ≤ length d → Says t n d1
says_written p h = record { count = omega (arith, wrote_counted p, same_len p); front = name_part p h }

-- a listing for which there is room
abbrev Roomy : Listing → List ℕ → Type 0
Roomy l out = (t : List ℕ) → l ≡ text t → length t ≤ length out

refusal_told : {l : Listing} {out out' : List ℕ} {r : ℕ} → Roomy l out → Tells l out r out' → r < 32 → l ≡ refused r
refusal_told room (refusal e a b) h = e
refusal_told room (too_short {t = t} e k) h = let z = room t e in absurd (omega arith)
refusal_told room (listing e k m) h = absurd (omega arith)

text-told : {l : Listing} {out out' : List ℕ} {r : ℕ} → Tells l out r out' → 32 ≤ r → Says (printed_of l) r out'
unfolding printed_of
text-told (refusal e a b) h = absurd (omega arith)
text-told (too_short e k) h = absurd (omega arith)
text-told {out = out} (listing {t = t} e k m) h =
    rw e (record {
      count = simp length-append (omega arith);
      front = take-append-le (length t) t (drop (length t) out) (omega arith) ∙ take-length t;
    })

module _ (s out : List ℕ) (model : ℕ) {r : ℕ} {out' : List ℕ} (b : Bytes s) (room : 300000 ≤ length out)
    (e : r ≡ answer_to (listing_of s model) out) (f : out' ≡ bytes_after (listing_of s model) out) where
  told : Tells (listing_of s model) out r out'
  told =
      subst (λ (x : ℕ). Tells (listing_of s model) out x out') (sym e)
      (subst (λ (x : List ℕ). Tells (listing_of s model) out (answer_to (listing_of s model) out) x) (sym f)
      (tells_number (listing_of s model) out (listing_sized s model)))

  roomy : Roomy (listing_of s model) out
  roomy t q = omega (arith, text-fits s model b q)

  -- below 32: the load's refusal, which is then printed; else the text
  pub say_refusal : {n : ℕ} {out'' : List ℕ} → r < 32 → Says (refused_line r) n out''
      → Says (printed_of (listing_of s model)) n out''
  unfolding printed_of
  say_refusal h p = rw (refusal_told roomy told h) p

  pub say_text : 32 ≤ r → Says (printed_of (listing_of s model)) r out'
  say_text h = text-told told h
