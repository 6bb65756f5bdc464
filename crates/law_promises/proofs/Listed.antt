-- THE WHOLE LISTING, its times by the rows' words, is the one by the pulse list. Assumes nothing but that bytes are below 256.
use Prim.Native.Nat.{ℕ}
use mathlib.Core.Path.{◌≡◌, refl, sym, ap, subst}
use mathlib.Core.List.{List}
use lib.ListN.{length}
use lib.Dec.{leb, ltb}
use Rattle.std.specs.Prelude.{Ok}
use Rattle.law_base.specs.Rules.{◌⇒◌, ◌∣◌}
use Rattle.refusals.specs.Refusals.{bad_model, tape_long}
use Rattle.load_blocks.specs.Does.{lent_of}
use Rattle.load_source.specs.Source.{Load, tzx, tapped, both_err, no}
use Rattle.load_tape.specs.declared.Format.{Format}
use Rattle.load_tape.specs.declared.Format.TheVariants.{Tap, Tzx}
use Rattle.load_tape.specs.Load.{load_named, answer_of, block_table, tone_table, Leaves, loaded_as}
use Rattle.law_every_load.specs.Sizes.{Bytes}
use Rattle.law_every_load.proofs.Timed.{left_timed}
use Rattle.text_listing.specs.Page.{listing_text, listed_text}
use Rattle.text_listing.proofs.Listed.{text-listed}
use Rattle.listing.specs.Listing.{block_words, tone_words, loaded_of, Listing, text, refused, mounted, listed_by, listing_by, listing_of}
use Rattle.listing.specs.Listing.{pulse_listing}

module _ (s : List ℕ) (model : ℕ) (b : Bytes s) where
  -- the tables that the listing's load leaves
  leaves : {f : Format} {n k : ℕ} (x : Load) → loaded_of s model ≡ x → Ok (loaded_as f n k) ≡ answer_of x
      → Leaves block_words tone_words (load_named (lent_of block_words tone_words) s model) (Ok (loaded_as f n k)) (block_table block_words x)
      (tone_table tone_words x)
  unfolding loaded_of
  leaves {f} {n} {k} x e a =
      subst (λ (l : Load). Leaves block_words tone_words l (Ok (loaded_as f n k)) (block_table block_words x) (tone_table tone_words x)) (sym e)
      (record { answer = a; blocks = refl; tones = refl })

  by_load : (x : Load) → loaded_of s model ≡ x → listed_by listing_text s model x ≡ listed_by listed_text s model x
  unfolding listed_by mounted answer_of
  by_load (tzx t) e = ap text (text-listed model Tzx _ (left_timed block_words tone_words s model b (leaves (tzx t) e refl)))
  by_load (tapped t) e = ap text (text-listed model Tap _ (left_timed block_words tone_words s model b (leaves (tapped t) e refl)))
  by_load (both_err f g) e = refl
  by_load (no k) e = refl

  pub listing_listed : listing_of s model ≡ pulse_listing s model
  unfolding listing_by
  listing_listed =
      ap (λ (l : Listing). leb 3 model ⇒ refused bad_model ∣ ltb 65535 (length s) ⇒ refused tape_long ∣ l) (by_load (loaded_of s model) refl)
