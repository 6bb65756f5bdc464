-- The listing (rules 109, 111): a load's text or refusal, and what the exported function answers. Definitions alone; assumes nothing.
use Rattle.std.specs.Prelude.{ℕ, ◌*◌, List, ltb, leb, length}
use Rattle.law_base.specs.Rules.{◌⇒◌, ◌∣◌}
use Rattle.refusals.specs.Refusals.{bad_model, tape_long, tape_bad, no_room}
use Rattle.text_out.specs.Out.{fits, told}
use Rattle.rows.specs.Rows.{block, tone}
use Rattle.play_entries.specs.Places.{Tape}
use Rattle.play_entries.specs.Mounted.{tape_of}
use Rattle.load_source.specs.Source.{Load, tzx, tapped, both_err, no}
use Rattle.load_tape.specs.declared.Format.{Format}
use Rattle.load_tape.specs.declared.Format.TheVariants.{Tap, Tzx}
use Rattle.load_tape.specs.Load.{load_named, block_table, tone_table}
use Rattle.text_listing.specs.Page.{listing_text, listed_text}
use Rattle.load_blocks.specs.Adds.{Lent}

-- the words of 512 block and 2,048 tone rows
abbrev pub block_words : ℕ
block_words = 512 * block.width

abbrev pub tone_words : ℕ
tone_words = 2048 * tone.width

-- as many rows are lent to the load
abbrev pub listing_lent : Lent
listing_lent = record { blocks = 512; tones = 2048 }

unfoldable pub loaded_of : List ℕ → ℕ → Load
loaded_of s model = load_named listing_lent s model

-- a load's listing: a text, or the refusal's number
pub data Listing : Type 0 where
  text : List ℕ → Listing
  refused : ℕ → Listing

-- the tape as the load leaves it in the tables
unfoldable pub mounted : List ℕ → Load → ℕ → Tape
mounted s l n = tape_of s (tone_table tone_words l) (block_table block_words l) n

-- as a text is written of such a tape
unfoldable pub listed_by : (ℕ → Format → Tape → List ℕ) → List ℕ → ℕ → Load → Listing
listed_by write s model (tzx t) = text (write model Tzx (mounted s (tzx t) (length t.blocks)))
listed_by write s model (tapped t) = text (write model Tap (mounted s (tapped t) (length t.blocks)))
listed_by write s model (both_err f g) = refused tape_bad
listed_by write s model (no k) = refused k

unfoldable pub listing_by : (ℕ → Format → Tape → List ℕ) → List ℕ → ℕ → Listing
listing_by write s model =
    leb 3 model ⇒ refused bad_model
    ∣ ltb 65535 (length s) ⇒ refused tape_long
    ∣ listed_by write s model (loaded_of s model)

-- THE LISTING of a tape, its times by the rows' words: 1, 2 over 65,535 bytes, 3 to 7
abbrev pub listed : List ℕ → ℕ → Load → Listing
listed = listed_by listing_text

abbrev pub listing_of : List ℕ → ℕ → Listing
listing_of = listing_by listing_text

-- and by the pulse list, which is the same (`listing_listed` of law_promises)
abbrev pub pulse_listing : List ℕ → ℕ → Listing
pulse_listing = listing_by listed_text

-- the answer: the text's length, or the refusal's number: 10 where the output buffer is shorter than the text
unfoldable pub answer_to : Listing → List ℕ → ℕ
answer_to (text t) out = fits t out ⇒ length t ∣ no_room
answer_to (refused k) out = k

-- the output bytes after it: nothing is written on a refusal, bytes past the text stay
unfoldable pub bytes_after : Listing → List ℕ → List ℕ
bytes_after (text t) out = told t out
bytes_after (refused k) out = out
