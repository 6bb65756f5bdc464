-- FROM A LOAD TO ITS LISTING: the tables that a load of 8,192 and 8,192 words leaves are ready, and what is listed of them is the listing.
-- Assumes nothing but that bytes are below 256.
use Prim.Native.Nat.{ℕ, ◌≤◌, ◌<◌}
use native.Mathlib.Omega.{arith}
use mathlib.Core.Path.{◌≡◌, refl, sym, ap, subst, ◌∙◌}
use mathlib.Core.Bool.{false, false≢true}
use mathlib.Core.List.{List}
use lib.ListN.{length}
use borrow.Author.Tests.{le-leb, lt-leb, lt-ltb, le-ltb, ltb-true}
use Rattle.refusals.specs.Refusals.{bad_model, tape_long}
use Rattle.rows.specs.Table.{get, table_of}
use Rattle.rows.specs.Rows.{block, tone}
use Rattle.rows.proofs.WellLaws.{block_clauses, ranges_inside}
use Rattle.load_state.specs.Parser.{Parsed}
use Rattle.load_blocks.specs.Does.{lent_of}
use Rattle.load_source.specs.Source.{Load, tzx, tapped, both_err, no, load_of}
use Rattle.text_name.specs.Names.{name_all}
use Rattle.text_name.proofs.Selecting.{name_all-length}
use Rattle.play_entries.specs.Places.{Tape}
use Rattle.play_entries.specs.Mounted.{tape_of, tape_size, well_row}
use Rattle.std.specs.Prelude.{Result, Ok, Err}
use Rattle.load_tape.specs.declared.Format.{Format}
use Rattle.load_tape.specs.declared.Format.TheVariants.{Tap, Tzx}
use Rattle.load_tape.specs.declared.Loaded.{Loaded}
use Rattle.load_tape.specs.declared.NotLoaded.{NotLoaded}
use Rattle.load_tape.specs.Load.{named_tape, named_load, load_named, answer_of, refusal_no, not_loaded_no, block_table, tone_table, Leaves}
use Rattle.load_tape.proofs.Naming.{count_of, is_tape}
use Rattle.law_every_load.specs.Sizes.{Bytes}
use Rattle.law_every_load.specs.OfSource.{Reads, as_tzx, as_tap}
use Rattle.law_every_load.proofs.Room.{load_within}
use Rattle.law_every_load.proofs.Well.{table-length, loaded_well}
use Rattle.law_every_load.proofs.Left.{mounted-same}
use Rattle.law_every_load.proofs.Names.{loaded_names}
use Rattle.text_listing.specs.Inner.{ReadyRow, Ready}
use Rattle.text_listing.specs.Page.{listing_text}
use Rattle.listing.specs.Listing.{block_words, tone_words, loaded_of, text, refused, mounted as mounted_of, listed, listed_by, Listing}
use Rattle.listing.specs.Listing.{listing_of, listing_by}
use Rattle.listing.specs.Listing.{answer_to, bytes_after}

-- the load in the words that are lent
pub lent_words : {a : Result Loaded NotLoaded} {bt tt : List ℕ} (s : List ℕ) (model : ℕ)
    → Leaves block_words tone_words (load_named (lent_of block_words tone_words) s model) a bt tt
    → Leaves block_words tone_words (loaded_of s model) a bt tt
unfolding loaded_of
lent_words s model l = l

-- A READY ROW of a tape that was read, whatever was lent
module _ (B N : ℕ) (s : List ℕ) (model : ℕ) (b : Bytes s) {t : Parsed} (r : Reads (load_of (lent_of B N) s model) t) where
  pub row_ready : (i : ℕ) → i < length t.blocks → ReadyRow s (table_of block (name_all s false t.blocks) B) i
  unfolding well_row
  row_ready i h =
      let w = load_within (lent_of B N) s model b r in
      let l = name_all-length s false t.blocks in
      let rows = table_of block (name_all s false t.blocks) B in
      let e : length rows ≡ B = table-length block (name_all s false t.blocks) B (omega (arith, w.blocks)) in
      let k = block_clauses (tape_size s) (table_of tone t.tones N) (get block rows i) (loaded_well B N s model b r i h) in
      let p = ranges_inside (tape_size s) (table_of tone t.tones N) (get block rows i) k.ranges in
      record {
        lent = omega (arith, w.blocks);
        inside = p.bytes;
        named = p.name;
        numbers = k.numbers;
        sound = ltb-true _ _ k.sound;
        short = loaded_names B N s model b r i h;
      }

-- the rows of a tape that was read into the listing's tables
rows_ready : (s : List ℕ) (model : ℕ) → Bytes s → {t : Parsed} → Reads (load_of (lent_of block_words tone_words) s model) t
    → Ready s (table_of block (name_all s false t.blocks) block_words) (length t.blocks)
rows_ready s model b r =
    record {
      few = omega (arith, (load_within (lent_of block_words tone_words) s model b r).blocks);
      rows = row_ready block_words tone_words s model b r;
    }

-- tables that are equal
same_ready : {s bt bt₀ : List ℕ} {n n₀ : ℕ} → bt ≡ bt₀ → n ≡ n₀ → Ready s bt₀ n₀ → Ready s bt n
same_ready {s} {bt} {bt₀} {n} {n₀} q e r =
    subst (λ (x : ℕ). Ready s bt x) (sym e) (subst (λ (x : List ℕ). Ready s x n₀) (sym q) r)

-- EVERY LOAD'S TABLES ARE READY
pub load_ready : (s : List ℕ) (model : ℕ) {l : Loaded} {bt tt : List ℕ} → Bytes s
    → Leaves block_words tone_words (loaded_of s model) (Ok l) bt tt → Ready s bt l.blocks
unfolding loaded_of load_named named_load named_tape answer_of block_table tone_table
load_ready s model {l} {bt} {tt} b left = by_cases (load_of (lent_of block_words tone_words) s model) refl left
  where
    by_cases : (x : Load) → load_of (lent_of block_words tone_words) s model ≡ x
        → Leaves block_words tone_words (named_load s x) (Ok l) bt tt → Ready s bt l.blocks
    by_cases (tzx t) e y =
        same_ready y.blocks (ap count_of y.answer ∙ name_all-length s false t.blocks)
        (rows_ready s model b (subst (λ (z : Load). Reads z t) (sym e) as_tzx))
    by_cases (tapped t) e y =
        same_ready y.blocks (ap count_of y.answer ∙ name_all-length s false t.blocks)
        (rows_ready s model b (subst (λ (z : Load). Reads z t) (sym e) as_tap))
    by_cases (both_err f g) e y = absurd (false≢true (sym (ap is_tape y.answer)))
    by_cases (no j) e y = absurd (false≢true (sym (ap is_tape y.answer)))

-- WHAT IS LISTED OF A LOAD, by its answer
format_in : Result Loaded NotLoaded → Format
format_in (Ok l) = l.format
format_in (Err e) = Tap

module _ (s : List ℕ) (model : ℕ) {bt tt : List ℕ} where
  listed-text : {l : Loaded} (x : Load) → Leaves block_words tone_words x (Ok l) bt tt
      → listed s model x ≡ text (listing_text model l.format (tape_of s tt bt l.blocks))
  unfolding listed_by mounted_of answer_of format_in
  listed-text {l} (tzx t) y =
      let g : l.format ≡ Tzx = ap format_in y.answer in
      rw g (ap (λ (w : Tape). text (listing_text model Tzx w)) (sym (mounted-same s y.tones y.blocks (ap count_of y.answer))))
  listed-text {l} (tapped t) y =
      let g : l.format ≡ Tap = ap format_in y.answer in
      rw g (ap (λ (w : Tape). text (listing_text model Tap w)) (sym (mounted-same s y.tones y.blocks (ap count_of y.answer))))
  listed-text (both_err f g) y = absurd (false≢true (sym (ap is_tape y.answer)))
  listed-text (no j) y = absurd (false≢true (sym (ap is_tape y.answer)))

  listed-no : {e : NotLoaded} (x : Load) → Leaves block_words tone_words x (Err e) bt tt → listed s model x ≡ refused (not_loaded_no e)
  unfolding listed_by answer_of refusal_no
  listed-no (tzx t) y = absurd (false≢true (ap is_tape y.answer))
  listed-no (tapped t) y = absurd (false≢true (ap is_tape y.answer))
  listed-no (both_err f g) y = ap (λ (r : Result Loaded NotLoaded). refused (refusal_no r)) (sym y.answer)
  listed-no (no j) y = ap (λ (r : Result Loaded NotLoaded). refused (refusal_no r)) (sym y.answer)

-- an answer and the bytes it leaves are what the contract says
abbrev pub ListingAnswered : List ℕ → ℕ → List ℕ → ℕ → List ℕ → Type 0
ListingAnswered s model out r out' = (r ≡ answer_to (listing_of s model) out) × (out' ≡ bytes_after (listing_of s model) out)

module _ (s : List ℕ) (model : ℕ) where
  pub no_model : (out : List ℕ) → 3 ≤ model → ListingAnswered s model out bad_model out
  unfolding listing_by answer_to bytes_after
  no_model out h = (rw (le-leb 3 model h), rw (le-leb 3 model h))

  pub too_long : (out : List ℕ) → model < 3 → 65535 < length s → ListingAnswered s model out tape_long out
  unfolding listing_by answer_to bytes_after
  too_long out h k = (rw (lt-leb 3 model h, lt-ltb 65535 (length s) k), rw (lt-leb 3 model h, lt-ltb 65535 (length s) k))

  module _ (h : model < 3) (k : length s ≤ 65535) where
    loads : listing_of s model ≡ listed s model (loaded_of s model)
    unfolding listing_by
    loads = rw (lt-leb 3 model h, le-ltb 65535 (length s) k)

    pub load_refused : {e : NotLoaded} {bt tt : List ℕ} (out : List ℕ) → Leaves block_words tone_words (loaded_of s model) (Err e) bt tt
        → ListingAnswered s model out (not_loaded_no e) out
    unfolding answer_to bytes_after
    load_refused out y = let q = loads ∙ listed-no s model (loaded_of s model) y in (rw q, rw q)

    pub load_told : {l : Loaded} {bt tt out' : List ℕ} {r : ℕ} (out : List ℕ)
        → Leaves block_words tone_words (loaded_of s model) (Ok l) bt tt
        → ((tones : List ℕ) → r ≡ answer_to (text (listing_text model l.format (tape_of s tones bt l.blocks))) out)
        × ((tones : List ℕ) → out' ≡ bytes_after (text (listing_text model l.format (tape_of s tones bt l.blocks))) out)
        → ListingAnswered s model out r out'
    load_told {tt = tt} out y p =
        let e = loads ∙ listed-text s model (loaded_of s model) y in
        (p.0 tt ∙ sym (ap (λ (x : Listing). answer_to x out) e), p.1 tt ∙ sym (ap (λ (x : Listing). bytes_after x out) e))

-- an answer that is told to be this one
pub leaves-told : {B N : ℕ} {x : Load} {a a' : Result Loaded NotLoaded} {bt tt : List ℕ} → Leaves B N x a bt tt → a ≡ a'
    → Leaves B N x a' bt tt
leaves-told {B} {N} {x} {bt = bt} {tt} l e = subst (λ (y : Result Loaded NotLoaded). Leaves B N x y bt tt) e l
