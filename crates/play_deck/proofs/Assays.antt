-- WHAT A POSITION COMES TO, way by way: the checks from what the code found out, and the level there. Assumes nothing.
use Rattle.std.specs.Prelude.{Ok, Err}
use Rattle.play_walk.specs.Heads.{came}
use Prim.Native.Nat.{ℕ, ◌+◌, ◌*◌, ◌≤◌, ◌<◌, min}
use native.Mathlib.Omega.{arith}
use borrow.Author.Tests.{lt-ltb, le-ltb, ltb-false}
use mathlib.Core.Path.{◌≡◌, refl, sym, ap, subst, ◌∙◌}
use mathlib.Core.Bool.{Bool, true, false, ◌&&◌}
use mathlib.Core.Logic.{⊎_elim}
use mathlib.Core.List.{List}
use lib.ListN.{length}
use Rattle.law_base.proofs.Numbers.{lt_or_ge}
use Rattle.law_base.specs.Rules.{◌⇒◌, ◌∣◌}
use Rattle.law_base.proofs.Tests.{first}
use Rattle.law_pulses.specs.Play.{Level, low}
use Rattle.rows.specs.Table.{capacity_of}
use Rattle.rows.specs.Rows.{tone, tone_most, block, block_most}
use Rattle.rows.specs.Well.{well_tones, well_numbers, well_block}
use Rattle.rows.specs.declared.Block.{Block}
use Rattle.rows.proofs.WellLaws.{ranges_inside, tones_lent}
use Rattle.rows_well.specs.Seen.{seen_from, seen_of}
use Rattle.rows_well.specs.Words.{well_words}
use Rattle.rows_well.proofs.WordsLaws.{words_tones, words_clauses}
use Rattle.play_entries.specs.declared.Phase.{Phase}
use Rattle.play_entries.specs.declared.Duration.TheVariants.{T, Endless}
use Rattle.play_entries.specs.Entries.{is_source}
use Rattle.play_entries.specs.Places.{Tape, block_in, has_entry, length_at, remains, level_in}
use Rattle.play_entries.specs.Mounted.{tape_size, overfull, well_row}
use Rattle.play_entries.proofs.Sourced.{source_levels}
use Rattle.play_entries.specs.declared.Duration.{Duration}
use Rattle.play_walk.specs.Heads.{how_left}
use Rattle.play_walk.specs.declared.Fault.{Fault}
use Rattle.std.specs.Prelude.{Result, Ok}
use Rattle.play_voice.specs.declared.Heard.{Heard}
use Rattle.play_voice.specs.Voice.{rows_below, silence, heard_to, ToldSeen, row_at}
use Rattle.play_walk.specs.declared.Position.{Position}
use Rattle.play_walk.specs.declared.How.TheVariants.{At, Stopped}
use Rattle.play_walk.specs.Heads.{stand}
use Rattle.play_walk.specs.declared.Fault.TheVariants.{NotValid, NotFormed}
use Rattle.play_deck.specs.declared.Finding.{Finding}
use Rattle.play_deck.specs.Deck.{all_fine, at_start, judged, stays}
use Rattle.play_deck.specs.Assay.{past_found, source_found, heard_on_way, ready_row, level_there, Assayed, Found, Lending, Sounded}
use Rattle.play_deck.proofs.Checks.{judged_start, judged-past, judged-bad, judged-not, judged_fine, fine_none}
use Rattle.play_deck.proofs.Checks.{stays_at, stays-past, stays-endless}

-- nothing heard is told
told-silence : (tones blocks : List ℕ) → ToldSeen tones blocks silence
unfolding seen_from
told-silence tones blocks = refl

-- A ROW THAT MAY BE GONE ON WITH
module _ (tape : ℕ) (tones : List ℕ) (r : Block) where
  pub ready_bad : well_words tape tones r ≡ false → ready_row tape tones r ≡ false
  unfolding ready_row
  ready_bad e = by_sort (is_source r)
    where
      by_sort : (s : Bool) → (s ⇒ well_block tape tones r ∣ well_words tape tones r) ≡ false
      by_sort true = rw (words_tones tape tones r, e)
      by_sort false = e

  pub ready_source : is_source r ≡ true → well_words tape tones r ≡ true
      → ready_row tape tones r ≡ well_tones tones r.tone r.tones
  unfolding ready_row
  ready_source s e = rw (s, words_tones tape tones r, e)

  pub ready_document : is_source r ≡ false → well_words tape tones r ≡ true → ready_row tape tones r ≡ true
  unfolding ready_row
  ready_document s e = rw (s, e)

  -- ready, a row is well formed in its words, and a source row whole
  pub ready_words : ready_row tape tones r ≡ true → well_words tape tones r ≡ true
  unfolding ready_row
  ready_words e = by_sort (is_source r) e
    where
      by_sort : (s : Bool) → (s ⇒ well_block tape tones r ∣ well_words tape tones r) ≡ true → well_words tape tones r ≡ true
      by_sort true x = first (well_words tape tones r) (well_tones tones r.tone r.tones) (sym (words_tones tape tones r) ∙ x)
      by_sort false x = x

  pub ready_well : is_source r ≡ true → ready_row tape tones r ≡ true → well_block tape tones r ≡ true
  unfolding ready_row
  ready_well s e = rw s at e

  -- not ready, it is not well formed
  pub unready : ready_row tape tones r ≡ false → well_block tape tones r ≡ false
  unfolding ready_row
  unready e = by_sort (is_source r) e
    where
      by_sort : (s : Bool) → (s ⇒ well_block tape tones r ∣ well_words tape tones r) ≡ false → well_block tape tones r ≡ false
      by_sort true x = x
      by_sort false x = rw (words_tones tape tones r, x)

pub count_fits : (w : Tape) → overfull w ≡ false → w.count ≤ capacity_of block block_most w.blocks
count_fits w e = ltb-false _ _ e

module _ (w : Tape) (q : Position) where
  pub assayed_over : overfull w ≡ true → Assayed w q (Err NotFormed)
  unfolding judged
  assayed_over e = rw e

  module _ (fits : w.count ≤ capacity_of block block_most w.blocks) where
    pub assayed_past : w.count ≤ q.block → (r : Result Finding Fault) → r ≡ past_found (at_start q) → Assayed w q r
    assayed_past h r e = subst (Assayed w q) (sym e) (by_start (at_start q) refl)
      where
        by_start : (s : Bool) → at_start q ≡ s → Assayed w q (past_found s)
        by_start true z =
            record { fine = judged_start w q fits h z; level = rw (le-ltb q.block w.count h); told = told-silence w.tones w.blocks }
        by_start false z = judged-past w q fits h z

    module _ (h : q.block < w.count) where
      -- whether so much may be left of the entry, of the row that the code read
      abbrev has_left : Block → Bool
      has_left r = has_entry w.tones r q.phase && remains q.left (length_at w.bytes w.tones r q.phase)

      pub assayed_bad : ready_row (tape_size w.bytes) w.tones (block_in w q.block) ≡ false → Assayed w q (Err NotFormed)
      unfolding well_row
      assayed_bad e = judged-bad w q fits h (unready (tape_size w.bytes) w.tones (block_in w q.block) e)

      -- a source row
      pub assayed_source : well_row w q.block ≡ true → is_source (block_in w q.block) ≡ true → (has : Bool)
          → has ≡ has_left (block_in w q.block) → (r : Result Finding Fault) → r ≡ source_found q.phase has → Assayed w q r
      assayed_source e s has f r z = subst (Assayed w q) (sym z) (by_left has f)
        where
          by_left : (t : Bool) → t ≡ has_left (block_in w q.block) → Assayed w q (source_found q.phase t)
          by_left true y =
              record {
                fine = judged_fine w q fits h e (sym y);
                level = sym (source_levels w.tones 0 (block_in w q.block) s q.phase) ∙ rw (lt-ltb q.block w.count h);
                told = told-silence w.tones w.blocks;
              }
          by_left false y = judged-not w q fits h e (sym y)

      -- a document row
      module _ (e : well_words (tape_size w.bytes) w.tones (block_in w q.block) ≡ true) where
        row : well_block (tape_size w.bytes) w.tones (block_in w q.block)
            ≡ well_tones w.tones (block_in w q.block).tone (block_in w q.block).tones
        row = words_tones (tape_size w.bytes) w.tones (block_in w q.block) ∙ rw e

        pub assayed_document : (has : Bool) → has ≡ has_left (block_in w q.block)
            → (r : Result Finding Fault) → Sounded w.tones w.blocks q.block q.phase has r → Assayed w q r
        unfolding well_row
        assayed_document has f (Ok a) s =
            record {
              fine = judged_fine w q fits h (row ∙ s.rows) (sym f ∙ s.has_left);
              level = s.level ∙ rw (lt-ltb q.block w.count h);
              told = s.told;
            }
        assayed_document has f (Err NotValid) s = judged-not w q fits h (row ∙ s.0) (sym f ∙ s.1)
        assayed_document has f (Err NotFormed) s = judged-bad w q fits h (row ∙ s)

  -- A CALL OF 0 from a fine position, at the level there
  module _ (fine : judged w q ≡ all_fine) (v : Level) (e : v ≡ level_there w q) where
    there_below : q.block < w.count → v ≡ level_in w q.block q.phase
    there_below h = e ∙ rw (lt-ltb q.block w.count h)

    there_past : w.count ≤ q.block → v ≡ low
    there_past h = e ∙ rw (le-ltb q.block w.count h)

    pub stays_here : came (how_left q.left) (stand q 0 v) ≡ stays w q
    stays_here = by_left q.left refl
      where
        by_left : (l : Duration) → q.left ≡ l → came (how_left l) (stand q 0 v) ≡ stays w q
        by_left (T t) l =
            ⊎_elim
            (λ h. ap (λ (x : Level). came At (stand q 0 x)) (there_below h) ∙ sym (stays_at w q fine t l h))
            (λ h. ap (λ (x : Level). came At (stand q 0 x)) (there_past h) ∙ sym (stays-past w q fine h))
            (lt_or_ge q.block w.count)
        by_left Endless l =
            ⊎_elim
            (λ h. ap (λ (x : Level). came Stopped (stand q 0 x)) (there_below h) ∙ sym (stays-endless w q fine l))
            (λ h. let y = fine_none w q fine h in let z : ◌≡◌ {A = ℕ} 0 1 = cc in absurd (omega arith))
            (lt_or_ge q.block w.count)

-- what a document row's pass asks
pub lending : (w : Tape) (b : ℕ) → w.count ≤ capacity_of block block_most w.blocks → b < w.count
    → well_words (tape_size w.bytes) w.tones (block_in w b) ≡ true
    → Lending w.tones w.blocks b
lending w b fits h e =
    let c = words_clauses (tape_size w.bytes) w.tones (block_in w b) e in
    record { row = omega arith; rows = (ranges_inside (tape_size w.bytes) w.tones (block_in w b) c.ranges).rows }

-- A DOCUMENT ROW'S PASS, of the rows that the code read
module _ (tones blocks : List ℕ) (b : ℕ) (f : Phase) where
  module _ (x : Lending tones blocks b) (r : Block) (e : r ≡ row_at blocks b) (h : Heard)
      (g : h ≡ heard_to tones r b (min (rows_below r f) r.tones)) where
    heard-of : h ≡ heard_to tones (row_at blocks b) b (min (rows_below (row_at blocks b) f) (row_at blocks b).tones)
    heard-of = g ∙ ap (λ (y : Block). heard_to tones y b (min (rows_below y f) y.tones)) e

    pub told-heard : ToldSeen tones blocks h
    told-heard = subst (ToldSeen tones blocks) (sym heard-of) refl

    -- what is asked of the row and of what was heard, to judge all tone rows
    abbrev Judging : Block → Heard → Type 0
    Judging y k = ((y.tone + y.tones ≤ capacity_of tone tone_most tones) × (k.rows ≤ y.tones))
        × (k.seen ≡ seen_of tones y.tone k.rows)

    pub asks_judging : (y : Block) → y ≡ row_at blocks b → Judging y h
    asks_judging y d =
        subst (λ (z : Block). Judging z h) (sym d)
        (subst (Judging (row_at blocks b)) (sym heard-of) ((x.rows, omega arith), refl))

-- WHAT A FINE POSITION TELLS
pub found_of : (w : Tape) (q : Position) {r : Result Finding Fault} {a : Finding} → Assayed w q r → r ≡ Ok a → Found w q a
found_of w q x e = subst (Assayed w q) e x

pub refused_of : (w : Tape) (q : Position) {r : Result Finding Fault} {f : Fault} → Assayed w q r → r ≡ Err f → judged w q ≡ Err f
refused_of w q x e = subst (Assayed w q) e x

pub level_below : {w : Tape} {q : Position} {a : Finding} → Found w q a → q.block < w.count → a.level ≡ level_in w q.block q.phase
level_below {w} {q} x h = x.level ∙ rw (lt-ltb q.block w.count h)

pub heard_told : (w : Tape) (q : Position) (r : Result Finding Fault) → Assayed w q r → ToldSeen w.tones w.blocks (heard_on_way r)
heard_told w q (Ok a) x = x.told
heard_told w q (Err f) x = told-silence w.tones w.blocks

-- what a row well formed in its words may be played from, part by part
module _ (tape : ℕ) (tones : List ℕ) (r : Block) (e : well_words tape tones r ≡ true) where
  pub words_numbers : well_numbers r ≡ true
  words_numbers = (words_clauses tape tones r e).numbers

  pub words_table : (r.tone + r.tones) * tone.width ≤ length tones
  words_table = tones_lent tape tones r (words_clauses tape tones r e).ranges

  pub words_rows : r.tone + r.tones ≤ capacity_of tone tone_most tones
  words_rows = (ranges_inside tape tones r (words_clauses tape tones r e).ranges).rows

pub words_bytes : (tape tones : List ℕ) (r : Block) → well_words (tape_size tape) tones r ≡ true → r.start + r.size ≤ length tape
words_bytes tape tones r e =
    let x = ranges_inside (tape_size tape) tones r (words_clauses (tape_size tape) tones r e).ranges in omega arith
