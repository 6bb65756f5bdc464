-- EVERY ROW OF EVERY LOAD IS WELL FORMED, so that no query or player of a loaded table answers 11.
-- Assumes nothing but that bytes are below 256.
use Prim.Native.Nat.{ℕ, zero, suc, ◌+◌, ◌*◌, ◌^◌, ◌≤◌, ◌<◌}
use native.Mathlib.Omega.{arith}
use native.Mathlib.Nat.{add-zero}
use mathlib.Core.Path.{◌≡◌, refl, ap, ◌∙◌}
use mathlib.Core.Bool.{true, false, or-true}
use mathlib.Core.List.{List}
use mathlib.Core.Logic.{⊎_elim}
use lib.ListN.{length, get_or, length-replicate}
use lib.Dec.{eqb}
use borrow.Author.Tests.{le-leb, lt-ltb, le-ltb, eq-eqb}
use Rattle.law_base.proofs.Numbers.{lt_or_ge}
use Rattle.rows.specs.declared.Block.{Block}
use Rattle.rows.specs.declared.Tone.{Tone}
use Rattle.rows.specs.Table.{Codec, get, table_of, zeros, capacity_of}
use Rattle.rows.specs.Rows.{tone, block, tone_most, tones_in}
use Rattle.rows.specs.Well.{well_tone, well_tones, well_ranges, well_last, well_numbers, well_cases, well_block, Halves}
use Rattle.rows.proofs.Tables.{over-length, get_row}
use Rattle.load_state.specs.Parser.{Parsed}
use Rattle.load_state.specs.Holds.{tone_room, block_room}
use Rattle.load_state.proofs.Kept.{all_get, all_both}
use Rattle.load_state.specs.Kept.{All}
use Rattle.load_blocks.specs.Does.{lent_of}
use Rattle.load_source.specs.Source.{load_of}
use Rattle.text_name.specs.Names.{name_all}
use Rattle.text_name.proofs.Selecting.{name_all-length}
use Rattle.play_entries.proofs.Figures.{sound_in-most}
use Rattle.play_entries.specs.Mounted.{tape_of, overfull, tape_size, well_row}
use Rattle.law_every_load.specs.Sizes.{Bytes}
use Rattle.law_every_load.specs.Made.{RowOver}
use Rattle.law_every_load.specs.OfSource.{Reads}
use Rattle.law_every_load.specs.Formed.{Formed, SaysSound}
use Rattle.law_every_load.proofs.Rows.{own_count, own_tone}
use Rattle.law_every_load.proofs.Every.{every_read, every_row}
use Rattle.law_every_load.proofs.Formed.{every-formed}
use Rattle.law_every_load.proofs.Sounds.{every_sound}
use Rattle.law_every_load.proofs.Room.{Within, FewBits, load_within, read_bits, load_bits, load_length}

-- a table of N words that hold the rows is N words
pub table-length : {R : Type 0} (C : Codec R) (rs : List R) (N : ℕ) → length rs * C.width ≤ N → length (table_of C rs N) ≡ N
table-length C rs N h = over-length C rs (zeros N) (rw length-replicate h) ∙ length-replicate N 0

tone_well : (t : Tone) → Halves t → well_tone t ≡ true
unfolding well_tone
tone_well t h =
    rw (le-leb t.num 65535 h.num, le-leb t.len1 65535 h.len1, le-leb t.len2 65535 h.len2, le-leb t.wave 11 h.wave)

-- tone rows that are well formed one by one
tones_well : (tones : List ℕ) (from n : ℕ) → ((i : ℕ) → i < n → well_tone (get tone tones (from + i)) ≡ true)
    → well_tones tones from n ≡ true
unfolding well_tones
tones_well tones from zero h = refl
tones_well tones from (suc n) h =
    let z : well_tone (get tone tones from) ≡ true = rw add-zero at (h 0 (omega arith)) in
    let l : well_tones tones (from + 1) n ≡ true =
    tones_well tones (from + 1) n (λ i k. let e : from + suc i ≡ from + 1 + i = omega arith in rw e at (h (suc i) (omega arith))) in
    rw (z, l)

last_well : (r : Block) → FewBits r → well_last r ≡ true
last_well r h =
    ⊎_elim
    (λ (k : 0 < r.size). rw (le-leb r.last 8 (h k)) (or-true (eqb r.size 0)))
    (λ (k : r.size ≤ 0). let e : r.size ≡ 0 = omega arith in rw (eq-eqb r.size 0 e))
    (lt_or_ge 0 r.size)

module _ (s : List ℕ) (all : List Tone) (N : ℕ) (room : length all ≤ tone_room N) where
  -- a formed row over tones of the table is well formed
  row_well : Bytes s → (r : Block) → RowOver (Formed s) all r → RowOver (SaysSound s) all r × FewBits r
      → well_block (length s) (table_of tone all N) r ≡ true
  unfolding well_block well_ranges well_numbers well_cases
  row_well bytes r h (g, b) =
      let f = h.has in
      let i = h.inside in
      let n : length (table_of tone all N) ≡ N = table-length tone all N (omega arith) in
      let tones : well_tones (table_of tone all N) r.tone r.tones ≡ true =
      tones_well (table_of tone all N) r.tone r.tones (λ j k.
      let d = get tone (table_of tone all N) (r.tone + j) in
      let g : d ≡ get_or (tones_in all r) j d = own_tone all r i N j d k in
      ap well_tone g ∙ tone_well (get_or (tones_in all r) j d) (all_get f.tones j d (rw (own_count all r i) k))) in
      let c : capacity_of tone tone_most (table_of tone all N) ≡ tone_room N = rw n in
      rw (
        c,
        le-leb (r.tone + r.tones) (tone_room N) (omega arith),
        le-leb (r.start + r.size) (length s) f.bytes,
        le-leb (r.text + r.chars) (length s) f.name,
        le-leb r.zero 65535 f.zero,
        le-leb r.one 65535 f.one,
        le-leb r.pause 229372500 f.pause,
        or-true (eqb r.endless 1),
        last_well r b,
        lt-ltb r.sound (2 ^ 50) (omega (arith, g.has, sound_in-most s bytes (tones_in all r) r (omega (arith, own_count all r i)))),
        le-leb r.endless 1 f.endless,
        le-leb r.selectable 1 f.selectable,
        f.source.low,
        f.source.silent,
        f.source.is,
        le-leb r.named 4 f.named,
        tones,
      )

-- a mounted table of rows that are well formed
module _ (B : ℕ) (s tones : List ℕ) (rows : List Block) where
  table_fits : length rows ≤ block_room B → overfull (tape_of s tones (table_of block rows B) (length rows)) ≡ false
  table_fits h =
      let n : length (table_of block rows B) ≡ B = table-length block rows B (omega arith) in
      rw n (le-ltb (block_room B) (length rows) h)

  table_well : length s ≤ 1048576 → All (λ r. well_block (length s) tones r ≡ true) rows → (i : ℕ) → i < length rows
      → well_row (tape_of s tones (table_of block rows B) (length rows)) i ≡ true
  unfolding well_row
  table_well m all i h =
      let d = get block (table_of block rows B) i in
      let z : tape_size s ≡ length s = omega arith in
      let g : get block (table_of block rows B) i ≡ get_or rows i d = get_row block rows (zeros B) i d h in
      ap (λ (n : ℕ). well_block n tones d) z ∙ ap (well_block (length s) tones) g ∙ all_get all i d h

-- what a load of B and N words read, its names given out
module _ (B N : ℕ) (s : List ℕ) (model : ℕ) {t : Parsed} (b : Bytes s) (r : Reads (load_of (lent_of B N) s model) t) where
  within : Within (lent_of B N) t
  within = load_within (lent_of B N) s model b r

  -- EVERY ROW, before and after names are given out
  pub read_well : All (λ q. well_block (length s) (table_of tone t.tones N) q ≡ true) t.blocks
  read_well =
      all_both (row_well s t.tones N within.tones b) (every_read (lent_of B N) s model (every-formed s b) b r)
      (all_both (λ q h k. (h, k)) (every_read (lent_of B N) s model (every_sound s) b r) (read_bits (lent_of B N) s model b r))

  pub every_well : All (λ q. well_block (length s) (table_of tone t.tones N) q ≡ true) (name_all s false t.blocks)
  every_well =
      all_both (row_well s t.tones N within.tones b) (every_row (lent_of B N) s model (every-formed s b) b r)
      (all_both (λ q h k. (h, k)) (every_row (lent_of B N) s model (every_sound s) b r) (load_bits (lent_of B N) s model b r))

  -- THE COUNT FITS THE TABLE
  pub loaded_fits : overfull (tape_of s (table_of tone t.tones N) (table_of block (name_all s false t.blocks) B) (length t.blocks))
      ≡ false
  loaded_fits =
      let l = name_all-length s false t.blocks in
      rw (← l) (table_fits B s (table_of tone t.tones N) (name_all s false t.blocks) (rw l within.blocks))

  -- EVERY ROW OF THE TABLE IS WELL FORMED
  pub loaded_well : (i : ℕ) → i < length t.blocks
      → well_row (tape_of s (table_of tone t.tones N) (table_of block (name_all s false t.blocks) B) (length t.blocks)) i ≡ true
  loaded_well i h =
      let l = name_all-length s false t.blocks in
      rw (← l)
      (table_well B s (table_of tone t.tones N) (name_all s false t.blocks) (load_length (lent_of B N) s model r) every_well i (rw l h))

  -- and so before the naming pass
  pub read_fits : overfull (tape_of s (table_of tone t.tones N) (table_of block t.blocks B) (length t.blocks)) ≡ false
  read_fits = table_fits B s (table_of tone t.tones N) t.blocks within.blocks

  pub read_rows : (i : ℕ) → i < length t.blocks
      → well_row (tape_of s (table_of tone t.tones N) (table_of block t.blocks B) (length t.blocks)) i ≡ true
  read_rows i h = table_well B s (table_of tone t.tones N) t.blocks (load_length (lent_of B N) s model r) read_well i h
