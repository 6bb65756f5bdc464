-- EVERY TABLE THAT A LOAD LEAVES IS TIMED: each row's word `sound` is what its entries without the pause last.
-- Assumes nothing but that bytes are below 256.
use Prim.Native.Nat.{ℕ, ◌<◌}
use native.Mathlib.Omega.{arith}
use mathlib.Core.Path.{◌≡◌, sym, subst, ◌∙◌}
use mathlib.Core.Bool.{true, false}
use mathlib.Core.List.{List}
use lib.ListN.{length, get_or}
use Rattle.law_pulses.specs.Play.{time}
use Rattle.rows.specs.declared.Block.{Block}
use Rattle.rows.specs.declared.Tone.{Tone}
use Rattle.rows.specs.Table.{get, table_of, zeros}
use Rattle.rows.specs.Rows.{block, tone, tones_in}
use Rattle.rows.specs.Well.{well_block}
use Rattle.rows.proofs.Tables.{get_row}
use Rattle.rows.proofs.WellLaws.{block_clauses, ranges_inside}
use Rattle.play_entries.specs.Entries.{sound_of}
use Rattle.play_entries.specs.Mounted.{tape_of, tape_size, well_row}
use Rattle.play_entries.specs.Stored.{Timed}
use Rattle.play_entries.proofs.Figures.{sound_in_list}
use Rattle.load_state.specs.Parser.{Parsed}
use Rattle.load_state.proofs.Kept.{all_get}
use Rattle.load_blocks.specs.Does.{lent_of}
use Rattle.load_source.specs.Source.{load_of}
use Rattle.std.specs.Prelude.{Ok}
use Rattle.load_tape.specs.declared.Loaded.{Loaded}
use Rattle.load_tape.specs.Load.{load_named, Leaves}
use Rattle.text_name.specs.Names.{name_all}
use Rattle.text_name.proofs.Selecting.{name_all-length}
use Rattle.law_every_load.specs.Sizes.{Bytes}
use Rattle.law_every_load.specs.Made.{RowOver}
use Rattle.law_every_load.specs.OfSource.{Reads}
use Rattle.law_every_load.specs.Formed.{SaysSound}
use Rattle.law_every_load.proofs.Rows.{own_count, own_tone}
use Rattle.law_every_load.proofs.Every.{every_row}
use Rattle.law_every_load.proofs.Sounds.{every_sound}
use Rattle.law_every_load.proofs.Well.{loaded_well}
use Rattle.law_every_load.proofs.Left.{left, mounted-same}

-- a well-formed row over tones of the table that says what it sounds
row_timed : (s : List ℕ) → Bytes s → (all : List Tone) (N b : ℕ) (r : Block) → RowOver (SaysSound s) all r
    → well_block (tape_size s) (table_of tone all N) r ≡ true → r.sound ≡ time (sound_of s (table_of tone all N) b r)
row_timed s bytes all N b r h w =
    let tones = table_of tone all N in
    let i = h.inside in
    h.has
    ∙ sound_in_list s tones bytes b (tones_in all r) r w (record {
      lent = (ranges_inside (tape_size s) tones r (block_clauses (tape_size s) tones r w).ranges).rows;
      count = own_count all r i;
      each = λ j d k. own_tone all r i N j d k;
    })

module _ (B N : ℕ) (s : List ℕ) (model : ℕ) {t : Parsed} (bytes : Bytes s) (r : Reads (load_of (lent_of B N) s model) t) where
  pub loaded_timed : Timed (tape_of s (table_of tone t.tones N) (table_of block (name_all s false t.blocks) B) (length t.blocks))
  unfolding well_row
  loaded_timed = record {
    sound = λ b h.
        let rows = name_all s false t.blocks in
        let d = get block (table_of block rows B) b in
        let k : b < length rows = omega (arith, name_all-length s false t.blocks) in
        let e : d ≡ get_or rows b d = get_row block rows (zeros B) b d k in
        row_timed s bytes t.tones N b d
        (subst (RowOver (SaysSound s) t.tones) (sym e) (all_get (every_row (lent_of B N) s model (every_sound s) bytes r) b d k))
        (loaded_well B N s model bytes r b h);
  }

-- A LOAD THAT LEFT n BLOCKS left a timed tape
module _ (B N : ℕ) (s : List ℕ) (model : ℕ) {d : Loaded} {bt tt : List ℕ} (b : Bytes s)
    (l : Leaves B N (load_named (lent_of B N) s model) (Ok d) bt tt) where
  pub left_timed : Timed (tape_of s tt bt d.blocks)
  left_timed =
      let q = left B N s model b l in
      subst Timed (sym (mounted-same s q.tones q.blocks q.count)) (loaded_timed B N s model b q.reads)
