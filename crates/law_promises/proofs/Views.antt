-- DEMAND 2 ON VIEWS: the blocks in the tables that a load leaves are the tape's block list, whatever was lent.
-- Assumes nothing but that bytes are below 256.
use Prim.Native.Nat.{ℕ, ◌+◌, ◌≤◌}
use mathlib.Core.Path.{◌≡◌, refl, sym, ap, ap₂, ◌∙◌}
use mathlib.Core.Bool.{false}
use mathlib.Core.List.{List, ◌∷◌}
use lib.ListN.{length}
use Rattle.std.specs.Prelude.{Ok}
use Rattle.rows.specs.Table.{rows_of, table_of, zeros}
use Rattle.rows.specs.Rows.{block, tone}
use Rattle.rows.specs.declared.Block.{Block}
use Rattle.rows.specs.declared.Tone.{Tone}
use Rattle.rows.proofs.Tables.{rows-over}
use Rattle.load_blocks.specs.Does.{lent_of}
use Rattle.load_source.specs.Source.{Load}
use Rattle.load_tape.specs.declared.Format.{Format}
use Rattle.load_tape.specs.Load.{named_tape, named_load, load_named, answer_of, Leaves, loaded_as}
use Rattle.text_name.specs.Names.{name_all}
use Rattle.text_name.proofs.Selecting.{name_all-length}
use Rattle.play_entries.specs.Mounted.{tape_of}
use Rattle.law_every_load.specs.Sizes.{Bytes}
use Rattle.law_every_load.specs.OfSource.{Reads, as_tzx, as_tap}
use Rattle.law_every_load.proofs.Left.{left}
use Rattle.law_every_load.proofs.Within.{rows-within}
use Rattle.text_view.specs.View.{View, view_of, row_views, views_in, block_list}
use Rattle.text_view.proofs.Views.{tones_read}
use Rattle.load_state.specs.Kept.{All, nil, cons}
use Rattle.law_promises.specs.Boundless.{boundless_load}
use Rattle.law_promises.specs.Demands.{list_of, block_list_of}
use Rattle.law_promises.proofs.Capacity.{named_reads, accepted_load}

-- a row whose tones were read
abbrev Has : List Tone → Block → Type 0
Has ts r = r.tone + r.tones ≤ length ts

list_read : (s : List ℕ) (ts : List Tone) (N : ℕ) {rs : List Block} → All (Has ts) rs
    → row_views s (table_of tone ts N) rs ≡ block_list s ts rs
unfolding row_views block_list
list_read s ts N nil = refl
list_read s ts N (cons {x = r} h hs) =
    ap₂ (λ (a : List Tone) (l : List View). view_of s a r ∷ l) (tones_read ts N r.tone r.tones h) (list_read s ts N hs)

-- what a named load lists
list_named : (s : List ℕ) {a : Load} {t : _} → Reads a t
    → list_of s (named_load s a) ≡ block_list s t.tones (name_all s false t.blocks)
unfolding list_of named_load named_tape
list_named s as_tzx = refl
list_named s as_tap = refl

module _ (B N : ℕ) (s : List ℕ) (model : ℕ) {f : Format} {n k : ℕ} {bt tt : List ℕ} (b : Bytes s)
    (l : Leaves B N (load_named (lent_of B N) s model) (Ok (loaded_as f n k)) bt tt) where
  -- as the load with these tables has them
  as_loaded : views_in (tape_of s tt bt n) ≡ list_of s (load_named (lent_of B N) s model)
  unfolding load_named
  as_loaded =
      let q = left B N s model b l in
      let t = q.tape in
      let rs = name_all s false t.blocks in
      ap₂ (λ (x y : List ℕ). row_views s x (rows_of block y n)) q.tones q.blocks
      ∙ ap (row_views s (table_of tone t.tones N))
      (rows-over block rs (zeros B) n (name_all-length s false t.blocks ∙ sym q.count))
      ∙ list_read s t.tones N (rows-within (lent_of B N) s model b q.reads)
      ∙ sym (list_named s q.reads)

  any_tables : load_named (lent_of B N) s model ≡ boundless_load s model
  unfolding load_named
  any_tables = accepted_load s model (lent_of B N) (named_reads s (left B N s model b l).reads)

  -- DEMAND 2
  pub demand_2 : views_in (tape_of s tt bt n) ≡ block_list_of s model
  unfolding block_list_of
  demand_2 = as_loaded ∙ ap (list_of s) any_tables

  -- .. and the answer: the format, how many blocks and tone rows there are
  pub answer_2 : Ok (loaded_as f n k) ≡ answer_of (boundless_load s model)
  answer_2 = l.answer ∙ ap answer_of any_tables
