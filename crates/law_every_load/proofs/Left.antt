-- The tables that a load leaves are well formed throughout: no query and no player answers 11 of them.
-- Assumes nothing but that bytes are below 256.
use Prim.Native.Nat.{ℕ, ◌<◌}
use native.Mathlib.Omega.{arith}
use mathlib.Core.Path.{◌≡◌, ap, ◌∙◌}
use mathlib.Core.Bool.{true, false}
use mathlib.Core.List.{List}
use lib.ListN.{length}
use borrow.Author.Tests.{ltb-false}
use Rattle.rows.specs.Table.{table_of, capacity_of}
use Rattle.rows.specs.Rows.{block, tone, block_most}
use Rattle.load_state.specs.Parser.{Parsed}
use Rattle.load_blocks.specs.Does.{lent_of}
use Rattle.load_source.specs.Source.{Load, tzx, tapped, both_err, no, load_of}
use Rattle.std.specs.Prelude.{Ok}
use Rattle.load_tape.specs.declared.Loaded.{Loaded}
use Rattle.load_tape.specs.Load.{named_tape, named_load, load_named, answer_of, block_table, tone_table, Leaves}
use Rattle.load_tape.proofs.Naming.{count_of}
use Rattle.text_name.specs.Names.{name_all}
use Rattle.text_name.proofs.Selecting.{name_all-length}
use Rattle.play_entries.specs.Places as entries
use Rattle.play_entries.specs.Mounted.{tape_of, overfull, well_row, WholeTape}
use Rattle.law_every_load.specs.Sizes.{Bytes}
use Rattle.law_every_load.specs.OfSource.{Reads, as_tzx, as_tap}
use Rattle.law_every_load.proofs.Well.{loaded_fits, loaded_well}

-- the tape that was read, and the tables that hold it, named
pub record Left (B N : ℕ) (s : List ℕ) (a : Load) (n : ℕ) (bt tt : List ℕ) : Type 0 where
  pub tape : Parsed
  pub reads : Reads a tape
  pub count : n ≡ length tape.blocks
  pub blocks : bt ≡ table_of block (name_all s false tape.blocks) B
  pub tones : tt ≡ table_of tone tape.tones N

pub left_of_lem : {B N : ℕ} (s : List ℕ) (a : Load) {d : Loaded} {bt tt : List ℕ}
    → Leaves B N (named_load s a) (Ok d) bt tt → Left B N s a d.blocks bt tt
unfolding named_load named_tape answer_of block_table tone_table
left_of_lem s (tzx t) {d = d} l =
    let c : d.blocks ≡ length (name_all s false t.blocks) = ap count_of l.answer in
    record { tape = t; reads = as_tzx; count = c ∙ name_all-length s false t.blocks; blocks = l.blocks; tones = l.tones }
left_of_lem s (tapped t) {d = d} l =
    let c : d.blocks ≡ length (name_all s false t.blocks) = ap count_of l.answer in
    record { tape = t; reads = as_tap; count = c ∙ name_all-length s false t.blocks; blocks = l.blocks; tones = l.tones }
left_of_lem s (both_err f g) l = let e = l.answer in absurd (cc)
left_of_lem s (no j) l = let e = l.answer in absurd (cc)

-- a tape mounted over equal tables
pub mounted-same : (s : List ℕ) {tt tt₀ bt bt₀ : List ℕ} {n n₀ : ℕ} → tt ≡ tt₀ → bt ≡ bt₀ → n ≡ n₀
    → tape_of s tt bt n ≡ tape_of s tt₀ bt₀ n₀
mounted-same s {tt₀ = tt₀} {bt} {bt₀} {n} p q e =
    ap (λ (x : List ℕ). tape_of s x bt n) p ∙ ap (λ (x : List ℕ). tape_of s tt₀ x n) q
    ∙ ap (λ (x : ℕ). tape_of s tt₀ bt₀ x) e

-- A LOAD THAT LEFT n BLOCKS left a whole tape
module _ (B N : ℕ) (s : List ℕ) (model : ℕ) {d : Loaded} {bt tt : List ℕ} (b : Bytes s)
    (l : Leaves B N (load_named (lent_of B N) s model) (Ok d) bt tt) where
  pub left : Left B N s (load_of (lent_of B N) s model) d.blocks bt tt
  unfolding load_named
  left = left_of_lem s (load_of (lent_of B N) s model) l

  pub left_fits : overfull (tape_of s tt bt d.blocks) ≡ false
  left_fits = let q = left in ap overfull (mounted-same s q.tones q.blocks q.count) ∙ loaded_fits B N s model b q.reads

  pub left_well : (i : ℕ) → i < d.blocks → well_row (tape_of s tt bt d.blocks) i ≡ true
  left_well i h =
      let q = left in
      ap (λ (w : entries.Tape). well_row w i) (mounted-same s q.tones q.blocks q.count)
      ∙ loaded_well B N s model b q.reads i (omega (arith, q.count))

  pub left_whole : WholeTape (tape_of s tt bt d.blocks)
  left_whole = record { lent = ltb-false (capacity_of block block_most bt) d.blocks left_fits; rows = left_well }
