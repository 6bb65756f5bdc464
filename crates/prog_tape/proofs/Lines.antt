-- FROM A LOAD TO ITS LINES: each row of the tables that a load leaves is ready, and its line is the load's. Assumes nothing but that bytes
-- are below 256.
use Prim.Native.Nat.{ℕ, zero, suc, ◌+◌, ◌<◌}
use native.Mathlib.Nat.{add-zero}
use native.Mathlib.Omega.{arith}
use mathlib.Core.Path.{◌≡◌, refl, sym, ap, subst, ◌∙◌}
use mathlib.Core.Bool.{false}
use mathlib.Core.List.{List, [], ◌∷◌}
use lib.ListN.{length, get_or}
use Rattle.rows.specs.Table.{get, table_of, zeros}
use Rattle.rows.specs.Rows.{block, tone, decode_block, tones_in}
use Rattle.rows.specs.declared.Block.{Block}
use Rattle.rows.specs.declared.Tone.{Tone}
use Rattle.rows.proofs.Tables.{get_row}
use Rattle.load_state.specs.Parser.{Parsed}
use Rattle.load_state.proofs.Kept.{all_get}
use Rattle.load_blocks.specs.Does.{lent_of}
use Rattle.load_source.specs.Source.{Load, tzx, tapped, both_err, no, load_of}
use Rattle.std.specs.Prelude.{Result}
use Rattle.load_tape.specs.declared.Loaded.{Loaded}
use Rattle.load_tape.specs.declared.NotLoaded.{NotLoaded}
use Rattle.load_tape.specs.Load.{named_tape, named_load, load_named, answer_of, block_table, tone_table, Leaves}
use Rattle.text_name.specs.Names.{name_all}
use Rattle.text_name.proofs.Selecting.{name_all-length}
use Rattle.text_out.specs.Out.{Fitted}
use Rattle.text_view.specs.View.{view_of, row_view, block_list}
use Rattle.text_view.specs.Dump.{view_line}
use Rattle.text_view.proofs.Views.{tones_read}
use Rattle.law_every_load.specs.Sizes.{Bytes}
use Rattle.law_every_load.specs.OfSource.{Reads, as_tzx, as_tap}
use Rattle.law_every_load.proofs.Within.{rows-within}
use Rattle.law_every_load.proofs.Well.{loaded_well}
use Rattle.play_entries.specs.Mounted.{well_row}
use Rattle.listing.proofs.Mounting.{row_ready}
use Rattle.prog_tape.specs.declared.Opening.{Opening}
use Rattle.prog_tape.specs.Inner.{ReadyLine}
use Rattle.prog_tape.specs.Lines.{first_line, lines_after, view_lines, block_lines, load_lines, Opens}

-- a line for each row
rows-counted : (s : List ℕ) (ts : List Tone) (i : ℕ) (rs : List Block) → length (view_lines i (block_list s ts rs)) ≡ length rs
unfolding view_lines block_list
rows-counted s ts i [] = refl
rows-counted s ts i (r ∷ rs) = ap suc (rows-counted s ts (i + 1) rs)

row_line : (s : List ℕ) (ts : List Tone) (i j : ℕ) (rs : List Block) (d : Block) → j < length rs
    → get_or (view_lines i (block_list s ts rs)) j [] ≡ view_line (i + j) (view_of s (tones_in ts (get_or rs j d)) (get_or rs j d))
unfolding view_lines block_list
row_line s ts i j [] d h = absurd (omega arith)
row_line s ts i zero (r ∷ rs) d h = rw (add-zero i)
row_line s ts i (suc j) (r ∷ rs) d h =
    let e : i + 1 + j ≡ i + suc j = omega arith in
    rw (← e) (row_line s ts (i + 1) j rs d (omega arith))

lines_counted : (s : List ℕ) (l : Load) → lines_after (answer_of l) ≡ length (block_lines s l)
unfolding lines_after answer_of block_lines
lines_counted s (tzx t) = sym (rows-counted s t.tones 0 t.blocks)
lines_counted s (tapped t) = sym (rows-counted s t.tones 0 t.blocks)
lines_counted s (both_err f g) = refl
lines_counted s (no k) = refl

-- what is left with a load's first line
pub opens : {B N : ℕ} {l : Load} {a : Result Loaded NotLoaded} {o : Opening} {bt tt out out' : List ℕ} (s : List ℕ) → Leaves B N l a bt tt
    → Fitted (first_line a) out out' o.size → o.more ≡ lines_after a → Opens B N s l o bt tt out out'
unfolding load_lines
opens {l = l} {o = o} {out = out} {out'} s h f e =
    record {
      line = subst (λ (x : Result Loaded NotLoaded). Fitted (first_line x) out out' o.size) h.answer f;
      more = ap suc (e ∙ ap lines_after h.answer ∙ lines_counted s l);
      blocks = h.blocks;
      tones = h.tones;
    }

-- WHAT A LINE IS READ FROM: a row that is ready, and whose line is the load's
pub record LineAt (s : List ℕ) (l : Load) (bt tt : List ℕ) (i : ℕ) : Type 0 where
  pub ready : ReadyLine s tt bt i
  pub text : get_or (load_lines s l) (suc i) [] ≡ view_line i (row_view s tt (get block bt i))

none : Block
none = decode_block []

module _ (B N : ℕ) (s : List ℕ) (model : ℕ) (b : Bytes s) where
  -- of a tape that was read
  read_line : {t : Parsed} → Reads (load_of (lent_of B N) s model) t → (i : ℕ) → i < length t.blocks
      → get_or (view_lines 0 (block_list s t.tones (name_all s false t.blocks))) i []
      ≡ view_line i (row_view s (table_of tone t.tones N) (get block (table_of block (name_all s false t.blocks) B) i))
  read_line {t} r i h =
      let rs = name_all s false t.blocks in
      let q = get_or rs i none in
      let k : i < length rs = rw (name_all-length s false t.blocks) h in
      let z : 0 + i ≡ i = omega arith in
      let g : get block (table_of block rs B) i ≡ q = get_row block rs (zeros B) i none k in
      let m = tones_read t.tones N q.tone q.tones (all_get (rows-within (lent_of B N) s model b r) i none k) in
      row_line s t.tones 0 i rs none k
      ∙ ap (λ (j : ℕ). view_line j (view_of s (tones_in t.tones q) q)) z
      ∙ ap (λ (ts : List Tone). view_line i (view_of s ts q)) (sym m)
      ∙ ap (λ (x : Block). view_line i (row_view s (table_of tone t.tones N) x)) (sym g)

  line_ready : {t : Parsed} → Reads (load_of (lent_of B N) s model) t → (i : ℕ) → i < length t.blocks
      → ReadyLine s (table_of tone t.tones N) (table_of block (name_all s false t.blocks) B) i
  unfolding well_row
  line_ready r i h = record { row = row_ready B N s model b r i h; well = loaded_well B N s model b r i h }

  -- EVERY LINE OF A LOAD
  pub line_left : {bt tt : List ℕ} → bt ≡ block_table B (load_named (lent_of B N) s model)
      → tt ≡ tone_table N (load_named (lent_of B N) s model) → (i : ℕ) → suc i < length (load_lines s (load_named (lent_of B N) s model))
      → LineAt s (load_named (lent_of B N) s model) bt tt i
  unfolding load_named named_load named_tape block_lines load_lines block_table tone_table
  line_left {bt} {tt} p q i h =
      let l = named_load s (load_of (lent_of B N) s model) in
      subst (λ (x : List ℕ). LineAt s l x tt i) (sym p)
      (subst (λ (x : List ℕ). LineAt s l (block_table B l) x i) (sym q) (by_cases (load_of (lent_of B N) s model) refl h))
    where
      by_cases : (x : Load) → load_of (lent_of B N) s model ≡ x → suc i < length (load_lines s (named_load s x))
          → LineAt s (named_load s x) (block_table B (named_load s x)) (tone_table N (named_load s x)) i
      by_cases (tzx t) e k =
          let r = subst (λ (x : Load). Reads x t) (sym e) as_tzx in
          let n = rows-counted s t.tones 0 (name_all s false t.blocks) ∙ name_all-length s false t.blocks in
          record { ready = line_ready r i (omega arith); text = read_line r i (omega arith) }
      by_cases (tapped t) e k =
          let r = subst (λ (x : Load). Reads x t) (sym e) as_tap in
          let n = rows-counted s t.tones 0 (name_all s false t.blocks) ∙ name_all-length s false t.blocks in
          record { ready = line_ready r i (omega arith); text = read_line r i (omega arith) }
      by_cases (both_err f g) e k = absurd (omega arith)
      by_cases (no j) e k = absurd (omega arith)
