-- LARGER TABLES, THE SAME LOAD, on the load's contract: what a load that was accepted answers and leaves, one with more words answers and
-- leaves too, with zeros behind. Assumes nothing but that bytes are below 256.
use Prim.Native.Nat.{ℕ, ◌+◌, ◌*◌, ◌-◌, ◌≤◌}
use native.Mathlib.Omega.{arith}
use mathlib.Core.Path.{◌≡◌, sym, ap, ◌∙◌}
use mathlib.Core.Bool.{false}
use mathlib.Core.List.{List, ◌++◌, append_assoc}
use lib.ListN.{length, drop, length-replicate, replicate-append-replicate}
use lib.Seq.{drop-append-le}
use borrow.Fn.Kinds.{Dens, ended_of}
use contract.Lifetimes.{Lfts}
use denote.Triple.Clauses.{AtExit}
use Rattle.std.specs.Prelude.{Result, Ok}
use Rattle.rows.specs.Table.{Codec, zeros, flat, table_over, table_of}
use Rattle.rows.specs.Rows.{block, tone}
use Rattle.load_state.specs.Parser.{Parsed}
use Rattle.load_state.specs.Holds.{block_room, tone_room}
use Rattle.load_blocks.specs.Does.{lent_of}
use Rattle.load_source.specs.Source.{Load}
use Rattle.load_tape.specs.declared.Format.{Format}
use Rattle.load_tape.specs.declared.Loaded.{Loaded}
use Rattle.load_tape.specs.declared.NotLoaded.{NotLoaded}
use Rattle.load_tape.proofs.load.Kinds as kinds
use Rattle.load_tape.proofs.load.Reads as load
use Rattle.load_tape.specs.Load.{named_tape, load_named, answer_of, block_table, tone_table, Leaves, loaded_as}
use Rattle.text_name.specs.Names.{name_all}
use Rattle.text_name.proofs.Selecting.{name_all-length}
use Rattle.law_every_load.specs.Sizes.{Bytes}
use Rattle.law_every_load.specs.OfSource.{Reads, as_tzx, as_tap}
use Rattle.law_every_load.proofs.Left.{left}
use Rattle.law_every_load.proofs.Room.{load_within}
use Rattle.law_promises.specs.Boundless.{Larger}
use Rattle.law_promises.proofs.Capacity.{named_reads, larger_load}

-- a table with more words
grown : {R : Type 0} (C : Codec R) (rs : List R) (n m : ℕ) → length rs * C.width ≤ n → n ≤ m
    → table_of C rs m ≡ table_of C rs n ++ zeros (m - n)
unfolding table_over
grown C rs n m h l =
    let e : n + (m - n) ≡ m = omega (arith, l) in
    ap (λ (k : ℕ). flat C rs ++ drop (length rs * C.width) (zeros k)) (sym e)
    ∙ ap (λ (t : List ℕ). flat C rs ++ drop (length rs * C.width) t) (sym (replicate-append-replicate n (m - n) 0))
    ∙ ap (λ (t : List ℕ). flat C rs ++ t) (drop-append-le (length rs * C.width) (zeros n) (zeros (m - n)) (rw length-replicate h))
    ∙ sym (append_assoc (flat C rs) (drop (length rs * C.width) (zeros n)) (zeros (m - n)))

-- more words are no fewer rows
lent_larger : (B N C M : ℕ) → B ≤ C → N ≤ M → Larger (lent_of B N) (lent_of C M)
lent_larger B N C M h l = record { blocks = omega (arith, h); tones = omega (arith, l) }

-- a load's tables with more words
blocks_grown : {x : Load} {t : Parsed} (B C : ℕ) → Reads x t → length t.blocks ≤ block_room B → B ≤ C
    → block_table C x ≡ block_table B x ++ zeros (C - B)
unfolding block_table
blocks_grown {t = t} B C as_tzx h l = grown block t.blocks B C (omega (arith, h)) l
blocks_grown {t = t} B C as_tap h l = grown block t.blocks B C (omega (arith, h)) l

tones_grown : {x : Load} {t : Parsed} (N M : ℕ) → Reads x t → length t.tones ≤ tone_room N → N ≤ M
    → tone_table M x ≡ tone_table N x ++ zeros (M - N)
unfolding tone_table
tones_grown {t = t} N M as_tzx h l = grown tone t.tones N M (omega (arith, h)) l
tones_grown {t = t} N M as_tap h l = grown tone t.tones N M (omega (arith, h)) l

module _ (B N C M : ℕ) (s : List ℕ) (model : ℕ) (b : Bytes s) (h : B ≤ C) (j : N ≤ M)
    {f : Format} {n k : ℕ} {bt tt bt' tt' : List ℕ} {a : Result Loaded NotLoaded}
    (l : Leaves B N (load_named (lent_of B N) s model) (Ok (loaded_as f n k)) bt tt)
    (l' : Leaves C M (load_named (lent_of C M) s model) a bt' tt') where
  -- THE SAME ANSWER, THE SAME ROWS, ZEROS BEHIND
  pub larger_same : (a ≡ Ok (loaded_as f n k)) × ((bt' ≡ bt ++ zeros (C - B)) × (tt' ≡ tt ++ zeros (M - N)))
  unfolding load_named named_tape
  larger_same =
      let q = left B N s model b l in
      let r = named_reads s q.reads in
      let w = load_within (lent_of B N) s model b q.reads in
      let x = larger_load s model (lent_larger B N C M h j) r in
      let same = name_all-length s false q.tape.blocks in
      let few : length (name_all s false q.tape.blocks) ≤ block_room B = omega (arith, same, w.blocks) in (
        l'.answer ∙ ap answer_of x ∙ sym l.answer,
        (
          l'.blocks ∙ ap (block_table C) x ∙ blocks_grown B C r few h
              ∙ ap (λ (t : List ℕ). t ++ zeros (C - B)) (sym l.blocks),
          l'.tones ∙ ap (tone_table M) x ∙ tones_grown N M r w.tones j
              ∙ ap (λ (t : List ℕ). t ++ zeros (M - N)) (sym l.tones),
        ),
      )

-- .. of any two calls that the contract permits, on the same tape and model, the second with as many words of either table or more
module _ (κs κs' : Lfts 3) (c : Dens κs kinds.ps) (c' : Dens κs' kinds.ps)
    (e : AtExit (ended_of 3 kinds.ps kinds.r) κs) (e' : AtExit (ended_of 3 kinds.ps kinds.r) κs')
    (b : Bytes c.0.now) (tape : c'.0.now ≡ c.0.now) (model : c'.1.0 ≡ c.1.0)
    (more : length c.1.1.0.now ≤ length c'.1.1.0.now)
    (longer : length c.1.1.1.0.now ≤ length c'.1.1.1.0.now) where
  pub larger_once : {f : Format} {n k : ℕ} {a : Result Loaded NotLoaded} → load.Post κs c (Ok (loaded_as f n k)) e → load.Post κs' c' a e'
      → (a ≡ Ok (loaded_as f n k))
      × ((e'.1.1.0.now ≡ e.1.1.0.now ++ zeros (length c'.1.1.0.now - length c.1.1.0.now))
      × (e'.1.1.1.0.now ≡ e.1.1.1.0.now ++ zeros (length c'.1.1.1.0.now - length c.1.1.1.0.now)))
  larger_once {a = a} l l' = larger_same _ _ _ _ c.0.now c.1.0 b more longer l (rw (tape, model) at l')
