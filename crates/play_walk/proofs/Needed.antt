-- THE ROWS THAT A WALK NEEDS, those up to the first that is not well formed, and how many entries they have. Assumes nothing.
use Prim.Native.Nat.{ℕ, zero, suc, ◌+◌, ◌-◌, ◌*◌, ◌≤◌, ◌<◌}
use native.Mathlib.Omega.{arith}
use native.Mathlib.Nat.{suc-mul, zero-mul, mul-le-mul}
use mathlib.Core.Path.{◌≡◌, ap}
use mathlib.Core.Bool.{Bool, true, false}
use Rattle.law_base.specs.Rules.{◌⇒◌, ◌∣◌}
use mathlib.Core.List.{List, [], ◌∷◌, ◌++◌}
use lib.ListN.{length, length-append}
pub use Rattle.play_entries.proofs.Formed.{WellUpTo, needed, not-both, well_before, bad_there}
use Rattle.law_pulses.specs.Play.{Entry, pulse}
use Rattle.law_pulses.specs.Runs.{run}
use Rattle.rows.specs.declared.Block.{Block}
use Rattle.rows.specs.Well.{well_tones, well_block}
use Rattle.rows.proofs.WellLaws.{block_clauses, ranges_inside}
use Rattle.play_entries.specs.declared.Phase.{Phase}
use Rattle.play_entries.specs.declared.Phase.TheVariants.{Edge}
use Rattle.play_entries.specs.declared.Duration.{Duration}
use Rattle.play_entries.specs.Entries.{label_at, entry_of, tone_at, cycles_of, cycle_level, bit_level, edged, edge_time, cycle_pulses, start_of}
use Rattle.play_entries.specs.Entries.{row_entries, tones_of, byte_at, byte_entries, data_of, pause_entry, sound_of, entries_of}
use Rattle.play_entries.specs.Places.{Tape, block_in, list_from, left_at, level_in, valid, length_in}
use Rattle.play_entries.proofs.Runs.{tone-length, byte_length}
use Rattle.play_entries.proofs.Bounds.{bits_most}
use Rattle.play_entries.proofs.Ends.{end_of}
use Rattle.play_entries.proofs.Parts.{left_part}
use Rattle.play_entries.specs.Mounted.{tape_size, well_row, cut_to}
use Rattle.play_steps.proofs.Facts.{tone_small}

-- items of at most c entries each
run-most : {A : Type 0} (item : ℕ → List (Entry A)) (c p m : ℕ) → ((i : ℕ) → p ≤ i → i < p + m → length (item i) ≤ c)
    → length (run item p m) ≤ m * c
unfolding run
run-most item c p zero h = omega (arith, zero-mul c)
run-most item c p (suc m) h =
    omega (
      arith,
      length-append (item p) (run item (p + 1) m),
      h p (omega arith) (omega arith),
      run-most item c (p + 1) m (λ i l g. h i (omega arith) (omega arith)),
      suc-mul m c,
    )

-- a block's end, and its tone rows
end_few : (tones : List ℕ) (b : ℕ) (r : Block) → length (end_of tones b r) ≤ 2
end_few tones b r = by_edge (edged r)
  where
    by_edge : (x : Bool)
        → length ((x ⇒ pulse (label_at b Edge) (bit_level tones r) (edge_time r) ∷ [] ∣ []) ++ pause_entry tones b r ∷ []) ≤ 2
    by_edge true = omega arith
    by_edge false = omega arith

row_most : (tones : List ℕ) (b : ℕ) (r : Block) (j : ℕ) → well_tones tones r.tone r.tones ≡ true → j < r.tones
    → length (row_entries tones b r j) ≤ 131070
row_most tones b r j w h =
    let t = tone_at tones r j in
    let m = tone_small tones r w j h in
    let k : cycles_of r t * cycle_pulses r t ≤ 65535 * 2 = mul-le-mul m.cycles m.pulses in
    omega (arith, tone-length b j r t (cycle_level tones r j))

module _ (size : ℕ) (tape tones : List ℕ) (b : ℕ) (r : Block) (w : well_block size tones r ≡ true) (few : size ≤ 1048576) where
  block-most : length (entries_of tape tones b r) ≤ 8607000000
  unfolding entries_of sound_of tones_of data_of
  block-most =
      let c = block_clauses size tones r w in
      let i = ranges_inside size tones r c.ranges in
      let t = run-most (row_entries tones b r) 131070 0 r.tones (λ j l g. row_most tones b r j c.rows (omega arith)) in
      let d = run-most (byte_entries tape b r (bit_level tones r)) 16 0 r.size
      (λ j l g. omega (arith, byte_length b r (bit_level tones r) j (byte_at tape r j), bits_most r j c.numbers (omega arith))) in
      omega (
        arith,
        length-append (start_of b r ∷ tones_of tones b r ++ data_of tape b r (bit_level tones r)) (end_of tones b r),
        length-append (tones_of tones b r) (data_of tape b r (bit_level tones r)),
        end_few tones b r,
      )

-- a tape's entries are few
pub few_entries : {w : Tape} {b k : ℕ} → WellUpTo w b k → w.count ≤ 4096 → (f : Phase) (left : Duration) → b < k
    → valid (cut_to w k) b f left ≡ true
    → length (left_at (cut_to w k) b f left) ≤ 35254272000000
unfolding well_row list_from
few_entries {w} {b} {k} x h f left l e =
    let v = cut_to w k in
    let p = left_part v b l f left e in
    let n = run-most (λ i. entries_of v.bytes v.tones i (block_in v i)) 8607000000 b (k - b)
    (λ i y z. block-most (tape_size v.bytes) v.bytes v.tones i (block_in v i) (x.well i y (omega arith)) (omega arith)) in
    omega (
      arith,
      ap length p.rest,
      ap length p.entry.whole,
      length-append p.entry.gone (entry_of (label_at b f) (level_in v b f) (length_in v b f) ∷ p.next),
      n,
      x.most,
    )
