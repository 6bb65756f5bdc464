-- What a well-formed row may be dropped from, part by part, and the tone row that `drop_cycles` read. Assumes nothing.
use Prim.Native.Nat.{ℕ, ◌+◌, ◌-◌, ◌*◌, ◌^◌, ◌≤◌, ◌<◌}
use mathlib.Core.Path.{◌≡◌, refl, ap, ◌∙◌}
use mathlib.Core.Bool.{Bool}
use mathlib.Core.List.{List}
use lib.ListN.{length}
use mathlib.Core.Bool.{true}
use Rattle.rows.specs.Well.{well_tone, well_numbers, well_block}
use Rattle.rows.proofs.WellLaws.{tones-each}
use native.Mathlib.Omega.{arith}
use native.Mathlib.Nat.{mul-le-mul}
use Rattle.play_steps.proofs.Facts.{Small, small_of}
use Rattle.play_entries.proofs.Valid.{in_tones}
use Rattle.play_entries.specs.Places.{has_entry}
use Rattle.play_entries.specs.Mounted.{tape_size}
use Rattle.play_entries.proofs.Lent.{row_lent}
use Rattle.rows.specs.declared.Tone.{Tone}
use Rattle.rows.specs.declared.Block.{Block}
use Rattle.play_entries.specs.declared.Phase.TheVariants.{Tones}
use Rattle.play_entries.specs.Entries.{tone_at, cycles_of, cycle_pulses, cycle_time}

module _ (tape tones : List ℕ) (r : Block) (w : well_block (tape_size tape) tones r ≡ true) where
  pub row_bytes : r.start + r.size ≤ length tape
  row_bytes = (row_lent tape tones r w).bytes

  pub row_few : r.start + r.size ≤ 1048576
  row_few = (row_lent tape tones r w).few

  pub row_numbers : well_numbers r ≡ true
  row_numbers = (row_lent tape tones r w).numbers

-- the tone row that the code read, in such a row
module _ (tape tones : List ℕ) (r : Block) (w : well_block (tape_size tape) tones r ≡ true) (i p : ℕ) (h : Bool)
    (e : has_entry tones r (Tones i p h) ≡ true) (x : Tone) (q : x ≡ tone_at tones r i) where
  small : Small r x
  small = small_of tones r i x q (row_lent tape tones r w).each (in_tones tones r refl e).0

  pub tone_well : well_tone x ≡ true
  tone_well = ap well_tone q ∙ tones-each tones r.tone r.tones i (row_lent tape tones r w).each (in_tones tones r refl e).0

  pub cycles_left : p < cycles_of r x
  cycles_left = rw q (in_tones tones r refl e).1

  pub rest_time : (cycles_of r x - p) * cycle_time r x < 2 ^ 64
  rest_time =
      let m : cycles_of r x - p ≤ 65535 = omega (arith, small.cycles) in
      let k : (cycles_of r x - p) * cycle_time r x ≤ 65535 * 131070 = mul-le-mul m small.lasts in
      omega arith

  pub rest_pulses : (cycles_of r x - p) * cycle_pulses r x < 2 ^ 64
  rest_pulses =
      let m : cycles_of r x - p ≤ 65535 = omega (arith, small.cycles) in
      let k : (cycles_of r x - p) * cycle_pulses r x ≤ 65535 * 2 = mul-le-mul m small.pulses in
      omega arith
