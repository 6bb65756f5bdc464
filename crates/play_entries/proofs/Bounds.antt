-- A WELL-FORMED BLOCK LASTS LESS THAN 2 ^ 50 T-STATES, and so do its parts. Assumes nothing.
use Prim.Native.Nat.{ℕ, ◌+◌, ◌*◌, ◌^◌, ◌≤◌, ◌<◌, max}
use native.Mathlib.Nat.{mul-le-mul}
use native.Mathlib.Omega.{arith}
use native.Mathlib.Decide.{ℕ_discrete}
use borrow.Author.Tests.{eq-eqb, ne_eqb}
use mathlib.Core.Path.{◌≡◌}
use mathlib.Core.Bool.{Bool, true, false}
use lib.Dec.{eqb}
use Rattle.law_base.specs.Rules.{◌⇒◌, ◌∣◌}
use mathlib.Core.List.{List, []}
use Rattle.law_pulses.specs.Play.{Level, time}
use Rattle.law_pulses.proofs.Joined.{time_append}
use Rattle.law_pulses.specs.Runs.{run}
use Rattle.law_pulses.proofs.Runs.{run-time-most}
use Rattle.rows.specs.declared.Tone.{Tone}
use Rattle.rows.specs.declared.Block.{Block}
use Rattle.rows.specs.Well.{well_tone, well_tones, well_numbers, well_block}
use Rattle.rows.proofs.WellLaws.{block_clauses, ranges_inside, numbers-most, tone-most, tones-each}
use Rattle.play_levels.specs.Closed.{pulses_of, times_of}
use Rattle.play_entries.specs.Entries.{is_source, cycles_of, is_single, bit_level, cycle_time, tone_of, row_entries, tones_of, bits_at}
use Rattle.play_entries.specs.Entries.{bit_of, half_of, bit_entries, byte_of, byte_entries, data_of, sound_of, entries_of}
use Rattle.play_entries.proofs.Ends.{end_of, end_time, end_none}
use Rattle.play_entries.proofs.Runs.{tone-time, bit_finite, bit_time, row_finite, bytes_finite, sound_finite, sound_time}

-- in either sort
by_count : (s n : Bool) (k : ℕ) → (s ⇒ max 1 k ∣ n ⇒ 0 ∣ k) ≤ max 1 k
by_count true n k = omega arith
by_count false true k = omega arith
by_count false false k = omega arith

pub cycles_most : (r : Block) (t : Tone) → cycles_of r t ≤ max 1 t.num
unfolding cycles_of times_of
cycles_most r t = by_count (is_source r) (eqb (pulses_of t) 0) t.num

by_half : (o : Bool) (n : ℕ) → (o ⇒ 0 ∣ n) ≤ n
by_half true n = omega arith
by_half false n = omega arith

pub cycle_most : (r : Block) (t : Tone) → cycle_time r t ≤ t.len1 + t.len2
cycle_most r t = omega (arith, by_half (is_single r t) t.len2)

pub product_most : (r : Block) (t : Tone) → well_tone t ≡ true → cycles_of r t * cycle_time r t ≤ 8589672450
product_most r t e =
    let h = tone-most t e in
    let m : cycles_of r t ≤ 65535 = omega (arith, cycles_most r t) in
    let n : cycle_time r t ≤ 131070 = omega (arith, cycle_most r t) in
    let k : cycles_of r t * cycle_time r t ≤ 65535 * 131070 = mul-le-mul m n in
    omega arith

pub tone-most-time : (b i : ℕ) (r : Block) (t : Tone) (v : ℕ → Level) → well_tone t ≡ true
    → time (tone_of b i r t v) ≤ 8589672450
tone-most-time b i r t v e = omega (arith, tone-time b i r t v, product_most r t e)

pub rows-most-time : (tones : List ℕ) (b : ℕ) (r : Block) (n : ℕ) → well_tones tones r.tone r.tones ≡ true → n ≤ r.tones
    → time (run (row_entries tones b r) 0 n) ≤ n * 8589672450
rows-most-time tones b r n e h =
    run-time-most (row_entries tones b r) (row_finite tones b r) 8589672450 0 n
    (λ i l g. tone-most-time b i r _ _ (tones-each tones r.tone r.tones i e (omega arith)))

half_most : (r : Block) (d : ℕ) → well_numbers r ≡ true → half_of r d ≤ 65535
unfolding half_of
half_most r d e =
    let h = numbers-most r e in
    elim (ℕ_discrete d 0) [
      | yes z ↦ rw (eq-eqb d 0 z) h.zero
      | no z ↦ rw (ne_eqb d 0 z) h.one
    ]

-- what holds of the last byte's bits and of 8 holds of a byte's bits
bits_ways : (P : ℕ → Type 0) (r : Block) (pos : ℕ) → P (max 1 r.last) → P 8 → P (bits_at r pos)
unfolding bits_at
bits_ways P r pos p q =
    elim (ℕ_discrete (pos + 1) r.size) [
      | yes z ↦ rw (eq-eqb (pos + 1) r.size z) p
      | no z ↦ rw (ne_eqb (pos + 1) r.size z) q
    ]

pub bits_most : (r : Block) (pos : ℕ) → well_numbers r ≡ true → pos < r.size → bits_at r pos ≤ 8
bits_most r pos e l =
    let k : r.last ≤ 8 = (numbers-most r e).last (omega arith) in
    bits_ways (λ n. n ≤ 8) r pos (omega arith) (omega arith)

-- in any row
pub bits_any : (r : Block) (pos : ℕ) → bits_at r pos ≤ max 8 r.last
bits_any r pos = bits_ways (λ n. n ≤ max 8 r.last) r pos (omega arith) (omega arith)

pub bits_some : (r : Block) (pos : ℕ) → 0 < bits_at r pos
bits_some r pos = bits_ways (λ n. 0 < n) r pos (omega arith) (omega arith)

-- what k halves last, of ones and of zeros, no more bits than a tape has
pub record Few (r : Block) (k : ℕ) : Type 0 where
  pub long : k * r.one ≤ 549747425280
  pub short : k * r.zero ≤ 549747425280

pub few : (r : Block) (k : ℕ) → well_numbers r ≡ true → k ≤ 8388608 → Few r k
few r k e h =
    let w = numbers-most r e in
    let a : k * r.one ≤ 8388608 * 65535 = mul-le-mul h w.one in
    let b : k * r.zero ≤ 8388608 * 65535 = mul-le-mul h w.zero in
    record { long = omega arith; short = omega arith }

pub byte_most_time : (b : ℕ) (r : Block) (c : Level) (pos v : ℕ) → well_numbers r ≡ true → pos < r.size
    → time (byte_of b r c pos v) ≤ 1048560
unfolding byte_of
byte_most_time b r c pos v e l =
    let m : time (run (bit_entries b r c pos v) 0 (bits_at r pos)) ≤ bits_at r pos * 131070 =
    run-time-most (bit_entries b r c pos v) (bit_finite b r c pos v) 131070 0 (bits_at r pos)
    (λ k x y. omega (arith, bit_time b r c pos v k, half_most r (bit_of v k) e)) in
    omega (arith, bits_most r pos e l)

pub bytes-most-time : (tape : List ℕ) (b : ℕ) (r : Block) (c : Level) (n : ℕ) → well_numbers r ≡ true → n ≤ r.size
    → time (run (byte_entries tape b r c) 0 n) ≤ n * 1048560
bytes-most-time tape b r c n e h =
    run-time-most (byte_entries tape b r c) (bytes_finite tape b r c) 1048560 0 n
    (λ pos l g. byte_most_time b r c pos _ e (omega arith))

-- over any bytes: the tape's length alone counts
module _ (size : ℕ) (tape tones : List ℕ) (b : ℕ) (r : Block) (w : well_block size tones r ≡ true) (few : size ≤ 1048576) where
  pub sound_most : time (sound_of tape tones b r) ≤ 564032268533760
  unfolding tones_of data_of
  sound_most =
      let c = block_clauses size tones r w in
      let i = ranges_inside size tones r c.ranges in
      omega (
        arith,
        sound_time tape tones b r,
        rows-most-time tones b r r.tones c.rows (omega arith),
        bytes-most-time tape b r (bit_level tones r) r.size c.numbers (omega arith),
      )

  pub sound_below : time (sound_of tape tones b r) < 2 ^ 50
  sound_below = omega (arith, sound_most)

  end_most_time : time (end_of tones b r) ≤ 229372500
  unfolding time
  end_most_time =
      let c = block_clauses size tones r w in
      let n = numbers-most r c.numbers in
      elim (ℕ_discrete r.endless 1) [
        | yes z ↦ omega (arith, end_none tones b r [] z)
        | no z ↦ omega (arith, end_time tones b r [] z, n.pause z)
      ]

  pub block_below : time (entries_of tape tones b r) < 2 ^ 50
  unfolding entries_of
  block_below =
      omega (arith, time_append (sound_of tape tones b r) (end_of tones b r) (sound_finite tape tones b r), sound_most, end_most_time)
