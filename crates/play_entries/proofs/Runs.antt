-- A tone row, a data byte, tones, data and sound as runs: no endless entry, how many entries, and their time. Assumes nothing.
use Prim.Native.Nat.{ℕ, zero, suc, ◌+◌, ◌-◌, ◌*◌, ◌/◌, ◌^◌, ◌≤◌, ◌<◌}
use native.Mathlib.Nat.{suc-mul, zero-mul, add-zero, zero-add, mod-lt}
use native.Mathlib.Numerals.{add-one}
use native.Mathlib.Omega.{arith}
use mathlib.Core.Path.{◌≡◌, refl, sym, ap, ◌∙◌}
use mathlib.Core.Bool.{Bool, true, false}
use mathlib.Core.List.{List, [], ◌∷◌, ◌++◌}
use Rattle.law_base.specs.Rules.{◌⇒◌, ◌∣◌}
use lib.Count.{ones, ones_step, ones-le}
use lib.Pow.{shr-shr, shr_lt}
use lib.ListN.{length}
use Rattle.law_pulses.specs.Play.{Level, Entry, pulse, time, comes_to, Finite}
use Rattle.law_pulses.proofs.Steps.{time-pulse}
use Rattle.law_pulses.proofs.Joined.{time_append, finite_append, comes_append}
use Rattle.law_pulses.specs.Runs.{run}
use Rattle.law_pulses.proofs.Runs.{run_length, run_finite, run-time, run_time_next}
use Rattle.rows.specs.declared.Tone.{Tone}
use Rattle.rows.specs.declared.Block.{Block}
use Rattle.play_entries.specs.declared.Duration.TheVariants.{T, Endless}
use Rattle.play_entries.specs.Counted.{bits_time}
use Rattle.play_entries.specs.Entries.{Label, cycles_of, is_single, bit_level, cycle_of, cycle_pulses, cycle_time, tone_of, row_entries}
use Rattle.play_entries.specs.Entries.{tones_of, bits_at, bit_of, half_of, bit_entries, byte_of, byte_entries, data_of, sound_of}
use Rattle.play_entries.specs.Entries.{entries_of, lasts_of}
use Rattle.play_entries.proofs.Ends.{end_of, end_time, end_comes, end_on}

-- a repetition's second pulse, if there is one
second_finite : (o : Bool) (a : Label) (v : Level) (n : ℕ) → Finite (o ⇒ [] ∣ pulse a v n ∷ [])
unfolding Finite
second_finite true a v n = tt
second_finite false a v n = tt

second_time_lem : (o : Bool) (a : Label) (v : Level) (n : ℕ) → time (o ⇒ [] ∣ pulse a v n ∷ []) ≡ (o ⇒ 0 ∣ n)
unfolding time
second_time_lem true a v n = refl
second_time_lem false a v n = omega arith

second_length : (o : Bool) (e : Entry Label) → suc (length (o ⇒ [] ∣ e ∷ [])) ≡ (o ⇒ 1 ∣ 2)
second_length true e = refl
second_length false e = refl

module _ (b i : ℕ) (r : Block) (t : Tone) (v : ℕ → Level) where
  pub cycle_finite : (p : ℕ) → Finite (cycle_of b i r t v p)
  unfolding Finite
  cycle_finite p = second_finite (is_single r t) _ _ _

  pub cycle_time_lem : (p : ℕ) → time (cycle_of b i r t v p) ≡ cycle_time r t
  cycle_time_lem p = time-pulse _ _ _ _ ∙ ap (λ (x : ℕ). t.len1 + x) (second_time_lem (is_single r t) _ _ _)

  pub cycle_length : (p : ℕ) → length (cycle_of b i r t v p) ≡ cycle_pulses r t
  cycle_length p = second_length (is_single r t) _

  pub tone_finite : Finite (tone_of b i r t v)
  unfolding tone_of
  tone_finite = run_finite (cycle_of b i r t v) cycle_finite 0 (cycles_of r t)

  pub tone-length : length (tone_of b i r t v) ≡ cycles_of r t * cycle_pulses r t
  unfolding tone_of
  tone-length = run_length (cycle_of b i r t v) (cycle_pulses r t) 0 (cycles_of r t) (λ p l g. cycle_length p)

  pub tone-time : time (tone_of b i r t v) ≡ cycles_of r t * cycle_time r t
  unfolding tone_of
  tone-time = run-time (cycle_of b i r t v) cycle_finite (cycle_time r t) 0 (cycles_of r t) (λ p l g. cycle_time_lem p)

module _ (r : Block) where
  -- one bit more
  more_bits : (k n d : ℕ) → k ≤ n → d < 2 → bits_time r k n + (half_of r d + half_of r d) ≡ bits_time r (d + k) (n + 1)
  unfolding half_of
  more_bits k n zero h l =
      let e : n + 1 - (0 + k) ≡ suc (n - k) = omega arith in
      let z : 0 + k ≡ k = omega arith in
      rw (e, z) (omega (arith, suc-mul (n - k) r.zero))
  more_bits k n (suc zero) h l =
      let e : n + 1 - (1 + k) ≡ n - k = omega arith in
      let z : 1 + k ≡ suc k = omega arith in
      rw (e, z) (omega (arith, suc-mul k r.one))
  more_bits k n (suc (suc d)) h l = absurd (omega arith)

-- the first n bits of a byte are those left when the others are shifted out
pub few_ones : (v n : ℕ) → v < 256 → n ≤ 8 → ones (v / 2 ^ (8 - n)) ≤ n
few_ones v n small h =
    let e : n + (8 - n) ≡ 8 = omega arith in
    ones-le n (v / 2 ^ (8 - n)) (shr_lt n (8 - n) (rw e small))

next_ones : (v n : ℕ) → n < 8 → ones (v / 2 ^ (8 - (n + 1))) ≡ bit_of v n + ones (v / 2 ^ (8 - n))
next_ones v n h =
    let w : 8 - (n + 1) ≡ 7 - n = omega arith in
    let e : 7 - n + 1 ≡ 8 - n = omega arith in
    rw w (ones_step (v / 2 ^ (7 - n)) ∙ ap (λ (x : ℕ). bit_of v n + ones x) (shr-shr v (7 - n) 1 ∙ ap (λ (x : ℕ). v / 2 ^ x) e))

module _ (b : ℕ) (r : Block) (c : Level) (pos v : ℕ) where
  pub bit_finite : (k : ℕ) → Finite (bit_entries b r c pos v k)
  unfolding Finite
  bit_finite k = tt

  pub byte_finite : Finite (byte_of b r c pos v)
  unfolding byte_of
  byte_finite = run_finite (bit_entries b r c pos v) bit_finite 0 (bits_at r pos)

  pub byte_length : length (byte_of b r c pos v) ≡ bits_at r pos * 2
  unfolding byte_of
  byte_length = run_length (bit_entries b r c pos v) 2 0 (bits_at r pos) (λ k l g. refl)

  pub bit_time : (k : ℕ) → time (bit_entries b r c pos v k) ≡ half_of r (bit_of v k) + half_of r (bit_of v k)
  unfolding time
  bit_time k = omega arith

  no_bits : time (run (bit_entries b r c pos v) 0 0) ≡ 0
  unfolding run time
  no_bits = refl

  -- the time of a byte's first n bits: its ones among them, counted
  pub bits_time_lem : v < 256 → (n : ℕ) → n ≤ 8 → time (run (bit_entries b r c pos v) 0 n) ≡ bits_time r (ones (v / 2 ^ (8 - n))) n
  bits_time_lem small zero h =
      let k : ones (v / 2 ^ (8 - 0)) ≡ 0 = omega (arith, few_ones v 0 small h) in
      no_bits ∙ rw k (omega (arith, zero-mul r.one, zero-mul r.zero))
  bits_time_lem small (suc n) h =
      let item = bit_entries b r c pos v in
      let k = ones (v / 2 ^ (8 - n)) in
      rw (← add-one n)
      (run_time_next item bit_finite n
      ∙ ap (λ (x : ℕ). x + time (item n)) (bits_time_lem small n (omega arith))
      ∙ ap (λ (x : ℕ). bits_time r k n + x) (bit_time n)
      ∙ more_bits r k n (bit_of v n) (few_ones v n small (omega arith)) (mod-lt (v / 2 ^ (7 - n)) (omega arith))
      ∙ ap (λ (x : ℕ). bits_time r x (n + 1)) (sym (next_ones v n (omega arith))))

module _ (tones : List ℕ) (b : ℕ) (r : Block) where
  pub row_finite : (i : ℕ) → Finite (row_entries tones b r i)
  row_finite i = tone_finite b i r _ _

  pub tones_finite : Finite (tones_of tones b r)
  unfolding tones_of
  tones_finite = run_finite (row_entries tones b r) row_finite 0 r.tones

module _ (tape : List ℕ) (b : ℕ) (r : Block) (c : Level) where
  pub bytes_finite : (pos : ℕ) → Finite (byte_entries tape b r c pos)
  bytes_finite pos = byte_finite b r c pos _

  pub data_finite : Finite (data_of tape b r c)
  unfolding data_of
  data_finite = run_finite (byte_entries tape b r c) bytes_finite 0 r.size

module _ (tape tones : List ℕ) (b : ℕ) (r : Block) where
  pub sound_finite : Finite (sound_of tape tones b r)
  unfolding sound_of Finite
  sound_finite = finite_append (tones_of tones b r) (data_of tape b r (bit_level tones r)) (tones_finite tones b r)
      (data_finite tape b r (bit_level tones r))

  pub sound_time : time (sound_of tape tones b r) ≡ time (tones_of tones b r) + time (data_of tape b r (bit_level tones r))
  unfolding sound_of
  sound_time =
      time-pulse _ _ 0 (tones_of tones b r ++ data_of tape b r (bit_level tones r))
      ∙ zero-add _
      ∙ time_append (tones_of tones b r) (data_of tape b r (bit_level tones r)) (tones_finite tones b r)

  -- with the pause: the sum, or endless
  pub lasts-stop : r.endless ≡ 1 → lasts_of (entries_of tape tones b r) ≡ Endless
  unfolding lasts_of entries_of
  lasts-stop e = rw (comes_append (sound_of tape tones b r) (end_of tones b r) sound_finite, end_comes tones b r [] e)

  pub lasts_pause : (r.endless ≡ 1 → ⊥) → lasts_of (entries_of tape tones b r) ≡ T (time (sound_of tape tones b r) + r.pause)
  unfolding lasts_of entries_of comes_to time
  lasts_pause e =
      let s = sound_of tape tones b r in
      rw (
        comes_append s (end_of tones b r) sound_finite,
        end_on tones b r [] e,
        time_append s (end_of tones b r) sound_finite,
        end_time tones b r [] e,
        add-zero,
      )
