-- THE TIME OF WHOLE BYTES AT ONCE, by how many of their bits are ones. Assumes nothing but that bytes are below 256.
use Prim.Native.Nat.{ℕ, zero, suc, ◌+◌, ◌-◌, ◌*◌, ◌≤◌, ◌<◌}
use native.Mathlib.Nat.{add-mul, zero-mul, div-one}
use native.Mathlib.Numerals.{add-one}
use native.Mathlib.Omega.{arith}
use borrow.Author.Tests.{ne_eqb}
use mathlib.Core.Path.{◌≡◌, sym, ap, ap₂, ◌∙◌}
use mathlib.Core.List.{List}
use lib.Count.{ones, ones-le}
use lib.ListN.{get_or}
use Rattle.law_pulses.specs.Play.{Level, time}
use Rattle.law_pulses.specs.Runs.{run}
use Rattle.law_pulses.proofs.Runs.{run_time_next}
use Rattle.rows.specs.declared.Block.{Block}
use Rattle.play_entries.specs.Counted.{ones_from, bits_time}
use Rattle.play_entries.specs.Entries.{bits_at, byte_of, byte_at, byte_entries, data_of}
use Rattle.play_entries.proofs.Runs.{bits_time_lem, bytes_finite}

-- bits of two lots
pub bits_add : (r : Block) (k n j m : ℕ) → k ≤ n → j ≤ m → bits_time r k n + bits_time r j m ≡ bits_time r (k + j) (n + m)
bits_add r k n j m h l =
    let e : n + m - (k + j) ≡ n - k + (m - j) = omega arith in
    rw e (omega (arith, add-mul k j r.one, add-mul (n - k) (m - j) r.zero))

module _ (tape : List ℕ) (small : (i : ℕ) → get_or tape i 0 < 256) where
  pub ones_most : (from n : ℕ) → ones_from tape from n ≤ 8 * n
  unfolding ones_from
  ones_most from zero = omega arith
  ones_most from (suc n) = omega (arith, ones_most from n, ones-le 8 (get_or tape (from + n) 0) (small (from + n)))

  module _ (b : ℕ) (r : Block) (c : Level) where
    -- a byte before the last has 8 bits
    byte_counted : (pos : ℕ) → pos + 1 < r.size → time (byte_entries tape b r c pos) ≡ bits_time r (ones (byte_at tape r pos)) 8
    unfolding byte_of bits_at
    byte_counted pos h =
        let v = byte_at tape r pos in
        let n : pos + 1 ≡ r.size → ⊥ = λ e. absurd (omega arith) in
        rw (ne_eqb (pos + 1) r.size n)
        (bits_time_lem b r c pos v (small (r.start + pos)) 8 (omega arith) ∙ ap (λ (x : ℕ). bits_time r (ones x) 8) (div-one v))

    no_bytes : time (run (byte_entries tape b r c) 0 0) ≡ bits_time r (ones_from tape r.start 0) (8 * 0)
    unfolding run time ones_from
    no_bytes = omega (arith, zero-mul r.one, zero-mul r.zero)

    one_more : (n : ℕ)
        → bits_time r (ones_from tape r.start n) (8 * n) + bits_time r (ones (byte_at tape r n)) 8
        ≡ bits_time r (ones_from tape r.start (suc n)) (8 * suc n)
    unfolding ones_from
    one_more n =
        let e : 8 * n + 8 ≡ 8 * suc n = omega arith in
        bits_add r _ _ _ _ (ones_most r.start n) (ones-le 8 (byte_at tape r n) (small (r.start + n)))
        ∙ ap (λ (x : ℕ). bits_time r (ones_from tape r.start n + ones (byte_at tape r n)) x) e

    -- n bytes before the last
    bytes_counted : (n : ℕ) → n < r.size
        → time (run (byte_entries tape b r c) 0 n) ≡ bits_time r (ones_from tape r.start n) (8 * n)
    bytes_counted zero h = no_bytes
    bytes_counted (suc n) h =
        rw (← add-one n) (run_time_next (byte_entries tape b r c) (bytes_finite tape b r c) n)
        ∙ ap₂ (λ (x y : ℕ). x + y) (bytes_counted n (omega arith)) (byte_counted n (omega arith))
        ∙ one_more n

    -- ALL DATA: the bytes before the last, and the last
    pub data_counted : (n : ℕ) → n + 1 ≡ r.size
        → time (data_of tape b r c) ≡ bits_time r (ones_from tape r.start n) (8 * n) + time (byte_entries tape b r c n)
    unfolding data_of
    data_counted n e =
        ap (λ (x : ℕ). time (run (byte_entries tape b r c) 0 x)) (sym e)
        ∙ run_time_next (byte_entries tape b r c) (bytes_finite tape b r c) n
        ∙ ap (λ (x : ℕ). x + time (byte_entries tape b r c n)) (bytes_counted n (omega arith))

    pub data_none : r.size ≡ 0 → time (data_of tape b r c) ≡ 0
    unfolding data_of run time
    data_none e = ap (λ (x : ℕ). time (run (byte_entries tape b r c) 0 x)) e
