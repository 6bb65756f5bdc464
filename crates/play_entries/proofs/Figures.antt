-- WHAT A ROW SOUNDS BY ARITHMETIC is what its entries without the pause last; and it fits. Assumes nothing but that bytes are below 256.
use Prim.Native.Nat.{ℕ, zero, suc, ◌+◌, ◌-◌, ◌*◌, ◌≤◌, ◌<◌}
use native.Mathlib.Nat.{eq-zero-or-pos}
use native.Mathlib.Omega.{arith}
use borrow.Author.Tests.{le-leb, leb-true, eq-eqb, ne_eqb}
use mathlib.Core.Path.{◌≡◌, refl, sym, ap, ap₂, ◌∙◌}
use mathlib.Core.Bool.{Bool, true, false, ◌&&◌}
use mathlib.Core.List.{List, [], ◌∷◌}
use mathlib.Core.Logic.{⊎_elim}
use lib.ListN.{length, get_or}
use Rattle.law_base.specs.Rules.{◌⇒◌, ◌∣◌}
use Rattle.law_pulses.specs.Play.{Level, time}
use Rattle.law_pulses.specs.Runs.{run}
use Rattle.law_pulses.proofs.Joined.{time_append}
use Rattle.rows.specs.declared.Tone.{Tone}
use Rattle.rows.specs.declared.Block.{Block}
use Rattle.rows.specs.Rows.{changed, with_pause}
use Rattle.rows.specs.Well.{inside, well_tone, well_numbers, well_block}
use Rattle.rows.proofs.WellLaws.{block_clauses, ranges_inside, numbers-most, tones-each}
use Rattle.play_entries.specs.Entries.{tone_at, cycles_of, is_single, cycle_time, cycle_level, bit_level, row_entries, tones_of}
use Rattle.play_entries.specs.Entries.{bits_at, byte_of, byte_at, byte_entries, data_of, sound_of}
use Rattle.play_entries.specs.Mounted.{tape_size}
use Rattle.play_entries.specs.Counted.{ones_from, bits_time}
use Rattle.play_entries.specs.Figures.{tone_figure, tones_figure, Owns, played_bits, played_ones, bits_figure, data_figure, sound_in}
use Rattle.play_entries.proofs.Runs.{tone-time, few_ones, bits_time_lem, row_finite, sound_time}
use Rattle.play_entries.proofs.Counted.{bits_add, ones_most, data_counted, data_none}
use Rattle.play_entries.proofs.Bounds.{product_most, bytes-most-time}

-- TONES. A well-formed tone row's figure is its list's, and any tone row's is small
pub tone_figure_lem : (r : Block) (t : Tone) → well_tone t ≡ true → tone_figure r t ≡ cycles_of r t * cycle_time r t
unfolding tone_figure
tone_figure_lem r t e = rw e

pub tone-none : (r : Block) (t : Tone) → well_tone t ≡ false → tone_figure r t ≡ 0
unfolding tone_figure
tone-none r t e = rw e

pub tone_figure-most : (r : Block) (t : Tone) → tone_figure r t ≤ 8589672450
unfolding tone_figure
tone_figure-most r t = by_cases (well_tone t) refl
  where
    by_cases : (b : Bool) → well_tone t ≡ b → (b ⇒ cycles_of r t * cycle_time r t ∣ 0) ≤ 8589672450
    by_cases true e = product_most r t e
    by_cases false e = omega arith

pub tones_figure-most : (r : Block) (ts : List Tone) → tones_figure r ts ≤ length ts * 8589672450
unfolding tones_figure
tones_figure-most r [] = omega arith
tones_figure-most r (t ∷ ts) = omega (arith, tone_figure-most r t, tones_figure-most r ts)

-- n of a row's tone rows from its i-th on, added up as the table has them
unfoldable pub figure_from : List ℕ → Block → ℕ → ℕ → ℕ
figure_from tones r i zero = 0
figure_from tones r i (suc n) = tone_figure r (tone_at tones r i) + figure_from tones r (i + 1) n

pub from_next : (tones : List ℕ) (r : Block) (i n : ℕ) → i < n
    → figure_from tones r i (n - i) ≡ tone_figure r (tone_at tones r i) + figure_from tones r (i + 1) (n - (i + 1))
unfolding figure_from
from_next tones r i n h = let e : n - i ≡ suc (n - (i + 1)) = omega arith in rw e

pub from_none : (tones : List ℕ) (r : Block) (i n : ℕ) → n ≤ i → figure_from tones r i (n - i) ≡ 0
unfolding figure_from
from_none tones r i n h = let e : n - i ≡ 0 = omega arith in rw e

pub from_most : (tones : List ℕ) (r : Block) (i n : ℕ) → figure_from tones r i n ≤ n * 8589672450
unfolding figure_from
from_most tones r i zero = omega arith
from_most tones r i (suc n) = omega (arith, from_most tones r (i + 1) n, tone_figure-most r (tone_at tones r i))

-- which are those of the rows that it owns
owned_from : (tones : List ℕ) (r : Block) (k : ℕ) (ts : List Tone)
    → ((i : ℕ) (d : Tone) → i < length ts → tone_at tones r (k + i) ≡ get_or ts i d)
    → figure_from tones r k (length ts) ≡ tones_figure r ts
unfolding figure_from tones_figure
owned_from tones r k [] h = refl
owned_from tones r k (t ∷ ts) h =
    let z : k + 0 ≡ k = omega arith in
    ap₂ (λ (x y : ℕ). x + y) (ap (tone_figure r) (rw z at (h 0 t (omega arith))))
    (owned_from tones r (k + 1) ts (λ i d l. let e : k + 1 + i ≡ k + suc i = omega arith in rw e (h (suc i) d (omega arith))))

pub owned : (tones : List ℕ) (r : Block) (ts : List Tone) → Owns tones r ts → figure_from tones r 0 r.tones ≡ tones_figure r ts
owned tones r ts o =
    ap (figure_from tones r 0) (sym o.count)
    ∙ owned_from tones r 0 ts (λ i d h. let z : 0 + i ≡ i = omega arith in rw z (o.each i d (omega (arith, o.count))))

-- and, all of them well formed, the list's
listed_from : (tones : List ℕ) (b : ℕ) (r : Block) (i n : ℕ)
    → ((j : ℕ) → i ≤ j → j < i + n → well_tone (tone_at tones r j) ≡ true)
    → figure_from tones r i n ≡ time (run (row_entries tones b r) i n)
unfolding figure_from run time
listed_from tones b r i zero w = refl
listed_from tones b r i (suc n) w =
    ap₂ (λ (x y : ℕ). x + y)
    (tone_figure_lem r (tone_at tones r i) (w i (omega arith) (omega arith)) ∙ sym (tone-time b i r (tone_at tones r i) (cycle_level tones r i)))
    (listed_from tones b r (i + 1) n (λ j l h. w j (omega arith) (omega arith)))
    ∙ sym (time_append (row_entries tones b r i) (run (row_entries tones b r) (i + 1) n) (row_finite tones b r i))

-- DATA
pub data_in_lem : (s : List ℕ) (r : Block) → inside r.start r.size (tape_size s) ≡ true → well_numbers r ≡ true
    → data_figure s r ≡ bits_figure s r
unfolding data_figure
data_in_lem s r e f = rw (e, f)

pub data_outside : (s : List ℕ) (r : Block) → inside r.start r.size (tape_size s) ≡ false → data_figure s r ≡ 0
unfolding data_figure
data_outside s r e = rw e

pub data_ill : (s : List ℕ) (r : Block) → inside r.start r.size (tape_size s) ≡ true → well_numbers r ≡ false → data_figure s r ≡ 0
unfolding data_figure
data_ill s r e f = rw (e, f)

pub data_empty : (s : List ℕ) (r : Block) → r.size ≡ 0 → data_figure s r ≡ 0
unfolding data_figure bits_figure
data_empty s r e = rw (eq-eqb r.size 0 e) (by_cases (inside r.start r.size (tape_size s) && well_numbers r))
  where
    by_cases : (b : Bool) → ◌≡◌ {A = ℕ} (b ⇒ 0 ∣ 0) 0
    by_cases true = refl
    by_cases false = refl

module _ (s : List ℕ) (small : (i : ℕ) → get_or s i 0 < 256) (b : ℕ) (r : Block) (c : Level) (w : well_numbers r ≡ true) where
  -- the last byte, of which so many bits are played
  last_byte : 0 < r.size → time (byte_entries s b r c (r.size - 1)) ≡ bits_time r (played_ones s r) (played_bits r)
  unfolding byte_of bits_at
  last_byte h =
      let n = r.size - 1 in
      let m : r.last ≤ 8 = (numbers-most r w).last h in
      let e : n + 1 ≡ r.size = omega arith in
      rw (eq-eqb (n + 1) r.size e) (bits_time_lem b r c n (byte_at s r n) (small (r.start + n)) (played_bits r) (omega arith))

  some_data : 0 < r.size → bits_figure s r ≡ time (data_of s b r c)
  unfolding bits_figure
  some_data h =
      let n = r.size - 1 in
      let m : r.last ≤ 8 = (numbers-most r w).last h in
      rw (ne_eqb r.size 0 (λ z. omega arith))
      (sym (bits_add r (ones_from s r.start n) (8 * n) (played_ones s r) (played_bits r) (ones_most s small r.start n)
      (few_ones (byte_at s r n) (played_bits r) (small (r.start + n)) (omega arith)))
      ∙ sym (data_counted s small b r c n (omega arith)
      ∙ ap (λ (x : ℕ). bits_time r (ones_from s r.start n) (8 * n) + x) (last_byte h)))

  no_data : r.size ≡ 0 → bits_figure s r ≡ time (data_of s b r c)
  unfolding bits_figure
  no_data e = rw (eq-eqb r.size 0 e) (sym (data_none s small b r c e))

  pub bits_listed : bits_figure s r ≡ time (data_of s b r c)
  bits_listed = ⊎_elim no_data some_data (eq-zero-or-pos r.size)

-- any row's is small
pub data_figure-most : (s : List ℕ) → ((i : ℕ) → get_or s i 0 < 256) → (r : Block) → data_figure s r ≤ 1099494850560
unfolding data_figure data_of
data_figure-most s small r = by_cases (inside r.start r.size (tape_size s)) (well_numbers r) refl refl
  where
    by_cases : (i n : Bool) → inside r.start r.size (tape_size s) ≡ i → well_numbers r ≡ n
        → ((i && n) ⇒ bits_figure s r ∣ 0) ≤ 1099494850560
    by_cases true true e f =
        let k : r.start + r.size ≤ tape_size s = leb-true _ _ e in
        omega (arith, bits_listed s small 0 r false f, bytes-most-time s 0 r false r.size f (omega arith))
    by_cases true false e f = omega arith
    by_cases false n e f = omega arith

-- A ROW'S OWN TONES AND ITS DATA are at most as much as the largest tone table and the longest tape
pub sound_in-most : (s : List ℕ) → ((i : ℕ) → get_or s i 0 < 256) → (ts : List Tone) (r : Block) → length ts ≤ 65536
    → sound_in s ts r ≤ 564032268533760
unfolding sound_in
sound_in-most s small ts r h = omega (arith, tones_figure-most r ts, data_figure-most s small r)

-- no tone row and no data, one tone row, and two
pub sound_none : (s : List ℕ) (r : Block) → r.size ≡ 0 → sound_in s [] r ≡ 0
unfolding sound_in tones_figure
sound_none s r e = omega (arith, data_empty s r e)

pub sound_one : (s : List ℕ) (a : Tone) (r : Block) → sound_in s (a ∷ []) r ≡ tone_figure r a + data_figure s r
unfolding sound_in tones_figure
sound_one s a r = omega arith

pub sound_two : (s : List ℕ) (a b : Tone) (r : Block) → sound_in s (a ∷ b ∷ []) r ≡ tone_figure r a + tone_figure r b + data_figure s r
unfolding sound_in tones_figure
sound_two s a b r = omega arith

-- THE LIST'S: a well-formed row sounds as long as its entries without the pause
pub sound_in_list : (s tones : List ℕ) → ((i : ℕ) → get_or s i 0 < 256) → (b : ℕ) (ts : List Tone) (r : Block)
    → well_block (tape_size s) tones r ≡ true → Owns tones r ts
    → sound_in s ts r ≡ time (sound_of s tones b r)
unfolding sound_in tones_of
sound_in_list s tones small b ts r w o =
    let c = block_clauses (tape_size s) tones r w in
    let i = ranges_inside (tape_size s) tones r c.ranges in
    ap₂ (λ (x y : ℕ). x + y)
    (sym (owned tones r ts o)
    ∙ listed_from tones b r 0 r.tones (λ j l h. tones-each tones r.tone r.tones j c.rows (omega arith)))
    (data_in_lem s r (le-leb _ _ i.bytes) c.numbers ∙ bits_listed s small b r (bit_level tones r) c.numbers)
    ∙ sym (sound_time s tones b r)

-- WHAT CHANGES LATER OF A ROW IS UNHEARD: its name, its mark, its sound itself; and a pause of 0 that becomes 3,500
tone-same : (q r : Block) (t : Tone) → q.sort ≡ r.sort → tone_figure q t ≡ tone_figure r t
unfolding tone_figure cycles_of is_single
tone-same q r t e = rw e

tones-same : (q r : Block) (ts : List Tone) → q.sort ≡ r.sort → tones_figure q ts ≡ tones_figure r ts
unfolding tones_figure
tones-same q r [] e = refl
tones-same q r (t ∷ ts) e = ap₂ (λ (x y : ℕ). x + y) (tone-same q r t e) (tones-same q r ts e)

pub sound_changed : (s : List ℕ) (ts : List Tone) (sound mark case text chars : ℕ) (r : Block)
    → sound_in s ts (changed sound r.pause mark case text chars r) ≡ sound_in s ts r
unfolding sound_in data_figure bits_figure well_numbers
sound_changed s ts sound mark case text chars r =
    ap (λ (n : ℕ). n + data_figure s r) (tones-same (changed sound r.pause mark case text chars r) r ts refl)

pub sound_paused : (s : List ℕ) (ts : List Tone) (n : ℕ) (r : Block) → r.pause ≡ 0 → n ≤ 229372500
    → sound_in s ts (with_pause n r) ≡ sound_in s ts r
unfolding sound_in data_figure bits_figure well_numbers
sound_paused s ts n r e h =
    rw (le-leb n 229372500 h, e) (ap (λ (x : ℕ). x + data_figure s (with_pause 0 r)) (tones-same (with_pause n r) (with_pause 0 r) ts refl))
