-- WHAT A PASS GATHERS DECIDES: the rows are well formed exactly where the bits gathered are within their limits. Assumes nothing.
use Rattle.std.proofs.Common.{◌≡◌, ℕ, zero, suc, ◌+◌, ◌-◌, ◌%◌, ◌^◌, ◌<◌, ◌≤◌, Bool, true, false, ◌&&◌, leb, List, sym, refl, ap, ◌∙◌, ap₂, add-zero, add_assoc, add-suc, arith, le-leb, leb-true}
use mathlib.Core.Bool.{and-true, and_assoc}
use lib.Bits.{bit_or, and_le_l, and_le_r, or_lt, or_add_and}
use Rattle.law_base.proofs.Tests.{first, second}
use Rattle.rows.specs.Table.{get}
use Rattle.rows.specs.Rows.{tone}
use Rattle.rows.specs.Well.{well_tone, well_tones}
use Rattle.rows.specs.declared.Tone.{Tone}
use Rattle.rows.proofs.WellLaws.{tone-most}
use Rattle.rows_well.specs.declared.Seen.{Seen}
use Rattle.rows_well.specs.Seen.{unseen, seeing_row, seen_from, seen_of, well_seen, steady_seen}

-- bits joined stay below a power of two exactly where both do
pub or_within : (k a b : ℕ) → bit_or a b < 2 ^ k → (a < 2 ^ k) × (b < 2 ^ k)
or_within k a b h =
    let e = or_add_and a b in
    let l = and_le_l a b in
    let r = and_le_r a b in
    (omega arith, omega arith)

-- two tests that hold together are one
same_test : (a b : Bool) → (a ≡ true → b ≡ true) → (b ≡ true → a ≡ true) → a ≡ b
same_test true b f g = sym (f refl)
same_test false true f g = g refl
same_test false false f g = refl

-- a row's limits as its test
most-tone : (t : Tone) → t.num ≤ 65535 → t.len1 ≤ 65535 → t.len2 ≤ 65535 → t.wave ≤ 11 → well_tone t ≡ true
unfolding well_tone
most-tone t a b c d = rw (le-leb t.num 65535 a, le-leb t.len1 65535 b, le-leb t.len2 65535 c, le-leb t.wave 11 d)

-- a row's own limits, as numbers
record Within (t : Tone) (s : Seen) : Type 0 where
  pub words : s.words ≤ 65535
  pub num : t.num ≤ 65535
  pub len1 : t.len1 ≤ 65535
  pub len2 : t.len2 ≤ 65535
  pub wave : t.wave ≤ 65535

words_within : (t : Tone) (s : Seen) → (seeing_row t s).words ≤ 65535 → Within t s
words_within t s h =
    let x = bit_or s.words t.num in
    let y = bit_or x t.len1 in
    let z = bit_or y t.len2 in
    let d = or_within 16 z t.wave (omega arith) in
    let c = or_within 16 y t.len2 d.0 in
    let b = or_within 16 x t.len1 c.0 in
    let a = or_within 16 s.words t.num b.0 in
    record { words = omega arith; num = omega arith; len1 = omega arith; len2 = omega arith; wave = omega arith }

words_joined : (t : Tone) (s : Seen) → Within t s → (seeing_row t s).words ≤ 65535
words_joined t s w =
    let x = bit_or s.words t.num in
    let y = bit_or x t.len1 in
    let z = bit_or y t.len2 in
    let a = or_lt 16 s.words t.num (omega arith) (omega arith) in
    let b = or_lt 16 x t.len1 a (omega arith) in
    let c = or_lt 16 y t.len2 b (omega arith) in
    let d = or_lt 16 z t.wave c (omega arith) in
    omega arith

-- a test of the words and of another gathering, as numbers and back
record Limits (s : Seen) (m n : ℕ) : Type 0 where
  pub words : s.words ≤ 65535
  pub other : m ≤ n

limits_of : (s : Seen) (m n : ℕ) → (leb s.words 65535 && leb m n) ≡ true → Limits s m n
limits_of s m n e =
    let w = leb s.words 65535 in
    record { words = leb-true _ _ (first w (leb m n) e); other = leb-true _ _ (second w (leb m n) e) }

limits_hold : (s : Seen) (m n : ℕ) → s.words ≤ 65535 → m ≤ n → (leb s.words 65535 && leb m n) ≡ true
limits_hold s m n a b = rw (le-leb s.words 65535 a, le-leb m n b)

-- one row more
well_more : (t : Tone) (s : Seen) → well_seen (seeing_row t s) ≡ (well_seen s && well_tone t)
well_more t s = same_test _ _ on back
  where
    on : well_seen (seeing_row t s) ≡ true → (well_seen s && well_tone t) ≡ true
    on e =
        let l = limits_of (seeing_row t s) (seeing_row t s).tops 15 e in
        let w = words_within t s l.words in
        let p = or_within 4 s.tops ((t.wave + 4) % 2 ^ 64) (omega (arith, l.other)) in
        rw (limits_hold s s.tops 15 w.words (omega arith)) (most-tone t w.num w.len1 w.len2 (omega arith))

    back : (well_seen s && well_tone t) ≡ true → well_seen (seeing_row t s) ≡ true
    back e =
        let l = limits_of s s.tops 15 (first (well_seen s) (well_tone t) e) in
        let h = tone-most t (second (well_seen s) (well_tone t) e) in
        let w : Within t s = record { words = l.words; num = h.num; len1 = h.len1; len2 = h.len2; wave = omega arith } in
        let p = or_lt 4 s.tops ((t.wave + 4) % 2 ^ 64) (omega arith) (omega arith) in
        limits_hold (seeing_row t s) (seeing_row t s).tops 15 (words_joined t s w) (omega arith)

pub steady_more : (t : Tone) (s : Seen) → steady_seen (seeing_row t s) ≡ true → (steady_seen s ≡ true) × (t.wave ≤ 2)
steady_more t s e =
    let l = limits_of (seeing_row t s) (seeing_row t s).lows 3 e in
    let w = words_within t s l.words in
    let p = or_within 2 s.lows ((t.wave + 1) % 2 ^ 64) (omega (arith, l.other)) in
    (limits_hold s s.lows 3 w.words (omega arith), omega arith)

module _ (tones : List ℕ) where
  -- the rows by their last one
  wells_last : (from n : ℕ) → well_tones tones from (suc n) ≡ (well_tones tones from n && well_tone (get tone tones (from + n)))
  unfolding well_tones
  wells_last from zero = rw add-zero (and-true (well_tone (get tone tones from)))
  wells_last from (suc n) =
      let k : from + 1 + n ≡ from + suc n = omega arith in
      ap (λ (b : Bool). well_tone (get tone tones from) && b)
      (wells_last (from + 1) n ∙ ap (λ (i : ℕ). well_tones tones (from + 1) n && well_tone (get tone tones i)) k)
      ∙ sym (and_assoc (well_tone (get tone tones from)) (well_tones tones (from + 1) n) (well_tone (get tone tones (from + suc n))))

  wells_more : (s : Seen) (from n : ℕ) → well_seen (seen_from tones s from n) ≡ (well_seen s && well_tones tones from n)
  unfolding seen_from well_tones
  wells_more s from zero = sym (and-true (well_seen s))
  wells_more s from (suc n) =
      let t = get tone tones (from + n) in
      well_more t (seen_from tones s from n)
      ∙ ap (λ (b : Bool). b && well_tone t) (wells_more s from n)
      ∙ and_assoc (well_seen s) (well_tones tones from n) (well_tone t)
      ∙ ap (λ (b : Bool). well_seen s && b) (sym (wells_last from n))

  -- THE ROWS ARE WELL FORMED exactly where what was seen of them is
  pub seen_wells : (from n : ℕ) → well_seen (seen_of tones from n) ≡ well_tones tones from n
  seen_wells from n = wells_more unseen from n

  -- before the first row
  pub seen_none : (s : Seen) (from : ℕ) → seen_from tones s from (from - from) ≡ s
  unfolding seen_from
  seen_none s from = let z : from - from ≡ 0 = omega arith in rw z

  -- one turn over the rows
  pub seen_turn : (s : Seen) (from i : ℕ) → from ≤ i
      → seen_from tones s from (i + 1 - from) ≡ seeing_row (get tone tones i) (seen_from tones s from (i - from))
  unfolding seen_from
  seen_turn s from i h =
      let k : i + 1 - from ≡ suc (i - from) = omega arith in
      let e : from + (i - from) ≡ i = omega arith in
      rw (k, e)

  -- rows seen one after the other
  pub seen_joins : (s : Seen) (from a b : ℕ) → seen_from tones (seen_from tones s from a) (from + a) b ≡ seen_from tones s from (a + b)
  unfolding seen_from
  seen_joins s from a zero = rw add-zero
  seen_joins s from a (suc b) =
      rw (add-suc a b)
      (ap₂ (λ (i : ℕ) (x : Seen). seeing_row (get tone tones i) x) (add_assoc from a b) (seen_joins s from a b))

  -- on from the first k rows to the first n
  pub seen_on : (s : Seen) (from k n : ℕ) → s ≡ seen_of tones from k → k ≤ n
      → seen_from tones s (from + k) (n - k) ≡ seen_of tones from n
  seen_on s from k n e h =
      let z : k + (n - k) ≡ n = omega arith in
      ap (λ (x : Seen). seen_from tones x (from + k) (n - k)) e ∙ seen_joins unseen from k (n - k) ∙ ap (seen_of tones from) z
