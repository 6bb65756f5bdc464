-- 19's waves: a pilot's entries, a symbol of two pulses, and rows one after the other. Assumes nothing.
use Prim.Native.Nat.{ℕ, zero, suc, ◌+◌, ◌*◌, ◌/◌, ◌%◌, ◌≤◌, ◌<◌, max}
use native.Mathlib.Omega.{arith}
use mathlib.Core.Path.{◌≡◌, refl, sym, ap, ap₂, ◌∙◌}
use mathlib.Core.Bool.{Bool, true, false, not}
use mathlib.Core.List.{List, [], ◌∷◌, ◌++◌}
use lib.Dec.{ltb, eqb}
use borrow.Author.Tests.{ltb-true, eqb-true, eqb-false, ne_eqb}
use Rattle.std.specs.Prelude.{Option, Some}
use Rattle.law_base.specs.Rules.{◌⇒◌, ◌∣◌}
use Rattle.law_base.proofs.Tests.{first, second}
use Rattle.cut_fields.specs.Field.{le_at}
use Rattle.rows.specs.declared.Tone.{Tone}
use Rattle.load_general.specs.General.{symbol_at, plain_tone, Part, tones, before, rows_from, cycles}
use Rattle.law_tzx.specs.Format.{PulseLength, each, again, wave_from, symbol_pulse, wave_of, every, lasting}
use Rattle.law_tzx.specs.Kept.{even_count, first_pulse, second_pulse, whole_wave, kept_times}
use Rattle.law_tzx.proofs.Lengths.{long, long_append, wave_in, waves_of}
use Rattle.law_tzx.proofs.Waves.{each_none, even_of, pilot_same, zeros-none}

-- a test of every item
pub every_at : (f : ℕ → Bool) (p n i : ℕ) → every f p n ≡ true → p ≤ i → i < p + n → f i ≡ true
unfolding every
every_at f p zero i e l k = absurd (omega arith)
every_at f p (suc n) i e l k = by_cases (eqb i p) refl (every_at f (p + 1) n i (second (f p) (every f (p + 1) n) e))
  where
    by_cases : (b : Bool) → eqb i p ≡ b → (p + 1 ≤ i → i < p + 1 + n → f i ≡ true) → f i ≡ true
    by_cases true q later = ap f (eqb-true i p q) ∙ first (f p) (every f (p + 1) n) e
    by_cases false q later = let h = eqb-false i p q in later (omega arith) (omega arith)

pub every_of : (f : ℕ → Bool) (p n : ℕ) → ((i : ℕ) → p ≤ i → i < p + n → f i ≡ true) → every f p n ≡ true
unfolding every
every_of f p zero h = refl
every_of f p (suc n) h = rw (h p (omega arith) (omega arith)) (every_of f (p + 1) n (λ i l k. h i (omega arith) (omega arith)))

-- a row that gives a tone of this wave
pub record Waves (row : Option Tone) (w : List ℕ) : Type 0 where
  pub tone : Tone
  pub given : row ≡ Some tone
  pub heard : long (wave_in tone) ≡ long w

-- a part that is tones of this wave
pub record Parts (part : Part) (w : List ℕ) : Type 0 where
  pub rows : List Tone
  pub given : part ≡ tones rows
  pub heard : long (waves_of rows) ≡ long w

-- ROWS ONE AFTER THE OTHER
pub rows_wave : (row : ℕ → Option Tone) (f : ℕ → List ℕ) (p n : ℕ) → ((i : ℕ) → p ≤ i → i < p + n → Waves (row i) (f i))
    → Parts (rows_from row p n) (each f p n)
unfolding rows_from before each waves_of
rows_wave row f p zero h = record { rows = []; given = refl; heard = refl }
rows_wave row f p (suc n) h =
    let x = h p (omega arith) (omega arith) in
    let y = rows_wave row f (p + 1) n (λ i l k. h i (omega arith) (omega arith)) in
    record {
      rows = x.tone ∷ y.rows;
      given = ap₂ before x.given y.given;
      heard = long_append (wave_in x.tone) (waves_of y.rows) ∙ ap₂ (λ (a b : List PulseLength). a ++ b) x.heard y.heard
          ∙ sym (long_append (f p) (each f (p + 1) n));
    }

-- the wave of a symbol of up to two pulses
abbrev pub two : ℕ → ℕ → List ℕ
two a b = eqb a 0 ⇒ [] ∣ a ∷ (eqb b 0 ⇒ [] ∣ b ∷ [])

-- the source reading's symbol is the format's
pub first-same : (s : List ℕ) (place n i : ℕ) → (symbol_at s place n i).first ≡ first_pulse s place n i
unfolding symbol_at first_pulse symbol_pulse
first-same s place n i =
    let e : place + i * (1 + n * 2) + 1 ≡ place + i * (1 + n * 2) + 1 + 0 = omega arith in
    ap (λ (k : ℕ). le_at s k 2) e

pub second_same : (s : List ℕ) (place n i : ℕ) → (symbol_at s place n i).second ≡ second_pulse s place n i
unfolding symbol_at second_pulse symbol_pulse
second_same s place n i = refl

pub wave_one : (s : List ℕ) (place i : ℕ) → wave_of s place 1 i ≡ two (first_pulse s place 1 i) (second_pulse s place 1 i)
unfolding wave_of wave_from first_pulse second_pulse
wave_one s place i = refl

pub wave_two : (s : List ℕ) (place i : ℕ) → wave_of s place 2 i ≡ two (first_pulse s place 2 i) (second_pulse s place 2 i)
unfolding wave_of wave_from first_pulse second_pulse
wave_two s place i = refl

-- two pulses, the second not behind a first of 0
pub two_same : (a b : ℕ) → whole_wave a b ≡ true → long (a ∷ b ∷ []) ≡ long (two a b)
unfolding whole_wave lasting
two_same zero zero e = refl
two_same zero (suc b) e = let z : suc b ≡ 0 = eqb-true (suc b) 0 e in absurd (omega arith)
two_same (suc a) zero e = rw (ne_eqb (suc a) 0 (omega arith))
two_same (suc a) (suc b) e = rw (ne_eqb (suc a) 0 (omega arith), ne_eqb (suc b) 0 (omega arith))

pub not_so : (b : Bool) → not b ≡ true → b ≡ false
not_so true e = sym e
not_so false e = refl

-- a wave of no pulse
again-silent : (n : ℕ) → long (again n []) ≡ []
unfolding lasting
again-silent n = each_none (λ i. []) 0 n (λ i. refl)

-- an entry of these pulses, n times
pub times_wave : (a b n : ℕ) → kept_times a b n ≡ true → Waves (cycles (record { first = a; second = b }) n) (again n (two a b))
unfolding kept_times cycles
times_wave zero zero n e =
    let q = not_so (eqb n 65535) e in
    record { tone = plain_tone ((n + 1) / 2) 0 0; given = rw q; heard = zeros-none (max 1 ((n + 1) / 2)) ∙ sym (again-silent n) }
times_wave zero (suc b) n e =
    let z : suc b ≡ 0 = eqb-true (suc b) 0 (first (eqb (suc b) 0) (not (eqb n 65535)) e) in
    absurd (omega arith)
times_wave (suc a) zero n e =
    let z : eqb (suc a) 0 ≡ false = ne_eqb (suc a) 0 (omega arith) in
    let c : even_count n ≡ true = rw z at e in
    let h = even_of n c in
    let q : eqb n 65535 ≡ false =
    ne_eqb n 65535 (λ k. let z : 65535 % 2 ≡ 0 = ap (λ (x : ℕ). x % 2) (sym k) ∙ h.even in absurd (omega arith)) in
    record { tone = plain_tone ((n + 1) / 2) (suc a) (suc a); given = rw q; heard = pilot_same (suc a) n (rw (z, c)) ∙ rw z }
times_wave (suc a) (suc b) n e =
    let z : eqb (suc a) 0 ≡ false = ne_eqb (suc a) 0 (omega arith) in
    let y : eqb (suc b) 0 ≡ false = ne_eqb (suc b) 0 (omega arith) in
    let c : ltb 0 n ≡ true = rw (z, y) at e in
    let h : 0 < n = ltb-true 0 n c in
    let m : max 1 n ≡ n = omega arith in
    record { tone = plain_tone n (suc a) (suc b); given = rw y; heard = rw (z, y, m) }
