-- 19: what the source reading gives a kept piece is heard as the format says.
-- Assumes nothing but that its tables are where its numbers say.
use Prim.Native.Nat.{ℕ, zero, suc, ◌+◌, ◌*◌, ◌-◌, ◌/◌, ◌%◌, ◌≤◌, ◌<◌, max}
use native.Mathlib.Omega.{arith}
use mathlib.Core.Path.{◌≡◌, refl, sym, ap, ap₂, ◌∙◌}
use mathlib.Core.Bool.{Bool, true, false, ◌&&◌, ◌||◌, not}
use mathlib.Core.List.{List, [], ◌∷◌, ◌++◌, append-nil}
use lib.Dec.{ltb, leb, eqb}
use borrow.Author.Tests.{ltb-true, lt-ltb, lt-leb, eqb-true, eqb-false, eq-eqb, ne_eqb}
use Rattle.std.specs.Prelude.{Option, None, Some}
use Rattle.law_base.specs.Rules.{◌⇒◌, ◌∣◌}
use Rattle.law_base.proofs.Tests.{first, second, other}
use Rattle.cut_grammar.specs.declared.GeneralizedData.{GeneralizedData}
use Rattle.cut_grammar.specs.Grammar.{binary_digits, bits_of}
use Rattle.cut_grammar.specs.Places.{Places}
use Rattle.rows.specs.declared.Tone.{Tone}
use Rattle.load_general.specs.General.{Symbol, symbol_at, plain_tone, refused, stops, tones, rows_from, cycles, entry_symbol, entry_repeat}
use Rattle.load_general.specs.General.{entry_row, pilot_of, equal_halves, ordinary, used_bits, symbol_number, single_row, pair_row, singles_of}
use Rattle.load_general.specs.General.{pairs_of, data_part}
use Rattle.law_tzx.specs.Format.{PulseLength, each, again, bit_pulses, data_pulses, wave_of, pilot_symbol, repetitions, pilot_pulses}
use Rattle.law_tzx.specs.Format.{bit_at, data_number, symbol_pulses, every, lasting}
use Rattle.law_tzx.specs.Kept.{first_pulse, second_pulse, whole_wave, kept_times, kept_entry, kept_pilot, kept_symbol, kept_pairs, kept_data}
use Rattle.law_tzx.proofs.Lengths.{long, long_append, waves_of}
use Rattle.law_tzx.proofs.Waves.{each_split, each_same}
use Rattle.law_tzx.proofs.Symbols.{every_at, every_of, Waves, Parts, rows_wave, two, first-same, second_same, wave_one, wave_two}
use Rattle.law_tzx.proofs.Symbols.{two_same, times_wave}
use Rattle.law_tzx.proofs.Bits.{data_flat, number_bit, single_bit, second_bit, bit_small, each_pairs}

symbol-same : (s : List ℕ) (place n i : ℕ)
    → symbol_at s place n i ≡ record { first = first_pulse s place n i; second = second_pulse s place n i }
symbol-same s place n i = ap₂ (λ (a b : ℕ). record { first = a; second = b }) (first-same s place n i) (second_same s place n i)

-- the wave of a symbol of one or two pulses
wave_either : (s : List ℕ) (place n i : ℕ) → (eqb n 1 || eqb n 2) ≡ true
    → wave_of s place n i ≡ two (first_pulse s place n i) (second_pulse s place n i)
wave_either s place n i e = by_cases (eqb n 1) refl
  where
    by_cases : (b : Bool) → eqb n 1 ≡ b → wave_of s place n i ≡ two (first_pulse s place n i) (second_pulse s place n i)
    by_cases true q = rw (eqb-true n 1 q) (wave_one s place i)
    by_cases false q = rw (eqb-true n 2 (other (eqb n 1) (eqb n 2) e q)) (wave_two s place i)

none-heard : (f : ℕ → List ℕ) (n : ℕ) → n ≡ 0 → long (waves_of []) ≡ long (each f 0 n)
unfolding each waves_of
none-heard f n e = ap (λ (k : ℕ). long (each f 0 k)) (sym e)

-- a symbol below an alphabet of two gives its pulses
given_two : (s : List ℕ) (place n y : ℕ) → y < 2
    → (leb 2 y ⇒ None ∣ Some (plain_tone 1 (symbol_at s place n y).first (symbol_at s place n y).second))
    ≡ Some (plain_tone 1 (first_pulse s place n y) (second_pulse s place n y))
given_two s place n y l =
    rw (lt-leb 2 y l) (ap₂ (λ (a b : ℕ). Some (plain_tone 1 a b)) (first-same s place n y) (second_same s place n y))

given_pair : (s : List ℕ) (place n y z : ℕ) → y < 2 → z < 2
    → (leb 2 y ⇒ None ∣ leb 2 z ⇒ None ∣ Some (plain_tone 1 (symbol_at s place n y).first (symbol_at s place n z).first))
    ≡ Some (plain_tone 1 (first_pulse s place n y) (first_pulse s place n z))
given_pair s place n y z l m =
    rw (lt-leb 2 y l, lt-leb 2 z m) (ap₂ (λ (a b : ℕ). Some (plain_tone 1 a b)) (first-same s place n y) (first-same s place n z))

-- one pulse alone
one_heard : (s : List ℕ) (place y : ℕ) → long (first_pulse s place 1 y ∷ []) ≡ long (wave_of s place 1 y)
unfolding second_pulse lasting
one_heard s place y = one (first_pulse s place 1 y) ∙ ap long (sym (wave_one s place y))
  where
    one : (a : ℕ) → long (a ∷ []) ≡ long (two a 0)
    one zero = refl
    one (suc a) = rw (ne_eqb (suc a) 0 (omega arith))

pair-heard : (s : List ℕ) (place y z : ℕ)
    → long (first_pulse s place 1 y ∷ first_pulse s place 1 z ∷ []) ≡ long (wave_of s place 1 y ++ wave_of s place 1 z)
pair-heard s place y z =
    long_append (first_pulse s place 1 y ∷ []) (first_pulse s place 1 z ∷ [])
    ∙ ap₂ (λ (a b : List PulseLength). a ++ b) (one_heard s place y) (one_heard s place z)
    ∙ sym (long_append (wave_of s place 1 y) (wave_of s place 1 z))

-- an item of no pulse behind
last_none : (xs : List ℕ) (f : ℕ → List ℕ) (p : ℕ) → f p ≡ [] → xs ++ each f p 1 ≡ xs
unfolding each
last_none xs f p e = ap (λ (r : List ℕ). xs ++ (r ++ [])) e ∙ append-nil xs

-- two equal halves
whole_equal : (a b : ℕ) → a ≡ b → whole_wave a b ≡ true
unfolding whole_wave
whole_equal zero b e = eq-eqb b 0 (sym e)
whole_equal (suc a) b e = rw (lt-ltb 0 (suc a) (omega arith))

halves_heard : (s : List ℕ) (place i : ℕ) → (symbol_at s place 2 i).first ≡ (symbol_at s place 2 i).second
    → long ((symbol_at s place 2 i).first ∷ (symbol_at s place 2 i).first ∷ []) ≡ long (wave_of s place 2 i)
halves_heard s place i e =
    let a = first-same s place 2 i in
    let b = second_same s place 2 i in
    ap₂ (λ (x y : ℕ). long (x ∷ y ∷ [])) a (e ∙ b)
    ∙ two_same (first_pulse s place 2 i) (second_pulse s place 2 i)
    (whole_equal (first_pulse s place 2 i) (second_pulse s place 2 i) (sym a ∙ e ∙ b))
    ∙ ap long (sym (wave_two s place i))

-- a bit's two pulses are its symbol's
bit_heard : (s : List ℕ) (place y : ℕ) → y < 2 → (symbol_at s place 2 0).first ≡ (symbol_at s place 2 0).second
    → (symbol_at s place 2 1).first ≡ (symbol_at s place 2 1).second
    → long (bit_pulses (symbol_at s place 2 0).first (symbol_at s place 2 1).first y) ≡ long (wave_of s place 2 y)
unfolding bit_pulses
bit_heard s place zero l p q = halves_heard s place 0 p
bit_heard s place (suc zero) l p q = halves_heard s place 1 q
bit_heard s place (suc (suc y)) l p q = absurd (omega arith)

module _ (s : List ℕ) (g : GeneralizedData) where
  -- a pilot entry
  entry_wave : (i : ℕ) → (eqb g.npp 1 || eqb g.npp 2) ≡ true → kept_entry s g i ≡ true
      → Waves (entry_row s g i) (pilot_pulses s g i)
  unfolding entry_row entry_symbol entry_repeat pilot_pulses pilot_symbol repetitions kept_entry
  entry_wave i n e =
      let y = pilot_symbol s g i in
      let a = first_pulse s g.pilot g.npp y in
      let b = second_pulse s g.pilot g.npp y in
      let l : y < g.asp = ltb-true y g.asp (first (ltb y g.asp) (kept_times a b (repetitions s g i)) e) in
      let w = times_wave a b (repetitions s g i) (second (ltb y g.asp) (kept_times a b (repetitions s g i)) e) in
      record {
        tone = w.tone;
        given = rw (lt-leb g.asp y l)
            (ap (λ (x : Symbol). cycles x (repetitions s g i)) (symbol-same s g.pilot g.npp y) ∙ w.given);
        heard = w.heard ∙ ap (λ (x : List ℕ). long (again (repetitions s g i) x)) (sym (wave_either s g.pilot g.npp y n));
      }

  -- what a kept pilot part says
  record Pilot : Type 0 where
    pulses : (eqb g.npp 1 || eqb g.npp 2) ≡ true
    entries : every (kept_entry s g) 0 g.totp ≡ true

  pilot_clauses : kept_pilot s g ≡ true → eqb g.totp 0 ≡ false → Pilot
  unfolding kept_pilot
  pilot_clauses e q =
      let size = not (eqb g.asp0 0) in
      let n = eqb g.npp 1 || eqb g.npp 2 in
      let all = every (kept_entry s g) 0 g.totp in
      let c = second size (n && all) (other (eqb g.totp 0) (size && (n && all)) e q) in
      record { pulses = first n all c; entries = second n all c }

  -- THE PILOT PART
  pub pilot_part : kept_pilot s g ≡ true → Parts (pilot_of s g) (each (pilot_pulses s g) 0 g.totp)
  unfolding pilot_of
  pilot_part e = by_cases (eqb g.totp 0) refl
    where
      by_cases : (b : Bool) → eqb g.totp 0 ≡ b
          → Parts (b ⇒ tones [] ∣ (eqb g.npp 1 || eqb g.npp 2) ⇒ rows_from (entry_row s g) 0 g.totp
          ∣ leb g.asp (entry_symbol s g 0) ⇒ refused ∣ stops) (each (pilot_pulses s g) 0 g.totp)
      by_cases true q = record { rows = []; given = refl; heard = none-heard (pilot_pulses s g) g.totp (eqb-true g.totp 0 q) }
      by_cases false q =
          let p = pilot_clauses e q in
          rw p.pulses (rows_wave (entry_row s g) (pilot_pulses s g) 0 g.totp
          (λ i l k. entry_wave i p.pulses (every_at (kept_entry s g) 0 g.totp i p.entries l k)))

  pub pilot_said : kept_pilot s g ≡ true → every (λ i. ltb (pilot_symbol s g i) g.asp) 0 g.totp ≡ true
  unfolding kept_entry
  pilot_said e = every_of (λ i. ltb (pilot_symbol s g i) g.asp) 0 g.totp (λ i l k. by_cases i l k (eqb g.totp 0) refl)
    where
      by_cases : (i : ℕ) → 0 ≤ i → i < 0 + g.totp → (b : Bool) → eqb g.totp 0 ≡ b
          → ltb (pilot_symbol s g i) g.asp ≡ true
      by_cases i l k true q = let z : g.totp ≡ 0 = eqb-true g.totp 0 q in absurd (omega arith)
      by_cases i l k false q =
          first (ltb (pilot_symbol s g i) g.asp) _ (every_at (kept_entry s g) 0 g.totp i (pilot_clauses e q).entries l k)

  -- what a kept data part says
  pub record DataClauses : Type 0 where
    pub some : 0 < g.totd
    pub asd : g.asd ≡ 2
    pub bits : g.nb ≡ 1
    pub size : g.size ≡ (g.totd + 7) / 8
    pub rest : (eqb g.npd 2 ⇒ every (kept_symbol s g) 0 g.totd ∣ (eqb g.npd 1 && kept_pairs s g)) ≡ true

  pub data_clauses : Places s g → kept_data s g ≡ true → DataClauses
  unfolding kept_data binary_digits
  data_clauses p e =
      let last = eqb g.npd 2 ⇒ every (kept_symbol s g) 0 g.totd ∣ (eqb g.npd 1 && kept_pairs s g) in
      let t = eqb g.asd 2 in
      let c = second (ltb 0 g.totd) (t && last) e in
      let two : g.asd ≡ 2 = eqb-true g.asd 2 (first t last c) in
      let one : g.nb ≡ 1 = p.bits ∙ ap (λ (n : ℕ). bits_of (n - 1)) two in
      let m : (g.nb * g.totd + 7) / 8 ≡ (g.totd + 7) / 8 = ap (λ (n : ℕ). (n * g.totd + 7) / 8) one ∙ omega arith in
      record {
        some = ltb-true 0 g.totd (first (ltb 0 g.totd) (t && last) e);
        asd = two;
        bits = one;
        size = p.size ∙ m;
        rest = second t last c;
      }

  module _ (d : DataClauses) where
    number_small : (i : ℕ) → data_number s g i < 2
    number_small i = rw (number_bit s g d.bits i) (bit_small s g.from i)

    pub data_said : every (λ i. ltb (data_number s g i) g.asd) 0 g.totd ≡ true
    data_said = every_of (λ i. ltb (data_number s g i) g.asd) 0 g.totd
        (λ i l k. lt-ltb (data_number s g i) g.asd (omega (arith, number_small i, d.asd)))

    -- two pulses: symbol i
    single_wave : (i : ℕ) → g.npd ≡ 2 → kept_symbol s g i ≡ true → Waves (single_row s g i) (symbol_pulses s g i)
    unfolding single_row symbol_pulses kept_symbol each
    single_wave i n e =
        let y = data_number s g i in
        let row : ℕ → ℕ → ℕ → Option Tone = λ asd npd b. leb asd b ⇒ None
        ∣ Some (plain_tone 1 (symbol_at s g.symbols npd b).first (symbol_at s g.symbols npd b).second) in
        let a = first_pulse s g.symbols 2 y in
        let b = second_pulse s g.symbols 2 y in
        let same : symbol_number s g (i * g.nb) 0 ≡ y = single_bit s g d.bits i ∙ sym (number_bit s g d.bits i) in
        record {
          tone = plain_tone 1 a b;
          given = ap (row g.asd g.npd) same ∙ ap₂ (λ (u v : ℕ). row u v y) d.asd n
              ∙ given_two s g.symbols 2 y (number_small i);
          heard = two_same a b e ∙ ap long (sym (wave_two s g.symbols y))
              ∙ ap (λ (k : ℕ). long (wave_of s g.symbols k y)) (sym n);
        }

    -- one pulse: symbols 2 i and 2 i + 1
    pair_wave : (i : ℕ) → g.npd ≡ 1 → Waves (pair_row s g i) (symbol_pulses s g (2 * i) ++ symbol_pulses s g (2 * i + 1))
    unfolding pair_row symbol_pulses each
    pair_wave i n =
        let y = data_number s g (2 * i) in
        let z = data_number s g (2 * i + 1) in
        let row : ℕ → ℕ → ℕ → ℕ → Option Tone = λ asd npd b c. leb asd b ⇒ None ∣ leb asd c ⇒ None
        ∣ Some (plain_tone 1 (symbol_at s g.symbols npd b).first (symbol_at s g.symbols npd c).first) in
        let p : symbol_number s g (2 * i * g.nb) 0 ≡ y = single_bit s g d.bits (2 * i) ∙ sym (number_bit s g d.bits (2 * i)) in
        let q : symbol_number s g (2 * i * g.nb) 1 ≡ z = second_bit s g d.bits i ∙ sym (number_bit s g d.bits (2 * i + 1)) in
        record {
          tone = plain_tone 1 (first_pulse s g.symbols 1 y) (first_pulse s g.symbols 1 z);
          given = ap₂ (row g.asd g.npd) p q ∙ ap₂ (λ (u v : ℕ). row u v y z) d.asd n
              ∙ given_pair s g.symbols 1 y z (number_small (2 * i)) (number_small (2 * i + 1));
          heard = pair-heard s g.symbols y z
              ∙ ap (λ (k : ℕ). long (wave_of s g.symbols k y ++ wave_of s g.symbols k z)) (sym n);
        }

    -- an odd last symbol of a pulse of 0 is not heard
    pairs_heard : g.npd ≡ 1 → kept_pairs s g ≡ true
        → long (each (symbol_pulses s g) 0 (g.totd / 2 * 2)) ≡ long (each (symbol_pulses s g) 0 g.totd)
    unfolding kept_pairs symbol_pulses
    pairs_heard n e = by_cases (eqb (g.totd % 2) 0) refl
      where
        f : ℕ → List ℕ
        f = symbol_pulses s g

        by_cases : (b : Bool) → eqb (g.totd % 2) 0 ≡ b → long (each f 0 (g.totd / 2 * 2)) ≡ long (each f 0 g.totd)
        by_cases true q =
            let h : g.totd % 2 ≡ 0 = eqb-true (g.totd % 2) 0 q in
            let k : g.totd / 2 * 2 ≡ g.totd = omega arith in
            ap (λ (m : ℕ). long (each f 0 m)) k
        by_cases false q =
            let h = eqb-false (g.totd % 2) 0 q in
            let y = data_number s g (g.totd - 1) in
            let z : first_pulse s g.symbols 1 y ≡ 0 =
            eqb-true (first_pulse s g.symbols 1 y) 0 (other (eqb (g.totd % 2) 0) (eqb (first_pulse s g.symbols 1 y) 0) e q) in
            let k : g.totd ≡ g.totd / 2 * 2 + 1 = omega arith in
            let l : g.totd - 1 ≡ 0 + g.totd / 2 * 2 = omega arith in
            let w : f (0 + g.totd / 2 * 2) ≡ [] =
            ap f (sym l) ∙ ap (λ (m : ℕ). wave_of s g.symbols m y) n ∙ wave_one s g.symbols y
            ∙ ap (λ (a : ℕ). two a (second_pulse s g.symbols 1 y)) z in
            sym (ap (λ (m : ℕ). long (each f 0 m)) k
            ∙ ap long (each_split f 0 (g.totd / 2 * 2) 1 ∙ last_none (each f 0 (g.totd / 2 * 2)) f (0 + g.totd / 2 * 2) w))

    -- THE DATA PART as tones
    pub data_part_lem : Parts (data_part s g) (each (symbol_pulses s g) 0 g.totd)
    unfolding data_part singles_of pairs_of
    data_part_lem =
        rw (
          ne_eqb g.totd 0 (omega (arith, d.some)),
          lt-leb 8 g.nb (omega (arith, d.bits)),
          ne_eqb g.nb 0 (omega (arith, d.bits)),
        )
        (by_cases (eqb g.npd 2) refl d.rest)
      where
        pairs : (eqb g.npd 1 && kept_pairs s g) ≡ true
            → Parts (eqb g.npd 1 ⇒ rows_from (pair_row s g) 0 (g.totd / 2) ∣ stops) (each (symbol_pulses s g) 0 g.totd)
        pairs e =
            let c = first (eqb g.npd 1) (kept_pairs s g) e in
            let n : g.npd ≡ 1 = eqb-true g.npd 1 c in
            let p = rows_wave (pair_row s g) (λ i. symbol_pulses s g (2 * i) ++ symbol_pulses s g (2 * i + 1)) 0 (g.totd / 2)
            (λ i l k. pair_wave i n) in
            rw c (record {
              rows = p.rows;
              given = p.given;
              heard = p.heard ∙ ap long (each_pairs (symbol_pulses s g) 0 (g.totd / 2))
                  ∙ pairs_heard n (second (eqb g.npd 1) (kept_pairs s g) e);
            })

        by_cases : (b : Bool) → eqb g.npd 2 ≡ b
            → (b ⇒ every (kept_symbol s g) 0 g.totd ∣ (eqb g.npd 1 && kept_pairs s g)) ≡ true
            → Parts (b ⇒ rows_from (single_row s g) 0 g.totd ∣ eqb g.npd 1 ⇒ rows_from (pair_row s g) 0 (g.totd / 2) ∣ stops)
            (each (symbol_pulses s g) 0 g.totd)
        by_cases true q e = rows_wave (single_row s g) (symbol_pulses s g) 0 g.totd
            (λ i l k. single_wave i (eqb-true g.npd 2 q) (every_at (kept_symbol s g) 0 g.totd i e l k))
        by_cases false q e = pairs e

    -- THE DATA PART as ordinary data
    pub plain-heard : ordinary s g ≡ true
        → long (data_pulses s (symbol_at s g.symbols 2 0).first (symbol_at s g.symbols 2 1).first (max 1 (used_bits g.totd))
        g.from g.size)
        ≡ long (each (symbol_pulses s g) 0 g.totd)
    unfolding ordinary equal_halves symbol_pulses
    plain-heard e =
        let at = g.symbols in
        let y = symbol_at s at 2 0 in
        let z = symbol_at s at 2 1 in
        let c = second (eqb g.asd 2) (eqb g.npd 2 && (equal_halves y && equal_halves z)) e in
        let n : g.npd ≡ 2 = eqb-true g.npd 2 (first (eqb g.npd 2) (equal_halves y && equal_halves z) c) in
        let h = second (eqb g.npd 2) (equal_halves y && equal_halves z) c in
        let p : y.first ≡ y.second = eqb-true y.first y.second (first (equal_halves y) (equal_halves z) h) in
        let q : z.first ≡ z.second = eqb-true z.first z.second (second (equal_halves y) (equal_halves z) h) in
        ap (λ (k : ℕ). long (data_pulses s y.first z.first (max 1 (used_bits g.totd)) g.from k)) d.size
        ∙ ap long (data_flat s y.first z.first g.from g.totd d.some)
        ∙ each_same (λ i. bit_pulses y.first z.first (bit_at s g.from i)) (symbol_pulses s g) 0 g.totd (λ i l k.
        ap (λ (b : ℕ). long (bit_pulses y.first z.first b)) (sym (number_bit s g d.bits i))
        ∙ bit_heard s at (data_number s g i) (number_small i) p q
        ∙ ap (λ (m : ℕ). long (wave_of s at m (data_number s g i))) (sym n))
