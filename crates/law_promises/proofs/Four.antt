-- REFUSAL 4 EXACTLY: it is due at a 19 where, and only where, rules 80 to 82 say so. Assumes nothing.
use Prim.Native.Nat.{ℕ, zero, suc, ◌+◌, ◌*◌, ◌-◌, ◌/◌, ◌%◌, ◌^◌, ◌≤◌, ◌<◌}
use native.Mathlib.Omega.{arith}
use native.Mathlib.Nat.{eq-zero-or-pos, mod-lt, pow-suc}
use borrow.Author.Tests.{eqb-true, eqb-false, eq-eqb, ne_eqb, leb-true, le-leb, ltb-true, lt-ltb}
use mathlib.Core.Path.{◌≡◌, refl, sym, ap, ◌∙◌}
use mathlib.Core.Bool.{Bool, true, false, ◌&&◌, ◌||◌}
use mathlib.Core.Logic.{◌⊎◌, inl, inr, ⊎_elim, ◌↔◌}
use mathlib.Core.List.{List, []}
use lib.ListN.{get_or}
use lib.Dec.{leb, ltb, eqb}
use Rattle.std.specs.Prelude.{Option, None, Some}
use Rattle.law_base.specs.Rules.{◌⇒◌, ◌∣◌}
use Rattle.law_base.proofs.Tests.{first as first_of, second as second_of}
use Rattle.rows.specs.declared.Tone.{Tone}
use Rattle.cut_grammar.specs.declared.GeneralizedData.{GeneralizedData}
use Rattle.cut_grammar.specs.declared.Piece.TheVariants.{Generalized}
use Rattle.cut_grammar.specs.declared.Taken.TheVariants as taken
use Rattle.cut_grammar.specs.Grammar.{binary_digits, bits_of}
use Rattle.cut_grammar.specs.Cut.{cut_at}
use Rattle.cut_grammar.proofs.Places.{cut_places}
use Rattle.load_state.specs.Parser.{Parsed}
use Rattle.load_source.specs.Source.{full}
use Rattle.load_general.specs.General.{Given, Symbol, plain_tone, data_symbol, Part, refused, stops, tones, refused4, plain, before}
use Rattle.load_general.specs.General.{rows_from, cycles, symbol_at, entry_symbol, entry_repeat, entry_row, pilot_of, ordinary, used_bits}
use Rattle.load_general.specs.General.{symbol_number, single_row, pair_row, singles_of, pairs_of, data_part, with_data, with_pilot, general_of}
use Rattle.law_promises.specs.Four as four
use Rattle.law_promises.specs.Four.{BadEntry, symbol, repeat, BadPilot, entry, first, NoStop, no-entry, pulses, BadParts, data_at}
use Rattle.law_promises.specs.Four.{Four, BadData, none, eight, no_bits, no_bits_paired, single, pair}
use Rattle.law_promises.proofs.Dues as panic
use Rattle.law_promises.proofs.Dues.{Panics}
use Rattle.law_promises.proofs.Overflow.{overflow_exactly}

-- a row of a part that is refused
pub data RowRefused (row : ℕ → Option Tone) (from n : ℕ) : Type 0 where
  bad : {j : ℕ} → from ≤ j → j < from + n → row j ≡ None → RowRefused row from n

before-refused : (x : Option Tone) (rest : Part) → before x rest ≡ refused → (x ≡ None) ⊎ (rest ≡ refused)
unfolding before
before-refused None rest e = inl refl
before-refused (Some t) refused e = inr refl
before-refused (Some t) stops e = inr e
before-refused (Some t) (tones ts) e = absurd (let z : ◌≡◌ {A = ℕ} 0 1 = cc in omega arith)

before-this : (x : Option Tone) (rest : Part) → x ≡ None → before x rest ≡ refused
unfolding before
before-this x rest e = ap (λ (y : Option Tone). before y rest) e

before-later : (x : Option Tone) {rest : Part} → rest ≡ refused → before x rest ≡ refused
unfolding before
before-later None e = refl
before-later (Some t) e = ap (before (Some t)) e

-- a part is refused where, and only where, one of its rows is
rows-bad : (row : ℕ → Option Tone) (i n : ℕ) → rows_from row i n ≡ refused → RowRefused row i n
unfolding rows_from
rows-bad row i zero e = absurd (let z : ◌≡◌ {A = ℕ} 0 1 = cc in omega arith)
rows-bad row i (suc n) e =
    ⊎_elim (λ h. bad {j = i} (omega arith) (omega arith) h) (λ h. further (rows-bad row (i + 1) n h))
    (before-refused (row i) (rows_from row (i + 1) n) e)
  where
    further : RowRefused row (i + 1) n → RowRefused row i (suc n)
    further (bad {j} a b r) = bad {j = j} (omega (arith, a)) (omega (arith, b)) r

bad-rows : (row : ℕ → Option Tone) (i n j : ℕ) → i ≤ j → j < i + n → row j ≡ None → rows_from row i n ≡ refused
unfolding rows_from
bad-rows row i zero j a b r = absurd (omega (arith, a, b))
bad-rows row i (suc n) j a b r =
    ⊎_elim
    (λ (z : i ≡ j). before-this (row i) (rows_from row (i + 1) n) (ap row z ∙ r))
    (λ (h : i < j). before-later (row i) (bad-rows row (i + 1) n j (omega (arith, h)) (omega (arith, b)) r))
    (here_or_past i j a)
  where
    here_or_past : (i j : ℕ) → i ≤ j → (i ≡ j) ⊎ (i < j)
    here_or_past i j a =
        ⊎_elim (λ (z : j - i ≡ 0). inl (omega (arith, a, z))) (λ (p : 0 < j - i). inr (omega (arith, p))) (eq-zero-or-pos (j - i))

with_refused : (ps : List Tone) {x : Part} → x ≡ refused → with_data ps x ≡ refused4
unfolding with_data
with_refused ps e = rw e

differ : false ≡ true → ⊥
differ e = let z : ◌≡◌ {A = ℕ} 1 0 = ap (λ (t : Bool). t ⇒ 0 ∣ 1) e in absurd (omega arith)

module _ (s : List ℕ) (g : GeneralizedData) where
  cycles-bad : (y : Symbol) (n : ℕ) → cycles y n ≡ None → (y.second ≡ 0) × (n ≡ 65535)
  unfolding cycles
  cycles-bad y n e = at_second (plain_tone ((n + 1) / 2) y.first y.first) (plain_tone n y.first y.second) (eqb y.second 0) refl
      (eqb n 65535) refl e
    where
      at_second : (t u : Tone) (a : Bool) → eqb y.second 0 ≡ a → (b : Bool) → eqb n 65535 ≡ b
          → (a ⇒ (b ⇒ None ∣ Some t) ∣ Some u) ≡ None → (y.second ≡ 0) × (n ≡ 65535)
      at_second t u true p true q h = (eqb-true _ _ p, eqb-true _ _ q)
      at_second t u true p false q h = absurd (let z : ◌≡◌ {A = ℕ} 0 1 = cc in omega arith)
      at_second t u false p b q h = absurd (let z : ◌≡◌ {A = ℕ} 0 1 = cc in omega arith)

  entry-bad : (i : ℕ) → entry_row s g i ≡ None → BadEntry s g i
  unfolding entry_row
  entry-bad i e = by_cases (leb g.asp (entry_symbol s g i)) refl e
    where
      by_cases : (a : Bool) → leb g.asp (entry_symbol s g i) ≡ a
          → (a ⇒ None ∣ cycles (symbol_at s g.pilot g.npp (entry_symbol s g i)) (entry_repeat s g i)) ≡ None
          → BadEntry s g i
      by_cases true p h = symbol (leb-true _ _ p)
      by_cases false p h =
          let c = cycles-bad (symbol_at s g.pilot g.npp (entry_symbol s g i)) (entry_repeat s g i) h in
          repeat c.0 c.1

  bad-entry : (i : ℕ) → BadEntry s g i → entry_row s g i ≡ None
  unfolding entry_row cycles
  bad-entry i (symbol h) = rw (le-leb _ _ h)
  bad-entry i (repeat p q) = by_cases (leb g.asp (entry_symbol s g i))
    where
      by_cases : (a : Bool)
          → (a ⇒ None ∣ cycles (symbol_at s g.pilot g.npp (entry_symbol s g i)) (entry_repeat s g i)) ≡ None
      by_cases true = refl
      by_cases false = rw (eq-eqb _ _ p, eq-eqb _ _ q)

  one_or_two : (eqb g.npp 1 || eqb g.npp 2) ≡ true → (g.npp ≡ 1) ⊎ (g.npp ≡ 2)
  one_or_two e = by_cases (eqb g.npp 1) refl e
    where
      by_cases : (a : Bool) → eqb g.npp 1 ≡ a → (a || eqb g.npp 2) ≡ true → (g.npp ≡ 1) ⊎ (g.npp ≡ 2)
      by_cases true p h = inl (eqb-true _ _ p)
      by_cases false p h = inr (eqb-true _ _ h)

  is_one_or_two : (g.npp ≡ 1) ⊎ (g.npp ≡ 2) → (eqb g.npp 1 || eqb g.npp 2) ≡ true
  is_one_or_two (inl e) = rw (eq-eqb _ _ e)
  is_one_or_two (inr e) = by_cases (eqb g.npp 1)
    where
      by_cases : (a : Bool) → (a || eqb g.npp 2) ≡ true
      by_cases true = refl
      by_cases false = eq-eqb _ _ e

  neither : (eqb g.npp 1 || eqb g.npp 2) ≡ false → (g.npp ≡ 1 → ⊥) × (g.npp ≡ 2 → ⊥)
  neither e = (λ h. differ (sym e ∙ is_one_or_two (inl h)), λ h. differ (sym e ∙ is_one_or_two (inr h)))

  pilot_bad : pilot_of s g ≡ refused → BadPilot s g
  unfolding pilot_of
  pilot_bad e = by_cases (eqb g.totp 0) refl (eqb g.npp 1 || eqb g.npp 2) refl (leb g.asp (entry_symbol s g 0)) refl e
    where
      by_cases : (a : Bool) → eqb g.totp 0 ≡ a → (b : Bool) → (eqb g.npp 1 || eqb g.npp 2) ≡ b → (c : Bool)
          → leb g.asp (entry_symbol s g 0) ≡ c
          → (a ⇒ tones [] ∣ b ⇒ rows_from (entry_row s g) 0 g.totp ∣ c ⇒ refused ∣ stops) ≡ refused → BadPilot s g
      by_cases true p b q c r h = absurd (let z : ◌≡◌ {A = ℕ} 0 1 = cc in omega arith)
      by_cases false p true q c r h = of_row (rows-bad (entry_row s g) 0 g.totp h)
        where
          of_row : RowRefused (entry_row s g) 0 g.totp → BadPilot s g
          of_row (bad {j} x y z) = entry {i = j} (one_or_two q) (omega (arith, y)) (entry-bad j z)
      by_cases false p false q true r h = let n = neither q in first n.0 n.1 (omega (arith, eqb-false g.totp 0 p)) (leb-true _ _ r)
      by_cases false p false q false r h = absurd (let z : ◌≡◌ {A = ℕ} 0 1 = cc in omega arith)

  bad_pilot : BadPilot s g → pilot_of s g ≡ refused
  unfolding pilot_of
  bad_pilot (entry {i} n h b) = rw (ne_eqb g.totp 0 (omega (arith, h)), is_one_or_two n)
      (bad-rows (entry_row s g) 0 g.totp i (omega arith) (omega (arith, h)) (bad-entry i b))
  bad_pilot (first n m p h) = rw (ne_eqb g.totp 0 (omega (arith, p)), ne_eqb g.npp 1 n, ne_eqb g.npp 2 m, le-leb _ _ h)

  -- a data symbol, a pair of them
  single-bad : (i : ℕ) → single_row s g i ≡ None → g.asd ≤ symbol_number s g (i * g.nb) 0
  unfolding single_row
  single-bad i e = by_cases
      (plain_tone 1 (data_symbol s g (symbol_number s g (i * g.nb) 0)).first (data_symbol s g (symbol_number s g (i * g.nb) 0)).second)
      (leb g.asd (symbol_number s g (i * g.nb) 0)) refl e
    where
      by_cases : (t : Tone) (a : Bool) → leb g.asd (symbol_number s g (i * g.nb) 0) ≡ a → (a ⇒ None ∣ Some t) ≡ None
          → g.asd ≤ symbol_number s g (i * g.nb) 0
      by_cases t true p h = leb-true _ _ p
      by_cases t false p h = absurd (let z : ◌≡◌ {A = ℕ} 0 1 = cc in omega arith)

  bad-single : (i : ℕ) → g.asd ≤ symbol_number s g (i * g.nb) 0 → single_row s g i ≡ None
  unfolding single_row
  bad-single i h = rw (le-leb _ _ h)

  abbrev pair_tone : ℕ → Tone
  pair_tone i =
      plain_tone 1 (data_symbol s g (symbol_number s g (2 * i * g.nb) 0)).first (data_symbol s g (symbol_number s g (2 * i * g.nb) 1)).first

  abbrev Either : ℕ → Type 0
  Either i = (g.asd ≤ symbol_number s g (2 * i * g.nb) 0) ⊎ (g.asd ≤ symbol_number s g (2 * i * g.nb) 1)

  pair-bad : (i : ℕ) → pair_row s g i ≡ None → Either i
  unfolding pair_row
  pair-bad i e =
      by_cases (leb g.asd (symbol_number s g (2 * i * g.nb) 0)) refl (leb g.asd (symbol_number s g (2 * i * g.nb) 1)) refl e
    where
      by_cases : (a : Bool) → leb g.asd (symbol_number s g (2 * i * g.nb) 0) ≡ a → (b : Bool)
          → leb g.asd (symbol_number s g (2 * i * g.nb) 1) ≡ b
          → (a ⇒ None ∣ b ⇒ None ∣ Some (pair_tone i)) ≡ None → Either i
      by_cases true p b q h = inl (leb-true _ _ p)
      by_cases false p true q h = inr (leb-true _ _ q)
      by_cases false p false q h = absurd (let z : ◌≡◌ {A = ℕ} 0 1 = cc in omega arith)

  bad-pair : (i : ℕ) → Either i → pair_row s g i ≡ None
  unfolding pair_row
  bad-pair i (inl h) = rw (le-leb _ _ h)
  bad-pair i (inr h) = by_cases (leb g.asd (symbol_number s g (2 * i * g.nb) 0))
    where
      by_cases : (a : Bool)
          → (a ⇒ None ∣ leb g.asd (symbol_number s g (2 * i * g.nb) 1) ⇒ None ∣ Some (pair_tone i)) ≡ None
      by_cases true = refl
      by_cases false = rw (le-leb _ _ h)

  singles_bad : g.npd ≡ 2 → singles_of s g ≡ refused → BadData s g
  unfolding singles_of
  singles_bad n e = by_cases (eqb g.nb 0) refl e
    where
      of_row : RowRefused (single_row s g) 0 g.totd → BadData s g
      of_row (bad {j} x y z) = single {i = j} n (omega (arith, y)) (single-bad j z)

      by_cases : (a : Bool) → eqb g.nb 0 ≡ a → (a ⇒ refused ∣ rows_from (single_row s g) 0 g.totd) ≡ refused → BadData s g
      by_cases true p h = no_bits (eqb-true _ _ p) n
      by_cases false p h = of_row (rows-bad (single_row s g) 0 g.totd h)

  pairs_bad : g.npd ≡ 1 → pairs_of s g ≡ refused → BadData s g
  unfolding pairs_of
  pairs_bad n e = by_cases (eqb g.nb 0) refl (ltb 1 g.totd) refl e
    where
      of_row : RowRefused (pair_row s g) 0 (g.totd / 2) → BadData s g
      of_row (bad {j} x y z) = pair {i = j} n (omega (arith, y)) (pair-bad j z)

      by_cases : (a : Bool) → eqb g.nb 0 ≡ a → (b : Bool) → ltb 1 g.totd ≡ b
          → ((a && b) ⇒ refused ∣ rows_from (pair_row s g) 0 (g.totd / 2)) ≡ refused → BadData s g
      by_cases true p true q h = no_bits_paired (eqb-true _ _ p) n (ltb-true _ _ q)
      by_cases true p false q h = of_row (rows-bad (pair_row s g) 0 (g.totd / 2) h)
      by_cases false p b q h = of_row (rows-bad (pair_row s g) 0 (g.totd / 2) h)

  data_bad : data_part s g ≡ refused → BadData s g
  unfolding data_part
  data_bad e = by_cases (eqb g.totd 0) refl (leb 8 g.nb) refl (eqb g.npd 2) refl (eqb g.npd 1) refl e
    where
      by_cases : (a : Bool) → eqb g.totd 0 ≡ a → (b : Bool) → leb 8 g.nb ≡ b → (c : Bool) → eqb g.npd 2 ≡ c
          → (d : Bool) → eqb g.npd 1 ≡ d
          → (a ⇒ refused ∣ b ⇒ refused ∣ c ⇒ singles_of s g ∣ d ⇒ pairs_of s g ∣ stops) ≡ refused → BadData s g
      by_cases true p b q c r d t h = none (eqb-true _ _ p)
      by_cases false p true q c r d t h = eight (leb-true _ _ q)
      by_cases false p false q true r d t h = singles_bad (eqb-true _ _ r) h
      by_cases false p false q false r true t h = pairs_bad (eqb-true _ _ t) h
      by_cases false p false q false r false t h = absurd (let z : ◌≡◌ {A = ℕ} 0 1 = cc in omega arith)

  -- the tests before the data's rows: refused, or as npd says
  data_by : (x : Part) → x ≡ refused → (eqb g.totd 0 ⇒ refused ∣ leb 8 g.nb ⇒ refused ∣ x) ≡ refused
  data_by x e = by_cases (eqb g.totd 0) (leb 8 g.nb)
    where
      by_cases : (a b : Bool) → (a ⇒ refused ∣ b ⇒ refused ∣ x) ≡ refused
      by_cases true b = refl
      by_cases false true = refl
      by_cases false false = e

  two_data : g.npd ≡ 2 → singles_of s g ≡ refused → data_part s g ≡ refused
  unfolding data_part
  two_data n e = data_by (eqb g.npd 2 ⇒ singles_of s g ∣ eqb g.npd 1 ⇒ pairs_of s g ∣ stops) (rw (eq-eqb g.npd 2 n) e)

  one_data : g.npd ≡ 1 → pairs_of s g ≡ refused → data_part s g ≡ refused
  unfolding data_part
  one_data n e = data_by (eqb g.npd 2 ⇒ singles_of s g ∣ eqb g.npd 1 ⇒ pairs_of s g ∣ stops)
      (rw (ne_eqb g.npd 2 (omega (arith, n)), eq-eqb g.npd 1 n) e)

  bad_data : BadData s g → data_part s g ≡ refused
  unfolding data_part singles_of pairs_of
  bad_data (none e) = rw (eq-eqb _ _ e)
  bad_data (eight h) = by_cases (eqb g.totd 0)
    where
      by_cases : (a : Bool)
          → (a ⇒ refused ∣ leb 8 g.nb ⇒ refused
          ∣ (eqb g.npd 2 ⇒ singles_of s g ∣ eqb g.npd 1 ⇒ pairs_of s g ∣ stops))
          ≡ refused
      by_cases true = refl
      by_cases false = rw (le-leb 8 g.nb h)
  bad_data (no_bits z n) = two_data n (rw (eq-eqb g.nb 0 z))
  bad_data (no_bits_paired z n m) = one_data n (rw (eq-eqb g.nb 0 z, lt-ltb 1 g.totd m))
  bad_data (single {i} n h b) =
      two_data n (singles_row (bad-rows (single_row s g) 0 g.totd i (omega arith) (omega (arith, h)) (bad-single i b)))
    where
      singles_row : rows_from (single_row s g) 0 g.totd ≡ refused → singles_of s g ≡ refused
      singles_row e = by_cases (eqb g.nb 0)
        where
          by_cases : (a : Bool) → (a ⇒ refused ∣ rows_from (single_row s g) 0 g.totd) ≡ refused
          by_cases true = refl
          by_cases false = e
  bad_data (pair {i} n h b) =
      one_data n (pairs_row (bad-rows (pair_row s g) 0 (g.totd / 2) i (omega arith) (omega (arith, h)) (bad-pair i b)))
    where
      pairs_row : rows_from (pair_row s g) 0 (g.totd / 2) ≡ refused → pairs_of s g ≡ refused
      pairs_row e = by_cases (eqb g.nb 0 && ltb 1 g.totd)
        where
          by_cases : (a : Bool) → (a ⇒ refused ∣ rows_from (pair_row s g) 0 (g.totd / 2)) ≡ refused
          by_cases true = refl
          by_cases false = e

  -- a part of rows is no stop; the pilot part is none where it has no entry, or npp is 1 or 2
  rows_go : (row : ℕ → Option Tone) (i n : ℕ) → rows_from row i n ≡ stops → ⊥
  unfolding rows_from before
  rows_go row i zero e = let z : ◌≡◌ {A = ℕ} 0 1 = cc in omega arith
  rows_go row i (suc n) e = of (row i) (rows_from row (i + 1) n) (λ q. rows_go row (i + 1) n q) e
    where
      of : (x : Option Tone) (rest : Part) → (rest ≡ stops → ⊥) → before x rest ≡ stops → ⊥
      of None rest h q = let z : ◌≡◌ {A = ℕ} 0 1 = cc in omega arith
      of (Some t) refused h q = let z : ◌≡◌ {A = ℕ} 0 1 = cc in omega arith
      of (Some t) stops h q = h q
      of (Some t) (tones ts) h q = let z : ◌≡◌ {A = ℕ} 0 1 = cc in omega arith

  no_stop : NoStop s g → pilot_of s g ≡ stops → ⊥
  unfolding pilot_of
  no_stop (no-entry z) e = let q : tones [] ≡ stops = rw (eq-eqb g.totp 0 z) at e in let i : ◌≡◌ {A = ℕ} 0 1 = cc in omega arith
  no_stop (pulses n) e = by_entries (eqb g.totp 0) (rw (is_one_or_two n) at e)
    where
      by_entries : (a : Bool) → (a ⇒ tones [] ∣ rows_from (entry_row s g) 0 g.totp) ≡ stops → ⊥
      by_entries true q = let i : ◌≡◌ {A = ℕ} 0 1 = cc in omega arith
      by_entries false q = rows_go (entry_row s g) 0 g.totp q

  stopless : {ps : List Tone} → pilot_of s g ≡ tones ps → NoStop s g
  unfolding pilot_of
  stopless {ps} e = by_cases (eqb g.totp 0) refl (eqb g.npp 1 || eqb g.npp 2) refl (leb g.asp (entry_symbol s g 0)) e
    where
      by_cases : (a : Bool) → eqb g.totp 0 ≡ a → (b : Bool) → (eqb g.npp 1 || eqb g.npp 2) ≡ b → (c : Bool)
          → (a ⇒ tones [] ∣ b ⇒ rows_from (entry_row s g) 0 g.totp ∣ c ⇒ refused ∣ stops) ≡ tones ps → NoStop s g
      by_cases true p b q c h = no-entry (eqb-true _ _ p)
      by_cases false p true q c h = pulses (one_or_two q)
      by_cases false p false q true h = absurd (let z : ◌≡◌ {A = ℕ} 0 1 = cc in omega arith)
      by_cases false p false q false h = absurd (let z : ◌≡◌ {A = ℕ} 0 1 = cc in omega arith)

  with_bad : (ps : List Tone) (x : Part) → with_data ps x ≡ refused4 → x ≡ refused
  unfolding with_data
  with_bad ps refused e = refl
  with_bad ps stops e = absurd (let z : ◌≡◌ {A = ℕ} 0 1 = cc in omega arith)
  with_bad ps (tones ts) e = absurd (let z : ◌≡◌ {A = ℕ} 0 1 = cc in omega arith)

  abbrev plain_of : List Tone → Given
  plain_of ps = plain ps (symbol_at s g.symbols 2 0).first (symbol_at s g.symbols 2 1).first (used_bits g.totd)

  general_bad : (x : Part) → pilot_of s g ≡ x → with_pilot s g x ≡ refused4 → BadParts s g
  unfolding with_pilot
  general_bad refused p e = inl (pilot_bad p)
  general_bad stops p e = absurd (let z : ◌≡◌ {A = ℕ} 0 1 = cc in omega arith)
  general_bad (tones ps) p e = by_cases (ltb 0 g.totd && ordinary s g) e
    where
      by_cases : (a : Bool) → (a ⇒ plain_of ps ∣ with_data ps (data_part s g)) ≡ refused4 → BadParts s g
      by_cases true h = absurd (let z : ◌≡◌ {A = ℕ} 0 1 = cc in omega arith)
      by_cases false h = inr (stopless p, data_bad (with_bad ps (data_part s g) h))

  -- a symbol's number has nb bits
  number_small : (bit more : ℕ) → symbol_number s g bit more < 2 ^ g.nb
  unfolding symbol_number
  number_small bit more = mod-lt (get_or s (g.from + bit / 8) 0 / 2 ^ (7 - bit % 8 - more)) (two_pow g.nb)
    where
      two_pow : (n : ℕ) → 0 < 2 ^ n
      two_pow zero = omega arith
      two_pow (suc n) = omega (arith, two_pow n, pow-suc 2 n)

  module _ (bits : g.nb ≡ bits_of (g.asd - 1)) where
    -- an ordinary data block has nothing bad: totd is above 0, nb is 1, npd is 2, and no number of one bit is 2
    one_bit : g.asd ≡ 2 → g.nb ≡ 1
    unfolding binary_digits
    one_bit e = bits ∙ ap (λ (n : ℕ). bits_of (n - 1)) e

    plain_fine : (ltb 0 g.totd && ordinary s g) ≡ true → BadData s g → ⊥
    unfolding ordinary
    plain_fine e b =
        let x = ltb-true 0 g.totd (first_of (ltb 0 g.totd) (ordinary s g) e) in
        let o = second_of (ltb 0 g.totd) (ordinary s g) e in
        let asd = eqb-true g.asd 2 (first_of (eqb g.asd 2) _ o) in
        let npd = eqb-true g.npd 2 (first_of (eqb g.npd 2) _ (second_of (eqb g.asd 2) _ o)) in
        of x asd npd (one_bit asd) b
      where
        of : 0 < g.totd → g.asd ≡ 2 → g.npd ≡ 2 → g.nb ≡ 1 → BadData s g → ⊥
        of x a n o (none z) = omega (arith, x, z)
        of x a n o (eight h) = omega (arith, o, h)
        of x a n o (no_bits z q) = omega (arith, o, z)
        of x a n o (no_bits_paired z q m) = omega (arith, o, z)
        of x a n o (single {i} q h k) =
            let y = number_small (i * g.nb) 0 in
            small (symbol_number s g (i * g.nb) 0) (ap (λ (m : ℕ). 2 ^ m) o) y k
          where
            small : (v : ℕ) → 2 ^ g.nb ≡ 2 ^ 1 → v < 2 ^ g.nb → g.asd ≤ v → ⊥
            small v w y k = omega (arith, w, y, k, a)
        of x a n o (pair q h k) = omega (arith, n, q)

    bad_general : BadParts s g → general_of s g ≡ refused4
    unfolding general_of with_pilot
    bad_general (inl b) = rw (bad_pilot b)
    bad_general (inr b) = by_pilot (pilot_of s g) refl
      where
        by_data : (ps : List Tone) (a : Bool) → (ltb 0 g.totd && ordinary s g) ≡ a
            → (a ⇒ plain_of ps ∣ with_data ps (data_part s g)) ≡ refused4
        by_data ps true q = absurd (plain_fine q b.1)
        by_data ps false q = with_refused ps (bad_data b.1)

        by_pilot : (x : Part) → pilot_of s g ≡ x → with_pilot s g x ≡ refused4
        by_pilot refused p = refl
        by_pilot stops p = absurd (no_stop b.0 p)
        by_pilot (tones ps) p = by_data ps (ltb 0 g.totd && ordinary s g) refl

    -- RULES 81 AND 82, EXACTLY, of a 19 that is all there
    pub parts_exactly : (general_of s g ≡ refused4) ↔ BadParts s g
    unfolding general_of
    parts_exactly = (general_bad (pilot_of s g) refl, bad_general)

module _ (s : List ℕ) (at : ℕ) (t : Parsed) where
  -- REFUSAL 4, EXACTLY
  pub four_exactly : Panics s at t ↔ Four s at
  four_exactly = (λ p. there p, λ f. back f)
    where
      bits : {kind from next : ℕ} {g : GeneralizedData} → cut_at s at full ≡ taken.Whole kind from next (Generalized g)
          → g.nb ≡ bits_of (g.asd - 1)
      bits e = (cut_places s at full e).places.bits

      there : Panics s at t → Four s at
      there (panic.before {kind} {p} e) = four.before ((overflow_exactly s at kind p).0 e).0
      there (panic.within {g = g} e h) = four.within e ((parts_exactly s g (bits e)).0 h)

      back : Four s at → Panics s at t
      back (four.before o) = panic.before {kind = 0x19} {p = data_at s at} ((overflow_exactly s at 0x19 (data_at s at)).1 (o, (refl, refl)))
      back (four.within {g = g} e h) = panic.within e ((parts_exactly s g (bits e)).1 h)
