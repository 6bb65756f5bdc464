-- The rows of a part: judged one by one, counted, and put one after the other. Assumes nothing.
use Prim.Native.Nat.{ℕ, zero, suc, ◌+◌, ◌-◌, ◌/◌, ◌≤◌, ◌<◌}
use mathlib.Core.Path.{◌≡◌, refl, sym, ap, ◌∙◌}
use mathlib.Core.Bool.{Bool, true, false, ◌&&◌, ◌||◌}
use mathlib.Core.List.{List}
use mathlib.Core.Logic.{⊎_elim}
use native.Mathlib.Omega.{arith}
use native.Mathlib.Nat.{zero-add}
use lib.ListN.{length, get_or}
use lib.Dec.{eqb, ltb, leb}
use borrow.Author.Tests.{ltb-false, leb-false, ne_eqb, eq-eqb, eqb-true, eqb-false}
use Rattle.std.specs.Bool.{MatchBool}
use Rattle.std.specs.List.{AllWithin, HoldsAt, range_with_len}
use Rattle.std.proofs.lemmas.List.FromFn.{length-range_with_len, get_or-range_with_len}
use Rattle.law_base.proofs.Numbers.{lt_or_ge}
use Rattle.law_base.specs.Rules.{◌⇒◌, ◌∣◌}
use Rattle.cut_grammar.specs.declared.GeneralizedData.{GeneralizedData}
use Rattle.rows.specs.Table.{put, put_all}
use Rattle.rows.specs.Rows.{tone}
use Rattle.rows.specs.declared.Tone.{Tone}
use Rattle.std.specs.Prelude.{is_some, Option, None, Some, Ok, Err}
use Rattle.load_general.specs.declared.NoRows.TheVariants.{Refused}
use Rattle.load_general.specs.General.{Part, refused, stops, tones, before, rows_from, entry_symbol, entry_row, single_row, pair_row}
use Rattle.load_general.specs.General.{pilot_of, singles_of, pairs_of, data_part}
use Rattle.load_general.specs.Made.{judged_of, is_tones, part_tones}

-- two truths
pub differ : true ≡ false → ⊥
differ e = let z : ◌≡◌ {A = ℕ} 0 1 = cc in omega arith

before-refused : (r : Option Tone) (p : Part) → is_some r ≡ false → is_tones (before r p) ≡ false
unfolding before is_tones
before-refused None p e = refl
before-refused (Some t) p e = absurd (differ e)

before-given : (r : Option Tone) (p : Part) → is_some r ≡ true → is_tones (before r p) ≡ is_tones p
unfolding before is_tones
before-given None p e = absurd (differ (sym e))
before-given (Some t) refused e = refl
before-given (Some t) stops e = refl
before-given (Some t) (tones ts) e = refl

before-rest : (r : Option Tone) (p : Part) → is_tones p ≡ false → is_tones (before r p) ≡ false
unfolding before is_tones
before-rest None p e = refl
before-rest (Some t) refused e = refl
before-rest (Some t) stops e = refl
before-rest (Some t) (tones ts) e = absurd (differ e)

pub before_tones : (r : Option Tone) (p : Part) → is_tones (before r p) ≡ true → is_tones p ≡ true
unfolding before is_tones
before_tones None p e = absurd (differ (sym e))
before_tones (Some t) refused e = e
before_tones (Some t) stops e = e
before_tones (Some t) (tones ts) e = refl

-- a row before tones is put before them
pub before_puts : (r : Tone) (p : Part) → is_tones p ≡ true → (t : List ℕ) (k : ℕ)
    → put_all tone t k (part_tones (before (Some r) p)) ≡ put_all tone (put tone t k r) (k + 1) (part_tones p)
unfolding before is_tones part_tones put_all
before_puts r refused e t k = absurd (differ (sym e))
before_puts r stops e t k = absurd (differ (sym e))
before_puts r (tones ts) e t k = refl

-- n rows are n tones, or refused
pub data Rowed (n : ℕ) : Part → Type 0 where
  none : Rowed n refused
  all : {ts : List Tone} → length ts ≡ n → Rowed n (tones ts)

before_rowed : {n : ℕ} {p : Part} (r : Option Tone) → Rowed n p → Rowed (suc n) (before r p)
unfolding before
before_rowed None h = none
before_rowed (Some t) none = none
before_rowed (Some t) (all e) = all (ap suc e)

pub rowed : (row : ℕ → Option Tone) (i n : ℕ) → Rowed n (rows_from row i n)
unfolding rows_from
rowed row i zero = all refl
rowed row i (suc n) = before_rowed (row i) (rowed row (i + 1) n)

pub rowed_all : {n : ℕ} {p : Part} → Rowed n p → is_tones p ≡ true → judged_of p ≡ Ok n
unfolding is_tones judged_of
rowed_all none e = absurd (differ (sym e))
rowed_all (all h) e = rw h

pub rowed_none : {n : ℕ} {p : Part} → Rowed n p → is_tones p ≡ false → judged_of p ≡ Err Refused
unfolding is_tones judged_of
rowed_none none e = refl
rowed_none (all h) e = absurd (differ e)

-- one turn of a loop over n rows, at row i
pub turn : (row : ℕ → Option Tone) (i n : ℕ) → i < n → rows_from row i (n - i) ≡ before (row i) (rows_from row (i + 1) (n - (i + 1)))
unfolding rows_from
turn row i n h = let e : n - i ≡ suc (n - (i + 1)) = omega arith in rw e

-- rows that are all given, and rows of which one is refused
pub all_given : (row : ℕ → Option Tone) (i n : ℕ) → ((j : ℕ) → j < i + n → is_some (row j) ≡ true) → is_tones (rows_from row i n) ≡ true
unfolding rows_from is_tones
all_given row i zero h = refl
all_given row i (suc n) h =
    before-given (row i) (rows_from row (i + 1) n) (h i (omega arith)) ∙ all_given row (i + 1) n (λ j l. h j (omega arith))

one_refused : (row : ℕ → Option Tone) (i n k : ℕ) → i ≤ k → k < i + n → is_some (row k) ≡ false → is_tones (rows_from row i n) ≡ false
unfolding rows_from is_tones
one_refused row i zero k l h e = absurd (omega arith)
one_refused row i (suc n) k l h e =
    ⊎_elim
    (λ (b : i < k). before-rest (row i) (rows_from row (i + 1) n) (one_refused row (i + 1) n k (omega arith) (omega arith) e))
    (λ (b : k ≤ i). let q : k ≡ i = omega arith in before-refused (row i) (rows_from row (i + 1) n) (rw q at e))
    (lt_or_ge i k)

-- each row of tones is given
pub given_each : (row : ℕ → Option Tone) (n i : ℕ) → is_tones (rows_from row 0 n) ≡ true → i < n → is_some (row i) ≡ true
given_each row n i e h = by_cases (is_some (row i)) refl
  where
    by_cases : (b : Bool) → is_some (row i) ≡ b → b ≡ true
    by_cases true q = refl
    by_cases false q = absurd (differ (sym e ∙ one_refused row 0 n i (omega arith) (omega arith) q))

-- what `all` answers of n rows
pub judged : (row : ℕ → Option Tone) (n : ℕ) (r : Bool)
    → MatchBool r (AllWithin (λ i. i < n → is_some (row i) ≡ true) (range_with_len 0 n) 0 (length (range_with_len 0 n)))
    ((k : ℕ) × (k < length (range_with_len 0 n)) × HoldsAt (λ i. i < n → is_some (row i) ≡ false) (range_with_len 0 n) k)
    → r ≡ is_tones (rows_from row 0 n)
judged row n true m =
    sym (all_given row 0 n (λ j l.
    let h : j < n = omega arith in
    let e : get_or (range_with_len 0 n) j 0 ≡ j = get_or-range_with_len 0 n j 0 h ∙ zero-add j in
    (rw e at (m j 0 (omega arith) (omega (arith, length-range_with_len 0 n)))) h))
judged row n false (k, l, m) =
    let h : k < n = omega (arith, length-range_with_len 0 n) in
    let e : get_or (range_with_len 0 n) k 0 ≡ k = get_or-range_with_len 0 n k 0 h ∙ zero-add k in
    sym (one_refused row 0 n k (omega arith) (omega arith) ((rw e at (m 0)) h))

-- no row is left
pub end_put : (row : ℕ → Option Tone) (n k : ℕ) (t : List ℕ) → put_all tone t k (part_tones (rows_from row n (n - n))) ≡ t
unfolding rows_from part_tones put_all
end_put row n k t = let e : n - n ≡ 0 = omega arith in rw e

-- what the tests of a part say
pub some_pulses : (n : ℕ) → (eqb n 1 || eqb n 2) ≡ true → 0 < n
some_pulses zero e = absurd (differ (sym e))
some_pulses (suc n) e = omega arith

pub some_bits : (nb totd : ℕ) → (eqb nb 0 && ltb 1 totd) ≡ false → 1 < totd → 0 < nb
some_bits zero totd e h = absurd (omega (arith, ltb-false 1 totd e))
some_bits (suc n) totd e h = omega arith

-- a part whose answer is known
pub told_rows : (p : Part) {n : ℕ} → judged_of p ≡ Ok n → (p ≡ tones (part_tones p)) × (length (part_tones p) ≡ n)
unfolding judged_of part_tones
told_rows refused e = absurd (let z : ◌≡◌ {A = ℕ} 0 1 = cc in omega arith)
told_rows stops e = absurd (let z : ◌≡◌ {A = ℕ} 0 1 = cc in omega arith)
told_rows (tones ts) e = (refl, cc)

pub told_tones : (p : Part) {n : ℕ} → judged_of p ≡ Ok n → is_tones p ≡ true
unfolding is_tones
told_tones p e = rw (told_rows p e).0

pub told_length : (p : Part) {n : ℕ} → judged_of p ≡ Ok n → length (part_tones p) ≡ n
told_length p e = (told_rows p e).1

-- n rows that are tones are n tones
pub rowed_length : {n : ℕ} {p : Part} → Rowed n p → is_tones p ≡ true → length (part_tones p) ≡ n
unfolding is_tones part_tones
rowed_length none e = absurd (differ (sym e))
rowed_length (all h) e = h

-- a part that is tones is n rows of one sort, which is ready
pub record Sorted (Ready : Type 0) (row : ℕ → Option Tone) (n : ℕ) (p : Part) : Type 0 where
  pub ready : Ready
  pub rows : p ≡ rows_from row 0 n

-- a rule that refuses did not hold, and one without which there are no tones did
passes : (b : Bool) (p : Part) → is_tones (b ⇒ refused ∣ p) ≡ true → b ≡ false
unfolding is_tones
passes true p e = sym e
passes false p e = refl

holds : (b : Bool) (p q : Part) → is_tones q ≡ false → is_tones (b ⇒ p ∣ q) ≡ true → b ≡ true
holds true p q n e = refl
holds false p q n e = sym n ∙ e

no-tones : (b : Bool) → is_tones (b ⇒ refused ∣ stops) ≡ false
unfolding is_tones
no-tones true = refl
no-tones false = refl

module _ (s : List ℕ) (g : GeneralizedData) where
  pub pilot_sorted : 0 < g.totp → is_tones (pilot_of s g) ≡ true → Sorted (0 < g.npp) (entry_row s g) g.totp (pilot_of s g)
  unfolding pilot_of
  pilot_sorted h e =
      let z = ne_eqb g.totp 0 (λ q. omega arith) in
      let p = holds (eqb g.npp 1 || eqb g.npp 2) (rows_from (entry_row s g) 0 g.totp) _ (no-tones (leb g.asp (entry_symbol s g 0)))
      (rw z at e) in
      record { ready = some_pulses g.npp p; rows = rw (z, p) }

  -- where the data part is tones, there are symbols, of fewer than 8 bits
  module _ (e : is_tones (data_part s g) ≡ true) where
    used : eqb g.totd 0 ≡ false
    unfolding data_part
    used = passes (eqb g.totd 0) _ e

    narrow : leb 8 g.nb ≡ false
    unfolding data_part
    narrow = passes (leb 8 g.nb) _ (rw used at e)

    by-pulses : is_tones (eqb g.npd 2 ⇒ singles_of s g ∣ eqb g.npd 1 ⇒ pairs_of s g ∣ stops) ≡ true
    unfolding data_part
    by-pulses = rw narrow at (rw used at e)

    some : 0 < g.totd
    some = let z = eqb-false g.totd 0 used in omega arith

    pub singles_sorted : g.npd ≡ 2
        → Sorted ((0 < g.totd) × (0 < g.npd) × (0 < g.nb) × (g.nb < 8)) (single_row s g) g.totd (data_part s g)
    unfolding data_part singles_of
    singles_sorted h =
        let p = eq-eqb g.npd 2 h in
        let b = passes (eqb g.nb 0) _ (rw p at by-pulses) in
        let z = eqb-false g.nb 0 b in
        record { ready = (some, omega arith, omega arith, leb-false 8 g.nb narrow); rows = rw (used, narrow, p, b) }

    pub pairs_sorted : (g.npd ≡ 2 → ⊥)
        → Sorted ((0 < g.totd) × (0 < g.npd) × (1 < g.totd → 0 < g.nb) × (g.nb < 8)) (pair_row s g) (g.totd / 2) (data_part s g)
    unfolding data_part pairs_of is_tones
    pairs_sorted h =
        let p = ne_eqb g.npd 2 h in
        let l = rw p at by-pulses in
        let o = holds (eqb g.npd 1) (pairs_of s g) stops refl l in
        let b = passes (eqb g.nb 0 && ltb 1 g.totd) _ (rw o at l) in
        let n = eqb-true g.npd 1 o in
        record { ready = (some, omega arith, some_bits g.nb g.totd b, leb-false 8 g.nb narrow); rows = rw (used, narrow, p, o, b) }

    pub data_ready : (0 < g.totd) × (0 < g.npd)
    data_ready = (some, by_cases (eqb g.npd 2) refl)
      where
        by_cases : (b : Bool) → eqb g.npd 2 ≡ b → 0 < g.npd
        by_cases true q = let n = eqb-true g.npd 2 q in omega arith
        by_cases false q = (pairs_sorted (eqb-false g.npd 2 q)).ready.1

-- what the rows of a sort have from the part that they are
module _ {Ready : Type 0} {row : ℕ → Option Tone} {n : ℕ} {p : Part} (o : Sorted Ready row n p) (e : is_tones p ≡ true) where
  pub sorted_tones : is_tones (rows_from row 0 n) ≡ true
  sorted_tones = rw o.rows at e

  pub sorted_count : {room : ℕ} → length (part_tones p) ≤ room → n ≤ room
  sorted_count h =
      let l = rowed_length (rowed row 0 n) sorted_tones in omega (arith, ap (λ (q : Part). length (part_tones q)) o.rows)
