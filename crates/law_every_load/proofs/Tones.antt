-- The numbers of what a 19 gives: tone counts, halves, zero and one are at most 65,535. Assumes nothing but that bytes are below 256.
use Prim.Native.Nat.{ℕ, zero, suc, ◌+◌, ◌*◌, ◌/◌, ◌≤◌}
use native.Mathlib.Omega.{arith}
use mathlib.Core.Bool.{Bool, true, false, ◌&&◌, ◌||◌}
use mathlib.Core.List.{List}
use lib.Dec.{leb, ltb, eqb}
use Rattle.law_base.specs.Rules.{◌⇒◌, ◌∣◌}
use Rattle.cut_fields.specs.Field.{le_at}
use Rattle.cut_fields.proofs.Le.{le_small}
use Rattle.rows.specs.declared.Tone.{Tone}
use Rattle.rows.specs.Well.{Halves}
use Rattle.cut_grammar.specs.declared.GeneralizedData.{GeneralizedData}
use Rattle.std.specs.Prelude.{Option, Some, None}
use Rattle.load_general.specs.General as general
use Rattle.load_general.specs.General.{Symbol, symbol_at, Part, before, rows_from, cycles, entry_symbol, entry_repeat, entry_row, pilot_of}
use Rattle.load_general.specs.General.{ordinary, used_bits, symbol_number, single_row, pair_row, singles_of, pairs_of, data_part, with_data}
use Rattle.load_general.specs.General.{with_pilot, general_of}
use Rattle.load_state.proofs.Kept.{all_append}
use Rattle.load_state.specs.Kept.{All, nil, cons}
use Rattle.law_every_load.specs.Sizes.{Bytes}

-- rows, parts and pieces of which every tone is small
data FineRow : Option Tone → Type 0 where
  refused : FineRow None
  gives : {t : Tone} → Halves t → FineRow (Some t)

data FinePart : Part → Type 0 where
  refused : FinePart general.refused
  stops : FinePart general.stops
  small : {ts : List Tone} → All Halves ts → FinePart (general.tones ts)

pub data Fine : general.Given → Type 0 where
  refused4 : Fine general.refused4
  stop : Fine general.stop
  plain : {ts : List Tone} {nil one last : ℕ} → All Halves ts → nil ≤ 65535 → one ≤ 65535
      → Fine (general.plain ts nil one last)
  toned : {ts : List Tone} → All Halves ts → Fine (general.toned ts)

-- a rule's answer has what both answers have
either_row : (b : Bool) {x y : Option Tone} → FineRow x → FineRow y → FineRow (b ⇒ x ∣ y)
either_row true h k = h
either_row false h k = k

either_part : (b : Bool) {x y : Part} → FinePart x → FinePart y → FinePart (b ⇒ x ∣ y)
either_part true h k = h
either_part false h k = k

before_fine : {r : Option Tone} {p : Part} → FineRow r → FinePart p → FinePart (before r p)
unfolding before
before_fine FineRow.refused k = FinePart.refused
before_fine (gives h) FinePart.refused = FinePart.refused
before_fine (gives h) stops = stops
before_fine (gives h) (small k) = small (cons h k)

rows_fine : {row : ℕ → Option Tone} → ((i : ℕ) → FineRow (row i)) → (i n : ℕ) → FinePart (rows_from row i n)
unfolding rows_from
rows_fine h i zero = small nil
rows_fine h i (suc n) = before_fine (h i) (rows_fine h (i + 1) n)

with_fine : {ps : List Tone} {p : Part} → All Halves ps → FinePart p → Fine (with_data ps p)
unfolding with_data
with_fine h FinePart.refused = refused4
with_fine h stops = stop
with_fine h (small k) = toned (all_append h k)

module _ (s : List ℕ) (b : Bytes s) where
  -- a number of two bytes
  two_small : (p : ℕ) → le_at s p 2 ≤ 65535
  two_small p = omega (arith, le_small s b p 2)

  first_small : (place n i : ℕ) → (symbol_at s place n i).first ≤ 65535
  unfolding symbol_at
  first_small place n i = two_small (place + i * (1 + n * 2) + 1)

  second_small : (place n i : ℕ) → (symbol_at s place n i).second ≤ 65535
  unfolding symbol_at
  second_small place n i = by_cases (ltb 1 n)
    where
      by_cases : (t : Bool) → (t ⇒ le_at s (place + i * (1 + n * 2) + 1 + 2) 2 ∣ 0) ≤ 65535
      by_cases true = two_small (place + i * (1 + n * 2) + 1 + 2)
      by_cases false = omega arith

  cycles_fine : (y : Symbol) (n : ℕ) → y.first ≤ 65535 → y.second ≤ 65535 → n ≤ 65535 → FineRow (cycles y n)
  unfolding cycles
  cycles_fine y n f g h =
      either_row (eqb y.second 0)
      (either_row (eqb n 65535) FineRow.refused (gives (record { num = omega arith; len1 = f; len2 = f; wave = omega arith })))
      (gives (record { num = h; len1 = f; len2 = g; wave = omega arith }))

  module _ (g : GeneralizedData) where
    entry_fine_lem : (i : ℕ) → FineRow (entry_row s g i)
    unfolding entry_row entry_repeat
    entry_fine_lem i =
        let n = entry_symbol s g i in
        either_row (leb g.asp n) FineRow.refused
        (cycles_fine (symbol_at s g.pilot g.npp n) (le_at s (g.entries + i * 3 + 1) 2) (first_small g.pilot g.npp n)
        (second_small g.pilot g.npp n) (two_small (g.entries + i * 3 + 1)))

    single_fine : (i : ℕ) → FineRow (single_row s g i)
    unfolding single_row
    single_fine i =
        let n = symbol_number s g (i * g.nb) 0 in
        either_row (leb g.asd n) FineRow.refused
        (gives (record {
          num = omega arith;
          len1 = first_small g.symbols g.npd n;
          len2 = second_small g.symbols g.npd n;
          wave = omega arith;
        }))

    pair_fine : (i : ℕ) → FineRow (pair_row s g i)
    unfolding pair_row
    pair_fine i =
        let n = symbol_number s g (2 * i * g.nb) 0 in
        let m = symbol_number s g (2 * i * g.nb) 1 in
        either_row (leb g.asd n) FineRow.refused
        (either_row (leb g.asd m) FineRow.refused
        (gives (record {
          num = omega arith;
          len1 = first_small g.symbols g.npd n;
          len2 = first_small g.symbols g.npd m;
          wave = omega arith;
        })))

    pilot_fine : FinePart (pilot_of s g)
    unfolding pilot_of
    pilot_fine =
        either_part (eqb g.totp 0) (small nil)
        (either_part (eqb g.npp 1 || eqb g.npp 2) (rows_fine entry_fine_lem 0 g.totp)
        (either_part (leb g.asp (entry_symbol s g 0)) FinePart.refused stops))

    data_fine : FinePart (data_part s g)
    unfolding data_part singles_of pairs_of
    data_fine =
        either_part (eqb g.totd 0) FinePart.refused
        (either_part (leb 8 g.nb) FinePart.refused
        (either_part (eqb g.npd 2) (either_part (eqb g.nb 0) FinePart.refused (rows_fine single_fine 0 g.totd))
        (either_part (eqb g.npd 1)
        (either_part (eqb g.nb 0 && ltb 1 g.totd) FinePart.refused (rows_fine pair_fine 0 (g.totd / 2)))
        stops)))

    parts_fine : {p : Part} → FinePart p → Fine (with_pilot s g p)
    unfolding with_pilot
    parts_fine FinePart.refused = refused4
    parts_fine stops = stop
    parts_fine (small {ts = ts} h) = by_cases (ltb 0 g.totd && ordinary s g)
      where
        by_cases : (t : Bool)
            → Fine (t ⇒ general.plain ts (symbol_at s g.symbols 2 0).first (symbol_at s g.symbols 2 1).first (used_bits g.totd)
            ∣ with_data ts (data_part s g))
        by_cases true = plain h (first_small g.symbols 2 0) (first_small g.symbols 2 1)
        by_cases false = with_fine h data_fine

    pub general_fine : Fine (general_of s g)
    unfolding general_of
    general_fine = parts_fine pilot_fine
