-- Alphabets: where their symbols stand, and what an array that holds one has. Assumes nothing.
use Prim.Native.Nat.{ℕ, ◌+◌, ◌*◌, ◌/◌, ◌%◌, ◌≤◌, ◌<◌}
use mathlib.Core.Path.{◌≡◌, ap}
use mathlib.Core.List.{List, []}
use native.Mathlib.Omega.{arith}
use native.Mathlib.Nat.{mul_comm, mul_assoc, mul-lt-mul_of_pos_right}
use lib.ListN.{length, get_or}
use borrow.Author.Tests.{ne_eqb}
use Rattle.cut_grammar.specs.declared.GeneralizedData.{GeneralizedData}
use Rattle.cut_grammar.specs.Grammar.{held_if}
use Rattle.cut_grammar.specs.Places.{Places}
use Rattle.load_general.specs.General.{Symbol, symbol_at}
use Rattle.load_general.specs.Held.{Kept, symbol_words, symbol_of}

-- an alphabet in use is there
held : (uses size : ℕ) → 0 < uses → held_if uses size ≡ size
unfolding held_if
held uses size h = rw (ne_eqb uses 0 (λ e. omega arith))

pub pilot_inside : (s : List ℕ) (g : GeneralizedData) → Places s g → 0 < g.totp → g.pilot + g.asp * (1 + g.npp * 2) ≤ length s
pilot_inside s g p h = omega (arith, rw (held g.totp g.asp h) at p.entries, p.symbols, p.from, p.inside)

pub data_inside : (s : List ℕ) (g : GeneralizedData) → Places s g → 0 < g.totd
    → g.symbols + g.asd * (1 + g.npd * 2) ≤ length s
data_inside s g p h = omega (arith, rw (held g.totd g.asd h) at p.from, p.inside)

-- the bit of a symbol is among those of the data bytes
pub single_bit : (i n t : ℕ) → i < t → 0 < n → i * n < n * t
single_bit i n t h k = rw (mul_comm n t) (mul-lt-mul_of_pos_right h k)

pub pair_bit : (i n t : ℕ) → i < t / 2 → 0 < n → 2 * i * n < n * t
pair_bit i n t h k = let l : 2 * i < t = omega arith in single_bit (2 * i) n t l k

-- the bit of a pair is even
pub pair_even : (i n : ℕ) → 2 * i * n % 8 + 1 ≤ 7
pair_even i n = rw (mul_assoc 2 i n) (omega arith)

-- two symbols of two pulses are there
pub two_inside : (s : List ℕ) (g : GeneralizedData) → Places s g → 0 < g.totd → g.asd ≡ 2 → g.npd ≡ 2
    → g.symbols + 10 ≤ length s
two_inside s g p h a n = rw (a, n) at (data_inside s g p h)

-- a symbol as the code keeps it, and back again
pub symbol_back : {w : List ℕ} {y : Symbol} → w ≡ symbol_words y → symbol_of w ≡ y
unfolding symbol_of symbol_words
symbol_back e = rw e

-- what an array that holds an alphabet has at a symbol's number
module _ (s : List ℕ) (place pulses n : ℕ) (a : List (List ℕ)) (k : Kept s place pulses n a) (i : ℕ) (h : i < n) where
  pub kept_symbol : symbol_of (get_or a i []) ≡ symbol_at s place pulses i
  kept_symbol = symbol_back (k i h)

  pub kept_first : get_or (get_or a i []) 0 0 ≡ (symbol_at s place pulses i).first
  unfolding symbol_of
  kept_first = ap (λ (y : Symbol). y.first) kept_symbol

  pub kept_second : get_or (get_or a i []) 1 0 ≡ (symbol_at s place pulses i).second
  unfolding symbol_of
  kept_second = ap (λ (y : Symbol). y.second) kept_symbol
