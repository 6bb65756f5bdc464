-- What telling words into a lent row leaves, over plain lists. Assumes nothing.
use Prim.Native.Nat.{ℕ, ◌+◌, ◌<◌, ◌≤◌}
use native.Mathlib.Omega.{arith}
use native.Mathlib.Numerals.{add-one}
use mathlib.Core.Path.{◌≡◌, refl, sym, ap, ◌∙◌}
use mathlib.Core.Bool.{Bool, true, false}
use mathlib.Core.List.{List, ◌++◌}
use lib.ListN.{length, drop, set, get_or}
use lib.Seq.{paste, paste-suc, take-length}
use borrow.Author.Tests.{le-leb, lt-leb}
use Rattle.law_base.specs.Rules.{◌⇒◌, ◌∣◌}
use Rattle.refusals.specs.Refusals.{no_room}
use Rattle.text_out.specs.Out.{fits, told}
use Rattle.host_answers.specs.Answers.{refused_with, refused_by, number_of, values_of}

-- one word more
pub tell_turn : (ws row row' : List ℕ) (j : ℕ) → row' ≡ paste row 0 ws j → j < length row → j < length ws
    → set row' j (get_or ws j 0) ≡ paste row 0 ws (j + 1)
tell_turn ws row row' j e hr hw =
    let z : j ≡ 0 + j = omega arith in
    ap (λ (r : List ℕ). set r j (get_or ws j 0)) e
    ∙ ap (λ (n : ℕ). set (paste row 0 ws j) n (get_or ws j 0)) z
    ∙ paste-suc row 0 ws j 0 (omega arith) hw
    ∙ ap (λ (n : ℕ). paste row 0 ws n) (sym (add-one j))

-- a row of fewer words is not written, and the answer is 10
pub tell_short : (ws row : List ℕ) → length row < length ws
    → (◌≡◌ {A = ℕ} no_room (fits ws row ⇒ 0 ∣ no_room)) × (row ≡ told ws row)
unfolding told
tell_short ws row h = (rw (lt-leb (length ws) (length row) h), rw (lt-leb (length ws) (length row) h))

-- in a row that holds them they stand first
pub tell_whole : (ws row row' : List ℕ) (j : ℕ) → length ws ≤ length row → j ≡ length ws → row' ≡ paste row 0 ws j
    → (◌≡◌ {A = ℕ} 0 (fits ws row ⇒ 0 ∣ no_room)) × (row' ≡ told ws row)
unfolding told
tell_whole ws row row' j h k e =
    let z : 0 + j ≡ length ws = omega arith in
    let first : paste row 0 ws j ≡ ws ++ drop (length ws) row =
    rw (z, k) (ap (λ (t : List ℕ). t ++ drop (length ws) row) (take-length ws)) in
    (rw (le-leb (length ws) (length row) h), rw (le-leb (length ws) (length row) h) (e ∙ first))

-- a refusal is its number, whatever row is lent, and the row stays
pub tell_refused : (k : ℕ) (row : List ℕ) → (k ≡ number_of (refused_by k) row) × (row ≡ values_of (refused_by k) row)
unfolding number_of values_of told
tell_refused k row = (rw (le-leb 0 (length row) (omega arith)), rw (le-leb 0 (length row) (omega arith)))

-- the number of a refusal with words stands, whatever row is lent
pub number_stands : (k : ℕ) (ws row : List ℕ) → k ≡ number_of (refused_with k ws) row
unfolding number_of
number_stands k ws row = either (fits ws row)
  where
    either : (b : Bool) → k ≡ (b ⇒ k ∣ k)
    either true = refl
    either false = refl
