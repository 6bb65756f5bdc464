-- A LOOP THAT WRITES A TEXT part by part: what holds before a turn, one turn, and the end; so of a text for each byte. Assumes nothing.
use Prim.Native.Nat.{ℕ, ◌+◌, ◌*◌, ◌<◌, ◌≤◌}
use native.Mathlib.Nat.{mul-zero, mul-one, mul-add}
use native.Mathlib.Numerals.{add-one}
use native.Mathlib.Omega.{arith}
use mathlib.Core.Path.{◌≡◌, refl, ap, ◌∙◌}
use mathlib.Core.List.{List, [], ◌∷◌, ◌++◌}
use lib.ListN.{length, get_or, drop, drop_of_length-le}
use lib.Seq.{drop-cons}
use Rattle.text_out.specs.declared.Writer.{Writer}
use Rattle.text_out.specs.Out.{each_byte}
use Rattle.text_out.specs.Writes.{Writes}
use Rattle.text_out.proofs.Writing.{writes_nothing, then}

-- `left i` is still to be written behind i things, of which none has taken more than k bytes: it ends what was begun
pub record Goes (left : ℕ → List ℕ) (k : ℕ) (w₀ : Writer) (i : ℕ) (w : Writer) : Type 0 where
  pub few : w.at ≤ w₀.at + k * i
  pub rest : (u : Writer) → Writes w (left i) u → Writes w₀ (left 0) u

pub goes_none : (left : ℕ → List ℕ) (k : ℕ) (w : Writer) → Goes left k w 0 w
goes_none left k w = record { few = omega (arith, mul-zero k); rest = λ u h. h }

-- the text x of n things more
pub goes_on : {left : ℕ → List ℕ} {k : ℕ} {w₀ w v : Writer} {x : List ℕ} {i : ℕ} (n : ℕ) → Goes left k w₀ i w
    → left i ≡ x ++ left (i + n) → length x ≤ k * n → Writes w x v → Goes left k w₀ (i + n) v
goes_on {k = k} {i = i} n g e h p =
    record { few = omega (arith, g.few, p.wrote.count, mul-add k i n); rest = λ u q. g.rest u (rw e (then p q)) }

pub goes_over : {left : ℕ → List ℕ} {k : ℕ} {w₀ w : Writer} {i : ℕ} → Goes left k w₀ i w → left i ≡ [] → Writes w₀ (left 0) w
goes_over {w = w} g e = g.rest w (rw e (writes_nothing w))

-- the byte at i, and those behind it
pub byte_here : (s : List ℕ) (i : ℕ) → i < length s → drop i s ≡ get_or s i 0 ∷ drop (i + 1) s
byte_here s i h = drop-cons s i 0 h ∙ rw add-one

-- A TEXT FOR EACH BYTE of s, of at most k bytes
pub record Spells (f : ℕ → List ℕ) (k : ℕ) (w₀ : Writer) (s : List ℕ) (i : ℕ) (w : Writer) : Type 0 where
  pub goes : Goes (λ j. each_byte f (drop j s)) k w₀ i w

module _ {f : ℕ → List ℕ} {k : ℕ} {w₀ : Writer} {s : List ℕ} where
  pub spells_none : Spells f k w₀ s 0 w₀
  spells_none = record { goes = goes_none _ k w₀ }

  pub spells_on : {w v : Writer} {i : ℕ} → Spells f k w₀ s i w → i < length s → Writes w (f (get_or s i 0)) v
      → v.at ≤ w.at + k → Spells f k w₀ s (i + 1) v
  unfolding each_byte
  spells_on {i = i} g h p most =
      record { goes = goes_on 1 g.goes (ap (each_byte f) (byte_here s i h)) (omega (arith, p.wrote.count, most, mul-one k)) p }

  pub spells_over : {w : Writer} {i : ℕ} → Spells f k w₀ s i w → length s ≤ i → Writes w₀ (each_byte f s) w
  unfolding each_byte
  spells_over g h = goes_over g.goes (ap (each_byte f) (drop_of_length-le s h))

-- each byte as it is
abbrev pub itself : ℕ → List ℕ
itself b = b ∷ []

pub each_itself : (s : List ℕ) → each_byte itself s ≡ s
unfolding each_byte
each_itself [] = refl
each_itself (b ∷ s) = ap (λ (l : List ℕ). b ∷ l) (each_itself s)
