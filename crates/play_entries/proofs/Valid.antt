-- What a valid position is, as facts, and back. Assumes nothing.
use Prim.Native.Nat.{ℕ, ◌≤◌, ◌<◌, min}
use native.Mathlib.Nat.{eq-zero-or-pos}
use native.Mathlib.Omega.{arith}
use borrow.Author.Tests.{leb-true, le-leb, lt-leb, ltb-true, lt-ltb, ne_eqb, not-true}
use mathlib.Core.Path.{◌≡◌, refl, ap, subst}
use mathlib.Core.Bool.{Bool, true, false, not, ◌&&◌, ◌||◌}
use mathlib.Core.Logic.{⊎_elim}
use mathlib.Core.List.{List}
use lib.Dec.{leb, ltb, eqb}
use Rattle.law_base.proofs.Tests.{first, second, other}
use Rattle.rows.specs.declared.Block.{Block}
use Rattle.play_entries.specs.declared.Phase.{Phase}
use Rattle.play_entries.specs.declared.Phase.TheVariants.{Start, Tones, Data, Edge, Pause}
use Rattle.play_entries.specs.declared.Duration.{Duration}
use Rattle.play_entries.specs.declared.Duration.TheVariants.{T, Endless}
use Rattle.rows.specs.Well.{well_numbers}
use Rattle.play_entries.proofs.Bounds.{bits_most}
use Rattle.play_entries.specs.Entries.{cycles_of, is_single, tone_at, bits_at}
use Rattle.play_entries.specs.Places.{Tape, has_entry, length_at, remains, is_start, is_none, valid, has_in, length_in}

-- what may be left of t T-states
pub remains-within : (n t : ℕ) → min 1 t ≤ n → n ≤ t → remains (T n) (T t) ≡ true
unfolding remains
remains-within n t p q = rw (le-leb (min 1 t) n p, le-leb n t q)

pub within-remains : (n t : ℕ) → remains (T n) (T t) ≡ true → (min 1 t ≤ n) × (n ≤ t)
unfolding remains
within-remains n t e = (leb-true _ _ (first (leb (min 1 t) n) (leb n t) e), leb-true _ _ (second (leb (min 1 t) n) (leb n t) e))

-- of none left
pub none_within : (t : ℕ) → eqb t 0 ≡ (leb (min 1 t) 0 && leb 0 t)
none_within t =
    ⊎_elim
    (λ z. rw z)
    (λ p. rw (ne_eqb t 0 (λ z. omega arith), lt-leb (min 1 t) 0 (omega arith)))
    (eq-zero-or-pos t)

pub remains-full : (d : Duration) → remains d d ≡ true
unfolding remains
remains-full (T t) = rw (le-leb (min 1 t) t (omega arith), le-leb t t (omega arith))
remains-full Endless = refl

pub remains_less : (n u : ℕ) (d : Duration) → 0 < u → u ≤ n → remains (T n) d ≡ true → remains (T u) d ≡ true
unfolding remains
remains_less n u (T t) p h e = let k = within-remains n t e in remains-within u t (omega arith) (omega arith)
remains_less n u Endless p h e = cc

-- a block's entries of tones and of data
module _ (tones : List ℕ) (r : Block) where
  pub tone-entry : (i p : ℕ) (h : Bool) → has_entry tones r (Tones i p h) ≡ true
      → (i < r.tones) × (p < cycles_of r (tone_at tones r i))
  unfolding has_entry
  tone-entry i p h e =
      let a = ltb i r.tones in
      let b = ltb p (cycles_of r (tone_at tones r i)) in
      let c = not (h && is_single r (tone_at tones r i)) in
      (ltb-true _ _ (first a (b && c) e), ltb-true _ _ (first b c (second a (b && c) e)))

  -- a second pulse is there where a repetition has two
  pub tone_second : (i p : ℕ) → has_entry tones r (Tones i p true) ≡ true → is_single r (tone_at tones r i) ≡ false
  unfolding has_entry
  tone_second i p e =
      let a = ltb i r.tones in
      let b = ltb p (cycles_of r (tone_at tones r i)) in
      let c = not (is_single r (tone_at tones r i)) in
      not-true _ (second b c (second a (b && c) e))

  pub has_tone : (i p : ℕ) → i < r.tones → p < cycles_of r (tone_at tones r i) → has_entry tones r (Tones i p false) ≡ true
  unfolding has_entry
  has_tone i p k l = rw (lt-ltb i r.tones k, lt-ltb p (cycles_of r (tone_at tones r i)) l)

  pub has_second : (i p : ℕ) → i < r.tones → p < cycles_of r (tone_at tones r i) → is_single r (tone_at tones r i) ≡ false
      → has_entry tones r (Tones i p true) ≡ true
  unfolding has_entry
  has_second i p k l e = rw (lt-ltb i r.tones k, lt-ltb p (cycles_of r (tone_at tones r i)) l, e)

  pub data_entry : (pos k : ℕ) (h : Bool) → has_entry tones r (Data pos k h) ≡ true → (pos < r.size) × (k < bits_at r pos)
  unfolding has_entry
  data_entry pos k h e =
      let a = ltb pos r.size in
      let b = ltb k (bits_at r pos) in
      (ltb-true _ _ (first a b e), ltb-true _ _ (second a b e))

  pub has_data : (pos k : ℕ) (h : Bool) → pos < r.size → k < bits_at r pos → has_entry tones r (Data pos k h) ≡ true
  unfolding has_entry
  has_data pos k h l g = rw (lt-ltb pos r.size l, lt-ltb k (bits_at r pos) g)

-- the same of a phase that a match told
pub in_tones : (tones : List ℕ) (r : Block) {f : Phase} {i p : ℕ} {h : Bool}
    → f ≡ Tones i p h → has_entry tones r f ≡ true → (i < r.tones) × (p < cycles_of r (tone_at tones r i))
in_tones tones r {i = i} {p = p} {h = h} g e = tone-entry tones r i p h (subst (λ (f : Phase). has_entry tones r f ≡ true) g e)

pub in_data : (tones : List ℕ) (r : Block) {f : Phase} {pos k : ℕ} {h : Bool}
    → f ≡ Data pos k h → has_entry tones r f ≡ true → (pos < r.size) × (k < bits_at r pos)
in_data tones r {pos = pos} {k = k} {h = h} g e = data_entry tones r pos k h (subst (λ (f : Phase). has_entry tones r f ≡ true) g e)

-- the same place by place, as a check looks for them
module _ (tones : List ℕ) (r : Block) (f : Phase) where
  pub tone_index : (i p : ℕ) (h : Bool) → f ≡ Tones i p h → has_entry tones r f ≡ true → i < r.tones
  tone_index i p h g e = (in_tones tones r g e).0

  pub cycle_index : (i p : ℕ) (h : Bool) → f ≡ Tones i p h → has_entry tones r f ≡ true → p < cycles_of r (tone_at tones r i)
  cycle_index i p h g e = (in_tones tones r g e).1

  pub byte_index : (pos k : ℕ) (h : Bool) → f ≡ Data pos k h → has_entry tones r f ≡ true → pos < r.size
  byte_index pos k h g e = (in_data tones r g e).0

  pub bit_index : (pos k : ℕ) (h : Bool) → f ≡ Data pos k h → has_entry tones r f ≡ true → k < bits_at r pos
  bit_index pos k h g e = (in_data tones r g e).1

  pub bit_below : (pos k : ℕ) (h : Bool) → f ≡ Data pos k h → has_entry tones r f ≡ true → well_numbers r ≡ true → k < 8
  bit_below pos k h g e w = omega (arith, bit_index pos k h g e, bits_most r pos w (byte_index pos k h g e))

-- an entry of a block below the count
pub record Stands (w : Tape) (b : ℕ) (f : Phase) (left : Duration) : Type 0 where
  pub below : b < w.count
  pub entry : has_in w b f ≡ true
  pub some : remains left (length_in w b f) ≡ true

pub stands-valid : (w : Tape) (b : ℕ) (f : Phase) (left : Duration) → Stands w b f left → valid w b f left ≡ true
unfolding valid
stands-valid w b f left s = rw (lt-ltb b w.count s.below, s.entry, s.some) (by-true (is_start f && is_none left))
  where
    by-true : (a : Bool) → (a || true) ≡ true
    by-true true = refl
    by-true false = refl

pub valid-stands : (w : Tape) (b : ℕ) (f : Phase) (left : Duration) → is_start f ≡ false → valid w b f left ≡ true
    → Stands w b f left
unfolding valid
valid-stands w b f left s e =
    let n : (is_start f && is_none left) ≡ false = rw s in
    let t = has_in w b f && remains left (length_in w b f) in
    let x = other (is_start f && is_none left) (ltb b w.count && t) e n in
    let y = second (ltb b w.count) t x in
    record {
      below = ltb-true _ _ (first (ltb b w.count) t x);
      entry = first (has_in w b f) (remains left (length_in w b f)) y;
      some = second (has_in w b f) (remains left (length_in w b f)) y;
    }

pub start_valid : (w : Tape) (b : ℕ) → valid w b Start (T 0) ≡ true
unfolding valid
start_valid w b = refl

pub valid_start : (w : Tape) (b : ℕ) (left : Duration) → valid w b Start left ≡ true → left ≡ T 0
unfolding valid has_entry length_at remains
valid_start w b (T n) e =
    ⊎_elim (λ z. ap T z)
    (λ p.
    let x = other (eqb n 0) (ltb b w.count && (leb (min 1 0) n && leb n 0)) e (ne_eqb n 0 (λ z. omega arith)) in
    absurd (omega (arith, within-remains n 0 (second (ltb b w.count) (leb (min 1 0) n && leb n 0) x))))
    (eq-zero-or-pos n)
valid_start w b Endless e = let x : false ≡ true = second (ltb b w.count) false e in cc

-- below the count a start, too, is an entry of its block
pub below_stands : (w : Tape) (b : ℕ) (f : Phase) (left : Duration) → b < w.count → valid w b f left ≡ true → Stands w b f left
unfolding has_entry length_at
below_stands w b Start left h e = record { below = h; entry = refl; some = rw (valid_start w b left e) (remains-full (T 0)) }
below_stands w b (Tones i p l) left h e = valid-stands w b (Tones i p l) left refl e
below_stands w b (Data pos k l) left h e = valid-stands w b (Data pos k l) left refl e
below_stands w b Edge left h e = valid-stands w b Edge left refl e
below_stands w b Pause left h e = valid-stands w b Pause left refl e
