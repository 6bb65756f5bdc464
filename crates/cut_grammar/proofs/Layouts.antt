-- What holds of every layout: it moves forward and stays inside the tape, and a piece that ends at or before k is read alike
-- from the first k bytes alone. Each part of a layout has one law; a kind's law is its layout told once more. Assumes nothing.
use Prim.Native.Nat.{ℕ, zero, suc, ◌+◌, ◌≤◌, ◌<◌}
use mathlib.Core.Path.{◌≡◌, refl}
use mathlib.Core.Bool.{Bool, true, false}
use mathlib.Core.List.{List}
use mathlib.Core.Logic.{⊎_elim}
use native.Mathlib.Omega.{arith}
use lib.ListN.{length, take, length-take}
use lib.Seq.{get_or-take, take-take}
use lib.Dec.{leb}
use Rattle.law_base.proofs.Numbers.{lt_or_ge}
use Rattle.law_base.specs.Rules.{◌⇒◌, ◌∣◌}
use Rattle.std.specs.Prelude.{Ok, Err}
use Rattle.cut_fields.specs.Field.{Cursor, Read}
use Rattle.cut_grammar.specs.declared.NotCut.TheVariants as not_cut
use Rattle.cut_grammar.specs.Grammar.{Body}
use Rattle.cut_fields.specs.Field.{le_at, number_at, field_at, place_of}
use Rattle.cut_fields.specs.Run.{times, each_at, groups_at}
use Rattle.cut_fields.proofs.Runs.{field_there, field_short}
use Rattle.cut_grammar.specs.declared.Piece.{Piece}
use Rattle.cut_grammar.specs.Grammar.{Passed, bytes, fields, groups, texts, Layout, number, counted, here, pass, within, fitting}
use Rattle.cut_grammar.specs.Grammar.{whole, unknown, counted_at, texts_at, pass_at, whole_at, sealed, enclosed, fitting_at, unknown_at}
use Rattle.cut_grammar.specs.Grammar.{read_at}
use Rattle.cut_grammar.specs.Ends.{StandsIn, stands, stuck, Ends, ends, none, short, wide, Own}

-- two reads of which the first, where it ends at or before k, is the second
pub data OwnRead (l k : ℕ) : Read → Read → Type 0 where
  same : {v p : ℕ} → p ≤ k → OwnRead l k (record { value = v; cursor = Ok p }) (record { value = v; cursor = Ok p })
  beyond : {x y : Read} → StandsIn (k + 1) l x.cursor → OwnRead l k x y

pub data OwnPlace (l k : ℕ) : Cursor → Cursor → Type 0 where
  same : {p : ℕ} → p ≤ k → OwnPlace l k (Ok p) (Ok p)
  beyond : {x y : Cursor} → StandsIn (k + 1) l x → OwnPlace l k x y

-- what holds of all that moves a cursor
record Moves (f : List ℕ → Cursor → Cursor) : Type 0 where
  forward : (s : List ℕ) (a : ℕ) (c : Cursor) → StandsIn a (length s) c → StandsIn a (length s) (f s c)
  own : (s : List ℕ) (k p : ℕ) → p ≤ k → OwnPlace (length s) k (f s (Ok p)) (f (take k s) (Ok p))

-- a field reads the same from the bytes up to its end
le_own : (s : List ℕ) (k p w : ℕ) → p + w ≤ k → le_at (take k s) p w ≡ le_at s p w
unfolding le_at
le_own s k p zero h = refl
le_own s k p (suc w) h = rw (le_own s k (p + 1) w (omega arith), get_or-take k s p 0 (omega arith))

number_own : (s : List ℕ) (k p w : ℕ) → p + w ≤ k → number_at (take k s) p w ≡ number_at s p w
unfolding number_at
number_own s k p w h = rw (le_own s k p w h)

-- a field from p on stands from any place up to its end on
pub field_past : (s : List ℕ) (a p w : ℕ) → a ≤ p + w → StandsIn a (length s) (field_at s (Ok p) w).cursor
field_past s a p w h =
    ⊎_elim
    (λ (t : length s < p + w). rw (field_short s w p t) stuck)
    (λ (t : p + w ≤ length s). rw (field_there s w p t) (stands h t))
    (lt_or_ge (length s) (p + w))

pub field_forward : (w : ℕ) (s : List ℕ) (a : ℕ) (c : Cursor) → StandsIn a (length s) c
    → StandsIn a (length s) (field_at s c w).cursor
field_forward w s a (Ok p) (stands h t) = field_past s a p w (omega arith)
field_forward w s a (Err e) stuck = unfold field_at in stuck

pub field_own : (w : ℕ) (s : List ℕ) (k p : ℕ) → p ≤ k → OwnRead (length s) k (field_at s (Ok p) w) (field_at (take k s) (Ok p) w)
field_own w s k p h =
    ⊎_elim
    (λ (t : k < p + w). beyond (field_past s (k + 1) p w (omega arith)))
    (λ (t : p + w ≤ k).
    ⊎_elim
    (λ (u : length s < p + w). beyond (rw (field_short s w p u) stuck))
    (λ (u : p + w ≤ length s).
    let v : p + w ≤ length (take k s) = rw length-take (omega arith) in
    rw (field_there s w p u, field_there (take k s) w p v, number_own s k p w t) (same t))
    (lt_or_ge (length s) (p + w)))
    (lt_or_ge k (p + w))

-- a field as a move, a move after another, and a move n times
pub place_own : {l k : ℕ} {x y : Read} → OwnRead l k x y → OwnPlace l k x.cursor y.cursor
place_own (same h) = same h
place_own (beyond h) = beyond h

field_moves : (w : ℕ) → Moves (λ s c. (field_at s c w).cursor)
field_moves w = record { forward = field_forward w; own = λ s k p h. place_own (field_own w s k p h) }

then_own : {f : List ℕ → Cursor → Cursor} → Moves f → (s : List ℕ) (k : ℕ) {x y : Cursor} → OwnPlace (length s) k x y
    → OwnPlace (length s) k (f s x) (f (take k s) y)
then_own m s k (same h) = m.own s k _ h
then_own m s k (beyond h) = beyond (m.forward s (k + 1) _ h)

moves_then : {f g : List ℕ → Cursor → Cursor} → Moves f → Moves g → Moves (λ s c. g s (f s c))
moves_then {f} {g} m n =
    record { forward = λ s a c h. n.forward s a (f s c) (m.forward s a c h); own = λ s k p h. then_own n s k (m.own s k p h) }

module _ {f : List ℕ → Cursor → Cursor} (m : Moves f) where
  times_forward : (n : ℕ) (s : List ℕ) (a : ℕ) (c : Cursor) → StandsIn a (length s) c → StandsIn a (length s) (times (f s) n c)
  unfolding times
  times_forward zero s a c h = h
  times_forward (suc n) s a (Ok p) h = times_forward n s a (f s (Ok p)) (m.forward s a (Ok p) h)
  times_forward (suc n) s a (Err e) h = stuck

  times_own : (n : ℕ) (s : List ℕ) (k : ℕ) {x y : Cursor} → OwnPlace (length s) k x y
      → OwnPlace (length s) k (times (f s) n x) (times (f (take k s)) n y)
  unfolding times
  times_own zero s k o = o
  times_own (suc n) s k (same {p} h) = times_own n s k (m.own s k p h)
  times_own (suc n) s k (beyond {x} h) = beyond (times_forward (suc n) s (k + 1) x h)

  moves_times : (n : ℕ) → Moves (λ s c. times (f s) n c)
  moves_times n = record { forward = times_forward n; own = λ s k p h. times_own n s k (same h) }

-- a length and as many bytes: the second field where the first one ended
counted_own : (s : List ℕ) (k : ℕ) {x y : Read} → OwnRead (length s) k x y
    → OwnPlace (length s) k (field_at s x.cursor x.value).cursor (field_at (take k s) y.cursor y.value).cursor
counted_own s k (same {v} {p} h) = place_own (field_own v s k p h)
counted_own s k (beyond {x} h) = beyond (field_forward x.value s (k + 1) x.cursor h)

counted_moves : (w : ℕ) → Moves (λ s c. (counted_at s c w).cursor)
unfolding counted_at
counted_moves w =
    record {
      forward = λ s a c h. field_forward (field_at s c w).value s a (field_at s c w).cursor (field_forward w s a c h);
      own = λ s k p h. counted_own s k (field_own w s k p h);
    }

-- what is passed over
pass_moves : (part : Passed) → Moves (pass_at part)
unfolding pass_at each_at groups_at texts_at
pass_moves (bytes n) = field_moves n
pass_moves (fields n w) = moves_times (field_moves w) n
pass_moves (groups n h k w) = moves_times (moves_then (field_moves h) (moves_times (field_moves w) k)) n
pass_moves (texts n) = moves_times (moves_then (field_moves 1) (counted_moves 1)) n

-- the ends of layouts
whole_forward : (piece : Piece) (a b : ℕ) (c : Cursor) → StandsIn a b c → Ends a b (whole_at piece c)
unfolding whole_at
whole_forward piece a b (Ok p) (stands h t) = ends h t
whole_forward piece a b (Err e) stuck = short

unknown_forward : (described : Bool) (a b : ℕ) (c : Cursor) → Ends a b (unknown_at described c)
unknown_forward described a b (Ok p) = none
unknown_forward described a b (Err e) = short

sealed_forward : (a b end : ℕ) → a ≤ end → end ≤ b → (x : Body) → Ends a b (sealed end x)
unfolding sealed
sealed_forward a b end h t (Ok x) = ends h t
sealed_forward a b end h t (Err (not_cut.Unknown described)) = none
sealed_forward a b end h t (Err (not_cut.Short e)) = short
sealed_forward a b end h t (Err (not_cut.Overflow p)) = wide

enclosed_forward : (inner : ℕ → Body) (a b : ℕ) (c : Cursor) → StandsIn a b c → Ends a b (enclosed inner c)
unfolding enclosed
enclosed_forward inner a b (Ok end) (stands h t) = sealed_forward a b end h t (inner end)
enclosed_forward inner a b (Err e) stuck = short

fitting_forward : (bits a b : ℕ) (c : Cursor) (rest : Body) → Ends a b rest → Ends a b (fitting_at bits c rest)
unfolding fitting_at
fitting_forward bits a b (Ok p) rest h = by_cases (leb bits 4294967295)
  where
    by_cases : (t : Bool) → Ends a b (t ⇒ rest ∣ Err (not_cut.Overflow p))
    by_cases true = h
    by_cases false = wide
fitting_forward bits a b (Err e) rest h = h

-- a piece ends no earlier than the place where its layout began, and inside the tape
pub forward : (l : Layout) (s : List ℕ) (a : ℕ) (c : Cursor) → StandsIn a (length s) c → Ends a (length s) (read_at l s c)
unfolding read_at
forward (number w rest) s a c h = forward (rest (field_at s c w).value) s a (field_at s c w).cursor (field_forward w s a c h)
forward (counted w rest) s a c h =
    forward (rest (counted_at s c w).from (counted_at s c w).size) s a (counted_at s c w).cursor ((counted_moves w).forward s a c h)
forward (here rest) s a c h = forward (rest (place_of c)) s a c h
forward (pass part rest) s a c h = forward rest s a (pass_at part s c) ((pass_moves part).forward s a c h)
forward (within n inner) s a c h =
    enclosed_forward (λ end. read_at inner (take end s) c) a (length s) (field_at s c n).cursor (field_forward n s a c h)
forward (fitting bits rest) s a c h = fitting_forward bits a (length s) c (read_at rest s c) (forward rest s a c h)
forward (whole piece) s a c h = whole_forward piece a (length s) c h
forward (unknown described) s a c h = unknown_forward described a (length s) c

-- the rest of a layout after a move
module _ (s : List ℕ) (k : ℕ) where
  abbrev Rest : Layout → Type 0
  Rest l = (p : ℕ) → p ≤ k → Own (length s) k (read_at l s (Ok p)) (read_at l (take k s) (Ok p))

  after : (l : Layout) → Rest l → {x y : Cursor} → OwnPlace (length s) k x y
      → Own (length s) k (read_at l s x) (read_at l (take k s) y)
  after l r (same {p} h) = r p h
  after l r (beyond {x} h) = Own.beyond (forward l s (k + 1) x h)

  after_read : (rest : ℕ → Layout) → ((v : ℕ) → Rest (rest v)) → {x y : Read} → OwnRead (length s) k x y
      → Own (length s) k (read_at (rest x.value) s x.cursor) (read_at (rest y.value) (take k s) y.cursor)
  after_read rest r (same {v} {p} h) = r v p h
  after_read rest r (beyond {x} h) = Own.beyond (forward (rest x.value) s (k + 1) x.cursor h)

  after-span : (rest : ℕ → ℕ → Layout) → ((p v : ℕ) → Rest (rest p v)) → {x y : Read} → OwnRead (length s) k x y
      → Own (length s) k (read_at (rest (place_of x.cursor) x.value) s (field_at s x.cursor x.value).cursor)
      (read_at (rest (place_of y.cursor) y.value) (take k s) (field_at (take k s) y.cursor y.value).cursor)
  after-span rest r (same {v} {p} h) = after (rest (place_of (Ok p)) v) (r (place_of (Ok p)) v) (place_own (field_own v s k p h))
  after-span rest r (beyond {x} h) =
      Own.beyond (forward (rest (place_of x.cursor) x.value) s (k + 1) _ (field_forward x.value s (k + 1) x.cursor h))

  after_body : (inner : Layout) (p : ℕ) {x y : Cursor} → OwnPlace (length s) k x y
      → Own (length s) k (enclosed (λ end. read_at inner (take end s) (Ok p)) x)
      (enclosed (λ end. read_at inner (take end (take k s)) (Ok p)) y)
  unfolding enclosed
  after_body inner p (same {p = end} h) = rw (take-take end k s h) Own.same
  after_body inner p (beyond {x} h) =
      Own.beyond (enclosed_forward (λ end. read_at inner (take end s) (Ok p)) (k + 1) (length s) x h)

  after_bits : (bits p : ℕ) {x y : Body} → Own (length s) k x y → Own (length s) k (fitting_at bits (Ok p) x) (fitting_at bits (Ok p) y)
  unfolding fitting_at
  after_bits bits p {x} {y} o = by_cases (leb bits 4294967295)
    where
      by_cases : (t : Bool) → Own (length s) k (t ⇒ x ∣ Err (not_cut.Overflow p)) (t ⇒ y ∣ Err (not_cut.Overflow p))
      by_cases true = o
      by_cases false = Own.same

-- a piece that ends at or before k is read alike from the first k bytes
pub own : (l : Layout) (s : List ℕ) (k p : ℕ) → p ≤ k → Own (length s) k (read_at l s (Ok p)) (read_at l (take k s) (Ok p))
unfolding read_at counted_at whole_at
own (number w rest) s k p h = after_read s k rest (λ v. own (rest v) s k) (field_own w s k p h)
own (counted w rest) s k p h = after-span s k rest (λ q v. own (rest q v) s k) (field_own w s k p h)
own (here rest) s k p h = own (rest (place_of (Ok p))) s k p h
own (pass part rest) s k p h = after s k rest (own rest s k) ((pass_moves part).own s k p h)
own (within n inner) s k p h = after_body s k inner p (place_own (field_own n s k p h))
own (fitting bits rest) s k p h = after_bits s k bits p (own rest s k p h)
own (whole piece) s k p h = Own.same
own (unknown described) s k p h = Own.same
