-- THE FIELDS OF A PIECE IN READING ORDER, and which of them is the first that is not all there. A field has its place, its width and the
-- end of the bytes that it is read from: the tape's, and inside the body of a 32 the body's. No cursor is here and nothing comes up short:
-- behind the last byte zeros are read. Definitions alone; assumes nothing.
use Rattle.std.specs.Prelude.{ℕ, zero, suc, ◌+◌, ◌≤◌, ◌<◌, List, [], ◌∷◌, length, take, leb}
use Rattle.law_base.specs.Rules.{◌⇒◌, ◌∣◌}
use Rattle.cut_fields.specs.Field.{number_at}
use Rattle.cut_grammar.specs.Grammar.{Passed, bytes, fields, groups, texts, Layout, number, counted, here, pass, within, fitting}
use Rattle.cut_grammar.specs.Grammar.{whole, unknown}

pub record Field : Type 0 where
  pub place : ℕ
  pub width : ℕ
  pub end : ℕ

-- a field of the bytes s
abbrev pub field_in : List ℕ → ℕ → ℕ → Field
field_in s p w = record { place = p; width = w; end = length s }

-- of n fields of w bytes, and of what follows them
unfoldable pub each_trace : List ℕ → ℕ → ℕ → (ℕ → List Field) → ℕ → List Field
each_trace s zero w follow p = follow p
each_trace s (suc n) w follow p = field_in s p w ∷ each_trace s n w follow (p + w)

-- of n groups of a field of h bytes and k fields of w bytes
unfoldable pub groups_trace : List ℕ → ℕ → ℕ → ℕ → ℕ → (ℕ → List Field) → ℕ → List Field
groups_trace s zero h k w follow p = follow p
groups_trace s (suc n) h k w follow p = field_in s p h ∷ each_trace s k w (groups_trace s n h k w follow) (p + h)

-- of a length of w bytes and as many bytes
unfoldable pub counted_trace : List ℕ → ℕ → (ℕ → List Field) → ℕ → List Field
counted_trace s w follow p = field_in s p w ∷ field_in s (p + w) (number_at s p w) ∷ follow (p + w + number_at s p w)

-- of n texts
unfoldable pub texts_trace : List ℕ → ℕ → (ℕ → List Field) → ℕ → List Field
texts_trace s zero follow p = follow p
texts_trace s (suc n) follow p = field_in s p 1 ∷ counted_trace s 1 (texts_trace s n follow) (p + 1)

unfoldable pub pass_trace : Passed → List ℕ → (ℕ → List Field) → ℕ → List Field
pass_trace (bytes n) s follow p = field_in s p n ∷ follow (p + n)
pass_trace (fields n w) s follow p = each_trace s n w follow p
pass_trace (groups n h k w) s follow p = groups_trace s n h k w follow p
pass_trace (texts n) s follow p = texts_trace s n follow p

-- THE FIELDS OF A LAYOUT that stands from p on
unfoldable pub trace : Layout → List ℕ → ℕ → List Field
trace (number w rest) s p = field_in s p w ∷ trace (rest (number_at s p w)) s (p + w)
trace (counted w rest) s p = counted_trace s w (trace (rest (p + w) (number_at s p w)) s) p
trace (here rest) s p = trace (rest p) s p
trace (pass part rest) s p = pass_trace part s (trace rest s) p
trace (within n inner) s p = field_in s p n ∷ trace inner (take (p + n) s) p
trace (fitting bits rest) s p = leb bits 4294967295 ⇒ trace rest s p ∣ []
trace (whole piece) s p = []
trace (unknown described) s p = []

-- of the head of a TZX: one; of a block of a TAP: a length of 2 bytes, and data
unfoldable pub head_trace : List ℕ → List Field
head_trace s = field_in s 0 10 ∷ []

unfoldable pub tap_trace : List ℕ → ℕ → List Field
tap_trace s at = counted_trace s 2 (λ p. []) at

abbrev pub IsThere : Field → Type 0
IsThere f = f.place + f.width ≤ f.end

abbrev pub NotAllThere : Field → Type 0
NotAllThere f = f.end < f.place + f.width

-- THE FIRST FIELD THAT IS NOT ALL THERE: those before it are
pub data FirstShort : List Field → Field → Type 0 where
  this : {f : Field} {fs : List Field} → NotAllThere f → FirstShort (f ∷ fs) f
  later : {f g : Field} {fs : List Field} → IsThere f → FirstShort fs g → FirstShort (f ∷ fs) g

-- FIELDS THAT ARE ALL THERE, each of them
pub data AllThere : List Field → Type 0 where
  nil : AllThere []
  cons : {f : Field} {fs : List Field} → IsThere f → AllThere fs → AllThere (f ∷ fs)
