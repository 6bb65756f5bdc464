-- MORE THAN 69,544 BYTES need not be read: what is printed of an input is printed of so many. Assumes nothing.
use Prim.Native.Nat.{ℕ, zero, suc, ◌+◌, ◌≤◌}
use native.Mathlib.Omega.{arith}
use mathlib.Core.Path.{◌≡◌, refl, sym, ap, ◌∙◌}
use mathlib.Core.Bool.{Bool, true, false, not, ◌&&◌}
use mathlib.Core.Logic.{⊎_elim}
use mathlib.Core.List.{List}
use lib.Dec.{ltb, leb, eqb}
use lib.ListN.{length, length-drop, get_or, take}
use lib.Seq.{length-take-le, take_all, get_or-take}
use borrow.Author.Tests.{lt-ltb, le-leb, leb-true, ne_eqb}
use Rattle.text_out.specs.Out.{refused_line}
use Rattle.law_base.specs.Rules.{◌⇒◌, ◌∣◌}
use Rattle.law_base.proofs.Numbers.{lt_or_ge}
use Rattle.refusals.specs.Refusals.{bad_model, tape_long, no_position}
use Rattle.std.specs.Prelude.{Ok}
use Rattle.cut_fields.specs.Field.{Read, le_at, number_at, field_at, came_short}
use Rattle.prog_model.specs.Models.{model_of}
use Rattle.prog_calls.specs.Playback.{is_player, calls_in, tape_from, tape_in, is_description}
use Rattle.prog_calls.specs.Trace.{described_text, trace_text}

-- the first bytes say how many calls there are
le_same : (s : List ℕ) (k p w : ℕ) → p + w ≤ k → le_at (take k s) p w ≡ le_at s p w
unfolding le_at
le_same s k p zero h = refl
le_same s k p (suc w) h = rw (le_same s k (p + 1) w (omega arith), get_or-take k s p 0 (omega arith))

calls_there : (s : List ℕ) → 8 ≤ length s → calls_in s ≡ le_at s 6 2
unfolding field_at number_at
calls_there s h =
    let there : Read = record { value = le_at s 6 2; cursor = Ok 8 } in
    let short : Read = record { value = 0; cursor = came_short 6 2 } in
    let read : (leb 8 (length s) ⇒ there ∣ short) ≡ there = rw (le-leb 8 (length s) h) in
    ap (λ (r : Read). r.value) read

-- what is printed where no run can be: of a byte for the model, one for the player, and so many calls
long_text : ℕ → ℕ → ℕ → List ℕ
long_text b p n =
    eqb (model_of b) 3 ⇒ refused_line bad_model
    ∣ not (is_player p && leb n 1000) ⇒ refused_line no_position
    ∣ refused_line tape_long

module _ (s : List ℕ) (h : 69544 ≤ length s) where
  -- whatever is printed of a tape that is not too long
  undescribed : (x c : Bool) → leb (calls_in s) 1000 ≡ c → (t : List ℕ)
      → (not (x && (c && leb (tape_from s) (length s))) ⇒ refused_line no_position
      ∣ ltb 65535 (length (tape_in s)) ⇒ refused_line tape_long
      ∣ t) ≡ (not (x && c) ⇒ refused_line no_position ∣ refused_line tape_long)
  undescribed true true e t =
      let k = leb-true (calls_in s) 1000 e in
      rw (le-leb (tape_from s) (length s) (omega arith), lt-ltb 65535 (length (tape_in s)) (omega (arith, length-drop (tape_from s) s)))
  undescribed true false e t = refl
  undescribed false c e t = refl

  long_text_lem : trace_text s ≡ long_text (get_or s 0 0) (get_or s 1 0) (calls_in s)
  unfolding trace_text described_text is_description long_text
  long_text_lem =
      rw (ne_eqb (length s) 0 (omega arith), le-leb 8 (length s) (omega arith))
      (ap (λ (t : List ℕ). eqb (model_of (get_or s 0 0)) 3 ⇒ refused_line bad_model ∣ t)
      (undescribed (is_player (get_or s 1 0)) (leb (calls_in s) 1000) refl _))

pub read_enough : (s : List ℕ) → trace_text (take 69544 s) ≡ trace_text s
read_enough s =
    ⊎_elim
    (λ l. ap trace_text (take_all 69544 s (omega arith)))
    (λ g.
    let f = take 69544 s in
    let n : length f ≡ 69544 = length-take-le 69544 s g in
    long_text_lem f (omega arith)
    ∙ ap (λ (b : ℕ). long_text b (get_or f 1 0) (calls_in f)) (get_or-take 69544 s 0 0 (omega arith))
    ∙ ap (λ (p : ℕ). long_text (get_or s 0 0) p (calls_in f)) (get_or-take 69544 s 1 0 (omega arith))
    ∙ ap (long_text (get_or s 0 0) (get_or s 1 0))
    (calls_there f (omega arith) ∙ le_same s 69544 6 2 (omega arith) ∙ sym (calls_there s (omega arith)))
    ∙ sym (long_text_lem s g))
    (lt_or_ge (length s) 69544)
