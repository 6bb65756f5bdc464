-- The parts of a line: their lengths, and one tone row more. Assumes nothing.
use Prim.Native.Nat.{ℕ, zero, suc, ◌+◌, ◌*◌, ◌≤◌}
use native.Mathlib.Nat.{add-zero, mul-suc}
use native.Mathlib.Numerals.{add-one}
use native.Mathlib.Omega.{arith}
use mathlib.Core.Path.{◌≡◌, refl, sym, ap, ◌∙◌}
use mathlib.Core.Bool.{Bool, true, false}
use mathlib.Core.List.{List, [], ◌++◌, append-nil, append_assoc}
use lib.ListN.{length, length-append}
use Rattle.rows.specs.Table.{get}
use Rattle.rows.specs.Rows.{tone}
use Rattle.rows.specs.declared.Tone.{Tone}
use Rattle.text_out.proofs.Writing.{decimal-length}
use Rattle.play_entries.specs.declared.Duration.{Duration}
use Rattle.text_value.specs.Values.{flag}
use Rattle.text_value.proofs.Lengths.{duration_length}
use Rattle.text_view.specs.View.{tones_from}
use Rattle.text_view.specs.Dump.{hex, tone_text, tones_text, field, sel_text, bits_text, end_text, head_text}

pub hex-length : (b : ℕ) → length (hex b) ≤ 2
unfolding hex
hex-length b = omega arith

pub tone-length : (t : Tone) → length (tone_text t) ≤ 63
unfolding tone_text
tone-length t =
    simp length-append (omega (arith, decimal-length t.num, decimal-length t.len1, decimal-length t.len2))

pub mark_length : (i : ℕ) (b : Bool) → length (sel_text i b) ≤ 26
unfolding sel_text flag
mark_length i true = simp length-append (omega (arith, decimal-length i))
mark_length i false = simp length-append (omega (arith, decimal-length i))

pub bits_length : (nil one last : ℕ) → length (bits_text nil one last) ≤ 77
unfolding bits_text field
bits_length nil one last = simp length-append (omega (arith, decimal-length nil, decimal-length one, decimal-length last))

end_length : (p : Duration) → length (end_text p) ≤ 33
unfolding end_text
end_length p = simp length-append (omega (arith, duration_length p))

pub head_length : (i : ℕ) (b : Bool) (nil one last : ℕ) (p : Duration) → length (head_text i b nil one last p) ≤ 136
unfolding head_text
head_length i b nil one last p =
    simp length-append (omega (arith, mark_length i b, bits_length nil one last, end_length p))

module _ (tones : List ℕ) where
  more : (from i : ℕ)
      → tones_text (tones_from tones from (suc i)) ≡ tones_text (tones_from tones from i) ++ tone_text (get tone tones (from + i))
  unfolding tones_text tones_from
  more from zero = rw (append-nil (tone_text (get tone tones from)), add-zero)
  more from (suc i) =
      let e : from + 1 + i ≡ from + suc i = omega arith in
      ap (λ (l : List ℕ). tone_text (get tone tones from) ++ l) (more (from + 1) i ∙ rw e)
      ∙ sym
      (append_assoc (tone_text (get tone tones from)) (tones_text (tones_from tones (from + 1) i)) (tone_text (get tone tones (from + suc i))))

  pub tones_none : (from : ℕ) → tones_text (tones_from tones from 0) ≡ []
  unfolding tones_text tones_from
  tones_none from = refl

  -- one row more
  pub tones_next : (from i : ℕ)
      → tones_text (tones_from tones from (i + 1)) ≡ tones_text (tones_from tones from i) ++ tone_text (get tone tones (from + i))
  tones_next from i = rw (add-one i) (more from i)

  pub tones-length : (from n : ℕ) → length (tones_text (tones_from tones from n)) ≤ 63 * n
  unfolding tones_text tones_from
  tones-length from zero = omega arith
  tones-length from (suc n) = simp (length-append, mul-suc) (omega (arith, tone-length (get tone tones from), tones-length (from + 1) n))

-- by which a loop over tone rows is one write of their texts
pub ruleset rows_more = (tones_none, tones_next, tones-length)
