-- ON A WHOLE TAPE, whose counted rows are all lent and well formed, no query answers 8, 9 or 11: each answer without its refusals.
-- Assumes nothing.
use Prim.Native.Nat.{ℕ, ◌<◌}
use borrow.Author.Tests.{le-ltb}
use mathlib.Core.Path.{◌≡◌, refl, sym, ap, ◌∙◌}
use mathlib.Core.Bool.{Bool, true, false}
use mathlib.Core.List.{List}
use lib.Dec.{eqb}
use native.Mathlib.Omega.{arith}
use Rattle.law_base.specs.Rules.{◌⇒◌, ◌∣◌}
use Rattle.std.specs.Prelude.{Ok, Err}
use Rattle.refusals.specs.declared.Refusal.TheVariants.{NoRoom}
use Rattle.refusals.specs.Refusals.{answer_no, no_room}
use Rattle.text_out.specs.Out.{fits}
use Rattle.play_entries.specs.Places.{Tape, block_in}
use Rattle.play_entries.specs.Stored.{row_lasts, rows_time}
use Rattle.play_entries.specs.Mounted.{overfull, WholeTape}
use Rattle.ask.specs.Queries.{told_of, asked, len_of, size_of, named_or}
use Rattle.ask.specs.Queries.{selectable_of, time_of, name_in, length_or_no_room, name_answer, loading_of, EachAnswered}
use Rattle.ask.proofs.Refusals.{asked_well}
use Rattle.ask.proofs.Needed.{need_whole}
use Rattle.ask.proofs.Loads.{loading_given}

module _ (w : Tape) (whole : WholeTape w) where
  pub not-over : overfull w ≡ false
  not-over = le-ltb _ _ whole.lent

  pub len_whole : len_of w ≡ Ok w.count
  unfolding len_of
  len_whole = rw not-over

  pub loading_whole : loading_of w ≡ Ok (rows_time w)
  loading_whole = sym (loading_given w not-over (need_whole w whole 0 w.count (omega arith)))

  module _ (i : ℕ) (h : i < w.count) where
    there : asked w i ≡ Ok (block_in w i)
    there = asked_well w i not-over h (whole.rows i h)

    pub size_whole : size_of w i ≡ Ok (block_in w i).size
    unfolding size_of told_of
    size_whole = rw there

    pub selectable_whole : selectable_of w i ≡ Ok (eqb (block_in w i).selectable 1)
    unfolding selectable_of told_of
    selectable_whole = rw there

    pub time-whole : time_of w i ≡ Ok (row_lasts (block_in w i))
    unfolding time_of told_of
    time-whole = rw there

    pub name_whole : (out : List ℕ) → name_answer w i out ≡ length_or_no_room (name_in w i) out
    unfolding name_answer named_or
    name_whole out = rw there

pub whole_answered : (w : Tape) → WholeTape w → (i : ℕ) → i < w.count → EachAnswered w i
unfolding length_or_no_room
whole_answered w whole i h =
    record {
      len = ap answer_no (len_whole w whole);
      size = ap answer_no (size_whole w whole i h);
      selectable = ap answer_no (selectable_whole w whole i h);
      lasts = ap answer_no (time-whole w whole i h);
      name = λ out. ap answer_no (name_whole w whole i h out) ∙ length-no (name_in w i) out;
      loading = ap answer_no (loading_whole w whole);
    }
  where
    by_room : (t : Bool) (n : ℕ) → answer_no (t ⇒ Ok n ∣ Err NoRoom) ≡ (t ⇒ 0 ∣ no_room)
    by_room true n = refl
    by_room false n = refl

    length-no : (text out : List ℕ) → answer_no (length_or_no_room text out) ≡ (fits text out ⇒ 0 ∣ no_room)
    length-no text out = by_room (fits text out) _
