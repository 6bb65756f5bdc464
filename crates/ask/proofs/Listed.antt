-- THE TIMES BY THE PULSE LIST: on every table that a load leaves they are those by the rows' words; and on any table the loading time
-- is refused where the list comes to a row that is not well formed. Assumes nothing.
use Prim.Native.Nat.{ℕ, zero, suc, ◌+◌, ◌≤◌, ◌<◌}
use native.Mathlib.Omega.{arith}
use borrow.Author.Tests.{eqb-true, eqb-false, lt-ltb, le-ltb}
use mathlib.Core.Path.{◌≡◌, refl, sym, ap, subst, ◌∙◌}
use mathlib.Core.Bool.{Bool, true, false, not, ◌&&◌}
use mathlib.Core.Logic.{⊎_elim}
use lib.Dec.{ltb, eqb}
use Rattle.law_base.specs.Rules.{◌⇒◌, ◌∣◌}
use Rattle.law_base.proofs.Numbers.{lt_or_ge}
use Rattle.law_pulses.specs.Play.{comes_to}
use Rattle.law_pulses.specs.Source.{is_ended}
use Rattle.play_entries.specs.Places.{Tape, block_in, list_from, load_time}
use Rattle.play_entries.specs.Stored.{Timed}
use Rattle.play_entries.specs.Mounted.{well_row, cut_to, formed, WholeTape}
use Rattle.play_entries.proofs.Loading.{comes_stop, comes_on, comes_out}
use Rattle.play_entries.proofs.Formed.{WellUpTo, needed, whole-formed}
use Rattle.play_entries.proofs.Stored.{stored_lasts, stored_time}
use Rattle.std.specs.Prelude.{Result, Ok, Err}
use Rattle.rows.specs.declared.Block.{Block}
use Rattle.refusals.specs.declared.Refusal.{Refusal}
use Rattle.play_entries.specs.Entries.{entries_of, lasts_of}
use Rattle.play_entries.specs.Stored.{row_lasts}
use Rattle.ask.specs.Queries.{told_of, asked, time_of, well_to_stop, loading_of}
use Rattle.ask.proofs.Refusals.{answerable}
use Rattle.ask.specs.Listed.{time_listed, loading_in, loading_listed}
use Rattle.ask.proofs.Answers.{not-over, loading_whole}
use Rattle.ask.proofs.Needed.{need_none, need_bad, need_stop, need_on}

pub time_by_list : (w : Tape) → Timed w → (i : ℕ) → i < w.count → time_of w i ≡ time_listed w i
unfolding time_of time_listed told_of
time_by_list w timed i h = of (asked w i) refl
  where
    of : (a : Result Block Refusal) → asked w i ≡ a → told_of row_lasts a ≡ told_of (λ r. lasts_of (entries_of w.bytes w.tones i r)) a
    of (Err k) e = refl
    of (Ok r) e = ap Ok (subst (λ (b : Block). row_lasts b ≡ lasts_of (entries_of w.bytes w.tones i b)) (answerable w i r (sym e)).row (stored_lasts w timed i h))

-- a rule whose second test fails
never : {A : Type 0} (t : Bool) (x y : A) → ((t && false) ⇒ x ∣ y) ≡ y
never true x y = refl
never false x y = refl

module _ (w : Tape) (whole : WholeTape w) where
  -- none of it is cut
  uncut : loading_in w w ≡ Ok (load_time w)
  unfolding loading_in
  uncut = rw (le-ltb w.count w.count (omega arith)) (never (is_ended (comes_to (list_from w 0))) _ _)

  pub listed-whole : loading_listed w ≡ Ok (load_time w)
  unfolding loading_listed
  listed-whole = rw (not-over w whole) (ap (loading_in w) (whole-formed w whole 0) ∙ uncut)

  pub loading_by_list : Timed w → loading_of w ≡ loading_listed w
  loading_by_list timed = loading_whole w whole ∙ ap Ok (stored_time w timed) ∙ sym listed-whole

-- ON ANY TAPE, cut at its first row that is not well formed: each row that is needed is well formed, unless the list ends at the cut
not_cut : (t : Bool) → true ≡ not (t && false)
not_cut true = refl
not_cut false = refl

module _ (w : Tape) (k : ℕ) (x : WellUpTo w 0 k) where
  abbrev at_cut : ℕ → Bool
  at_cut b = is_ended (comes_to (list_from (cut_to w k) b)) && ltb k w.count

  -- a row before the cut, by what follows; and the one there
  before_cut : (b n : ℕ) → b < k → well_to_stop w (b + 1) n ≡ not (at_cut (b + 1)) → well_to_stop w b (suc n) ≡ not (at_cut b)
  before_cut b n h next = of (eqb (block_in w b).endless 1) refl
    where
      g : well_row w b ≡ true
      g = x.well b (omega arith) h

      of : (t : Bool) → eqb (block_in w b).endless 1 ≡ t → well_to_stop w b (suc n) ≡ not (at_cut b)
      of true e = need_stop w b n g e ∙ rw (comes_stop (cut_to w k) b h (eqb-true _ _ e))
      of false e = sym (need_on w b n g e) ∙ rw (comes_on (cut_to w k) b h (eqb-false _ _ e)) next

  there : (b n : ℕ) → k ≡ b → b < w.count → well_to_stop w b (suc n) ≡ not (at_cut b)
  there b n z h =
      let g : well_row w b ≡ false = ap (well_row w) (sym z) ∙ x.bad (omega arith) in
      need_bad w b n g ∙ rw (comes_out (cut_to w k) b (omega arith), lt-ltb k w.count (omega arith))

  -- of the n rows from b on to the count
  needs_cut : (b n : ℕ) → b + n ≡ w.count → b ≤ k → well_to_stop w b n ≡ not (at_cut b)
  needs_cut b zero e h =
      need_none w b ∙ rw (le-ltb k w.count (omega (arith, x.most))) (not_cut (is_ended (comes_to (list_from (cut_to w k) b))))
  needs_cut b (suc n) e h =
      ⊎_elim (λ l. before_cut b n l (needs_cut (b + 1) n (omega arith) (omega arith)))
      (λ g. there b n (omega arith) (omega arith)) (lt_or_ge b k)

pub to_stop : (w : Tape)
    → well_to_stop w 0 w.count ≡ not (is_ended (comes_to (list_from (formed w 0) 0)) && ltb (formed w 0).count w.count)
unfolding formed
to_stop w = needs_cut w _ (needed w 0 (omega arith)) 0 w.count (omega arith) (omega arith)
