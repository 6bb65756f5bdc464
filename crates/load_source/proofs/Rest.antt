-- What is left of a reading gives its answer: the invariant of both loops. Assumes nothing.
use Prim.Native.Nat.{ℕ, zero, suc, ◌+◌, ◌-◌, ◌≤◌, ◌<◌}
use mathlib.Core.Path.{◌≡◌, refl, sym, ap, subst, ◌∙◌}
use mathlib.Core.List.{List}
use native.Mathlib.Omega.{arith}
use lib.ListN.{length, get_or}
use Rattle.std.specs.Prelude.{Result, Ok, Err, IsErrAnd}
use Rattle.std.proofs.lemmas.Result.{err_from_is_err_and}
use borrow.Author.Tests.{le-leb}
use Rattle.load_state.specs.declared.State.{State}
use Rattle.load_state.specs.declared.Halt.{Halt}
use Rattle.load_state.specs.Parser.{Parsed, Out, empty}
use Rattle.load_state.specs.Holds.{Holds, GivesOut}
use Rattle.load_state.proofs.Laws.{went_on, was_refused}
use Rattle.rows.specs.Table.{zeros}
use Rattle.cut_grammar.specs.declared.Piece.{Piece}
use Rattle.cut_grammar.proofs.PulsePlaces.{cut_pulses}
use Rattle.load_general.proofs.Holding.{cut_held}
use Rattle.cut_grammar.specs.declared.Taken.{Taken}
use Rattle.cut_grammar.specs.declared.Taken.TheVariants.{Whole}
use Rattle.cut_grammar.specs.declared.TakenTap.{TakenTap}
use Rattle.cut_grammar.specs.declared.TakenTap.TheVariants as tap
use mathlib.Core.Logic.{◌⊎◌, inl, inr}
use Rattle.cut_grammar.specs.Cut.{cut_at, tap_at}
use Rattle.load_source.specs.declared.Failure.{Failure}
use Rattle.load_source.specs.declared.NotRead.{NotRead}
use Rattle.load_source.specs.declared.NotRead.TheVariants.{Failed, Refused}
use Rattle.load_blocks.specs.Adds.{Lent}
use Rattle.load_blocks.specs.Sounds.{origin_at}
use Rattle.load_source.specs.Source.{See, the_end, bad, refuses as sees4, thing, Verdict, seeing, read_on, fold_from, halted, full}
use Rattle.load_source.specs.Source.{act, tzx_of, tzx_see, tap_of, tap_see}
use Rattle.load_source.specs.Does.{Fit, Blank, Finds, ends, fails, refuses}

-- what a `?` returns where a step halts
abbrev pub Halts : Halt → Result State NotRead → Type 0
Halts k r = IsErrAnd r (λ e. (B N : ℕ) (bt tt : List ℕ) → Finds B N (Err e) bt tt (halted k))

-- a tape that the state holds, and fuel enough for the bytes left, with which the rest gives the goal
pub record Rest (size : ℕ) (see : ℕ → See) (B N at : ℕ) (s : State) (bt tt : List ℕ) (goal : Verdict) : Type 0 where
  pub here : Parsed
  pub holds : Holds B N s bt tt here
  pub fuel : ℕ
  pub enough : size ≤ at + fuel
  pub stops : (p : ℕ) → size ≤ p → see p ≡ the_end
  pub same : fold_from see fuel at here ≡ goal

turn : (n size : ℕ) (see : ℕ → See) (at : ℕ) (t : Parsed) → ((p : ℕ) → size ≤ p → see p ≡ the_end) → size ≤ at + n
    → fold_from see n at t ≡ seeing (see at) t (fold_from see (n - 1))
unfolding fold_from seeing
turn zero size see at t h e = rw (h at (omega arith))
turn (suc n) size see at t h e = let m : suc n - 1 ≡ n = omega arith in rw m

pub rest_begins : {size : ℕ} {see : ℕ → See} {B N : ℕ} (at : ℕ) {s : State} {bt tt : List ℕ} {t : Parsed}
    → ((p : ℕ) → size ≤ p → see p ≡ the_end) → Holds B N s bt tt t → Rest size see B N at s bt tt (fold_from see size at t)
rest_begins {size} at {t = t} stops h = record { here = t; holds = h; fuel = size; enough = omega arith; stops = stops; same = refl }

module _ {size : ℕ} {see : ℕ → See} {B N at : ℕ} {s : State} {bt tt : List ℕ} {goal : Verdict}
    (rest : Rest size see B N at s bt tt goal) where
  step : (x : See) → see at ≡ x → seeing x rest.here (fold_from see (rest.fuel - 1)) ≡ goal
  step x q = rw q at (sym (turn rest.fuel size see at rest.here rest.stops rest.enough) ∙ rest.same)

  pub rest_over : see at ≡ the_end → Finds B N (Ok s) bt tt goal
  unfolding seeing
  rest_over q = subst (λ (r : Verdict). Finds B N (Ok s) bt tt r) (step the_end q) (ends rest.holds)

  pub rest-bad : {f : Failure} → see at ≡ bad f → Finds B N (Err (Failed f)) bt tt goal
  unfolding seeing
  rest-bad {f} q = subst (λ (r : Verdict). Finds B N (Err (Failed f)) bt tt r) (step (bad f) q) fails

  pub rest-refuses : {k : ℕ} → see at ≡ sees4 k → Finds B N (Err (Refused k)) bt tt goal
  unfolding seeing
  rest-refuses {k} q = subst (λ (r : Verdict). Finds B N (Err (Refused k)) bt tt r) (step (sees4 k) q) refuses

  module _ {next : ℕ} {does : Parsed → Out} (q : see at ≡ thing next does) {x : Result State Halt} {bt' tt' : List ℕ}
      (e : GivesOut B N x bt' tt' (does rest.here)) where
    pub rest-no : {k : Halt} {r : Result State NotRead} → x ≡ Err k → Halts k r → Finds B N r bt' tt' goal
    unfolding seeing read_on
    rest-no {k} {r} i d =
        let p = err_from_is_err_and r d in
        rw p.1 (subst (λ (g : Verdict). Finds B N (Err p.0) bt' tt' g) (rw (was_refused e i) at (step (thing next does) q))
        (p.2 B N bt' tt'))

    pub rest-on : {s' : State} → x ≡ Ok s' → at < next → Rest size see B N next s' bt' tt' goal
    unfolding seeing read_on
    rest-on i f =
        let w = went_on e i in
        record {
          here = w.0;
          holds = w.2;
          fuel = rest.fuel - 1;
          enough = omega (arith, rest.enough, f);
          stops = rest.stops;
          same = rw w.1 at (step (thing next does) q);
        }

module _ (lent : Lent) (s : List ℕ) where
  pub tzx-stops : (model p : ℕ) → length s ≤ p → tzx_see lent s model p ≡ the_end
  unfolding tzx_see cut_at tzx_of
  tzx-stops model p h = rw (le-leb (length s) p h)

  pub tzx_sees : (model at : ℕ) {x : Taken} → x ≡ cut_at s at full → tzx_see lent s model at ≡ tzx_of lent s model at x
  unfolding tzx_see
  tzx_sees model at q = rw q

  pub sees_piece : (model at : ℕ) {k a next : ℕ} {piece : Piece} → Whole k a next piece ≡ cut_at s at full
      → tzx_see lent s model at ≡ thing next (act lent s model (origin_at k a) piece)
  unfolding tzx_of
  sees_piece model at q = tzx_sees model at q

  pub tap_stops : (p : ℕ) → length s ≤ p → tap_see lent s p ≡ the_end
  unfolding tap_see tap_at tap_of
  tap_stops p h = rw (le-leb (length s) p h)

  pub tap_sees : (at : ℕ) {x : TakenTap} → x ≡ tap_at s at → tap_see lent s at ≡ tap_of lent s at x
  unfolding tap_see
  tap_sees at q = rw q

  -- nothing more, or a lone byte
  pub tap_over : (at : ℕ) {x : TakenTap} → x ≡ tap_at s at → (x ≡ tap.End) ⊎ (x ≡ tap.Lone) → tap_see lent s at ≡ the_end
  unfolding tap_of
  tap_over at q (inl e) = tap_sees at q ∙ rw e
  tap_over at q (inr e) = tap_sees at q ∙ rw e

-- blank tables hold a tape of which nothing is read
pub blank_holds : {s : State} {bt tt : List ℕ} → Blank bt → Blank tt
    → Holds (length bt) (length tt) s (zeros (length bt)) (zeros (length tt)) empty → Holds (length bt) (length tt) s bt tt empty
blank_holds {s} {bt} {tt} b t h =
    subst (λ (x : List ℕ). Holds (length bt) (length tt) s x tt empty) (sym b)
    (subst (λ (y : List ℕ). Holds (length bt) (length tt) s (zeros (length bt)) y empty) (sym t) h)

-- what is cut from bytes is a piece as the code takes it
pub cut_fit : (s : List ℕ) (at : ℕ) {k a next : ℕ} (piece : Piece) → ((i : ℕ) → get_or s i 0 < 256)
    → cut_at s at full ≡ Whole k a next piece → Fit s piece
cut_fit s at {k} {a} {next} piece b e =
    record {
      pulses = λ count from q. cut_pulses s at full (e ∙ ap (λ (x : Piece). Whole k a next x) q);
      general = λ g q. cut_held s at b (e ∙ ap (λ (x : Piece). Whole k a next x) q);
    }
