-- A READING'S ANSWER IS r EXACTLY WHEN it comes to a place where r is due; one law for TZX and TAP. Assumes nothing.
use Prim.Native.Nat.{ℕ, zero, suc, ◌+◌, ◌-◌, ◌≤◌}
use native.Mathlib.Omega.{arith}
use mathlib.Core.Path.{◌≡◌, refl, subst, ◌∙◌}
use mathlib.Core.Logic.{◌↔◌}
use Rattle.load_state.specs.Parser.{Parsed, Out, on, no}
use Rattle.load_source.specs.Source.{See, the_end, bad, refuses, thing, Verdict, read_on, seeing, fold_from}
use Rattle.law_promises.specs.Numbers.{Comes, here, past, Due, ends, errs, stands, answers, Bounded}

pub comes_map : {see : ℕ → See} {P Q : ℕ → Parsed → Type 0} → ((at : ℕ) (t : Parsed) → P at t → Q at t)
    → {at : ℕ} {t : Parsed} → Comes see P at t → Comes see Q at t
comes_map f (here {at = at} {t = t} p) = here (f at t p)
comes_map f (past e d c) = past e d (comes_map f c)

-- under a property of tapes that things keep
pub comes_under : {see : ℕ → See} {K : Parsed → Type 0} {P Q : ℕ → Parsed → Type 0}
    → ((at next : ℕ) (does : Parsed → Out) (t u : Parsed) → see at ≡ thing next does → does t ≡ on u → K t → K u)
    → ((at : ℕ) (t : Parsed) → K t → P at t → Q at t) → {at : ℕ} {t : Parsed} → K t → Comes see P at t
    → Comes see Q at t
comes_under k f h (here {at = at} {t = t} p) = here (f at t h p)
comes_under k f h (past {at = at} {next = next} {does = does} {t = t} {u = u} e d c) =
    past e d (comes_under k f (k at next does t u e d h) c)

-- what is due at a place is what a turn there answers
due_seen : {see : ℕ → See} {r : Verdict} {at : ℕ} {t : Parsed} (k : ℕ → Parsed → Verdict) → Due see r at t
    → seeing (see at) t k ≡ r
unfolding seeing read_on
due_seen k (ends e) = rw e
due_seen k (errs e) = rw e
due_seen k (stands e) = rw e
due_seen k (answers e d) = rw (e, d)

module _ {size : ℕ} {see : ℕ → See} (b : Bounded size see) where
  abbrev More : ℕ → Type 0
  More n = (m : ℕ) (u : Parsed) → size ≤ m + n → Comes see (Due see (fold_from see n m u)) m u

  -- every run comes to where its answer is due
  ran : (n at : ℕ) (t : Parsed) → size ≤ at + n → Comes see (Due see (fold_from see n at t)) at t
  unfolding fold_from seeing read_on
  ran zero at t h = here (ends (b.stops at (omega arith)))
  ran (suc n) at t h = by_see (λ m u q. ran n m u q) (see at) refl
    where
      by_out : More n → (next : ℕ) (does : Parsed → Out) (o : Out) → see at ≡ thing next does → does t ≡ o
          → Comes see (Due see (read_on o (fold_from see n next))) at t
      by_out more next does (on u) e d = past e d (more next u (omega (arith, b.moves at next does e)))
      by_out more next does (no k) e d = here (answers e d)

      by_see : More n → (x : See) → see at ≡ x → Comes see (Due see (seeing x t (fold_from see n))) at t
      by_see more the_end e = here (ends e)
      by_see more (bad f) e = here (errs e)
      by_see more (refuses k) e = here (stands e)
      by_see more (thing next does) e = by_out more next does (does t) e refl

  turn : (n at : ℕ) (t : Parsed) → size ≤ at + n → fold_from see n at t ≡ seeing (see at) t (fold_from see (n - 1))
  unfolding fold_from seeing
  turn zero at t h = rw (b.stops at (omega arith))
  turn (suc n) at t h = let m : suc n - 1 ≡ n = omega arith in rw m

  step : (n : ℕ) {at next : ℕ} {does : Parsed → Out} {t u : Parsed} → see at ≡ thing next does → does t ≡ on u
      → seeing (see at) t (fold_from see n) ≡ fold_from see n next u
  unfolding seeing read_on
  step n e d = rw (e, d)

  -- and a run that comes to where r is due answers r
  came : {r : Verdict} (n : ℕ) {at : ℕ} {t : Parsed} → size ≤ at + n → Comes see (Due see r) at t → fold_from see n at t ≡ r
  came n h (here {at = at} {t = t} d) = turn n at t h ∙ due_seen (fold_from see (n - 1)) d
  came n h (past {at = at} {next = next} {does = does} {t = t} e d c) =
      turn n at t h ∙ step (n - 1) e d ∙ came (n - 1) (omega (arith, b.moves at next does e)) c

  -- THE LAW
  pub run_due : (n at : ℕ) (t : Parsed) (r : Verdict) → size ≤ at + n → (fold_from see n at t ≡ r) ↔ Comes see (Due see r) at t
  run_due n at t r h = (λ e. subst (λ (x : Verdict). Comes see (Due see x) at t) e (ran n at t h), λ c. came n h c)
