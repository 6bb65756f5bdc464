-- A READING ERRS EXACTLY WHEN its head is no TZX's, or it comes to a place that errs. Assumes nothing.
use Prim.Native.Nat.{ℕ}
use native.Mathlib.Omega.{arith}
use mathlib.Core.Path.{◌≡◌, refl, sym, ap, ◌∙◌}
use mathlib.Core.Bool.{Bool, true, false}
use mathlib.Core.Logic.{◌↔◌, ◌⊎◌, inl, inr, ⊎_elim}
use mathlib.Core.List.{List}
use lib.ListN.{length}
use Rattle.law_base.specs.Rules.{◌⇒◌, ◌∣◌}
use Rattle.refusals.specs.Refusals.{last_bits}
use Rattle.cut_grammar.specs.declared.Heading.{Heading}
use Rattle.cut_grammar.specs.declared.Heading.TheVariants as heading
use Rattle.cut_grammar.specs.Cut.{head_at}
use Rattle.load_state.specs.declared.Halt.TheVariants.{Refusal, Length}
use Rattle.load_state.specs.Parser.{Parsed, empty}
use Rattle.load_blocks.specs.Adds.{Lent}
use Rattle.load_source.specs.declared.Failure.{Failure}
use Rattle.load_source.specs.declared.Failure.TheVariants as failure
use Rattle.load_source.specs.Source.{See, Verdict, done, failed, refused, fold_from, too_many_bits, bits_judged, tzx_see, headed, read_tzx}
use Rattle.load_source.specs.Source.{tap_see, read_tap, halted}
use Rattle.law_promises.specs.Numbers.{Errs, Headed, Comes, here, past, Due, ends, errs, stands, answers, ByTzx, ByTap, Bad}
use Rattle.law_promises.specs.Numbers.{short, length48}
use Rattle.law_promises.proofs.Runs.{comes_map, run_due}
use Rattle.law_promises.proofs.Loads.{tzx-headed}
use Rattle.law_promises.proofs.Dues.{tzx_bounded, tap_bounded}

due_bad : {see : ℕ → See} {r : Verdict} {f : Failure} {at : ℕ} {t : Parsed} → Due see r at t → r ≡ failed f → Bad see at t
unfolding halted
due_bad (ends e) q = let z : ◌≡◌ {A = ℕ} 0 1 = cc in absurd (omega arith)
due_bad (errs e) q = short e
due_bad (stands e) q = let z : ◌≡◌ {A = ℕ} 0 1 = cc in absurd (omega arith)
due_bad (answers {k = Refusal j} e d) q = let z : ◌≡◌ {A = ℕ} 0 1 = cc in absurd (omega arith)
due_bad (answers {k = Length kind at n} e d) q = length48 e d

bad_due : {see : ℕ → See} {at : ℕ} {t : Parsed} → Comes see (Bad see) at t → (f : Failure) × Comes see (Due see (failed f)) at t
unfolding halted
bad_due (here (short {f = f} e)) = (f, here (errs e))
bad_due (here (length48 {kind = kind} {from = from} {n = n} e d)) = (failure.Length kind from n, here (answers {k = Length kind from n} e d))
bad_due (past e d c) = let x = bad_due c in (x.0, past e d x.1)

-- judging alters no error
pub judged-bad : (r : Verdict) {f : Failure} → bits_judged r ≡ failed f → r ≡ failed f
unfolding bits_judged
judged-bad (done t) {f} e = of (too_many_bits t.blocks) e
  where
    of : (b : Bool) → (b ⇒ refused last_bits ∣ done t) ≡ failed f → done t ≡ failed f
    of true q = let z : ◌≡◌ {A = ℕ} 0 1 = cc in absurd (omega arith)
    of false q = q
judged-bad (failed g) e = e
judged-bad (refused j) e = let z : ◌≡◌ {A = ℕ} 0 1 = cc in absurd (omega arith)

module _ (lent : Lent) (s : List ℕ) where
  -- TAP: short data errs
  pub tap_errs : Errs (read_tap lent s) ↔ ByTap lent s (Bad (tap_see lent s))
  unfolding read_tap
  tap_errs =
      (λ x. comes_map (λ at t d. due_bad d refl) ((run x.0).0 x.1), λ c. let x = bad_due c in (x.0, (run x.0).1 x.1))
    where
      run : (f : Failure)
          → (fold_from (tap_see lent s) (length s) 0 empty ≡ failed f) ↔ Comes (tap_see lent s) (Due (tap_see lent s) (failed f)) 0 empty
      run f = run_due (tap_bounded lent s) (length s) 0 empty (failed f) (omega arith)

  module _ (model : ℕ) where
    run : (f : Failure)
        → (fold_from (tzx_see lent s model) (length s) 10 empty ≡ failed f)
        ↔ Comes (tzx_see lent s model) (Due (tzx_see lent s model) (failed f)) 10 empty
    run f = run_due (tzx_bounded lent s model) (length s) 10 empty (failed f) (omega arith)

    -- TZX: a short read or bad signature is an error
    pub tzx-errs : Errs (read_tzx lent s model) ↔ ((Headed s → ⊥) ⊎ ByTzx lent s model (Bad (tzx_see lent s model)))
    unfolding read_tzx headed bits_judged
    tzx-errs = (
      λ x. of (head_at s) refl x.0 x.1,
      λ h. ⊎_elim (λ n. none (head_at s) refl n)
          (λ x. let y = bad_due x.1 in (y.0, tzx-headed lent s model x.0 ∙ ap bits_judged ((run y.0).1 y.1))) h,
    )
      where
        of : (h : Heading) → head_at s ≡ h → (f : Failure) → headed lent s model h ≡ failed f
            → (Headed s → ⊥) ⊎ ByTzx lent s model (Bad (tzx_see lent s model))
        of (heading.Version major minor) q f e = inr ((major, minor, q), comes_map (λ at t d. due_bad d refl) ((run f).0 (judged-bad _ e)))
        of heading.BadSignature q f e = inl (λ x. let y = sym q ∙ x.2 in let z : ◌≡◌ {A = ℕ} 0 1 = cc in absurd (omega arith))
        of (heading.Short p w) q f e = inl (λ x. let y = sym q ∙ x.2 in let z : ◌≡◌ {A = ℕ} 0 1 = cc in absurd (omega arith))

        none : (h : Heading) → head_at s ≡ h → (Headed s → ⊥) → Errs (headed lent s model h)
        none (heading.Version major minor) q n = absurd (n (major, minor, q))
        none heading.BadSignature q n = (failure.BadSignature, refl)
        none (heading.Short p w) q n = (failure.Short p w, refl)
