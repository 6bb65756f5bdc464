-- THE ROWS THAT ARE NEEDED: those up to the first that is not well formed; all of a whole tape. Assumes nothing.
use Prim.Native.Nat.{ℕ, zero, suc, ◌+◌, ◌-◌, ◌≤◌, ◌<◌}
use native.Mathlib.Omega.{arith}
use mathlib.Core.Path.{◌≡◌, refl, sym, ap, ◌∙◌}
use mathlib.Core.Bool.{Bool, true, false}
use mathlib.Core.Logic.{⊎_elim}
use Rattle.law_base.proofs.Numbers.{lt_or_ge}
use Rattle.law_base.specs.Rules.{◌⇒◌, ◌∣◌}
use Rattle.play_entries.specs.Places.{Tape}
use Rattle.play_entries.specs.Mounted.{well_row, first_bad, cut_to, formed, WholeTape}

-- of the m rows from b on to the count
pub record WellUpTo (w : Tape) (b k : ℕ) : Type 0 where
  pub from : b ≤ k
  pub most : k ≤ w.count
  pub well : (i : ℕ) → b ≤ i → i < k → well_row w i ≡ true
  pub bad : k < w.count → well_row w k ≡ false

needs_of_lem : (w : Tape) (b m : ℕ) → b + m ≡ w.count → WellUpTo w b (first_bad w b m)
unfolding first_bad
needs_of_lem w b zero e =
    record { from = omega arith; most = omega arith; well = λ i l g. absurd (omega arith); bad = λ h. absurd (omega arith) }
needs_of_lem w b (suc m) e = by_cases (well_row w b) refl (needs_of_lem w (b + 1) m (omega arith))
  where
    by_cases : (t : Bool) → well_row w b ≡ t → WellUpTo w (b + 1) (first_bad w (b + 1) m)
        → WellUpTo w b (t ⇒ first_bad w (b + 1) m ∣ b)
    by_cases true f x =
        record {
          from = omega (arith, x.from);
          most = x.most;
          well = λ i l g. ⊎_elim (λ q. x.well i (omega arith) g)
              (λ q. let z : b ≡ i = omega arith in ap (well_row w) (sym z) ∙ f) (lt_or_ge b i);
          bad = x.bad;
        }
    by_cases false f x = record { from = omega arith; most = omega arith; well = λ i l g. absurd (omega arith); bad = λ h. f }

pub needed : (w : Tape) (b : ℕ) → b ≤ w.count → WellUpTo w b (first_bad w b (w.count - b))
needed w b h = needs_of_lem w b (w.count - b) (omega arith)

pub not-both : {x : Bool} → x ≡ true → x ≡ false → ⊥
not-both {x} e f = let y : ◌≡◌ {A = ℕ} 0 1 = ap (λ (t : Bool). t ⇒ 0 ∣ 1) (sym e ∙ f) in absurd (omega arith)

-- a well-formed row up to the bad one stands before it
pub well_before : {w : Tape} {b k : ℕ} → WellUpTo w b k → (i : ℕ) → i ≤ k → i < w.count → well_row w i ≡ true → i < k
well_before {w} {b} {k} x i l g e =
    ⊎_elim (λ q. q)
    (λ q. let z : i ≡ k = omega arith in absurd (not-both (ap (well_row w) (sym z) ∙ e) (x.bad (omega arith)))) (lt_or_ge i k)

-- and one that is not well formed is that one
pub bad_there : {w : Tape} {b k : ℕ} → WellUpTo w b k → (i : ℕ) → b ≤ i → i ≤ k → well_row w i ≡ false → k ≡ i
bad_there {w} {b} {k} x i l g e = ⊎_elim (λ q. absurd (not-both (x.well i l q) e)) (λ q. omega arith) (lt_or_ge i k)

module _ (w : Tape) (whole : WholeTape w) where
  -- nothing of it is cut
  whole_count : (b : ℕ) → first_bad w b (w.count - b) ≡ w.count
  unfolding first_bad
  whole_count b =
      ⊎_elim
      (λ l.
      let x = needed w b (omega arith) in
      ⊎_elim (λ h. absurd (not-both (whole.rows _ h) (x.bad h))) (λ g. omega (arith, x.most))
      (lt_or_ge (first_bad w b (w.count - b)) w.count))
      (λ g. let z : w.count - b ≡ 0 = omega arith in ap (first_bad w b) z)
      (lt_or_ge b w.count)

  pub whole-formed : (b : ℕ) → formed w b ≡ w
  unfolding formed
  whole-formed b = ap (cut_to w) (whole_count b)
