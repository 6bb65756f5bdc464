-- A WALK THAT REACHES A BAD ROW: rule 38's words (`Reaches`) are what the definition tests (`Runs`). Assumes nothing.
use Prim.Native.Nat.{ℕ, ◌-◌, ◌≤◌, ◌<◌}
use native.Mathlib.Omega.{arith}
use native.Mathlib.Nat.{eq-zero-or-pos}
use mathlib.Core.Path.{◌≡◌, refl, sym, ap, ap₂, subst, ◌∙◌}
use mathlib.Core.Bool.{true, false}
use mathlib.Core.Logic.{◌↔◌, ⊎_elim}
use mathlib.Core.List.{List, [], ◌∷◌, ◌++◌}
use lib.ListN.{length, length-append}
use Rattle.law_base.proofs.Numbers.{lt_or_ge}
use Rattle.law_pulses.specs.Play.{Entry, pulse, endless, Status, ended, over, rest, status_here, answer, time, comes_to, Finite}
use Rattle.law_pulses.proofs.Demand.{status_left, status-over}
use Rattle.play_entries.specs.Entries.{Label}
use Rattle.play_entries.specs.Places.{Tape, list_from, left_at}
use Rattle.play_entries.specs.Mounted.{well_row, first_bad, cut_to, formed}
use Rattle.play_entries.proofs.Formed.{needed, not-both, bad_there}
use Rattle.play_walk.specs.declared.Position.{Position}
use Rattle.play_walk.specs.Heads.{start_at, ahead}
use Rattle.play_deck.proofs.Unreached.{list_cut, left_cut}
use Rattle.law_promises.specs.Numbers.{Reaches}

-- as the definition tests it: the walk from block b has come to the end of what is well formed from there on, and that is not all
pub record Runs (w : Tape) (b : ℕ) (end : Status) : Type 0 where
  pub over : end ≡ ended
  pub cut : (formed w b).count < w.count

module _ {A : Type 0} where
  -- T-states find no entry exactly where every entry ends and they are more than all of them last
  over_spent : (es : List (Entry A)) (n : ℕ) → (0 < over es n) ↔ (Finite es × (time es < n))
  unfolding over Finite time
  over_spent [] n = (λ h. (tt, h), λ x. x.1)
  over_spent (endless a v ∷ es) n = (λ h. absurd (omega arith), λ x. absurd x.0)
  over_spent (pulse a v t ∷ es) n =
      let x = over_spent es (n - t) in
      (λ h. let y = x.0 h in (y.0, omega (arith, y.1)), λ h. x.1 (h.0, omega (arith, h.1)))

  never_ended : (rs : List (Entry A)) → status_here rs ≡ ended → ⊥
  unfolding status_here
  never_ended [] e = let z : ◌≡◌ {A = ℕ} 0 1 = cc in absurd (omega arith)
  never_ended (endless a v ∷ es) e = let z : ◌≡◌ {A = ℕ} 0 1 = cc in absurd (omega arith)
  never_ended (pulse a v t ∷ es) e = let z : ◌≡◌ {A = ℕ} 0 1 = cc in absurd (omega arith)

  -- a call has ended exactly there
  pub ended_spent : (es : List (Entry A)) (n : ℕ) → ((answer es n).tells ≡ ended) ↔ (Finite es × (time es < n))
  unfolding answer
  ended_spent es n =
      let x = over_spent es n in (
        λ e. ⊎_elim
            (λ z. absurd (never_ended (rest es n) (sym (status_left (rest es n) (over es n) z) ∙ e)))
            (λ p. x.0 p)
            (eq-zero-or-pos (over es n)),
        λ h. status-over (rest es n) (over es n) (x.1 h),
      )

  -- and a list comes to an end where every entry ends
  pub comes_finite : (es : List (Entry A)) → (comes_to es ≡ ended) ↔ Finite es
  unfolding comes_to Finite
  comes_finite [] = (λ e. tt, λ f. refl)
  comes_finite (endless a v ∷ es) = (λ e. let z : ◌≡◌ {A = ℕ} 0 1 = cc in absurd (omega arith), λ f. absurd f)
  comes_finite (pulse a v t ∷ es) = comes_finite es

  -- what stands before the same list is the same
  cancel : (xs ys zs : List (Entry A)) → xs ++ zs ≡ ys ++ zs → xs ≡ ys
  cancel [] [] zs e = refl
  cancel [] (y ∷ ys) zs e = absurd (omega (arith, ap length e, length-append ys zs))
  cancel (x ∷ xs) [] zs e = absurd (omega (arith, ap length e, length-append xs zs))
  cancel (x ∷ xs) (y ∷ ys) zs e =
      let p : x ≡ y = cc in
      let q : xs ++ zs ≡ ys ++ zs = cc in
      ap₂ (λ (a : Entry A) (es : List (Entry A)). a ∷ es) p (cancel xs ys zs q)

-- a row below the count that is not well formed, behind rows that are: the first
first-bad : (w : Tape) (b k : ℕ) → b ≤ k → k < w.count → ((i : ℕ) → b ≤ i → i < k → well_row w i ≡ true)
    → well_row w k ≡ false
    → first_bad w b (w.count - b) ≡ k
first-bad w b k l h well bad =
    let x = needed w b (omega arith) in
    bad_there x k l
    (⊎_elim (λ g. absurd (not-both (well _ x.from g) (x.bad (omega arith)))) (λ g. g) (lt_or_ge (first_bad w b (w.count - b)) k))
    bad

-- where what is well formed ends before the count, there is a row at b
before_count : (w : Tape) (b : ℕ) → first_bad w b (w.count - b) < w.count → b < w.count
unfolding first_bad
before_count w b h =
    ⊎_elim
    (λ l. l)
    (λ g.
    let z : w.count - b ≡ 0 = omega arith in
    let e : first_bad w b (w.count - b) ≡ w.count = ap (first_bad w b) z in
    absurd (omega arith))
    (lt_or_ge b w.count)

-- the entries up to block k's start, for each bad row k that a walk from q may reach
abbrev Cuts : Tape → Position → Type 0
Cuts w q = (k : ℕ) → q.block ≤ k → k < w.count → well_row w k ≡ false → ahead w q ≡ ahead (cut_to w k) q ++ list_from w k

module _ (w : Tape) (q : Position) (spends : List (Entry Label) → ℕ) (cuts : Cuts w q) where
  abbrev formed_ahead : List (Entry Label)
  formed_ahead = ahead (formed w q.block) q

  abbrev Spent : List (Entry Label) → Type 0
  Spent es = Finite es × (time es < spends es)

  -- THE EQUIVALENCE, of a walk that has ended exactly where its T-states are more than all entries last
  pub runs_reach : (end : Status) → (end ≡ ended) ↔ Spent formed_ahead
      → Runs w q.block end ↔ ((k : ℕ) × Reaches w q spends k)
  unfolding formed
  runs_reach end x = (forth, back)
    where
      forth : Runs w q.block end → (k : ℕ) × Reaches w q spends k
      forth r =
          let k = first_bad w q.block (w.count - q.block) in
          let l = before_count w q.block r.cut in
          let n = needed w q.block (omega arith) in
          let y = x.0 r.over in (
            k,
            record {
              there = (n.from, r.cut);
              well = n.well;
              bad = n.bad r.cut;
              before = ahead (cut_to w k) q;
              split = cuts k n.from r.cut (n.bad r.cut);
              finite = y.0;
              left = omega (arith, y.1);
            },
          )

      back : (k : ℕ) × Reaches w q spends k → Runs w q.block end
      back (k, h) =
          let e = first-bad w q.block k h.there.0 h.there.1 h.well h.bad in
          let s = cancel h.before (ahead (cut_to w k) q) (list_from w k)
          (sym h.split ∙ cuts k h.there.0 h.there.1 h.bad) in
          let y : h.before ≡ formed_ahead = s ∙ ap (λ (j : ℕ). ahead (cut_to w j) q) (sym e) in
          record { over = x.1 (subst Spent y (h.finite, omega (arith, h.left))); cut = omega (arith, h.there.1, e) }

-- from a position in a well-formed row; and from a block's start
pub row_cuts : (w : Tape) (q : Position) → (q.block < w.count → well_row w q.block ≡ true) → Cuts w q
row_cuts w q well k l h bad =
    ⊎_elim
    (λ g. left_cut w k (omega arith) q.block g q.phase q.left)
    (λ g. let e : q.block ≡ k = omega arith in absurd (not-both (well (omega arith)) (ap (well_row w) e ∙ bad)))
    (lt_or_ge q.block k)

pub start_cuts : (w : Tape) (b : ℕ) → Cuts w (start_at b)
unfolding left_at
start_cuts w b k l h bad = list_cut w k (omega arith) b l
