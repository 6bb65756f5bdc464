-- NUMBERS FOR NO, 9 AND 11 WITH A POSITION: rules 29 and 31, 'given exactly when'. Assumes nothing.
use Prim.Native.Nat.{ℕ, zero, suc, ◌≤◌, ◌<◌}
use native.Mathlib.Omega.{arith}
use native.Mathlib.Nat.{eq-zero-or-pos}
use borrow.Author.Tests.{lt-leb, leb-true, leb-false, lt-ltb, le-ltb, ltb-true, eqb-false, ne_eqb, not-true, not-false}
use mathlib.Core.Path.{◌≡◌, refl, sym, ap, subst}
use mathlib.Core.Bool.{Bool, true, false, not, ◌&&◌}
use mathlib.Core.Logic.Iff
use mathlib.Core.Logic.{◌↔◌, ◌⊎◌, inl, inr, ⊎_elim}
use mathlib.Core.List.{List}
use lib.Dec.{leb, ltb, eqb}
use Rattle.std.specs.Prelude.{Result, Ok, Err}
use Rattle.law_base.specs.Rules.{◌⇒◌, ◌∣◌}
use Rattle.law_base.proofs.Tests.{first, second}
use Rattle.refusals.specs.Refusals.{no_position, bad_row}
use Rattle.law_pulses.specs.Play.{Entry, Status, ended, Answer, answer, time, Finite}
use Rattle.law_pulses.specs.Source.{is_ended, turns, sourced, sum_dropped, dropped}
use Rattle.play_entries.specs.Entries.{Label}
use Rattle.play_entries.specs.Places.{Tape, block_in, valid}
use Rattle.play_entries.specs.Mounted.{overfull, well_row, formed}
use Rattle.play_walk.specs.declared.Position.{Position}
use Rattle.play_walk.specs.declared.Stand.{Stand}
use Rattle.play_walk.specs.declared.Reached.{Reached}
use Rattle.play_walk.specs.declared.Fault.{Fault}
use Rattle.play_walk.specs.declared.Fault.TheVariants.{NotValid, NotFormed}
use Rattle.play_walk.specs.Heads.{reached_no, ahead, told_as, told_reached, walked, walk_from}
use Rattle.play_entries.proofs.Formed.{not-both}
use Rattle.play_deck.proofs.Sourced.{source-answer}
use Rattle.play_deck.specs.declared.Head.{Head}
use Rattle.play_deck.specs.Deck.{all_fine, at_start, ruled_out, ill_formed, valid_at, judged, unless, stays, play_measured, source_answer, source_from}
use Rattle.play_deck.specs.Deck.{play_source, back_to, number_for, block_of, block_at, head_after, play_mounted}
use Rattle.law_promises.specs.Numbers.{Unformed, Invalid, Reaches, called, and_dropped, Unplayable, BadBack, this, back}
use Rattle.law_promises.proofs.Reaching.{Runs, runs_reach, ended_spent, row_cuts}
use Rattle.law_promises.proofs.Asks.{ended_is}

-- the tests of a position, in order
data Tests (a b c d : Bool) : Result (Unit {0}) Fault → Type 0 where
  full : a ≡ true → Tests a b c d (Err NotFormed)
  out : a ≡ false → b ≡ true → Tests a b c d (Err NotValid)
  row : a ≡ false → b ≡ false → c ≡ true → Tests a b c d (Err NotFormed)
  wrong : a ≡ false → b ≡ false → c ≡ false → d ≡ false → Tests a b c d (Err NotValid)
  fine : a ≡ false → b ≡ false → c ≡ false → d ≡ true → Tests a b c d all_fine

tests : (a b c d : Bool) → Tests a b c d (a ⇒ Err NotFormed ∣ b ⇒ Err NotValid ∣ c ⇒ Err NotFormed ∣ not d ⇒ Err NotValid ∣ all_fine)
tests true b c d = full refl
tests false true c d = out refl refl
tests false false true d = row refl refl refl
tests false false false true = fine refl refl refl refl
tests false false false false = wrong refl refl refl refl

module _ (w : Tape) (q : Position) where
  of-tests : Tests (overfull w) (ruled_out w q) (ill_formed w q) (valid_at w q) (judged w q)
  unfolding judged
  of-tests = tests (overfull w) (ruled_out w q) (ill_formed w q) (valid_at w q)

  -- a row, if below the count, is well formed or it is bad
  row_bad : (ill_formed w q ≡ true) ↔ ((q.block < w.count) × (well_row w q.block ≡ false))
  unfolding ill_formed
  row_bad = (
    λ e. (
      ltb-true _ _ (first (ltb q.block w.count) (not (well_row w q.block)) e),
      not-true _ (second (ltb q.block w.count) (not (well_row w q.block)) e),
    ),
    λ h. rw (lt-ltb q.block w.count h.0, h.1),
  )

  row_well : (ill_formed w q ≡ false) ↔ (q.block < w.count → well_row w q.block ≡ true)
  unfolding ill_formed
  row_well = (
    λ e h. let x : (true && not (well_row w q.block)) ≡ false = rw (lt-ltb q.block w.count h) at e in
        not-false (well_row w q.block) x,
    λ f. of (ltb q.block w.count) refl f,
  )
    where
      of : (b : Bool) → ltb q.block w.count ≡ b → (q.block < w.count → well_row w q.block ≡ true)
          → (b && not (well_row w q.block)) ≡ false
      of true e f = rw (f (ltb-true _ _ e))
      of false e f = refl

  -- where the block number rules it out, it has no row and is not valid
  past_count : ruled_out w q ≡ true → w.count ≤ q.block
  unfolding ruled_out
  past_count e = leb-true _ _ (first (leb w.count q.block) (not (at_start q)) e)

  past_invalid : ruled_out w q ≡ true → valid_at w q ≡ false
  unfolding ruled_out valid
  past_invalid e =
      rw (not-true (at_start q) (second (leb w.count q.block) (not (at_start q)) e), le-ltb q.block w.count (past_count e))

  pub judged_9 : (judged w q ≡ Err NotValid) ↔ Invalid w q
  unfolding judged
  judged_9 = (λ e. of e of-tests, λ h. back_from (ruled_out w q) h)
    where
      of : {c : Result (Unit {0}) Fault} → c ≡ Err NotValid
          → Tests (overfull w) (ruled_out w q) (ill_formed w q) (valid_at w q) c → Invalid w q
      of e (full a) = let z : ◌≡◌ {A = ℕ} 0 1 = cc in absurd (omega arith)
      of e (out a b) = record { few = a; well = λ h. absurd (omega (arith, past_count b)); bad = past_invalid b }
      of e (row a b c) = let z : ◌≡◌ {A = ℕ} 0 1 = cc in absurd (omega arith)
      of e (wrong a b c d) = record { few = a; well = row_well.0 c; bad = d }
      of e (fine a b c d) = let z : ◌≡◌ {A = ℕ} 0 1 = cc in absurd (omega arith)

      back_from : (b : Bool) → Invalid w q
          → (overfull w ⇒ Err NotFormed ∣ b ⇒ Err NotValid ∣ ill_formed w q ⇒ Err NotFormed
          ∣ not (valid_at w q) ⇒ Err NotValid ∣ all_fine)
          ≡ Err NotValid
      back_from true h = rw h.few
      back_from false h = rw (h.few, row_well.1 h.well, h.bad)

  pub judged_11 : (judged w q ≡ Err NotFormed) ↔ Unformed w q.block
  unfolding judged ruled_out
  judged_11 = (λ e. of e of-tests, λ h. ⊎_elim (λ x. rw x) (λ x. back_from (overfull w) x) h)
    where
      of : {c : Result (Unit {0}) Fault} → c ≡ Err NotFormed
          → Tests (overfull w) (ruled_out w q) (ill_formed w q) (valid_at w q) c → Unformed w q.block
      of e (full a) = inl a
      of e (out a b) = let z : ◌≡◌ {A = ℕ} 0 1 = cc in absurd (omega arith)
      of e (row a b c) = inr (row_bad.0 c)
      of e (wrong a b c d) = let z : ◌≡◌ {A = ℕ} 0 1 = cc in absurd (omega arith)
      of e (fine a b c d) = let z : ◌≡◌ {A = ℕ} 0 1 = cc in absurd (omega arith)

      back_from : (a : Bool) → (q.block < w.count) × (well_row w q.block ≡ false)
          → (a ⇒ Err NotFormed ∣ (leb w.count q.block && not (at_start q)) ⇒ Err NotValid ∣ ill_formed w q ⇒ Err NotFormed
          ∣ not (valid_at w q) ⇒ Err NotValid ∣ all_fine)
          ≡ Err NotFormed
      back_from true x = refl
      back_from false x = rw (lt-leb w.count q.block x.0, row_bad.1 x)

-- a player's number: the check's, or that of its walk
pub told_none : (st : Status) (s : Stand) → reached_no (told_as st s) ≡ 0
unfolding reached_no told_as
told_none st s = refl

pub checked_9 : (c : Result (Unit {0}) Fault) (r : Result Reached Fault) → (reached_no r ≡ no_position → ⊥)
    → (reached_no (unless c r) ≡ no_position) ↔ (c ≡ Err NotValid)
unfolding reached_no unless
checked_9 (Ok u) r d = (λ e. absurd (d e), λ e. let z : ◌≡◌ {A = ℕ} 0 1 = cc in absurd (omega arith))
checked_9 (Err NotValid) r d = (λ e. refl, λ e. refl)
checked_9 (Err NotFormed) r d = (λ e. absurd (omega arith), λ e. let z : ◌≡◌ {A = ℕ} 0 1 = cc in absurd (omega arith))

pub checked_11 : (c : Result (Unit {0}) Fault) (r : Result Reached Fault)
    → (reached_no (unless c r) ≡ bad_row) ↔ ((c ≡ Err NotFormed) ⊎ ((c ≡ all_fine) × (reached_no r ≡ bad_row)))
unfolding reached_no unless
checked_11 (Ok u) r = (λ e. inr (refl, e), λ h. ⊎_elim (λ e. let z : ◌≡◌ {A = ℕ} 0 1 = cc in absurd (omega arith)) (λ x. x.1) h)
checked_11 (Err NotValid) r = (
  λ e. absurd (omega arith),
  λ h. ⊎_elim (λ e. let z : ◌≡◌ {A = ℕ} 0 1 = cc in absurd (omega arith))
      (λ x. let e = x.0 in let z : ◌≡◌ {A = ℕ} 0 1 = cc in absurd (omega arith)) h,
)
checked_11 (Err NotFormed) r = (λ e. inl refl, λ h. refl)

-- a walk from block b of n T-states, as both players make it
module _ (w : Tape) (q : Position) (n : ℕ) (a : Answer Label) where
  abbrev walks : Result Reached Fault
  walks = eqb n 0 ⇒ stays w q ∣ walked w (formed w q.block) a

  abbrev reaches : Bool
  reaches = is_ended a.tells && ltb (formed w q.block).count w.count

  stays-none : reached_no (stays w q) ≡ 0
  unfolding stays
  stays-none = told_none _ _

  told_a : reached_no (told_reached w (formed w q.block) a) ≡ 0
  unfolding told_reached
  told_a = told_none _ _

  walk_11 : (reached_no walks ≡ bad_row) ↔ ((0 < n) × Runs w q.block a.tells)
  unfolding walked reached_no
  walk_11 = (
    λ e. of (eqb n 0) reaches refl refl e,
    λ h. rw (ne_eqb n 0 (λ z. omega (arith, h.0, z)), h.1.over, lt-ltb (formed w q.block).count w.count h.1.cut),
  )
    where
      of : (z b : Bool) → eqb n 0 ≡ z → reaches ≡ b
          → reached_no (z ⇒ stays w q ∣ b ⇒ Err NotFormed ∣ told_reached w (formed w q.block) a) ≡ bad_row
          → (0 < n) × Runs w q.block a.tells
      of true b y f e = absurd (omega (arith, stays-none, e))
      of false true y f e =
          let p : (n ≡ 0 → ⊥) = eqb-false n 0 y in (
            omega (arith, p),
            record {
              over = ended_is a.tells (first (is_ended a.tells) (ltb (formed w q.block).count w.count) f);
              cut = ltb-true _ _ (second (is_ended a.tells) (ltb (formed w q.block).count w.count) f);
            },
          )
      of false false y f e = absurd (omega (arith, told_a, e))

  walk_9 : reached_no walks ≡ no_position → ⊥
  unfolding walked reached_no
  walk_9 e = of (eqb n 0) reaches e
    where
      of : (z b : Bool)
          → reached_no (z ⇒ stays w q ∣ b ⇒ Err NotFormed ∣ told_reached w (formed w q.block) a) ≡ no_position → ⊥
      of true b f = absurd (omega (arith, stays-none, f))
      of false true f = absurd (omega arith)
      of false false f = absurd (omega (arith, told_a, f))

  -- the player's number
  player_9 : (reached_no (unless (judged w q) walks) ≡ no_position) ↔ Invalid w q
  player_9 = Iff.trans (checked_9 (judged w q) walks walk_9) (judged_9 w q)

  player_11 : (reached_no (unless (judged w q) walks) ≡ bad_row)
      ↔ (Unformed w q.block ⊎ ((judged w q ≡ all_fine) × ((0 < n) × Runs w q.block a.tells)))
  player_11 =
      let x = checked_11 (judged w q) walks in (
        λ e. ⊎_elim (λ f. inl ((judged_11 w q).0 f)) (λ f. inr (f.0, walk_11.0 f.1)) (x.0 e),
        λ h. x.1 (⊎_elim (λ f. inl ((judged_11 w q).1 f)) (λ f. inr (f.0, walk_11.1 f.1)) h),
      )

-- a call of 0 drops nothing
dropped-zero : (es : List (Entry Label)) → dropped es 0 ≡ 0
unfolding sourced turns sum_dropped
dropped-zero es = refl

module _ (w : Tape) (q : Position) where
  -- 9: position not valid on this tape
  pub given_9_measured : (n : ℕ) → (reached_no (play_measured w q n) ≡ no_position) ↔ Invalid w q
  unfolding play_measured walk_from
  given_9_measured n = player_9 w q n (answer (ahead (formed w q.block) q) n)

  pub given_9_source : (n : ℕ) → (reached_no (play_source w q n) ≡ no_position) ↔ Invalid w q
  unfolding play_source source_from
  given_9_source n = player_9 w q n (source_answer (ahead (formed w q.block) q) n)

  -- what the checks say of a position that passes them, and of a valid one
  fine_valid : judged w q ≡ all_fine → (valid_at w q ≡ true) × (q.block < w.count → well_row w q.block ≡ true)
  fine_valid e = of e (of-tests w q)
    where
      of : {c : Result (Unit {0}) Fault} → c ≡ all_fine → Tests (overfull w) (ruled_out w q) (ill_formed w q) (valid_at w q) c
          → (valid_at w q ≡ true) × (q.block < w.count → well_row w q.block ≡ true)
      of e (full a) = let z : ◌≡◌ {A = ℕ} 0 1 = cc in absurd (omega arith)
      of e (out a b) = let z : ◌≡◌ {A = ℕ} 0 1 = cc in absurd (omega arith)
      of e (row a b c) = let z : ◌≡◌ {A = ℕ} 0 1 = cc in absurd (omega arith)
      of e (wrong a b c d) = let z : ◌≡◌ {A = ℕ} 0 1 = cc in absurd (omega arith)
      of e (fine a b c d) = (d, (row_well w q).0 c)

  valid_fine : valid_at w q ≡ true → Unformed w q.block ⊎ (judged w q ≡ all_fine)
  valid_fine v = of refl (of-tests w q)
    where
      of : {c : Result (Unit {0}) Fault} → judged w q ≡ c → Tests (overfull w) (ruled_out w q) (ill_formed w q) (valid_at w q) c
          → Unformed w q.block ⊎ (judged w q ≡ all_fine)
      of e (full a) = inl (inl a)
      of e (out a b) = absurd (not-both v (past_invalid w q b))
      of e (row a b c) = inl (inr ((row_bad w q).0 c))
      of e (wrong a b c d) = absurd (not-both v d)
      of e (fine a b c d) = inr e

  -- 11 by the walk, in rule 38's words: of a walk that has ended exactly where what it spends is more than all entries last
  abbrev formed_ahead : List (Entry Label)
  formed_ahead = ahead (formed w q.block) q

  player_reaches : (n : ℕ) (a : Answer Label) (spends : List (Entry Label) → ℕ)
      → (a.tells ≡ ended) ↔ (Finite formed_ahead × (time formed_ahead < spends formed_ahead))
      → ((es : List (Entry Label)) → time es < spends es → 0 < n)
      → (reached_no (unless (judged w q) (walks w q n a)) ≡ bad_row) ↔ Unplayable w q spends
  player_reaches n a spends x some =
      let y = player_11 w q n a in (
        λ e. ⊎_elim (λ u. inl u) (λ f. let p = fine_valid f.0 in inr (p.0, (reach p.1).0 f.1.1)) (y.0 e),
        λ h. y.1 (⊎_elim (λ u. inl u) (λ f. back_from f.1 (valid_fine f.0)) h),
      )
    where
      reach : (q.block < w.count → well_row w q.block ≡ true)
          → Runs w q.block a.tells ↔ ((k : ℕ) × Reaches w q spends k)
      reach well = runs_reach w q spends (row_cuts w q well) a.tells x

      back_from : (k : ℕ) × Reaches w q spends k → Unformed w q.block ⊎ (judged w q ≡ all_fine)
          → Unformed w q.block ⊎ ((judged w q ≡ all_fine) × ((0 < n) × Runs w q.block a.tells))
      back_from r (inl u) = inl u
      back_from r (inr e) = inr (e, (some r.1.before r.1.left, (reach (fine_valid e).1).1 r))

  -- 11: for the count or its row; or a walk that reaches a bad row
  pub given_11_measured : (n : ℕ) → (reached_no (play_measured w q n) ≡ bad_row) ↔ Unplayable w q (called n)
  unfolding play_measured walk_from
  given_11_measured n = player_reaches n (answer formed_ahead n) (called n) (ended_spent formed_ahead n) (λ es h. omega arith)

  pub given_11_source : (n : ℕ) → (reached_no (play_source w q n) ≡ bad_row) ↔ Unplayable w q (and_dropped n)
  unfolding play_source source_from
  given_11_source n =
      let m = and_dropped n formed_ahead in
      player_reaches n (source_answer formed_ahead n) (and_dropped n)
      (subst (λ (a : Answer Label). (a.tells ≡ ended) ↔ (Finite formed_ahead × (time formed_ahead < m)))
      (sym (source-answer formed_ahead n)) (ended_spent formed_ahead m))
      (λ es h. ⊎_elim (λ z. absurd (omega (arith, ap (dropped es) z, dropped-zero es))) (λ p. p) (eq-zero-or-pos n))

-- back to a selectable block, or 0: each row on the way is needed
back-bad : (w : Tape) (b : ℕ) → number_for (back_to w b) ≡ bad_row → BadBack w b
unfolding number_for back_to
back-bad w zero e = of (well_row w 0) refl e
  where
    of : (t : Bool) → well_row w 0 ≡ t → number_for (t ⇒ Ok 0 ∣ Err NotFormed) ≡ bad_row → BadBack w 0
    of true q f = absurd (omega arith)
    of false q f = this q
back-bad w (suc b) e = of (well_row w (suc b)) (eqb (block_in w (suc b)).selectable 1) refl refl e (λ f. back-bad w b f)
  where
    of : (t m : Bool) → well_row w (suc b) ≡ t → eqb (block_in w (suc b)).selectable 1 ≡ m
        → number_for (not t ⇒ Err NotFormed ∣ m ⇒ Ok (suc b) ∣ back_to w b) ≡ bad_row
        → (number_for (back_to w b) ≡ bad_row → BadBack w b) → BadBack w (suc b)
    of false m q s f more = this q
    of true true q s f more = absurd (omega arith)
    of true false q s f more = back q s (more f)

bad-back : (w : Tape) {b : ℕ} → BadBack w b → number_for (back_to w b) ≡ bad_row
unfolding number_for back_to
bad-back w (this {b = b} e) = of b e
  where
    of : (i : ℕ) → well_row w i ≡ false → number_for (back_to w i) ≡ bad_row
    of zero f = rw f
    of (suc i) f = rw f
bad-back w (back e f h) = rw (e, f) (bad-back w h)

back-valid : (w : Tape) (b : ℕ) → number_for (back_to w b) ≡ no_position → ⊥
unfolding number_for back_to
back-valid w zero e = of (well_row w 0) e
  where
    of : (t : Bool) → number_for (t ⇒ Ok 0 ∣ Err NotFormed) ≡ no_position → ⊥
    of true f = absurd (omega arith)
    of false f = absurd (omega arith)
back-valid w (suc b) e = of (well_row w (suc b)) (eqb (block_in w (suc b)).selectable 1) e (λ f. back-valid w b f)
  where
    of : (t m : Bool) → number_for (not t ⇒ Err NotFormed ∣ m ⇒ Ok (suc b) ∣ back_to w b) ≡ no_position
        → (number_for (back_to w b) ≡ no_position → ⊥) → ⊥
    of false m f more = absurd (omega arith)
    of true true f more = absurd (omega arith)
    of true false f more = more f

module _ (w : Tape) (q : Position) where
  -- where the position is fine: past the end, or back
  fine_11 : (number_for (block_of w q all_fine) ≡ bad_row) ↔ ((q.block < w.count) × BadBack w q.block)
  unfolding number_for block_of
  fine_11 = (λ e. of (leb w.count q.block) refl e, λ h. rw (lt-leb w.count q.block h.0) (bad-back w h.1))
    where
      of : (t : Bool) → leb w.count q.block ≡ t → number_for (t ⇒ Ok 4294967295 ∣ back_to w q.block) ≡ bad_row
          → (q.block < w.count) × BadBack w q.block
      of true f e = absurd (omega arith)
      of false f e = (leb-false _ _ f, back-bad w q.block e)

  fine_9 : number_for (block_of w q all_fine) ≡ no_position → ⊥
  unfolding number_for block_of
  fine_9 e = of (leb w.count q.block) e
    where
      of : (t : Bool) → number_for (t ⇒ Ok 4294967295 ∣ back_to w q.block) ≡ no_position → ⊥
      of true f = absurd (omega arith)
      of false f = back-valid w q.block f

  block_9 : (c : Result (Unit {0}) Fault) → (number_for (block_of w q c) ≡ no_position) ↔ (c ≡ Err NotValid)
  unfolding number_for block_of
  block_9 (Ok u) = (λ e. absurd (fine_9 e), λ e. let z : ◌≡◌ {A = ℕ} 0 1 = cc in absurd (omega arith))
  block_9 (Err NotValid) = (λ e. refl, λ e. refl)
  block_9 (Err NotFormed) = (λ e. absurd (omega arith), λ e. let z : ◌≡◌ {A = ℕ} 0 1 = cc in absurd (omega arith))

  block_11 : (c : Result (Unit {0}) Fault)
      → (number_for (block_of w q c) ≡ bad_row)
      ↔ ((c ≡ Err NotFormed) ⊎ ((c ≡ all_fine) × ((q.block < w.count) × BadBack w q.block)))
  unfolding number_for block_of
  block_11 (Ok u) = (
    λ e. inr (refl, fine_11.0 e),
    λ h. ⊎_elim (λ e. let z : ◌≡◌ {A = ℕ} 0 1 = cc in absurd (omega arith)) (λ x. fine_11.1 x.1) h,
  )
  block_11 (Err NotValid) = (
    λ e. absurd (omega arith),
    λ h. ⊎_elim (λ e. let z : ◌≡◌ {A = ℕ} 0 1 = cc in absurd (omega arith))
        (λ x. let e = x.0 in let z : ◌≡◌ {A = ℕ} 0 1 = cc in absurd (omega arith)) h,
  )
  block_11 (Err NotFormed) = (λ e. inl refl, λ h. refl)

  pub given_9_block : (number_for (block_at w q) ≡ no_position) ↔ Invalid w q
  given_9_block = Iff.trans (block_9 (judged w q)) (judged_9 w q)

  pub given_11_block : (number_for (block_at w q) ≡ bad_row)
      ↔ (Unformed w q.block ⊎ ((valid_at w q ≡ true) × ((q.block < w.count) × BadBack w q.block)))
  given_11_block =
      let x = block_11 (judged w q) in
      let formed : Unformed w q.block → judged w q ≡ Err NotFormed = (judged_11 w q).1 in (
        λ e. ⊎_elim (λ f. inl ((judged_11 w q).0 f)) (λ f. inr ((fine_valid w q f.0).0, f.1)) (x.0 e),
        λ h.
            x.1 (⊎_elim (λ u. inl (formed u)) (λ f. ⊎_elim (λ u. inl (formed u)) (λ e. inr (e, f.1)) (valid_fine w q f.0)) h),
      )

-- on a refusal the mounted head is as it was
pub head_stays : (w : Tape) (h : Head) (n : ℕ) → 0 < reached_no (play_mounted w h n).answer → (play_mounted w h n).head ≡ h
unfolding reached_no head_after play_mounted
head_stays w h n l = of (play_measured w h.position n) l
  where
    of : (r : Result Reached Fault) → 0 < reached_no r → head_after h r ≡ h
    of (Ok a) m = absurd (omega arith)
    of (Err f) m = refl
