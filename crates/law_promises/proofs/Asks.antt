-- NUMBERS FOR NO, 8, 10 AND 11 OF THE QUERIES: rules 28, 30 and 31, 'given exactly when'. Assumes nothing.
use Prim.Native.Nat.{ℕ, ◌≤◌, ◌<◌}
use native.Mathlib.Omega.{arith}
use borrow.Author.Tests.{le-leb, lt-leb, leb-true, leb-false, lt-ltb, ltb-true}
use mathlib.Core.Path.{◌≡◌, refl, sym, ap, subst, ◌∙◌}
use mathlib.Core.Bool.{Bool, true, false, not, ◌&&◌}
use mathlib.Core.Logic.Iff
use mathlib.Core.Logic.{◌↔◌, ◌⊎◌, inl, inr, ⊎_elim}
use mathlib.Core.List.{List, ◌++◌}
use lib.Dec.{leb, ltb, eqb}
use lib.ListN.{length, drop}
use Rattle.law_base.specs.Rules.{◌⇒◌, ◌∣◌}
use Rattle.law_base.proofs.Tests.{first, second}
use Rattle.std.specs.Prelude.{Result, Ok, Err}
use Rattle.refusals.specs.declared.Refusal.{Refusal}
use Rattle.refusals.specs.declared.Refusal.TheVariants.{BadModel, TapeLong, TapeBad, Generalised, TonesFull, BlocksFull}
use Rattle.refusals.specs.declared.Refusal.TheVariants.{LastBits, NoBlock, NoPosition, NoRoom, BadRow}
use Rattle.refusals.specs.Refusals.{no_block, no_room, bad_row, number, answer_no}
use Rattle.rows.specs.declared.Block.{Block}
use Rattle.law_pulses.specs.Play.{Status, standing, stopped, ended, comes_to}
use Rattle.law_pulses.specs.Source.{is_ended}
use Rattle.text_out.specs.Out.{fits, told}
use Rattle.text_name.specs.Names.{name_of}
use Rattle.play_entries.specs.Places.{Tape, block_in, list_from, left_at}
use Rattle.play_entries.specs.Stored.{row_lasts, rows_time}
use Rattle.play_entries.specs.Mounted.{overfull, well_row, formed}
use Rattle.ask.specs.Queries.{asked, told_of, named_or, refusal_of, len_of, size_of, selectable_of}
use Rattle.ask.specs.Queries.{time_of, name_in, length_or_no_room, name_answer, name_bytes, loading_of}
use Rattle.ask.proofs.Refusals.{answerable}
use Rattle.ask.proofs.Named.{no_bytes}
use Rattle.ask.proofs.Listed.{to_stop}
use Rattle.play_walk.specs.Heads.{start_at}
use Rattle.law_promises.specs.Numbers.{PastCount, Unformed, Asked, Reaches, enough}
use Rattle.law_promises.proofs.Reaching.{Runs, runs_reach, comes_finite, start_cuts}

-- the rules of a query's refusal, tried in order
data Rules (a b c : Bool) (k : ℕ) : Type 0 where
  full : a ≡ true → k ≡ bad_row → Rules a b c k
  past : a ≡ false → b ≡ true → k ≡ no_block → Rules a b c k
  bad : a ≡ false → b ≡ false → c ≡ false → k ≡ bad_row → Rules a b c k
  none : a ≡ false → b ≡ false → c ≡ true → k ≡ 0 → Rules a b c k

rules : (a b c : Bool) (r : Block) → Rules a b c (answer_no (a ⇒ Err BadRow ∣ b ⇒ Err NoBlock ∣ c ⇒ Ok r ∣ Err BadRow))
rules true b c r = full refl refl
rules false true c r = past refl refl refl
rules false false true r = none refl refl refl refl
rules false false false r = bad refl refl refl refl

-- what is told of a row has the refusal of the row
same_no : {A : Type 0} (f : Block → A) (x : Result Block Refusal) → answer_no (told_of f x) ≡ answer_no x
unfolding told_of
same_no f (Ok r) = refl
same_no f (Err k) = refl

-- no refusal has the number 0
numbered : (k : Refusal) → 0 < number k
numbered BadModel = omega arith
numbered TapeLong = omega arith
numbered TapeBad = omega arith
numbered Generalised = omega arith
numbered TonesFull = omega arith
numbered BlocksFull = omega arith
numbered LastBits = omega arith
numbered NoBlock = omega arith
numbered NoPosition = omega arith
numbered NoRoom = omega arith
numbered BadRow = omega arith

-- 10, or none
room : (text out : List ℕ)
    → (answer_no (length_or_no_room text out) ≡ 0) ⊎ ((answer_no (length_or_no_room text out) ≡ no_room) × (length out < length text))
unfolding length_or_no_room
room text out = of (fits text out) refl
  where
    of : (b : Bool) → fits text out ≡ b
        → (answer_no (b ⇒ Ok (length text) ∣ Err NoRoom) ≡ 0)
        ⊎ ((answer_no (b ⇒ Ok (length text) ∣ Err NoRoom) ≡ no_room) × (length out < length text))
    of true e = inl refl
    of false e = inr (refl, leb-false _ _ e)

no_room_lem : (text out : List ℕ) → length out < length text → answer_no (length_or_no_room text out) ≡ no_room
unfolding length_or_no_room
no_room_lem text out h = rw (lt-leb (length text) (length out) h)

module _ (w : Tape) (i : ℕ) where
  of-rules : Rules (overfull w) (leb w.count i) (well_row w i) (refusal_of w i)
  unfolding asked
  of-rules = rules (overfull w) (leb w.count i) (well_row w i) (block_in w i)

  refusal_8 : (refusal_of w i ≡ no_block) ↔ PastCount w i
  unfolding asked
  refusal_8 = (λ e. of e of-rules, λ h. rw (h.0, le-leb w.count i h.1))
    where
      of : refusal_of w i ≡ no_block → Rules (overfull w) (leb w.count i) (well_row w i) (refusal_of w i) → PastCount w i
      of e (full a q) = absurd (omega arith)
      of e (past a b q) = (a, leb-true _ _ b)
      of e (bad a b c q) = absurd (omega arith)
      of e (none a b c q) = absurd (omega arith)

  refusal_11 : (refusal_of w i ≡ bad_row) ↔ Unformed w i
  unfolding asked
  refusal_11 = (λ e. of e of-rules, λ h. ⊎_elim (λ x. rw x) (λ x. by-full (overfull w) x) h)
    where
      of : refusal_of w i ≡ bad_row → Rules (overfull w) (leb w.count i) (well_row w i) (refusal_of w i) → Unformed w i
      of e (full a q) = inl a
      of e (past a b q) = absurd (omega arith)
      of e (bad a b c q) = inr (leb-false _ _ b, c)
      of e (none a b c q) = absurd (omega arith)

      by-full : (a : Bool) → (i < w.count) × (well_row w i ≡ false)
          → answer_no (a ⇒ Err BadRow ∣ leb w.count i ⇒ Err NoBlock ∣ well_row w i ⇒ Ok (block_in w i) ∣ Err BadRow) ≡ bad_row
      by-full true x = refl
      by-full false x = rw (lt-leb w.count i x.0, x.1)

  refusal_none : (refusal_of w i ≡ 0) ↔ Asked w i
  unfolding asked
  refusal_none = (λ e. of e of-rules, λ h. rw (h.few, lt-leb w.count i h.there, h.well))
    where
      of : refusal_of w i ≡ 0 → Rules (overfull w) (leb w.count i) (well_row w i) (refusal_of w i) → Asked w i
      of e (full a q) = absurd (omega arith)
      of e (past a b q) = absurd (omega arith)
      of e (bad a b c q) = absurd (omega arith)
      of e (none a b c q) = record { few = a; there = leb-false _ _ b; well = c }

  -- each query about block i answers the refusal's number
  size_no : answer_no (size_of w i) ≡ refusal_of w i
  unfolding size_of
  size_no = same_no (λ r. r.size) (asked w i)

  selectable_no : answer_no (selectable_of w i) ≡ refusal_of w i
  unfolding selectable_of
  selectable_no = same_no (λ r. eqb r.selectable 1) (asked w i)

  time-no : answer_no (time_of w i) ≡ refusal_of w i
  unfolding time_of
  time-no = same_no row_lasts (asked w i)

  -- of the row of block i the name is told
  row_named : (r : Block) (out : List ℕ) → Ok r ≡ asked w i
      → length_or_no_room (name_of w.bytes r) out ≡ length_or_no_room (name_in w i) out
  row_named r out e = ap (λ (x : Block). length_or_no_room (name_of w.bytes x) out) (sym (answerable w i r e).row)

  -- the name: the refusal's number, then 10
  after : (out : List ℕ) (k : ℕ) → 1 ≤ k → (x : Result Block Refusal) → x ≡ asked w i
      → (answer_no (named_or w out x) ≡ k)
      ↔ ((answer_no x ≡ k) ⊎ ((answer_no x ≡ 0) × (answer_no (length_or_no_room (name_in w i) out) ≡ k)))
  unfolding named_or
  after out k l (Ok r) e =
      let n = ap (λ (x : Result ℕ Refusal). answer_no x) (row_named r out e) in
      (λ z. inr (refl, sym n ∙ z), λ h. ⊎_elim (λ z. absurd (omega (arith, l, z))) (λ z. n ∙ z.1) h)
  after out k l (Err j) e = (λ z. inl z, λ h. ⊎_elim (λ z. z) (λ z. absurd (omega (arith, numbered j, z.0))) h)

  name_no : (out : List ℕ) (k : ℕ) → 1 ≤ k
      → (answer_no (name_answer w i out) ≡ k)
      ↔ ((refusal_of w i ≡ k) ⊎ ((refusal_of w i ≡ 0) × (answer_no (length_or_no_room (name_in w i) out) ≡ k)))
  unfolding name_answer
  name_no out k l = after out k l (asked w i) refl

  name_other : (out : List ℕ) (k : ℕ) → 1 ≤ k → (k ≡ no_room → ⊥)
      → (answer_no (name_answer w i out) ≡ k) ↔ (refusal_of w i ≡ k)
  name_other out k l d = (
    λ e. ⊎_elim (λ x. x)
        (λ x. absurd (⊎_elim (λ z. absurd (omega (arith, x.1, z))) (λ z. d (sym x.1 ∙ z.0)) (room (name_in w i) out)))
        ((name_no out k l).0 e),
    λ e. (name_no out k l).1 (inl e),
  )

  -- 8: block number not below the count (name, size, selectable; and the block's time)
  pub given_8_name : (out : List ℕ) → (answer_no (name_answer w i out) ≡ no_block) ↔ PastCount w i
  given_8_name out = Iff.trans (name_other out no_block (omega arith) (λ e. omega arith)) refusal_8

  pub given_8_size : (answer_no (size_of w i) ≡ no_block) ↔ PastCount w i
  given_8_size = rw size_no refusal_8

  pub given_8_selectable : (answer_no (selectable_of w i) ≡ no_block) ↔ PastCount w i
  given_8_selectable = rw selectable_no refusal_8

  pub given_8_time : (answer_no (time_of w i) ≡ no_block) ↔ PastCount w i
  given_8_time = rw time-no refusal_8

  -- 10: output buffer shorter than the text
  pub given_10_name : (out : List ℕ) → (answer_no (name_answer w i out) ≡ no_room) ↔ (Asked w i × (length out < length (name_in w i)))
  given_10_name out = (
    λ e. ⊎_elim (λ x. absurd (never_10 x of-rules))
        (λ x. (refusal_none.0 x.0, ⊎_elim (λ z. absurd (omega (arith, x.1, z))) (λ z. z.1) (room (name_in w i) out)))
        ((name_no out no_room (omega arith)).0 e),
    λ h. (name_no out no_room (omega arith)).1 (inr (refusal_none.1 h.0, no_room_lem (name_in w i) out h.1)),
  )
    where
      never_10 : refusal_of w i ≡ no_room → Rules (overfull w) (leb w.count i) (well_row w i) (refusal_of w i) → ⊥
      never_10 e (full a q) = absurd (omega arith)
      never_10 e (past a b q) = absurd (omega arith)
      never_10 e (bad a b c q) = absurd (omega arith)
      never_10 e (none a b c q) = absurd (omega arith)

  -- 11: a needed row is not well formed, or the count exceeds capacity
  pub given_11_name : (out : List ℕ) → (answer_no (name_answer w i out) ≡ bad_row) ↔ Unformed w i
  given_11_name out = Iff.trans (name_other out bad_row (omega arith) (λ e. omega arith)) refusal_11

  pub given_11_size : (answer_no (size_of w i) ≡ bad_row) ↔ Unformed w i
  given_11_size = rw size_no refusal_11

  pub given_11_selectable : (answer_no (selectable_of w i) ≡ bad_row) ↔ Unformed w i
  given_11_selectable = rw selectable_no refusal_11

  pub given_11_time : (answer_no (time_of w i) ≡ bad_row) ↔ Unformed w i
  given_11_time = rw time-no refusal_11

-- how many blocks there are: the count alone
pub given_11_len : (w : Tape) → (answer_no (len_of w) ≡ bad_row) ↔ (overfull w ≡ true)
unfolding len_of
given_11_len w = (λ e. of (overfull w) e, λ h. rw h)
  where
    of : (a : Bool) → answer_no (a ⇒ Err BadRow ∣ Ok w.count) ≡ bad_row → a ≡ true
    of true e = refl
    of false e = absurd (omega arith)

pub ended_is : (st : Status) → is_ended st ≡ true → st ≡ ended
ended_is standing e = let z : ◌≡◌ {A = ℕ} 0 1 = cc in absurd (omega arith)
ended_is stopped e = let z : ◌≡◌ {A = ℕ} 0 1 = cc in absurd (omega arith)
ended_is ended e = refl

-- the loading time, as the definition tests it
loading_runs : (w : Tape)
    → (answer_no (loading_of w) ≡ bad_row) ↔ ((overfull w ≡ true) ⊎ Runs w 0 (comes_to (list_from (formed w 0) 0)))
unfolding loading_of
loading_runs w = rw (to_stop w) (
  λ e. of (overfull w) (is_ended end && ltb (formed w 0).count w.count) refl refl e,
  λ h. ⊎_elim (λ x. rw x) (λ x. back (overfull w) (is_ended end && ltb (formed w 0).count w.count)
      (rw (x.over, lt-ltb (formed w 0).count w.count x.cut))) h,
)
  where
    end : Status
    end = comes_to (list_from (formed w 0) 0)

    answer : Bool → Bool → Result ℕ Refusal
    answer a b = a ⇒ Err BadRow ∣ not b ⇒ Ok (rows_time w) ∣ Err BadRow

    of : (a b : Bool) → overfull w ≡ a → (is_ended end && ltb (formed w 0).count w.count) ≡ b
        → answer_no (answer a b) ≡ bad_row → (overfull w ≡ true) ⊎ Runs w 0 end
    of true b q f e = inl q
    of false true q f e = inr (record {
      over = ended_is end (first (is_ended end) (ltb (formed w 0).count w.count) f);
      cut = ltb-true _ _ (second (is_ended end) (ltb (formed w 0).count w.count) f);
    })
    of false false q f e = absurd (omega arith)

    back : (a b : Bool) → b ≡ true → answer_no (answer a b) ≡ bad_row
    back true b e = refl
    back false true e = refl
    back false false e = cc

-- its entries up to the first stop or the end come to a row that is not well formed
pub given_11_loading : (w : Tape)
    → (answer_no (loading_of w) ≡ bad_row) ↔ ((overfull w ≡ true) ⊎ ((k : ℕ) × Reaches w (start_at 0) enough k))
unfolding left_at
given_11_loading w =
    let es = list_from (formed w 0) 0 in
    let x = loading_runs w in
    let c = comes_finite es in
    let y = runs_reach w (start_at 0) enough (start_cuts w 0) (comes_to es) (λ e. (c.0 e, omega arith), λ h. c.1 h.0) in
    (λ e. ⊎_elim (λ o. inl o) (λ r. inr (y.0 r)) (x.0 e), λ h. x.1 (⊎_elim (λ o. inl o) (λ r. inr (y.1 r)) h))

-- a refusal writes no output byte
pub name_stays : (w : Tape) (i : ℕ) (out : List ℕ) → 0 < answer_no (name_answer w i out) → name_bytes w i out ≡ out
unfolding name_answer named_or length_or_no_room name_bytes told
name_stays w i out h = of (asked w i) refl h
  where
    short : (b : Bool) → 0 < answer_no (b ⇒ Ok (length (name_in w i)) ∣ Err NoRoom)
        → (b ⇒ name_in w i ++ drop (length (name_in w i)) out ∣ out) ≡ out
    short true l = absurd (omega arith)
    short false l = refl

    of : (x : Result Block Refusal) → asked w i ≡ x → 0 < answer_no (named_or w out x) → name_bytes w i out ≡ out
    of (Ok r) e l =
        let n = ap (λ (x : Result ℕ Refusal). answer_no x) (row_named w i r out (sym e)) in
        rw e (short (fits (name_in w i) out) (subst (λ (m : ℕ). 0 < m) n l))
    of (Err k) e l = no_bytes w i k out (sym e)
