-- ON A TAPE WHOSE COUNTED ROWS ARE ALL WELL FORMED: both players under short counts, the mounted head, the numbers. Assumes nothing.
use Prim.Native.Nat.{ℕ, zero, suc, ◌+◌, ◌-◌, ◌≤◌, ◌<◌}
use native.Mathlib.Omega.{arith}
use native.Mathlib.Nat.{eq-zero-or-pos}
use borrow.Author.Tests.{le-leb, lt-leb, le-ltb, eq-eqb}
use mathlib.Core.Path.{◌≡◌, refl, sym, ap, ap₂, subst, ◌∙◌}
use mathlib.Core.Bool.{Bool, true, false}
use mathlib.Core.Logic.{◌⊎◌, inl, inr, ⊎_elim}
use mathlib.Core.List.{List, [], ◌∷◌, ◌++◌}
use lib.Dec.{eqb}
use Rattle.std.specs.Prelude.{Result, Ok, Err}
use Rattle.law_base.proofs.Numbers.{lt_or_ge}
use Rattle.law_base.specs.Rules.{◌⇒◌, ◌∣◌}
use Rattle.refusals.specs.Refusals.{no_position}
use Rattle.law_pulses.specs.Play.{Level, low, Entry, pulse, endless, Status, rest, status_here, answer, Positive}
use Rattle.law_pulses.proofs.Demand.{zero_call}
use Rattle.law_pulses.specs.Source.{Outcome, lasting_entries, dropped, Below, Behind, Agrees}
use Rattle.law_pulses.proofs.Agreement.{none_dropped}
use Rattle.law_pulses.specs.Runs.{run}
use Rattle.law_pulses.proofs.Runs.{run_split}
use Rattle.rows.specs.Table.{capacity_of}
use Rattle.rows.specs.Rows.{block, block_most}
use Rattle.play_entries.specs.declared.Phase.{Phase}
use Rattle.play_entries.specs.declared.Phase.TheVariants.{Start}
use Rattle.play_entries.specs.declared.Duration.{Duration}
use Rattle.play_entries.specs.declared.Duration.TheVariants.{T, Endless}
use Rattle.play_entries.specs.Entries.{Label, entry_of, entries_of}
use Rattle.play_entries.specs.Places.{Tape, block_in, list_from, left_at, head_of, left_of, length_in}
use Rattle.play_entries.specs.Mounted.{overfull}
use Rattle.play_entries.proofs.Follows.{list_out}
use Rattle.play_entries.specs.Mounted.{WholeTape}
use Rattle.play_entries.proofs.Parts.{left_part, left_head}
use Rattle.play_entries.proofs.Tails.{tail_left, tail_rest}
use Rattle.play_walk.specs.declared.Position.{Position}
use Rattle.play_walk.specs.declared.Stand.{Stand}
use Rattle.play_walk.specs.declared.Reached.{Reached}
use Rattle.play_walk.specs.declared.Fault.{Fault}
use Rattle.play_walk.specs.declared.Fault.TheVariants.{NotValid}
use Rattle.play_walk.specs.Heads.{reached_no, placed, stand, position_of, ahead, level_here, rest_level, told_as, told_reached, ended_in}
use Rattle.play_deck.specs.declared.Head.{Head}
use Rattle.play_deck.specs.declared.Played.{Played}
use Rattle.play_deck.specs.Deck.{valid_at, judged, unless, stays, play_measured, source_answer, play_source, back_to, number_for, block_of}
use Rattle.play_deck.specs.Deck.{block_at, head_after, play_mounted}
use Rattle.play_deck.specs.Calls.{position_in, passed_in, counting, run_calls, run_sources, outcome_in}
use Rattle.play_deck.proofs.Answers.{told-position}
use Rattle.play_deck.proofs.Checks.{fine_start, fine_none}
use Rattle.play_deck.proofs.Whole.{whole_fine}
use Rattle.play_deck.proofs.Plays.{play_told, play_place}
use Rattle.play_deck.proofs.Sources.{source_told, source_agrees}
use Rattle.law_promises.specs.Playing.{Under, play_heads, told_head, told_heads, PlayNumbered}
use Rattle.law_promises.proofs.Positions.{judged_9, told_none}

-- a count below every duration of a list is so of its parts
module _ {A : Type 0} where
  below_right : (xs ys : List (Entry A)) (n : ℕ) → Below (xs ++ ys) n → Below ys n
  unfolding Below
  below_right [] ys n b = b
  below_right (endless a v ∷ xs) ys n b = below_right xs ys n b
  below_right (pulse a v t ∷ xs) ys n b = below_right xs ys n b.1

below_next : (a : Label) (v : Level) (d : Duration) (es : List (Entry Label)) (n : ℕ) → Below (entry_of a v d ∷ es) n → Below es n
unfolding Below entry_of
below_next a v (T t) es n b = b.1
below_next a v Endless es n b = b

behind-nil : {es : List (Entry Label)} (n : ℕ) → es ≡ [] → Behind es n
unfolding Behind
behind-nil n e = rw e tt

behind_next : (a : Label) (v : Level) (d : Duration) (es : List (Entry Label)) (n : ℕ) → Below es n → Behind (entry_of a v d ∷ es) n
unfolding Behind entry_of
behind_next a v (T t) es n b = b
behind_next a v Endless es n b = b

-- the tape's list from block b on is a part of its whole list
below_from : (w : Tape) (b n : ℕ) → b ≤ w.count → Below (list_from w 0) n → Below (list_from w b) n
unfolding list_from
below_from w b n h x =
    let item : ℕ → List (Entry Label) = λ i. entries_of w.bytes w.tones i (block_in w i) in
    let e : w.count - 0 ≡ b + (w.count - b) = omega arith in
    let z : 0 + b ≡ b = omega arith in
    let s : run item 0 (w.count - 0) ≡ run item 0 b ++ run item b (w.count - b) =
    ap (run item 0) e ∙ run_split item 0 b (w.count - b) ∙ ap (λ (p : ℕ). run item 0 b ++ run item p (w.count - b)) z in
    below_right (run item 0 b) (run item b (w.count - b)) n (subst (λ (es : List (Entry Label)). Below es n) s x)

rest-low : (w : Tape) → rest_level w w.count ≡ low
unfolding rest_level
rest-low w = rw (le-ltb w.count w.count (omega arith))

-- an answer counted anew is the same answer
counting-position : (j : ℕ) (o : Position) (r : Result Reached Fault) → position_in o (counting j r) ≡ position_in o r
unfolding position_in counting
counting-position j o (Ok a) = refl
counting-position j o (Err f) = refl

counting-ended : (j : ℕ) (r : Result Reached Fault) → ended_in (counting j r) ≡ ended_in r
unfolding ended_in counting
counting-ended j (Ok a) = refl
counting-ended j (Err f) = refl

counting_outcome : (w : Tape) (j : ℕ) (o : Position) (r : Result Reached Fault) → outcome_in w o (counting j r) ≡ outcome_in w o r
unfolding outcome_in
counting_outcome w j o r =
    ap₂ (λ (q : Position) (b : Bool). outcome_of (ahead w q) b) (counting-position j o r) (counting-ended j r)
  where
    outcome_of : List (Entry Label) → Bool → Outcome Label
    outcome_of es b = record { place = es; done = b }

same_agrees : {x y : Outcome Label} → x ≡ y → Agrees x y
unfolding lasting_entries
same_agrees {x} {y} e =
    record {
      ends = ap (λ (o : Outcome Label). o.done) e;
      left = ap (λ (o : Outcome Label). lasting_entries o.place) e;
      heads = inl (record { gone = []; none = refl; split = ap (λ (o : Outcome Label). o.place) e });
    }

-- where an answer as told leaves the mounted head
head_told : (h : Head) (st : Status) (s : Stand) → head_after h (told_as st s) ≡ record { position = s.position }
unfolding head_after told_as
head_told h st s = refl

module _ (w : Tape) (whole : WholeTape w) where
  -- a count below every nonzero finite duration on the tape is below those behind the head's own entry, of which some may be played
  pub under_behind : (q : Position) (n : ℕ) → valid_at w q ≡ true → Below (list_from w 0) n → Behind (ahead w q) n
  unfolding left_at
  under_behind q n v b =
      ⊎_elim
      (λ h.
      let x = left_part w q.block h q.phase q.left v in
      let y = below_from w q.block n (omega arith) b in
      let z = below_right x.entry.gone _ n (subst (λ (es : List (Entry Label)). Below es n) x.entry.whole y) in
      subst (λ (es : List (Entry Label)). Behind es n) (sym x.rest)
      (behind_next _ _ q.left x.next n (below_next _ _ (length_in w q.block q.phase) x.next n z)))
      (λ g.
      let s = fine_start w q (whole_fine w whole q v) g in
      behind-nil n (ap (λ (f : Phase). left_at w q.block f q.left) s ∙ list_out w q.block g))
      (lt_or_ge q.block w.count)

  -- ONE CALL: both players give the same answer, entries passed included
  pub under_same : (q : Position) (n : ℕ) → valid_at w q ≡ true → Below (list_from w 0) n → play_source w q n ≡ play_measured w q n
  unfolding play_source play_measured unless
  under_same q n v b =
      ⊎_elim
      (λ z. rw (whole_fine w whole q v, eq-eqb n 0 z))
      (λ p.
      let d = none_dropped (ahead w q) n (under_behind q n v b) in
      let k : n + dropped (ahead w q) n ≡ n = omega arith in
      (source_agrees w whole q n v p).0 ∙ ap (play_measured w q) k)
      (eq-zero-or-pos n)

  -- a call of 0 leaves the head where it is; any call leaves it at a valid position
  zero_place : (q : Position) → valid_at w q ≡ true → position_in q (play_measured w q 0) ≡ q
  unfolding play_measured unless stays
  zero_place q v = rw (whole_fine w whole q v) (told-position q (status_here (ahead w q)) (stand q 0 (level_here low (ahead w q))))

  place_valid : (q : Position) (n : ℕ) → valid_at w q ≡ true → valid_at w (position_in q (play_measured w q n)) ≡ true
  place_valid q n v =
      ⊎_elim
      (λ z. ap (λ (k : ℕ). valid_at w (position_in q (play_measured w q k))) z ∙ ap (valid_at w) (zero_place q v) ∙ v)
      (λ p. (play_place w whole q n v p).1)
      (eq-zero-or-pos n)

  runs_same : (q o : Position) (n : ℕ) (ms : List ℕ) → valid_at w q ≡ true → Under w (n ∷ ms)
      → outcome_in w o (run_sources w q n ms) ≡ outcome_in w o (run_calls w q n ms)
  unfolding run_sources run_calls Under
  runs_same q o n [] v u = ap (outcome_in w o) (under_same q n v u.0)
  runs_same q o n (m ∷ ms) v u =
      let p = position_in q (play_measured w q n) in
      ap (λ (r : Result Reached Fault). outcome_in w o (run_sources w (position_in q r) m ms)) (under_same q n v u.0)
      ∙ runs_same p o m ms (place_valid q n v) u.1
      ∙ sym (counting_outcome w (passed_in (play_measured w q n)) o (run_calls w p m ms))

  -- ANY CALLS, of 0 too, each below every nonzero finite duration on the tape, from any valid position
  pub under_agree : (q : Position) (n : ℕ) (ms : List ℕ) → valid_at w q ≡ true → Under w (n ∷ ms)
      → Agrees (outcome_in w q (run_sources w q n ms)) (outcome_in w q (run_calls w q n ms))
  under_agree q n ms v u = same_agrees (runs_same q q n ms v u)

  -- a valid position is the place of its own list, unless it is past the count
  own_place : (q : Position) → valid_at w q ≡ true → q.block ≤ w.count → position_of w (ahead w q) ≡ q
  unfolding head_of left_of left_at
  own_place q v h =
      ⊎_elim
      (λ l.
      let x = left_head w q.block l q.phase q.left v in
      ap₂ (λ (s : Label) (d : Duration). placed s.block s.phase d) x.0 x.1)
      (λ g.
      let c : w.count ≡ q.block = omega arith in
      let s = fine_start w q (whole_fine w whole q v) g in
      let d = fine_none w q (whole_fine w whole q v) g in
      ap (position_of w) (ap (λ (f : Phase). left_at w q.block f q.left) s ∙ list_out w q.block g)
      ∙ ap (λ (b : ℕ). placed b Start (T 0)) c
      ∙ ap₂ (λ (f : Phase) (y : Duration). placed q.block f y) (sym s) (sym d))
      (lt_or_ge q.block w.count)

  -- the list's answer, of a call of 0 too
  zero-told : (q : Position) → valid_at w q ≡ true → position_of w (ahead w q) ≡ q
      → play_measured w q 0 ≡ told_reached w w (answer (ahead w q) 0)
  unfolding play_measured unless stays told_reached
  zero-told q v own =
      let es = ahead w q in
      rw (whole_fine w whole q v)
      (ap₂ (λ (p : Position) (c : Level). told_as (status_here es) (stand p 0 (level_here c es))) (sym own) (sym (rest-low w))
      ∙ sym (ap (told_reached w w) (zero_call es)))

  any_told : (q : Position) (n : ℕ) → valid_at w q ≡ true → (position_of w (ahead w q) ≡ q) ⊎ (0 < n)
      → play_measured w q n ≡ told_reached w w (answer (ahead w q) n)
  any_told q n v (inr p) = play_told w whole q n v p
  any_told q n v (inl own) =
      ⊎_elim
      (λ z. ap (play_measured w q) z ∙ zero-told q v own ∙ ap (λ (k : ℕ). told_reached w w (answer (ahead w q) k)) (sym z))
      (λ p. play_told w whole q n v p)
      (eq-zero-or-pos n)

  mounted-told : (h : Head) (n : ℕ) → valid_at w h.position ≡ true
      → (position_of w (ahead w h.position) ≡ h.position) ⊎ (0 < n)
      → play_mounted w h n ≡ told_head w (ahead w h.position) n
  unfolding play_mounted told_reached
  mounted-told h n v o =
      let a = answer (ahead w h.position) n in
      ap (λ (r : Result Reached Fault). played_of (head_after h r) r) (any_told h.position n v o)
      ∙ ap (λ (g : Head). played_of g (told_reached w w a)) (head_told h a.tells _)
    where
      played_of : Head → Result Reached Fault → Played
      played_of g r = record { head = g; answer = r }

  -- what the head needs for the calls to come: to be the place of its own list, or calls of 1 or more
  abbrev Ready : Head → List ℕ → Type 0
  Ready h ns = (position_of w (ahead w h.position) ≡ h.position) ⊎ Positive ns

  ready_one : (h : Head) (n : ℕ) (ns : List ℕ) → Ready h (n ∷ ns)
      → (position_of w (ahead w h.position) ≡ h.position) ⊎ (0 < n)
  unfolding Positive
  ready_one h n ns (inl o) = inl o
  ready_one h n ns (inr p) = inr p.0

  heads_ready : (h : Head) (ns : List ℕ) → valid_at w h.position ≡ true → Ready h ns
      → play_heads w h ns ≡ told_heads w (ahead w h.position) ns
  unfolding play_heads told_heads answer
  heads_ready h [] v o = refl
  heads_ready h (n ∷ ns) v o =
      let es = ahead w h.position in
      let e = mounted-told h n v (ready_one h n ns o) in
      let g : Head = record { position = position_of w (rest es n) } in
      let x = tail_rest w es n (tail_left w h.position.block h.position.phase h.position.left v) in
      ap₂ (λ (p : Played) (ps : List Played). p ∷ ps) e
      (ap (λ (p : Played). play_heads w p.head ns) e
      ∙ heads_ready g ns x.stands (inl (ap (position_of w) x.ahead))
      ∙ ap (λ (r : List (Entry Label)). told_heads w r ns) x.ahead)

  -- THE MOUNTED HEAD: any chain of calls answers as the list's calls say; past the count, of 1 or more
  pub heads_told : (h : Head) (ns : List ℕ) → valid_at w h.position ≡ true → (h.position.block ≤ w.count) ⊎ Positive ns
      → play_heads w h ns ≡ told_heads w (ahead w h.position) ns
  heads_told h ns v (inl l) = heads_ready h ns v (inl (own_place h.position v l))
  heads_told h ns v (inr p) = heads_ready h ns v (inr p)

  -- the numbers
  few : overfull w ≡ false
  few = le-ltb (capacity_of block block_most w.blocks) w.count whole.lent

  not_fine : (q : Position) → valid_at w q ≡ false → judged w q ≡ Err NotValid
  not_fine q e = (judged_9 w q).1 (record { few = few; well = λ h. whole.rows q.block h; bad = e })

  valid_measured : (q : Position) (n : ℕ) → valid_at w q ≡ true → reached_no (play_measured w q n) ≡ 0
  unfolding play_measured unless stays told_reached
  valid_measured q n v =
      ⊎_elim
      (λ z. rw (whole_fine w whole q v, eq-eqb n 0 z) (told_none (status_here (ahead w q)) _))
      (λ p. ap reached_no (play_told w whole q n v p) ∙ told_none (answer (ahead w q) n).tells _)
      (eq-zero-or-pos n)

  valid-source : (q : Position) (n : ℕ) → valid_at w q ≡ true → reached_no (play_source w q n) ≡ 0
  unfolding play_source unless stays told_reached
  valid-source q n v =
      ⊎_elim
      (λ z. rw (whole_fine w whole q v, eq-eqb n 0 z) (told_none (status_here (ahead w q)) _))
      (λ p. ap reached_no (source_told w whole q n v p) ∙ told_none (source_answer (ahead w q) n).tells _)
      (eq-zero-or-pos n)

  back_none : (b : ℕ) → b < w.count → number_for (back_to w b) ≡ 0
  unfolding number_for back_to
  back_none zero h = rw (whole.rows 0 h)
  back_none (suc b) h = rw (whole.rows (suc b) h) (of (eqb (block_in w (suc b)).selectable 1) (back_none b (omega arith)))
    where
      of : (m : Bool) → number_for (back_to w b) ≡ 0 → number_for (m ⇒ Ok (suc b) ∣ back_to w b) ≡ 0
      of true e = refl
      of false e = e

  valid-block : (q : Position) → valid_at w q ≡ true → number_for (block_at w q) ≡ 0
  unfolding number_for block_of
  valid-block q v =
      ⊎_elim
      (λ l. rw (whole_fine w whole q v, lt-leb w.count q.block l) (back_none q.block l))
      (λ g. rw (whole_fine w whole q v, le-leb w.count q.block g))
      (lt_or_ge q.block w.count)

  numbered : (q : Position) (number : ℕ) → (valid_at w q ≡ true → number ≡ 0) → (valid_at w q ≡ false → number ≡ no_position)
      → PlayNumbered w q number
  numbered q number fine off = of (valid_at w q) refl
    where
      of : (b : Bool) → valid_at w q ≡ b → PlayNumbered w q number
      of true e =
          record {
            never_11 = λ x. absurd (omega (arith, fine e));
            only_9 = (λ x. absurd (omega (arith, fine e)), λ f. off f);
            else_none = fine;
          }
      of false e = record { never_11 = λ x. absurd (omega (arith, off e)); only_9 = (λ x. e, off); else_none = fine }

  -- NO PLAYER ANSWERS 11, and 9 only where the position is not valid
  pub measured_numbered : (q : Position) (n : ℕ) → PlayNumbered w q (reached_no (play_measured w q n))
  unfolding play_measured unless reached_no
  measured_numbered q n = numbered q _ (valid_measured q n) (λ e. rw (not_fine q e))

  pub source_numbered : (q : Position) (n : ℕ) → PlayNumbered w q (reached_no (play_source w q n))
  unfolding play_source unless reached_no
  source_numbered q n = numbered q _ (valid-source q n) (λ e. rw (not_fine q e))

  pub block_numbered : (q : Position) → PlayNumbered w q (number_for (block_at w q))
  unfolding block_of number_for
  block_numbered q = numbered q _ (valid-block q) (λ e. rw (not_fine q e))

  pub mounted_numbered : (h : Head) (n : ℕ) → PlayNumbered w h.position (reached_no (play_mounted w h n).answer)
  unfolding play_mounted
  mounted_numbered h n = measured_numbered h.position n
