-- DEMAND 3 OVER TAPES: on well-formed rows the measured player is the list's, from every valid position, for any cutting into calls.
-- Assumes nothing.
use Rattle.play_walk.specs.Heads.{came}
use Prim.Native.Nat.{ℕ, ◌+◌, ◌-◌, ◌≤◌, ◌<◌}
use native.Mathlib.Omega.{arith}
use borrow.Author.Tests.{ne_eqb, le-ltb}
use mathlib.Core.Path.{◌≡◌, refl, sym, ap, ap₂, ◌∙◌}
use mathlib.Core.Bool.{true}
use mathlib.Core.Logic.{⊎_elim}
use mathlib.Core.List.{List, [], ◌∷◌}
use Rattle.law_pulses.specs.Play.{Level, low, Entry, pulse, endless, Status, rest, over, answer, counted_on, calls, sum, Positive}
use Rattle.law_pulses.specs.Play.{time, Demanded}
use native.Mathlib.Nat.{eq-zero-or-pos}
use lib.ListN.{length}
use Rattle.law_pulses.proofs.Steps.{over_zero, over-rest}
use Rattle.law_pulses.proofs.Demand.{status-over, conserved, any_cut, demanded}
use Rattle.play_entries.specs.declared.Phase.{Phase}
use Rattle.play_entries.specs.Entries.{Label}
use Rattle.play_entries.specs.Places.{Tape, block_in, level_at, head_of, left_of}
use Rattle.play_entries.proofs.Tails.{tail_left, tail_rest}
use Rattle.play_entries.proofs.Levels.{levels_left, levels_rest}
use Rattle.play_walk.specs.declared.Position.{Position}
use Rattle.play_walk.specs.declared.How.TheVariants.{Ended}
use Rattle.play_walk.specs.Heads.{start_at, stand, position_of, ahead, level_here, rest_level, told_as, told_reached, walk_from}
use Rattle.play_deck.specs.Deck.{valid_at, unless, play_measured}
use Rattle.play_deck.specs.Calls.{position_in, passed_in, counting, answer_level, run_calls}
use Rattle.play_deck.proofs.Answers.{told-position, passed_of, counted-told, level_told}
use Rattle.play_deck.proofs.Whole.{all_walked, whole_fine}
use Rattle.play_entries.proofs.Formed.{whole-formed}
use Rattle.play_entries.specs.Mounted.{WholeTape}
use Rattle.play_entries.specs.Tails.{Levels}

place_of : (w : Tape) (es : List (Entry Label)) (n m : ℕ) (ms : List ℕ)
    → told_reached w w (counted_on (answer es n).passed (calls (rest es n) m ms))
    ≡ told_reached w w (counted_on (answer es n).passed (calls (answer es n).place m ms))
unfolding answer
place_of w es n m ms = refl

over_some : (es : List (Entry Label)) (n : ℕ) → 0 < over es n → 0 < n
over_some es n h =
    ⊎_elim (λ z. let y : over es n ≡ 0 = ap (over es) z ∙ over_zero es in absurd (omega arith)) (λ p. p) (eq-zero-or-pos n)

-- the level of a list's head is its entry's
level_head : (w : Tape) (c : Level) (es : List (Entry Label)) → Levels w es → (head_of w es).block < w.count
    → level_here c es ≡ level_at w.tones (block_in w (head_of w es).block) (head_of w es).phase
unfolding level_here head_of Levels
level_head w c [] l h = absurd (omega arith)
level_head w c (pulse a v t ∷ es) l h = l.0
level_head w c (endless a v ∷ es) l h = l.0

rest-low : (w : Tape) → rest_level w w.count ≡ low
unfolding rest_level
rest-low w = rw (le-ltb w.count w.count (omega arith))

module _ (w : Tape) (whole : WholeTape w) where
  -- THE MEASURED PLAYER answers what the list says
  pub play_told : (q : Position) (n : ℕ) → valid_at w q ≡ true → 0 < n
      → play_measured w q n ≡ told_reached w w (answer (ahead w q) n)
  unfolding play_measured unless walk_from
  play_told q n v p =
      rw (whole_fine w whole q v, ne_eqb n 0 (omega arith), whole-formed w whole q.block) (all_walked w (answer (ahead w q) n))

  play_position : (q : Position) (n : ℕ) → valid_at w q ≡ true → 0 < n
      → position_in q (play_measured w q n) ≡ position_of w (rest (ahead w q) n)
  unfolding told_reached answer
  play_position q n v p = ap (position_in q) (play_told q n v p) ∙ told-position q _ _

  -- where the head then stands: what is left to play from there is what is left of the list, and the position is valid
  pub play_place : (q : Position) (n : ℕ) → valid_at w q ≡ true → 0 < n
      → (ahead w (position_in q (play_measured w q n)) ≡ rest (ahead w q) n) × (valid_at w (position_in q (play_measured w q n)) ≡ true)
  play_place q n v p =
      let x = tail_rest w (ahead w q) n (tail_left w q.block q.phase q.left v) in
      let e = play_position q n v p in
      (ap (ahead w) e ∙ x.ahead, ap (valid_at w) e ∙ x.stands)

  -- ANY CALLS answer what the list's calls say
  pub calls-told : (q : Position) (n : ℕ) (ms : List ℕ) → valid_at w q ≡ true → 0 < n → Positive ms
      → run_calls w q n ms ≡ told_reached w w (calls (ahead w q) n ms)
  unfolding run_calls calls Positive
  calls-told q n [] v p h = play_told q n v p
  calls-told q n (m ∷ ms) v p h =
      let x = play_place q n v p in
      ap₂ counting (passed_told q n v p)
      (calls-told (position_in q (play_measured w q n)) m ms x.1 h.0 h.1
      ∙ ap (λ (r : List (Entry Label)). told_reached w w (calls r m ms)) x.0)
      ∙ counted-told w w (answer (ahead w q) n).passed (calls (rest (ahead w q) n) m ms)
      ∙ place_told q n m ms
    where
      passed_told : (q : Position) (n : ℕ) → valid_at w q ≡ true → 0 < n
          → passed_in (play_measured w q n) ≡ (answer (ahead w q) n).passed
      passed_told q n v p = ap passed_in (play_told q n v p) ∙ passed_of w w (answer (ahead w q) n)

      place_told : (q : Position) (n m : ℕ) (ms : List ℕ)
          → told_reached w w (counted_on (answer (ahead w q) n).passed (calls (rest (ahead w q) n) m ms))
          ≡ told_reached w w (counted_on (answer (ahead w q) n).passed (calls (answer (ahead w q) n).place m ms))
      place_told q n m ms = place_of w (ahead w q) n m ms

  -- .. and so as one call of their sum
  pub cut_at_will : (q : Position) (n : ℕ) (ms : List ℕ) → valid_at w q ≡ true → 0 < n → Positive ms
      → run_calls w q n ms ≡ play_measured w q (n + sum ms)
  cut_at_will q n ms v p h =
      calls-told q n ms v p h ∙ ap (told_reached w w) (any_cut (ahead w q) n ms h) ∙ sym (play_told q (n + sum ms) v (omega arith))

  -- DEMAND 3 for the code's positions: the calls' answer is the list's, and the list's is what demand 3 asks
  pub demand_3 : (q : Position) (n : ℕ) (ms : List ℕ) → valid_at w q ≡ true → 0 < n → Positive ms
      → (run_calls w q n ms ≡ told_reached w w (calls (ahead w q) n ms)) × Demanded (ahead w q) (n + sum ms) (calls (ahead w q) n ms)
  demand_3 q n ms v p h = (calls-told q n ms v p h, demanded (ahead w q) n ms p h)

  -- CONSERVATION: up to the stop or the end, time gone and the listed time left from the new position are what was listed
  pub time-kept : (q : Position) (n : ℕ) → valid_at w q ≡ true → 0 < n → n ≤ time (ahead w q)
      → n + time (ahead w (position_in q (play_measured w q n))) ≡ time (ahead w q)
  unfolding answer calls sum Positive
  time-kept q n v p h = ap (λ (r : List (Entry Label)). n + time r) (play_place q n v p).0 ∙ (conserved (ahead w q) n h).0

  -- the level answered is that of the position answered, where it stands below the count
  pub play_level : (q : Position) (n : ℕ) → valid_at w q ≡ true → 0 < n → (b : ℕ) (f : Phase)
      → (position_in q (play_measured w q n)).block ≡ b → (position_in q (play_measured w q n)).phase ≡ f → b < w.count
      → answer_level (play_measured w q n) ≡ level_at w.tones (block_in w b) f
  unfolding answer
  play_level q n v p b f eb ef h =
      let es = rest (ahead w q) n in
      let e = play_position q n v p in
      let x : (head_of w es).block ≡ b = sym (ap (λ (y : Position). y.block) e) ∙ eb in
      let y : (head_of w es).phase ≡ f = sym (ap (λ (z : Position). z.phase) e) ∙ ef in
      ap answer_level (play_told q n v p)
      ∙ level_told w w (answer (ahead w q) n)
      ∙ level_head w _ es (levels_rest w (ahead w q) n (levels_left w q.block q.phase q.left v)) (omega arith)
      ∙ ap₂ (λ (c : ℕ) (g : Phase). level_at w.tones (block_in w c) g) x y

  -- AT THE END the head rests at the count's start, with all that remained passed
  pub ends_at : (q : Position) (n : ℕ) → valid_at w q ≡ true → 0 < over (ahead w q) n
      → play_measured w q n ≡ came Ended (stand (start_at w.count) (length (ahead w q)) low)
  unfolding told_reached answer told_as head_of left_of level_here over
  ends_at q n v h =
      let some : 0 < n = over_some (ahead w q) n h in
      let r = over-rest (ahead w q) n h in
      let k : length (ahead w q) - 0 ≡ length (ahead w q) = omega arith in
      play_told q n v some
      ∙ ap (λ (s : Status). told_as s (stand (position_of w (rest (ahead w q) n)) (length (ahead w q) - length (rest (ahead w q) n))
      (level_here (rest_level w w.count) (rest (ahead w q) n)))) (status-over (rest (ahead w q) n) (over (ahead w q) n) h)
      ∙ ap
      (λ (r : List (Entry Label)). came Ended (stand (position_of w r) (length (ahead w q) - length r) (level_here (rest_level w w.count) r))) r
      ∙ ap₂ (λ (x : ℕ) (c : Level). came Ended (stand (start_at w.count) x c)) k (rest-low w)
