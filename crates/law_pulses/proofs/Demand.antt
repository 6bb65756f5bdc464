-- DEMAND 3, proved once over any list: the measured player meets it, and no other answers do. Assumes nothing.
use mathlib.Core.Path.{◌≡◌, refl, sym, ap, ap₂, subst, ◌∙◌}
use mathlib.Core.Logic.{⊎_elim}
use mathlib.Core.List.{List, [], ◌∷◌, ◌++◌}
use Prim.Native.Nat.{ℕ, ◌+◌, ◌-◌, ◌≤◌, ◌<◌}
use native.Mathlib.Nat.{eq-zero-or-pos}
use native.Mathlib.Omega.{arith}
use lib.ListN.{length}
use borrow.Author.Tests.{lt-ltb, le-ltb}
use Rattle.law_base.proofs.Numbers.{lt_or_ge}
use Rattle.law_pulses.specs.Play.{Entry, pulse, endless, Status, standing, ended, Answer, made, rest, over, status_here, status}
use Rattle.law_pulses.specs.Play.{answer, counted_on, calls, time, final, comes_to, Finite, sum, Positive, Spent, AtSum}
use Rattle.law_pulses.specs.Play.{Demanded, Meets}
use Rattle.law_pulses.proofs.Steps.{rest-nil, rest-stop, rest-zero, rest-here, rest-past, rest_ways, over_zero, over-rest}
use Rattle.law_pulses.proofs.Steps.{time-pulse, length_rest, rest_cut, over_cut}
use Rattle.law_pulses.proofs.Joined.{time_append, rest-after}

module _ {A : Type 0} where
  -- CONSERVATION: up to the stop or the end, time gone and the listed time left are what was listed
  pub conserved : (es : List (Entry A)) (n : ℕ) → n ≤ time es → (n + time (rest es n) ≡ time es) × (over es n ≡ 0)
  unfolding time over
  conserved [] n h = (rw rest-nil (omega arith), omega arith)
  conserved (endless a v ∷ es) n h = (rw rest-stop (omega arith), refl)
  conserved (pulse a v t ∷ es) n h =
      rest_ways (λ r. (n + time r ≡ t + time es) × (over es (n - t) ≡ 0)) a v t es n
      (λ z. (omega arith, ap (over es) (omega arith) ∙ over_zero es))
      (λ l. (omega arith, ap (over es) (omega arith) ∙ over_zero es))
      (λ p g. let c = conserved es (n - t) (omega arith) in (omega arith, c.1))

  -- WHERE THE LIST SAYS
  pub spent : (es : List (Entry A)) (n : ℕ) → 0 < n → n ≤ time es → Spent es n (rest es n)
  unfolding time Finite
  spent [] n p h = absurd (omega arith)
  spent (endless a v ∷ es) n p h = absurd (omega arith)
  spent (pulse a v t ∷ es) n p h = ⊎_elim (λ l. later l (spent es (n - t) (omega arith) (omega arith))) first (lt_or_ge t n)
    where
      first : n ≤ t → Spent (pulse a v t ∷ es) n (rest (pulse a v t ∷ es) n)
      first l =
          record {
            gone = [];
            label = a;
            level = v;
            len = t;
            next = es;
            split = refl;
            finite = tt;
            before = p;
            within = omega arith;
            some_left = λ k. rest-here a v t es n (omega arith) ∙ ap (λ (j : ℕ). pulse a v j ∷ es) (omega arith);
            none_left = λ e. rest-past a v t es n p (omega arith) ∙ ap (rest es) (omega arith) ∙ rest-zero es;
          }

      later : t < n → Spent es (n - t) (rest es (n - t)) → Spent (pulse a v t ∷ es) n (rest (pulse a v t ∷ es) n)
      later l s =
          let e : rest (pulse a v t ∷ es) n ≡ rest es (n - t) = rest-past a v t es n p (omega arith) in
          record {
            gone = pulse a v t ∷ s.gone;
            label = s.label;
            level = s.level;
            len = s.len;
            next = s.next;
            split = ap (λ (r : List (Entry A)). pulse a v t ∷ r) s.split;
            finite = s.finite;
            before = omega arith;
            within = omega arith;
            some_left = λ k. e ∙ s.some_left (omega arith)
                ∙ ap (λ (j : ℕ). pulse s.label s.level j ∷ s.next) (omega arith);
            none_left = λ k. e ∙ s.none_left (omega arith);
          }

  -- the list says one thing only
  spent_one : (es : List (Entry A)) (n : ℕ) (rs : List (Entry A)) → Spent es n rs → rs ≡ rest es n
  spent_one es n rs s =
      let e : rest es n ≡ rest (pulse s.label s.level s.len ∷ s.next) (n - time s.gone) =
      ap (λ (r : List (Entry A)). rest r n) s.split ∙ rest-after s.gone _ n s.finite s.before in
      ⊎_elim
      (λ l.
      s.some_left l
      ∙ ap (λ (j : ℕ). pulse s.label s.level j ∷ s.next) (omega arith)
      ∙ sym (e ∙ rest-here s.label s.level s.len s.next _ (omega arith)))
      (λ g.
      s.none_left (omega arith)
      ∙ sym
      (e
      ∙ rest-past s.label s.level s.len s.next _ (omega arith) (omega arith)
      ∙ ap (rest s.next) (omega arith)
      ∙ rest-zero s.next))
      (lt_or_ge n (time s.gone + s.len))

  pub status_left : (rs : List (Entry A)) (u : ℕ) → u ≡ 0 → status rs u ≡ status_here rs
  unfolding status
  status_left rs u z = rw (le-ltb 0 u (omega arith))

  pub status-over : (rs : List (Entry A)) (u : ℕ) → 0 < u → status rs u ≡ ended
  unfolding status
  status-over rs u h = rw (lt-ltb 0 u h)

  shown-time : (rs : List (Entry A)) → 0 < time rs → status_here rs ≡ standing
  unfolding time status_here
  shown-time [] h = refl
  shown-time (endless a v ∷ es) h = absurd (omega arith)
  shown-time (pulse a v t ∷ es) h = refl

  at_status : (es : List (Entry A)) (n : ℕ) → n ≤ time es → status (rest es n) (over es n) ≡ status_here (rest es n)
  at_status es n h = status_left (rest es n) (over es n) (conserved es n h).1

  -- BELOW the sum
  below_status : (es : List (Entry A)) (n : ℕ) → n < time es → status (rest es n) (over es n) ≡ standing
  below_status es n h = let c = conserved es n (omega arith) in at_status es n (omega arith) ∙ shown-time (rest es n) (omega arith)

  -- AT the sum
  at_last : (es : List (Entry A)) → 0 < time es → AtSum es (rest es (time es))
  at_last es p =
      let s = spent es (time es) p (omega arith) in
      let c = conserved es (time es) (omega arith) in
      let e : time es ≡ time s.gone + time (pulse s.label s.level s.len ∷ s.next) =
      ap time s.split ∙ time_append s.gone _ s.finite in
      let u : time (pulse s.label s.level s.len ∷ s.next) ≡ s.len + time s.next = time-pulse _ _ _ _ in
      let r : rest es (time es) ≡ s.next = s.none_left (omega arith) in
      record {
        gone = s.gone;
        label = s.label;
        level = s.level;
        len = s.len;
        split = s.split ∙ ap (λ (x : List (Entry A)). s.gone ++ pulse s.label s.level s.len ∷ x) (sym r);
        finite = s.finite;
        long = omega arith;
        no_more = omega arith;
      }

  at_last_by : (es : List (Entry A)) (n : ℕ) → 0 < n → n ≡ time es → AtSum es (rest es n)
  at_last_by es n q e = subst (λ (k : ℕ). AtSum es (rest es k)) (sym e) (at_last es (omega arith))

  -- ABOVE the sum
  above_place : (es : List (Entry A)) (n : ℕ) → time es < n → rest es n ≡ final es
  unfolding time final
  above_place [] n h = rest-nil n
  above_place (endless a v ∷ es) n h = rest-stop a v es n
  above_place (pulse a v t ∷ es) n h = rest-past a v t es n (omega arith) (omega arith) ∙ above_place es (n - t) (omega arith)

  above_status : (es : List (Entry A)) (n : ℕ) → time es < n → status (rest es n) (over es n) ≡ comes_to es
  unfolding time over comes_to status status_here
  above_status [] n h = rw (rest-nil, lt-ltb 0 n h)
  above_status (endless a v ∷ es) n h = rw rest-stop
  above_status (pulse a v t ∷ es) n h =
      ap (λ (r : List (Entry A)). status r (over es (n - t))) (rest-past a v t es n (omega arith) (omega arith))
      ∙ above_status es (n - t) (omega arith)

  one_call : (es : List (Entry A)) (N : ℕ) → 0 < N → Demanded es N (answer es N)
  unfolding answer
  one_call es N q =
      record {
        where_said = λ h. spent es N q h;
        kept = λ h. (conserved es N h).0;
        below = λ h. below_status es N h;
        at_sum = λ e. (at_last_by es N q e, at_status es N (omega arith));
        above = λ h. (above_place es N h, above_status es N h);
        counts = omega (arith, length_rest es N);
      }

  -- the last call of at least 1 tells what one call tells
  status_cut : (es : List (Entry A)) (m n : ℕ) → 0 < n
      → status (rest (rest es m) n) (over (rest es m) n) ≡ status (rest es (m + n)) (over es (m + n))
  unfolding over
  status_cut es m n p =
      let c = over_cut es m n in
      ⊎_elim
      (λ z. ap₂ status (sym (rest_cut es m n)) (omega arith))
      (λ q.
      let u : over (rest es m) n ≡ n = rw (over-rest es m q) in
      status-over _ _ (omega arith) ∙ sym (status-over _ _ (omega arith)))
      (eq-zero-or-pos (over es m))

  answer_cut : (es : List (Entry A)) (m n : ℕ) → 0 < n
      → counted_on (answer es m).passed (answer (answer es m).place n) ≡ answer es (m + n)
  unfolding answer counted_on
  answer_cut es m n p =
      let e = rest_cut es m n in
      ap₂ (made (rest (rest es m) n)) (status_cut es m n p)
      (omega (arith, length_rest es m, length_rest (rest es m) n, ap length e))
      ∙ ap (λ (r : List (Entry A)). made r (status (rest es (m + n)) (over es (m + n))) (length es - length (rest es (m + n)))) (sym e)

  -- ANY CUT: however N is cut into calls of at least 1, the answer is that of one call of N
  pub any_cut : (es : List (Entry A)) (n : ℕ) (ns : List ℕ) → Positive ns → calls es n ns ≡ answer es (n + sum ns)
  unfolding calls sum Positive
  any_cut es n [] h = ap (answer es) (omega arith)
  any_cut es n (m ∷ ms) h =
      ap (counted_on (answer es n).passed) (any_cut (answer es n).place m ms h.1) ∙ answer_cut es n (m + sum ms) (omega arith)

  -- DEMAND 3
  pub demanded : Meets {A = A} calls
  demanded es n ns p h = rw (any_cut es n ns h) (one_call es (n + sum ns) (omega arith))

  -- and a call of 0 alters nothing, and answers stopped at an endless entry, otherwise standing
  pub zero_call : (es : List (Entry A)) → answer es 0 ≡ made es (status_here es) 0
  unfolding answer
  zero_call es = rw (rest-zero es, status_left es (over es 0) (over_zero es)) (ap (made es (status_here es)) (omega arith))

  -- ONE ANSWER: what demand 3 asks is one answer
  pub demanded_one : (es : List (Entry A)) (N : ℕ) (r : Answer A) → 0 < N → Demanded es N r → r ≡ answer es N
  unfolding answer
  demanded_one es N r q d =
      let k : r.passed ≡ length es - length (rest es N) = omega (arith, d.counts, ap length placed, length_rest es N) in
      ap (λ (x : List (Entry A)). made x r.tells r.passed) placed ∙ ap₂ (made (rest es N)) told k
    where
      placed : r.place ≡ rest es N
      placed = ⊎_elim (λ l. (d.above l).0 ∙ sym (above_place es N l)) (λ g. spent_one es N r.place (d.where_said g))
          (lt_or_ge (time es) N)

      told : r.tells ≡ status (rest es N) (over es N)
      told =
          ⊎_elim
          (λ l. (d.above l).1 ∙ sym (above_status es N l))
          (λ g.
          ⊎_elim
          (λ l. d.below l ∙ sym (below_status es N l))
          (λ k. (d.at_sum (omega arith)).1 ∙ ap status_here placed ∙ sym (at_status es N g))
          (lt_or_ge N (time es)))
          (lt_or_ge (time es) N)

  -- and so one way to answer calls
  pub meets_one : (run : List (Entry A) → ℕ → List ℕ → Answer A) → Meets run
      → (es : List (Entry A)) (n : ℕ) (ns : List ℕ) → 0 < n → Positive ns → run es n ns ≡ calls es n ns
  meets_one run m es n ns p h = demanded_one es (n + sum ns) (run es n ns) (omega arith) (m es n ns p h) ∙ sym (any_cut es n ns h)

  -- above the sum no further call alters the answer
  pub stays_so : (run : List (Entry A) → ℕ → List ℕ → Answer A) → Meets run
      → (es : List (Entry A)) (n : ℕ) (ns : List ℕ) → time es < n → Positive ns → run es n ns ≡ run es n []
  unfolding Positive answer
  stays_so run m es n ns l h =
      meets_one run m es n ns (omega arith) h
      ∙ any_cut es n ns h
      ∙ settled (n + sum ns) (omega arith)
      ∙ sym (any_cut es n [] tt ∙ settled (n + sum []) (omega arith))
      ∙ sym (meets_one run m es n [] (omega arith) tt)
    where
      settled : (k : ℕ) → time es < k → answer es k ≡ made (final es) (comes_to es) (length es - length (final es))
      settled k g =
          ap (λ (r : List (Entry A)). made r (status (rest es k) (over es k)) (length es - length r)) (above_place es k g)
          ∙ ap (λ (s : Status). made (final es) s (length es - length (final es))) (above_status es k g)
