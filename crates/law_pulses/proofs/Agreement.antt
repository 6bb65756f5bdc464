-- THE GENERAL LAW: the source's play agrees with the measured player on the count and the sum dropped;
-- demand 3's clause is its case of sum 0. Assumes nothing.
use mathlib.Core.Path.{◌≡◌, refl, sym, ap, ap₂, subst, ◌∙◌}
use mathlib.Core.Bool.{Bool, false}
use mathlib.Core.Logic.{inl, ⊎_elim}
use mathlib.Core.List.{List, [], ◌∷◌}
use Prim.Native.Nat.{ℕ, suc, ◌+◌, ◌-◌, ◌≤◌, ◌<◌}
use native.Mathlib.Nat.{eq-zero-or-pos}
use native.Mathlib.Omega.{arith}
use lib.Dec.{ltb}
use lib.ListN.{length}
use borrow.Author.Tests.{lt-ltb, le-ltb}
use Rattle.law_base.proofs.Numbers.{lt_or_ge}
use Rattle.law_pulses.specs.Play.{Entry, pulse, endless, rest, over, status_here, status, answer, counted_on, calls}
use Rattle.law_pulses.proofs.Steps.{rest-nil, rest-stop, rest_ways}
use Rattle.law_pulses.specs.Source.{Outcome, is_ended, sourced, reached, sum_dropped, source, dropped, sources, with_dropped, heard}
use Rattle.law_pulses.specs.Source.{lasting_entries, Below, Behind, ShortCalls, Agrees}
use Rattle.law_pulses.proofs.Ahead.{drops, drops_here, drops_past, runs_ahead, ahead-here, ahead_past, source-turns}

short_none : {t d : ℕ} → (0 < t → d < t) → t ≤ d → t ≡ 0
short_none {t} {d} f h = ⊎_elim (λ z. z) (λ p. absurd (omega (arith, f p))) (eq-zero-or-pos t)

module _ {A : Type 0} where
  -- the sum that the turns drop is the one worked out over the list
  pub dropped-ahead : (es : List (Entry A)) (n : ℕ) → dropped es n ≡ runs_ahead es n
  unfolding sourced sum_dropped
  dropped-ahead es n = ap sum_dropped (source-turns es (suc (length es)) n 0 (omega arith)) ∙ omega arith

  never : (rs : List (Entry A)) → is_ended (status_here rs) ≡ false
  unfolding status_here
  never [] = refl
  never (endless a v ∷ es) = refl
  never (pulse a v t ∷ es) = refl

  over-ended : (rs : List (Entry A)) (u : ℕ) → is_ended (status rs u) ≡ ltb 0 u
  unfolding status
  over-ended rs u = ⊎_elim (λ p. rw (lt-ltb 0 u p)) (λ g. rw (le-ltb 0 u g) (never rs)) (lt_or_ge 0 u)

  abbrev ended_at : List (Entry A) → Bool → Outcome A
  ended_at rs b = record { place = rs; done = b }

  -- the places are even the same
  pub source-heard : (es : List (Entry A)) (n : ℕ) → source es n ≡ heard (answer es (n + dropped es n))
  unfolding sourced reached heard answer
  source-heard es n =
      let k : n + runs_ahead es n ≡ n + dropped es n = ap (λ (x : ℕ). n + x) (sym (dropped-ahead es n)) in
      ap reached (source-turns es (suc (length es)) n 0 (omega arith))
      ∙ ap (λ (m : ℕ). ended_at (rest es m) (ltb 0 (over es m))) k
      ∙ ap (ended_at (rest es (n + dropped es n))) (sym (over-ended (rest es (n + dropped es n)) (over es (n + dropped es n))))

  source_place : (es : List (Entry A)) (n : ℕ) → (source es n).place ≡ (answer es (n + dropped es n)).place
  unfolding heard
  source_place es n = ap (λ (o : Outcome A). o.place) (source-heard es n)

  same_agree : {x y : Outcome A} → x ≡ y → Agrees x y
  unfolding lasting_entries
  same_agree {x} {y} e =
      record {
        ends = ap (λ (o : Outcome A). o.done) e;
        left = ap (λ (o : Outcome A). lasting_entries o.place) e;
        heads = inl (record { gone = []; none = refl; split = ap (λ (o : Outcome A). o.place) e });
      }

  -- ONE CALL
  pub agrees : (es : List (Entry A)) (n : ℕ) → Agrees (source es n) (heard (answer es (n + dropped es n)))
  agrees es n = same_agree (source-heard es n)

  sources-heard : (es : List (Entry A)) (n : ℕ) (ns : List ℕ)
      → sources es n ns ≡ heard (calls es (n + dropped es n) (with_dropped (source es n).place ns))
  unfolding sources with_dropped calls heard counted_on
  sources-heard es n [] = source-heard es n
  sources-heard es n (m ∷ ms) =
      let p = (source es n).place in
      sources-heard p m ms
      ∙ ap (λ (x : List (Entry A)). heard (calls x (m + dropped p m) (with_dropped (source p m).place ms))) (source_place es n)

  -- ANY CALLS, each of the measured player's with the sum that the source's drops in it
  pub agrees_calls : (es : List (Entry A)) (n : ℕ) (ns : List ℕ)
      → Agrees (sources es n ns) (heard (calls es (n + dropped es n) (with_dropped (source es n).place ns)))
  agrees_calls es n ns = same_agree (sources-heard es n ns)

  below_less : (es : List (Entry A)) (n d : ℕ) → d ≤ n → Below es n → Below es d
  unfolding Below
  below_less [] n d h s = tt
  below_less (endless a v ∷ es) n d h s = below_less es n d h s
  below_less (pulse a v t ∷ es) n d h s = ((λ p. omega (arith, s.0 p)), below_less es n d h s.1)

  drops_below : (es : List (Entry A)) (d : ℕ) → Below es d → drops es d ≡ 0
  unfolding Below drops
  drops_below [] d s = refl
  drops_below (endless a v ∷ es) d s = refl
  drops_below (pulse a v u ∷ es) d s =
      ⊎_elim
      (λ l. drops_here a v u es d l)
      (λ g. let z = short_none s.0 g in drops_past a v u es d g ∙ omega (arith, drops_below es d s.1))
      (lt_or_ge d u)

  ahead-behind : (es : List (Entry A)) (n : ℕ) → Behind es n → runs_ahead es n ≡ 0
  unfolding Behind runs_ahead
  ahead-behind [] n s = refl
  ahead-behind (endless a v ∷ es) n s = refl
  ahead-behind (pulse a v t ∷ es) n s =
      ⊎_elim
      (λ l. ahead-here a v t es n l)
      (λ g. ahead_past a v t es n g ∙ drops_below es (n - t) (below_less es n (n - t) (omega arith) s))
      (lt_or_ge n t)

  -- a count below every finite duration but 0 drops a sum of 0
  pub none_dropped : (es : List (Entry A)) (n : ℕ) → Behind es n → dropped es n ≡ 0
  none_dropped es n s = dropped-ahead es n ∙ ahead-behind es n s

  behind_below : (es : List (Entry A)) (n : ℕ) → Below es n → Behind es n
  unfolding Behind Below
  behind_below [] n s = tt
  behind_below (endless a v ∷ es) n s = s
  behind_below (pulse a v t ∷ es) n s = s.1

  behind-rest : (es : List (Entry A)) (m n : ℕ) → Behind es n → Behind (rest es m) n
  unfolding Behind
  behind-rest [] m n s = rw (rest-nil m) tt
  behind-rest (endless a v ∷ es) m n s = rw (rest-stop a v es m) s
  behind-rest (pulse a v t ∷ es) m n s =
      rest_ways (λ r. Behind r n) a v t es m (λ z. s) (λ l. s) (λ p g. behind-rest es (m - t) n (behind_below es n s))

  short-rest : (es : List (Entry A)) (m : ℕ) (ns : List ℕ) → ShortCalls es ns → ShortCalls (rest es m) ns
  unfolding ShortCalls
  short-rest es m [] s = tt
  short-rest es m (n ∷ ns) s = (behind-rest es m n s.0, short-rest es m ns s.1)

  short-source : (es : List (Entry A)) (n : ℕ) (ns : List ℕ) → ShortCalls es ns → ShortCalls (source es n).place ns
  unfolding answer
  short-source es n ns s = subst (λ (x : List (Entry A)). ShortCalls x ns) (sym (source_place es n)) (short-rest es _ ns s)

  whole-short : (es : List (Entry A)) (ns : List ℕ) → ShortCalls es ns → with_dropped es ns ≡ ns
  unfolding with_dropped ShortCalls
  whole-short es [] s = refl
  whole-short es (n ∷ ns) s =
      let z = none_dropped es n s.0 in
      ap₂ (λ (x : ℕ) (xs : List ℕ). x ∷ xs) (omega arith) (whole-short (source es n).place ns (short-source es n ns s.1))

  -- THE CLAUSE: where each count is below every finite duration but 0, the players agree on the same calls
  pub agrees_short : (es : List (Entry A)) (n : ℕ) (ns : List ℕ) → ShortCalls es (n ∷ ns)
      → Agrees (sources es n ns) (heard (calls es n ns))
  unfolding ShortCalls
  agrees_short es n ns s =
      let z = none_dropped es n s.0 in
      let k : n + dropped es n ≡ n = omega arith in
      let w = whole-short (source es n).place ns (short-source es n ns s.1) in
      subst (Agrees (sources es n ns)) (ap₂ (λ (x : ℕ) (xs : List ℕ). heard (calls es x xs)) k w) (agrees_calls es n ns)
