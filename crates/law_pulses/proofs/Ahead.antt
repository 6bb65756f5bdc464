-- How far the source's play runs ahead: its outcome is the measured one for the count and the sum it drops. Assumes nothing.
use mathlib.Core.Path.{◌≡◌, refl, sym, ap, ap₂, ◌∙◌}
use mathlib.Core.Logic.{⊎_elim}
use mathlib.Core.List.{List, [], ◌∷◌}
use Prim.Native.Nat.{ℕ, zero, suc, ◌+◌, ◌-◌, ◌≤◌, ◌<◌}
use native.Mathlib.Nat.{eq-zero-or-pos, zero-add}
use native.Mathlib.Omega.{arith}
use lib.Dec.{ltb}
use lib.ListN.{length}
use borrow.Author.Tests.{lt-ltb, le-ltb, eq-eqb, ne_eqb}
use Rattle.law_base.proofs.Numbers.{lt_or_ge}
use Rattle.law_base.specs.Rules.{◌⇒◌, ◌∣◌}
use Rattle.law_pulses.specs.Play.{Level, Entry, pulse, endless, rest, over}
use Rattle.law_pulses.proofs.Steps.{rest-zero, rest-here, rest-past, over_zero, over-pulse}
use Rattle.law_pulses.specs.Source.{Turned, turned_to, after, turn, turns}

module _ {A : Type 0} where
  -- what is dropped once an entry is finished, with d left
  unfoldable pub drops : List (Entry A) → ℕ → ℕ
  drops [] d = 0
  drops (endless a v ∷ es) d = 0
  drops (pulse a v u ∷ es) d = ltb d u ⇒ 0 ∣ u + drops es d

  -- what a call of n drops
  unfoldable pub runs_ahead : List (Entry A) → ℕ → ℕ
  runs_ahead [] n = 0
  runs_ahead (endless a v ∷ es) n = 0
  runs_ahead (pulse a v t ∷ es) n = ltb n t ⇒ 0 ∣ drops es (n - t)

  drops_zero : (es : List (Entry A)) → drops es 0 ≡ 0
  unfolding drops
  drops_zero [] = refl
  drops_zero (endless a v ∷ es) = refl
  drops_zero (pulse a v zero ∷ es) = zero-add _ ∙ drops_zero es
  drops_zero (pulse a v (suc u) ∷ es) = rw (lt-ltb 0 (suc u) (omega arith))

  pub drops_here : (a : A) (v : Level) (u : ℕ) (es : List (Entry A)) (d : ℕ) → d < u → drops (pulse a v u ∷ es) d ≡ 0
  unfolding drops
  drops_here a v u es d l = rw (lt-ltb d u l)

  pub drops_past : (a : A) (v : Level) (u : ℕ) (es : List (Entry A)) (d : ℕ) → u ≤ d
      → drops (pulse a v u ∷ es) d ≡ u + drops es d
  unfolding drops
  drops_past a v u es d g = rw (le-ltb d u g)

  pub ahead-here : (a : A) (v : Level) (t : ℕ) (es : List (Entry A)) (n : ℕ) → n < t → runs_ahead (pulse a v t ∷ es) n ≡ 0
  unfolding runs_ahead
  ahead-here a v t es n l = rw (lt-ltb n t l)

  pub ahead_past : (a : A) (v : Level) (t : ℕ) (es : List (Entry A)) (n : ℕ) → t ≤ n
      → runs_ahead (pulse a v t ∷ es) n ≡ drops es (n - t)
  unfolding runs_ahead
  ahead_past a v t es n g = rw (le-ltb n t g)

  ahead-zero : (es : List (Entry A)) → runs_ahead es 0 ≡ 0
  unfolding runs_ahead
  ahead-zero [] = refl
  ahead-zero (endless a v ∷ es) = refl
  ahead-zero (pulse a v zero ∷ es) = drops_zero es
  ahead-zero (pulse a v (suc t) ∷ es) = rw (lt-ltb 0 (suc t) (omega arith))

  -- the measured player's place for m, with s dropped
  abbrev stood : List (Entry A) → ℕ → ℕ → Turned A
  stood es m s = turned_to (rest es m) (over es m) s

  stood_as : (es : List (Entry A)) (m s m' s' : ℕ) → m ≡ m' → s ≡ s' → stood es m s ≡ stood es m' s'
  stood_as es m s m' s' p q = ap₂ (λ (x y : ℕ). stood es x y) p q

  stood_nil : (m s : ℕ) → stood [] m s ≡ turned_to [] m s
  unfolding rest over
  stood_nil m s = refl

  stood_stop : (a : A) (v : Level) (es : List (Entry A)) (m s : ℕ)
      → stood (endless a v ∷ es) m s ≡ turned_to (endless a v ∷ es) 0 s
  unfolding rest over
  stood_stop a v es m s = refl

  stood_zero : (es : List (Entry A)) (s : ℕ) → stood es 0 s ≡ turned_to es 0 s
  stood_zero es s = ap₂ (λ (x : List (Entry A)) (k : ℕ). turned_to x k s) (rest-zero es) (over_zero es)

  stood_here : (a : A) (v : Level) (t : ℕ) (es : List (Entry A)) (m s : ℕ) → m < t
      → stood (pulse a v t ∷ es) m s ≡ turned_to (pulse a v (t - m) ∷ es) 0 s
  stood_here a v t es m s l =
      let z : m - t ≡ 0 = omega arith in
      ap₂ (λ (x : List (Entry A)) (k : ℕ). turned_to x k s) (rest-here a v t es m l)
      (over-pulse a v t es m ∙ ap (over es) z ∙ over_zero es)

  stood_past : (a : A) (v : Level) (t : ℕ) (es : List (Entry A)) (m s : ℕ) → 0 < m → t ≤ m
      → stood (pulse a v t ∷ es) m s ≡ stood es (m - t) s
  stood_past a v t es m s p h = ap₂ (λ (x : List (Entry A)) (k : ℕ). turned_to x k s) (rest-past a v t es m p h) (over-pulse a v t es m)

  turns-zero : (f : ℕ) (es : List (Entry A)) (s : ℕ) → turns f (turned_to es 0 s) ≡ turned_to es 0 s
  unfolding turns
  turns-zero zero es s = refl
  turns-zero (suc f) es s = refl

  turns_some : (f : ℕ) (es : List (Entry A)) (d s : ℕ) → 0 < d → turns (suc f) (turned_to es d s) ≡ turns f (turn es d s)
  unfolding turns
  turns_some f es d s p = rw (ne_eqb d 0 (omega arith))

  turns-nil : (f d s : ℕ) → turns {A = A} f (turned_to [] d s) ≡ turned_to [] d s
  unfolding turns turn
  turns-nil zero d s = refl
  turns-nil (suc f) d s = ⊎_elim (λ e. rw (eq-eqb d 0 e)) (λ p. rw (ne_eqb d 0 (omega arith)) (turns-nil f d s)) (eq-zero-or-pos d)

  nil-turns : (f d s : ℕ) → turns f (turned_to [] d s) ≡ stood [] (d + 0) (s + 0)
  nil-turns f d s = turns-nil f d s ∙ sym (stood_nil d s) ∙ stood_as [] d s _ _ (omega arith) (omega arith)

  stop-turns : (a : A) (v : Level) (es : List (Entry A)) (f m s : ℕ)
      → turns f (turned_to (endless a v ∷ es) 0 s) ≡ stood (endless a v ∷ es) m (s + 0)
  stop-turns a v es f m s = turns-zero f _ s ∙ sym (stood_stop a v es m s) ∙ stood_as _ m s _ _ refl (omega arith)

  turn_in : (a : A) (v : Level) (t : ℕ) (es : List (Entry A)) (d s : ℕ) → d < t
      → turn (pulse a v t ∷ es) d s ≡ turned_to (pulse a v (t - d) ∷ es) 0 s
  unfolding turn
  turn_in a v t es d s l = rw (lt-ltb d t l)

  turn_out : (a : A) (v : Level) (t : ℕ) (es : List (Entry A)) (d s : ℕ) → t ≤ d
      → turn (pulse a v t ∷ es) d s ≡ after es (d - t) s
  unfolding turn
  turn_out a v t es d s g = rw (le-ltb d t g)

  after_in : (a : A) (v : Level) (u : ℕ) (es : List (Entry A)) (d s : ℕ) → d < u
      → after (pulse a v u ∷ es) d s ≡ turned_to (pulse a v (u - d) ∷ es) 0 s
  unfolding after
  after_in a v u es d s l = rw (lt-ltb d u l)

  after_out : (a : A) (v : Level) (u : ℕ) (es : List (Entry A)) (d s : ℕ) → u ≤ d
      → after (pulse a v u ∷ es) d s ≡ turned_to (pulse a v 0 ∷ es) d (s + u)
  unfolding after
  after_out a v u es d s g = rw (le-ltb d u g)

  -- from an entry finished with d left
  after-turns : (es : List (Entry A)) (f d s : ℕ) → length es ≤ f
      → turns f (after es d s) ≡ stood es (d + drops es d) (s + drops es d)
  unfolding after drops
  after-turns [] f d s h = nil-turns f d s
  after-turns (endless a v ∷ es) f d s h = stop-turns a v es f _ s
  after-turns (pulse a v u ∷ es) zero d s h = absurd (omega arith)
  after-turns (pulse a v u ∷ es) (suc f) d s h =
      ⊎_elim
      (λ l.
      let z = drops_here a v u es d l in
      ap (turns (suc f)) (after_in a v u es d s l)
      ∙ turns-zero (suc f) _ s
      ∙ sym (stood_here a v u es d s l)
      ∙ stood_as _ d s _ _ (omega arith) (omega arith))
      (λ g.
      let z = drops_past a v u es d g in
      ap (turns (suc f)) (after_out a v u es d s g)
      ∙ ⊎_elim
      (λ e.
      let y : drops es d ≡ 0 = ap (drops es) e ∙ drops_zero es in
      let w : 0 ≡ u = omega arith in
      ap (λ (k : ℕ). turns (suc f) (turned_to (pulse a v 0 ∷ es) k (s + u))) e
      ∙ turns-zero (suc f) _ _
      ∙ ap (λ (k : ℕ). turned_to (pulse a v k ∷ es) 0 (s + u)) w
      ∙ sym (stood_zero (pulse a v u ∷ es) (s + u))
      ∙ stood_as _ 0 (s + u) _ _ (omega arith) (omega arith))
      (λ p.
      let w : d - 0 ≡ d = omega arith in
      turns_some f _ d (s + u) p
      ∙ ap (turns f) (turn_out a v 0 es d (s + u) (omega arith) ∙ ap (λ (k : ℕ). after es k (s + u)) w)
      ∙ after-turns es f d (s + u) (omega arith)
      ∙ stood_as es _ _ _ _ (omega arith) (omega arith)
      ∙ sym (stood_past a v u es (d + drops (pulse a v u ∷ es) d) (s + drops (pulse a v u ∷ es) d) (omega arith) (omega arith)))
      (eq-zero-or-pos d))
      (lt_or_ge d u)

  first-turns : (es : List (Entry A)) (f n s : ℕ) → 0 < n → length es ≤ f
      → turns f (turn es n s) ≡ stood es (n + runs_ahead es n) (s + runs_ahead es n)
  unfolding turn runs_ahead
  first-turns [] f n s p h = nil-turns f n s
  first-turns (endless a v ∷ es) f n s p h = stop-turns a v es f _ s
  first-turns (pulse a v t ∷ es) f n s p h =
      ⊎_elim
      (λ l.
      let z = ahead-here a v t es n l in
      ap (turns f) (turn_in a v t es n s l)
      ∙ turns-zero f _ s
      ∙ sym (stood_here a v t es n s l)
      ∙ stood_as _ n s _ _ (omega arith) (omega arith))
      (λ g.
      let z = ahead_past a v t es n g in
      ap (turns f) (turn_out a v t es n s g)
      ∙ after-turns es f (n - t) s (omega arith)
      ∙ stood_as es _ _ _ _ (omega arith) (omega arith)
      ∙ sym
      (stood_past a v t es (n + runs_ahead (pulse a v t ∷ es) n) (s + runs_ahead (pulse a v t ∷ es) n) (omega arith) (omega arith)))
      (lt_or_ge n t)

  -- THE LOOP: its turns end, at the measured player's place for the count and the sum dropped
  pub source-turns : (es : List (Entry A)) (f n s : ℕ) → length es < f
      → turns f (turned_to es n s) ≡ stood es (n + runs_ahead es n) (s + runs_ahead es n)
  source-turns es zero n s h = absurd (omega arith)
  source-turns es (suc f) n s h =
      ⊎_elim
      (λ e.
      let z : runs_ahead es n ≡ 0 = ap (runs_ahead es) e ∙ ahead-zero es in
      ap (λ (k : ℕ). turns (suc f) (turned_to es k s)) e
      ∙ turns-zero (suc f) es s
      ∙ sym (stood_zero es s)
      ∙ stood_as es 0 s _ _ (omega arith) (omega arith))
      (λ p. turns_some f es n s p ∙ first-turns es f n s p (omega arith))
      (eq-zero-or-pos n)
