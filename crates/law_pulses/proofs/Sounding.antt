-- THE LAST ENTRY THAT SOUNDS, over any list and any test of labels: what the time up to its end is, and that nothing else is; how it goes
-- on through a list; and that playing takes from it what is played. Assumes nothing.
use mathlib.Core.Path.{◌≡◌, refl, sym, ap, ◌∙◌}
use mathlib.Core.Bool.{Bool, true, false, not, ◌&&◌}
use mathlib.Core.Logic.{◌↔◌, inl, inr, ⊎_elim}
use mathlib.Core.List.{List, [], ◌∷◌, ◌++◌, append_assoc}
use Prim.Native.Nat.{ℕ, zero, suc, ◌+◌, ◌-◌, ◌≤◌, ◌<◌}
use native.Mathlib.Nat.{eq-zero-or-pos}
use native.Mathlib.Omega.{arith}
use lib.Dec.{ltb}
use borrow.Author.Tests.{lt-ltb, le-ltb}
use Rattle.law_base.specs.Rules.{◌⇒◌, ◌∣◌}
use Rattle.law_pulses.specs.Play.{Entry, pulse, endless, rest, time, Finite}
use Rattle.law_pulses.specs.Runs.{run}
use Rattle.law_pulses.specs.Sounding.{ends_at, sounding_time, Silent, LastSounds, SoundsUpTo, SilentRest}
use Rattle.law_pulses.proofs.Steps.{rest-nil, rest-stop, rest_ways}
use Rattle.law_pulses.proofs.Joined.{time_append, finite_append}

-- what holds of the three ways holds of the end
ways : (P : ℕ → Type 0) (takes : Bool) (t r : ℕ)
    → (0 < r → P (t + r))
    → (r ≡ 0 → takes ≡ true → 0 < t → P t)
    → (r ≡ 0 → (takes ≡ true → t ≡ 0) → P 0)
    → P (ends_at takes t r)
unfolding ends_at
ways P takes t r behind here none =
    ⊎_elim (λ z. rw (le-ltb 0 r (omega arith)) (of takes (here z) (none z))) (λ h. rw (lt-ltb 0 r h) (behind h)) (eq-zero-or-pos r)
  where
    of : (b : Bool) → (b ≡ true → 0 < t → P t) → ((b ≡ true → t ≡ 0) → P 0) → P ((b && ltb 0 t) ⇒ t ∣ 0)
    of true f g = ⊎_elim (λ z. rw (le-ltb 0 t (omega arith)) (g (λ e. z))) (λ h. rw (lt-ltb 0 t h) (f refl h)) (eq-zero-or-pos t)
    of false f g = g (λ e. cc)

-- each way as an equation
ends-behind : (takes : Bool) (t r : ℕ) → 0 < r → ends_at takes t r ≡ t + r
ends-behind takes t r h =
    ways (λ n. n ≡ t + r) takes t r (λ _. refl) (λ z _ _. absurd (omega arith)) (λ z _. absurd (omega arith))

ends-here : (takes : Bool) (t r : ℕ) → r ≡ 0 → takes ≡ true → ends_at takes t r ≡ t
ends-here takes t r z e = ways (λ n. n ≡ t) takes t r (λ h. absurd (omega arith)) (λ _ _ _. refl) (λ _ f. sym (f e))

ends-none : (takes : Bool) (t r : ℕ) → r ≡ 0 → (takes ≡ true → t ≡ 0) → ends_at takes t r ≡ 0
ends-none takes t r z f =
    ways (λ n. n ≡ 0) takes t r (λ h. absurd (omega arith)) (λ _ e h. absurd (omega (arith, f e))) (λ _ _. refl)

module _ {A : Type 0} (p : A → Bool) where
  -- it is 0 exactly where nothing sounds
  pub silent-none : (es : List (Entry A)) → Silent p es → sounding_time p es ≡ 0
  unfolding sounding_time Silent
  silent-none [] q = refl
  silent-none (endless a v ∷ es) q = refl
  silent-none (pulse a v t ∷ es) q = ends-none (p a) t (sounding_time p es) (silent-none es q.1) q.0

  pub none-silent : (es : List (Entry A)) → sounding_time p es ≡ 0 → Silent p es
  unfolding sounding_time Silent
  none-silent [] z = tt
  none-silent (endless a v ∷ es) z = tt
  none-silent (pulse a v t ∷ es) z =
      ways (λ n. n ≡ 0 → (p a ≡ true → t ≡ 0) × Silent p es) (p a) t (sounding_time p es)
      (λ h y. absurd (omega arith)) (λ _ _ h y. absurd (omega arith)) (λ y f _. (f, none-silent es y)) z

  -- entries in front of others: where those sound, these are passed whole; where they don't, they add nothing
  pub sounding-behind : (xs ys : List (Entry A)) → Finite xs → 0 < sounding_time p ys
      → sounding_time p (xs ++ ys) ≡ time xs + sounding_time p ys
  unfolding sounding_time time Finite
  sounding-behind [] ys f h = omega arith
  sounding-behind (endless a v ∷ xs) ys f h = absurd f
  sounding-behind (pulse a v t ∷ xs) ys f h =
      let e = sounding-behind xs ys f h in omega (arith, e, ends-behind (p a) t (sounding_time p (xs ++ ys)) (omega (arith, e)))

  pub sounding-before : (xs ys : List (Entry A)) → Finite xs → sounding_time p ys ≡ 0 → sounding_time p (xs ++ ys) ≡ sounding_time p xs
  unfolding sounding_time Finite
  sounding-before [] ys f z = z
  sounding-before (endless a v ∷ xs) ys f z = absurd f
  sounding-before (pulse a v t ∷ xs) ys f z = ap (ends_at (p a) t) (sounding-before xs ys f z)

  -- no later than the list's own time
  pub sounding-most : (es : List (Entry A)) → sounding_time p es ≤ time es
  unfolding sounding_time time
  sounding-most [] = omega arith
  sounding-most (endless a v ∷ es) = omega arith
  sounding-most (pulse a v t ∷ es) =
      ways (λ n. n ≤ t + time es) (p a) t (sounding_time p es)
      (λ h. omega (arith, sounding-most es)) (λ _ _ _. omega arith) (λ _ _. omega arith)

  -- THE NUMBER IN WORDS
  pub sounding_is : (es : List (Entry A)) → SoundsUpTo p es (sounding_time p es)
  unfolding sounding_time Silent Finite time
  sounding_is [] = inr (tt, refl)
  sounding_is (endless a v ∷ es) = inr (tt, refl)
  sounding_is (pulse a v t ∷ es) =
      ways (λ n. SoundsUpTo p (pulse a v t ∷ es) n) (p a) t (sounding_time p es)
      (λ h. ⊎_elim (λ l. inl (one_before l)) (λ q. absurd (omega (arith, q.1))) (sounding_is es))
      (λ z e h. inl (record {
        gone = [];
        label = a;
        level = v;
        len = t;
        next = es;
        split = refl;
        finite = tt;
        takes = e;
        long = h;
        no_more = none-silent es z;
        ends = omega arith;
      }))
      (λ z f. inr ((f, none-silent es z), refl))
    where
      one_before : {n : ℕ} → LastSounds p es n → LastSounds p (pulse a v t ∷ es) (t + n)
      one_before l = record {
        gone = pulse a v t ∷ l.gone;
        label = l.label;
        level = l.level;
        len = l.len;
        next = l.next;
        split = ap (λ (x : List (Entry A)). pulse a v t ∷ x) l.split;
        finite = l.finite;
        takes = l.takes;
        long = l.long;
        no_more = l.no_more;
        ends = omega (arith, l.ends);
      }

  -- AND NO OTHER
  pub sounding_only : (es : List (Entry A)) (n : ℕ) → SoundsUpTo p es n → n ≡ sounding_time p es
  unfolding sounding_time
  sounding_only es n = ⊎_elim of_last (λ q. q.1 ∙ sym (silent-none es q.0))
    where
      of_last : LastSounds p es n → n ≡ sounding_time p es
      of_last l =
          let s = pulse l.label l.level l.len ∷ l.next in
          let e : sounding_time p s ≡ l.len = ends-here _ l.len _ (silent-none l.next l.no_more) l.takes in
          let b : sounding_time p (l.gone ++ s) ≡ time l.gone + sounding_time p s
          = sounding-behind l.gone s l.finite (omega (arith, e, l.long)) in
          omega (arith, l.ends, e, b, ap (sounding_time p) l.split)

  -- WHAT FOLLOWS IT: the list's time is it and the time of entries of which none sounds
  pub sounding-rest : (es : List (Entry A)) → SilentRest p es (sounding_time p es)
  unfolding time Finite
  sounding-rest es = ⊎_elim of_last of_none (sounding_is es)
    where
      cut_at : (n : ℕ) (gone next : List (Entry A)) → es ≡ gone ++ next → Finite gone → time gone ≡ n → Silent p next → SilentRest p es n
      cut_at n gone next e f l q = record {
        gone = gone;
        next = next;
        split = e;
        finite = f;
        lasts = l;
        silent = q;
        whole = ap time e ∙ time_append gone next f ∙ ap (λ (x : ℕ). x + time next) l;
      }

      of_last : LastSounds p es (sounding_time p es) → SilentRest p es (sounding_time p es)
      of_last l =
          let e = pulse l.label l.level l.len in
          cut_at _ (l.gone ++ e ∷ []) l.next (l.split ∙ sym (append_assoc l.gone (e ∷ []) l.next))
          (finite_append l.gone (e ∷ []) l.finite tt)
          (omega (arith, l.ends, time_append l.gone (e ∷ []) l.finite)) l.no_more

      of_none : Silent p es × (sounding_time p es ≡ 0) → SilentRest p es (sounding_time p es)
      of_none q = cut_at _ [] es refl tt (sym q.1) q.0

  -- PLAYING TAKES FROM IT WHAT IS PLAYED; so what is left is silent from there on, and no sooner
  pub sounding_left : (es : List (Entry A)) (n : ℕ) → sounding_time p (rest es n) ≡ sounding_time p es - n
  unfolding sounding_time
  sounding_left [] n = ap (sounding_time p) (rest-nil n) ∙ omega arith
  sounding_left (endless a v ∷ es) n = ap (sounding_time p) (rest-stop a v es n) ∙ omega arith
  sounding_left (pulse a v t ∷ es) n =
      rest_ways (λ rs. sounding_time p rs ≡ ends_at (p a) t r - n) a v t es n (λ z. omega arith) within (beyond (sounding_left es (n - t)))
    where
      r : ℕ
      r = sounding_time p es

      within : n < t → ends_at (p a) (t - n) r ≡ ends_at (p a) t r - n
      within l =
          ways (λ x. ends_at (p a) (t - n) r ≡ x - n) (p a) t r
          (λ h. ends-behind (p a) (t - n) r h ∙ omega arith)
          (λ z e _. ends-here (p a) (t - n) r z e)
          (λ z f. ends-none (p a) (t - n) r z (λ e. absurd (omega (arith, f e))) ∙ omega arith)

      beyond : sounding_time p (rest es (n - t)) ≡ r - (n - t) → 0 < n → t ≤ n
          → sounding_time p (rest es (n - t)) ≡ ends_at (p a) t r - n
      beyond e h g =
          ways (λ x. sounding_time p (rest es (n - t)) ≡ x - n) (p a) t r
          (λ k. omega (arith, e)) (λ z _ _. omega (arith, e, z)) (λ z _. omega (arith, e, z))

  pub silent_left : (es : List (Entry A)) (n : ℕ) → Silent p (rest es n) ↔ (sounding_time p es ≤ n)
  silent_left es n = (
    λ q. omega (arith, sounding_left es n, silent-none (rest es n) q),
    λ h. none-silent (rest es n) (sounding_left es n ∙ omega arith),
  )

  pub silent_append : (xs ys : List (Entry A)) → Silent p xs → Silent p ys → Silent p (xs ++ ys)
  unfolding Silent
  silent_append [] ys q z = z
  silent_append (endless a v ∷ xs) ys q z = tt
  silent_append (pulse a v t ∷ xs) ys q z = (q.0, silent_append xs ys q.1 z)

  pub run-silent : (item : ℕ → List (Entry A)) → ((i : ℕ) → Silent p (item i)) → (k m : ℕ) → Silent p (run item k m)
  unfolding run Silent
  run-silent item q k zero = tt
  run-silent item q k (suc m) = silent_append (item k) (run item (k + 1) m) (q k) (run-silent item q (k + 1) m)

-- where no other entry has length, the list's time is it
pub sounding_all : {A : Type 0} (p : A → Bool) (es : List (Entry A)) → Silent (λ a. not (p a)) es → sounding_time p es ≡ time es
unfolding sounding_time time Silent
sounding_all p [] q = refl
sounding_all p (endless a v ∷ es) q = refl
sounding_all p (pulse a v t ∷ es) q =
    let e = sounding_all p es q.1 in
    ways (λ n. n ≡ t + time es) (p a) t (sounding_time p es)
    (λ h. omega (arith, e)) (λ z _ _. omega (arith, e)) (λ z f. omega (arith, e, of (p a) f q.0))
  where
    of : (b : Bool) → (b ≡ true → t ≡ 0) → (not b ≡ true → t ≡ 0) → t ≡ 0
    of true f g = f refl
    of false f g = g refl
