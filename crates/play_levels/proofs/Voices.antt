-- SIGNALS AND ENTRIES side by side: joined, and run after run. Assumes nothing.
use Prim.Native.Nat.{ℕ, zero, suc, ◌+◌, ◌≤◌, ◌<◌}
use native.Mathlib.Omega.{arith}
use mathlib.Core.Path.{◌≡◌, refl, sym, ap, ap₂, ◌∙◌}
use mathlib.Core.Bool.{Bool, true, false}
use mathlib.Core.List.{List, [], ◌∷◌, ◌++◌, append_assoc}
use lib.Dec.{eqb}
use borrow.Author.Tests.{ne_eqb}
use Rattle.law_base.specs.Rules.{◌⇒◌, ◌∣◌}
use Rattle.law_pulses.specs.Play.{Entry}
use Rattle.law_pulses.specs.Runs.{run}
use Rattle.play_levels.specs.declared.Line.{Line}
use Rattle.play_levels.specs.Voiced.{Signal, Bare, sounded, line_by, voiced, line_past, lots, bare_of, bare, Voices}

pub bare_append : {A : Type 0} (xs ys : List (Entry A)) → bare (xs ++ ys) ≡ bare xs ++ bare ys
unfolding bare
bare_append [] ys = refl
bare_append (x ∷ xs) ys = ap (λ (r : List Bare). bare_of x ∷ r) (bare_append xs ys)

pub voiced_append : (l : Line) (xs ys : List Signal) → voiced l (xs ++ ys) ≡ voiced l xs ++ voiced (line_past l xs) ys
unfolding voiced line_past
voiced_append l [] ys = refl
voiced_append l (x ∷ xs) ys =
    ap (λ (r : List Bare). sounded l x ++ r) (voiced_append (line_by l x) xs ys)
    ∙ sym (append_assoc (sounded l x) (voiced (line_by l x) xs) (voiced (line_past (line_by l x) xs) ys))

pub line_append : (l : Line) (xs ys : List Signal) → line_past l (xs ++ ys) ≡ line_past (line_past l xs) ys
unfolding line_past
line_append l [] ys = refl
line_append l (x ∷ xs) ys = line_append (line_by l x) xs ys

-- runs of the same items
pub run-same : {A : Type 0} (x y : ℕ → List (Entry A)) → ((i : ℕ) → x i ≡ y i) → (p m : ℕ) → run x p m ≡ run y p m
unfolding run
run-same x y e p zero = refl
run-same x y e p (suc m) = ap₂ (λ (a b : List (Entry _)). a ++ b) (e p) (run-same x y e (p + 1) m)

module _ {A : Type 0} where
  pub voices_none : (l : Line) → Voices {A = A} l [] l []
  unfolding voiced line_past bare
  voices_none l = record { heard = refl; line = refl }

  pub voices_join : {l m n : Line} {xs ys : List Signal} {es fs : List (Entry A)} → Voices l xs m es → Voices m ys n fs
      → Voices l (xs ++ ys) n (es ++ fs)
  voices_join {l} {m} {n} {xs} {ys} {es} {fs} x y =
      record {
        heard =
            bare_append es fs
            ∙ ap₂ (λ (a b : List Bare). a ++ b) x.heard (y.heard ∙ ap (λ (k : Line). voiced k ys) (sym x.line))
            ∙ sym (voiced_append l xs ys);
        line = line_append l xs ys ∙ ap (λ (k : Line). line_past k ys) x.line ∙ y.line;
      }

  pub voices_as : {l m : Line} {xs : List Signal} {es fs : List (Entry A)} → es ≡ fs → Voices l xs m fs → Voices l xs m es
  voices_as e x = record { heard = ap bare e ∙ x.heard; line = x.line }

  pub voices_by : {l m n : Line} {xs : List Signal} {es : List (Entry A)} → m ≡ n → Voices l xs m es → Voices l xs n es
  voices_by e x = record { heard = x.heard; line = x.line ∙ e }

  -- RUNS: lot for item, with the line before each
  pub voices_run : (lot : ℕ → List Signal) (item : ℕ → List (Entry A)) (at : ℕ → Line) (p m : ℕ)
      → ((i : ℕ) → p ≤ i → i < p + m → Voices (at i) (lot i) (at (i + 1)) (item i))
      → Voices (at p) (lots lot p m) (at (p + m)) (run item p m)
  unfolding lots run
  voices_run lot item at p zero h = let e : p ≡ p + 0 = omega arith in voices_by (ap at e) (voices_none (at p))
  voices_run lot item at p (suc m) h =
      let e : p + 1 + m ≡ p + suc m = omega arith in
      voices_by (ap at e)
      (voices_join (h p (omega arith) (omega arith)) (voices_run lot item at (p + 1) m (λ i l g. h i (omega arith) (omega arith))))

  -- runs whose items all leave line s, from any line with s's current level
  pub voices_steady : (lot : ℕ → List Signal) (item : ℕ → List (Entry A)) (m s : Line) → m.current ≡ s.current
      → ((i : ℕ) (k : Line) → k.current ≡ s.current → Voices k (lot i) s (item i)) → (n : ℕ)
      → Voices m (lots lot 0 n) (eqb n 0 ⇒ m ∣ s) (run item 0 n)
  voices_steady lot item m s e h n =
      let z : 0 + n ≡ n = omega arith in
      voices_by (ap at z)
      (voices_run lot item at 0 n (λ i l g. rw (ne_eqb (i + 1) 0 (λ y. omega arith)) (h i (at i) (steadily (eqb i 0)))))
    where
      at : ℕ → Line
      at i = eqb i 0 ⇒ m ∣ s

      steadily : (x : Bool) → (x ⇒ m ∣ s).current ≡ s.current
      steadily true = e
      steadily false = refl
