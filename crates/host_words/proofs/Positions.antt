-- POSITION-WORDS: the words of a position name that position, and words that name one are its words. Assumes nothing.
use Prim.Native.Nat.{ℕ}
use native.Mathlib.Omega.{arith}
use mathlib.Core.Path.{◌≡◌, refl, sym, ap, ◌∙◌}
use mathlib.Core.Bool.{Bool, true, false, ◌&&◌}
use mathlib.Core.List.{List, [], ◌∷◌, ◌++◌}
use lib.Dec.{eqb}
use Rattle.std.specs.Prelude.{Option, Some, None}
use lib.ListN.{length, take}
use borrow.Author.Tests.{le-ltb, eqb-true}
use Rattle.law_base.specs.Rules.{◌⇒◌, ◌∣◌}
use Rattle.law_base.proofs.Tests.{first, second}
use Rattle.play_entries.specs.declared.Phase.{Phase}
use Rattle.play_entries.specs.declared.Phase.TheVariants.{Start, Tones, Data, Edge, Pause}
use Rattle.play_entries.specs.declared.Duration.{Duration}
use Rattle.play_entries.specs.declared.Duration.TheVariants.{T, Endless}
use Rattle.play_walk.specs.declared.Position.{Position}
use Rattle.host_words.specs.Words.{flag_of, spot, spot_of, span, span_of, words_of, unhalved, halved, phase_from, span_from}
use Rattle.host_words.specs.Words.{joined, position_from}

-- the words of a phase name it
phase_back : (f : Phase) → phase_from (spot_of f).phase (spot_of f).item (spot_of f).part (spot_of f).half ≡ Some f
unfolding phase_from spot_of unhalved halved flag_of
phase_back Start = refl
phase_back (Tones i p false) = refl
phase_back (Tones i p true) = refl
phase_back (Data i k false) = refl
phase_back (Data i k true) = refl
phase_back Edge = refl
phase_back Pause = refl

span-back : (d : Duration) → span_from (span_of d).endless (span_of d).left ≡ Some d
unfolding span_from span_of
span-back (T n) = refl
span-back Endless = refl

position-back : (q : Position) (rest : List ℕ) → position_from (words_of q ++ rest) ≡ Some q
unfolding position_from words_of joined
position-back q rest =
    rw (le-ltb (length (words_of q ++ rest)) 7 (omega arith), phase_back q.phase, span-back q.left)

-- a rule holds or the rest does
either : {A : Type 0} {B : Type 0} (t : Bool) (x y : A) {z : A} → (t ⇒ x ∣ y) ≡ z → (t ≡ true → x ≡ z → B)
    → (t ≡ false → y ≡ z → B) → B
either true x y e f g = f refl e
either false x y e f g = g refl e

-- words that name a phase are its words
bare-spot : (f g : Phase) (n a b h : ℕ) → spot_of f ≡ spot n 0 0 0 → unhalved f a b h ≡ Some g → spot_of g ≡ spot n a b h
unfolding unhalved
bare-spot f g n a b h s e =
    either (eqb a 0 && (eqb b 0 && eqb h 0)) _ _ e
    (λ t q.
    let u = second (eqb a 0) (eqb b 0 && eqb h 0) t in
    let same : f ≡ g = cc in
    rw (
      eqb-true a 0 (first (eqb a 0) (eqb b 0 && eqb h 0) t),
      eqb-true b 0 (first (eqb b 0) (eqb h 0) u),
      eqb-true h 0 (second (eqb b 0) (eqb h 0) u),
      ← same,
    ) s)
    (λ t q. cc)

halved-spot : (f : Bool → Phase) (g : Phase) (n a b h : ℕ) → ((v : Bool) → spot_of (f v) ≡ spot n a b (flag_of v))
    → halved f h ≡ Some g → spot_of g ≡ spot n a b h
unfolding halved flag_of
halved-spot f g n a b h s e =
    either (eqb h 0) _ _ e
    (λ t q. let same : f false ≡ g = cc in rw (eqb-true h 0 t, ← same) (s false))
    (λ t q. either (eqb h 1) _ _ q (λ u r. let same : f true ≡ g = cc in rw (eqb-true h 1 u, ← same) (s true)) (λ u r. cc))

phase_words : (f a b h : ℕ) (g : Phase) → phase_from f a b h ≡ Some g → spot_of g ≡ spot f a b h
unfolding phase_from spot_of
phase_words f a b h g e =
    either (eqb f 0) _ _ e
    (λ t q. bare-spot Start g 0 a b h refl q ∙ as_number f 0 t)
    (λ _ e1. either (eqb f 1) _ _ e1
    (λ t q. halved-spot (Tones a b) g 1 a b h (λ v. refl) q ∙ as_number f 1 t)
    (λ _ e2. either (eqb f 2) _ _ e2
    (λ t q. halved-spot (Data a b) g 2 a b h (λ v. refl) q ∙ as_number f 2 t)
    (λ _ e3. either (eqb f 3) _ _ e3
    (λ t q. bare-spot Pause g 3 a b h refl q ∙ as_number f 3 t)
    (λ _ e4. either (eqb f 4) _ _ e4
    (λ t q. bare-spot Edge g 4 a b h refl q ∙ as_number f 4 t)
    (λ _ e5. cc)))))
  where
    as_number : (m n : ℕ) → eqb m n ≡ true → spot n a b h ≡ spot m a b h
    as_number m n t = ap (λ (k : ℕ). spot k a b h) (sym (eqb-true m n t))

span_words : (e n : ℕ) (d : Duration) → span_from e n ≡ Some d → span_of d ≡ span e n
unfolding span_from span_of
span_words e n d q =
    either (eqb e 0) _ _ q
    (λ t r. let same : T n ≡ d = cc in rw (eqb-true e 0 t, ← same))
    (λ _ q1. either (eqb e 1 && eqb n 0) _ _ q1
    (λ t r.
    let same : Endless ≡ d = cc in
    rw (eqb-true e 1 (first (eqb e 1) (eqb n 0) t), eqb-true n 0 (second (eqb e 1) (eqb n 0) t), ← same))
    (λ _ r. cc))

joined_words : (b f a p h e n : ℕ) (q : Position) → joined b (phase_from f a p h) (span_from e n) ≡ Some q
    → b ∷ f ∷ a ∷ p ∷ h ∷ e ∷ n ∷ [] ≡ words_of q
unfolding joined words_of
joined_words b f a p h e n q j = parts (phase_from f a p h) (span_from e n) refl refl j
  where
    parts : (x : Option Phase) (y : Option Duration) → phase_from f a p h ≡ x → span_from e n ≡ y → joined b x y ≡ Some q
        → b ∷ f ∷ a ∷ p ∷ h ∷ e ∷ n ∷ [] ≡ words_of q
    parts (Some g) (Some d) u v w =
        let at : Some (record { block = b; phase = g; left = d }) ≡ Some q = w in
        let same : record { block = b; phase = g; left = d } ≡ q = cc in
        rw (← same, phase_words f a p h g u, span_words e n d v)
    parts (Some g) None u v w = cc
    parts None y u v w = cc

words_back : (ws : List ℕ) (q : Position) → position_from ws ≡ Some q → take 7 ws ≡ words_of q
unfolding position_from
words_back [] q e = cc
words_back (b ∷ []) q e = cc
words_back (b ∷ f ∷ []) q e = cc
words_back (b ∷ f ∷ a ∷ []) q e = cc
words_back (b ∷ f ∷ a ∷ p ∷ []) q e = cc
words_back (b ∷ f ∷ a ∷ p ∷ h ∷ []) q e = cc
words_back (b ∷ f ∷ a ∷ p ∷ h ∷ v ∷ []) q e = cc
words_back (b ∷ f ∷ a ∷ p ∷ h ∷ v ∷ n ∷ rest) q e =
    let long = le-ltb (length (b ∷ f ∷ a ∷ p ∷ h ∷ v ∷ n ∷ rest)) 7 (omega arith) in
    joined_words b f a p h v n q (rw long at e)

pub position-words
    : ((q : Position) (rest : List ℕ) → position_from (words_of q ++ rest) ≡ Some q)
    × ((ws : List ℕ) (q : Position) → position_from ws ≡ Some q → take 7 ws ≡ words_of q)
position-words = (position-back, words_back)
