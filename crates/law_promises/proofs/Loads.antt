-- WHAT A LOAD IS REFUSED BY: 1, 2, then what both readings answer; the numbers of the TZX reading and of the TAP reading. Assumes nothing.
use Prim.Native.Nat.{ℕ, ◌≤◌, ◌<◌}
use native.Mathlib.Omega.{arith}
use borrow.Author.Tests.{le-leb, lt-leb, leb-true, leb-false, lt-ltb, le-ltb, ltb-true, ltb-false}
use mathlib.Core.Path.{◌≡◌, refl, sym, ap, ◌∙◌}
use mathlib.Core.Bool.{Bool, true, false}
use mathlib.Core.Logic.{◌↔◌}
use mathlib.Core.List.{List}
use lib.ListN.{length}
use lib.Dec.{leb, ltb}
use Rattle.std.specs.Prelude.{Err}
use Rattle.law_base.specs.Rules.{◌⇒◌, ◌∣◌}
use Rattle.refusals.specs.Refusals.{bad_model, tape_long, tape_bad, generalised, tones_full, blocks_full, last_bits}
use Rattle.load_state.specs.Parser.{empty, Parsed}
use Rattle.cut_grammar.specs.declared.Heading.{Heading}
use Rattle.cut_grammar.specs.declared.Heading.TheVariants as heading
use Rattle.cut_grammar.specs.Cut.{head_at}
use Rattle.load_blocks.specs.Adds.{Lent}
use Rattle.load_source.specs.Source.{Verdict, done, failed, refused, fold_from, too_many_bits, bits_judged, tzx_see, headed, read_tzx, read_tap}
use Rattle.load_source.specs.Source.{Load, tzx, tapped, both_err, no, or_tap, or_else, load_of}
use Rattle.load_tape.specs.declared.NotLoaded.TheVariants.{Refused}
use Rattle.load_tape.specs.Load.{named_load, load_named, answer_of, refusal_no}
use Rattle.law_every_load.proofs.Refusals.{Between, Tells, whole, fails, tells, pieces_tell, tzx_tells, tap_tells}
use Rattle.law_promises.specs.Numbers.{Admitted, load_no, Errs, Headed}

-- a refusal of a reading has one of its numbers
pub refused-between : {lo hi : ℕ} {r : Verdict} (k : ℕ) → Tells lo hi r → r ≡ refused k → Between lo hi k
refused-between k whole e = let z : ◌≡◌ {A = ℕ} 0 1 = cc in absurd (omega arith)
refused-between k fails e = let z : ◌≡◌ {A = ℕ} 0 1 = cc in absurd (omega arith)
refused-between k (tells {k = j} b) e = let z : j ≡ k = cc in rw z at b

-- an answer is a refusal exactly where the load is
pub answers-no : (s : List ℕ) (k : ℕ) (l : Load) → (answer_of (named_load s l) ≡ Err (Refused k)) ↔ (l ≡ no k)
unfolding answer_of named_load
answers-no s k (tzx t) =
    (λ e. let z : ◌≡◌ {A = ℕ} 0 1 = cc in absurd (omega arith), λ e. let z : ◌≡◌ {A = ℕ} 0 1 = cc in absurd (omega arith))
answers-no s k (tapped t) =
    (λ e. let z : ◌≡◌ {A = ℕ} 0 1 = cc in absurd (omega arith), λ e. let z : ◌≡◌ {A = ℕ} 0 1 = cc in absurd (omega arith))
answers-no s k (both_err f g) =
    (λ e. let z : ◌≡◌ {A = ℕ} 0 1 = cc in absurd (omega arith), λ e. let z : ◌≡◌ {A = ℕ} 0 1 = cc in absurd (omega arith))
answers-no s k (no j) = (λ e. let z : j ≡ k = cc in ap no z, λ e. let z : j ≡ k = cc in ap (λ (i : ℕ). answer_of (no i)) z)

-- the naming pass leaves the number of a load as it is
named-number : (s : List ℕ) (l : Load) → refusal_no (answer_of (named_load s l)) ≡ refusal_no (answer_of l)
unfolding refusal_no answer_of named_load
named-number s (tzx t) = refl
named-number s (tapped t) = refl
named-number s (both_err f g) = refl
named-number s (no k) = refl

-- and a check that refuses gives its own
checked_number : (a b : Bool) (l : Load)
    → refusal_no (answer_of (a ⇒ no bad_model ∣ b ⇒ no tape_long ∣ l)) ≡ (a ⇒ bad_model ∣ b ⇒ tape_long ∣ refusal_no (answer_of l))
unfolding refusal_no answer_of
checked_number true b l = refl
checked_number false true l = refl
checked_number false false l = refl

-- the two checks, in order
pub data Ways {A : Type 0} (give : ℕ → A) (a b : Bool) (x : A) (k : ℕ) : Type 0 where
  by_model : a ≡ true → k ≡ bad_model → Ways give a b x k
  by_size : a ≡ false → b ≡ true → k ≡ tape_long → Ways give a b x k
  by-rest : a ≡ false → b ≡ false → x ≡ give k → Ways give a b x k

module _ {A : Type 0} (give : ℕ → A) (apart : (i j : ℕ) → give i ≡ give j → i ≡ j) where
  pub ways : (a b : Bool) (x : A) (k : ℕ) → (a ⇒ give bad_model ∣ b ⇒ give tape_long ∣ x) ≡ give k → Ways give a b x k
  ways true b x k e = by_model refl (sym (apart bad_model k e))
  ways false true x k e = by_size refl refl (sym (apart tape_long k e))
  ways false false x k e = by-rest refl refl e

  pub ways_back : {a b : Bool} {x : A} {k : ℕ} → Ways give a b x k → (a ⇒ give bad_model ∣ b ⇒ give tape_long ∣ x) ≡ give k
  ways_back (by_model e q) = rw (e, q)
  ways_back (by_size e f q) = rw (e, f, q)
  ways_back (by-rest e f q) = rw (e, f) q

-- what both readings come to
data Both (r q : Verdict) (k : ℕ) : Type 0 where
  one : r ≡ refused k → Both r q k
  other : Errs r → q ≡ refused k → Both r q k
  none : Errs r → Errs q → k ≡ tape_bad → Both r q k

both : (r q : Verdict) (k : ℕ) → 0 < k → refusal_no (answer_of (or_else r q)) ≡ k → Both r q k
unfolding or_else or_tap answer_of refusal_no
both (done t) q k h e = absurd (omega arith)
both (failed f) (done t) k h e = absurd (omega arith)
both (failed f) (failed g) k h e = none (f, refl) (g, refl) (sym e)
both (failed f) (refused j) k h e = other (f, refl) (ap refused e)
both (refused j) q k h e = one (ap refused e)

both-back : {r q : Verdict} {k : ℕ} → Both r q k → refusal_no (answer_of (or_else r q)) ≡ k
unfolding or_else or_tap answer_of refusal_no
both-back (one e) = rw e
both-back (other e f) = rw (e.1, f)
both-back (none e f z) = rw (e.1, f.1) (sym z)

module _ (lent : Lent) (s : List ℕ) (model : ℕ) where
  -- THE NUMBERS OF A LOAD
  pub data LoadRefused (k : ℕ) : Type 0 where
    model_no : 3 ≤ model → k ≡ bad_model → LoadRefused k
    size_no : model < 3 → 1048576 < length s → k ≡ tape_long → LoadRefused k
    both-no : Admitted 1048576 s model → Errs (read_tzx lent s model) → Errs (read_tap lent s) → k ≡ tape_bad → LoadRefused k
    tzx-no : Admitted 1048576 s model → read_tzx lent s model ≡ refused k → Between generalised last_bits k → LoadRefused k
    tap_no : Admitted 1048576 s model → Errs (read_tzx lent s model) → read_tap lent s ≡ refused k → Between tones_full blocks_full k
        → LoadRefused k

  -- its number, by the two checks and what both readings come to
  abbrev Checks : ℕ → Type 0
  Checks k = Ways (λ n. n) (leb 3 model) (ltb 1048576 (length s)) (refusal_no (answer_of (or_else (read_tzx lent s model) (read_tap lent s)))) k

  given-of : (k : ℕ) → 0 < k → Checks k → LoadRefused k
  given-of k h (by_model e q) = model_no (leb-true _ _ e) q
  given-of k h (by_size e f q) = size_no (leb-false _ _ e) (ltb-true _ _ f) q
  given-of k h (by-rest e f q) = of-both (record { known = leb-false _ _ e; short = ltb-false _ _ f }) (both _ _ k h q)
    where
      of-both : Admitted 1048576 s model → Both (read_tzx lent s model) (read_tap lent s) k → LoadRefused k
      of-both a (one x) = tzx-no a x (refused-between k (tzx_tells lent s model) x)
      of-both a (other x y) = tap_no a x y (refused-between k (tap_tells lent s) y)
      of-both a (none x y z) = both-no a x y z

  ways_of : {k : ℕ} → LoadRefused k → Checks k
  ways_of (model_no h q) = by_model (le-leb _ _ h) q
  ways_of (size_no h l q) = by_size (lt-leb _ _ h) (lt-ltb _ _ l) q
  ways_of (both-no a x y z) = by-rest (lt-leb _ _ a.known) (le-ltb _ _ a.short) (both-back (none x y z))
  ways_of (tzx-no a x b) = by-rest (lt-leb _ _ a.known) (le-ltb _ _ a.short) (both-back (one x))
  ways_of (tap_no a x y b) = by-rest (lt-leb _ _ a.known) (le-ltb _ _ a.short) (both-back (other x y))

  load_number_lem : load_no lent s model
      ≡ (leb 3 model ⇒ bad_model ∣ ltb 1048576 (length s) ⇒ tape_long
      ∣ refusal_no (answer_of (or_else (read_tzx lent s model) (read_tap lent s))))
  unfolding load_named load_of
  load_number_lem = named-number s (load_of lent s model) ∙ checked_number (leb 3 model) (ltb 1048576 (length s)) _

  pub refused_when : (k : ℕ) → 0 < k → (load_no lent s model ≡ k) ↔ LoadRefused k
  refused_when k h = (
    λ e. given-of k h (ways (λ n. n) (λ i j q. q) _ _ _ k (sym load_number_lem ∙ e)),
    λ g. load_number_lem ∙ ways_back (λ n. n) (λ i j q. q) (ways_of g),
  )

-- the TZX reading: its pieces' answer, then 7
module _ (lent : Lent) (s : List ℕ) (model : ℕ) where
  abbrev pieces : Verdict
  pieces = fold_from (tzx_see lent s model) (length s) 10 empty

  -- 7, or what the pieces answer
  data Judges (k : ℕ) (r : Verdict) : Type 0 where
    piece : r ≡ refused k → Judges k r
    last : (t : Parsed) → r ≡ done t → too_many_bits t.blocks ≡ true → k ≡ last_bits → Judges k r

  judges : (k : ℕ) (r : Verdict) → bits_judged r ≡ refused k → Judges k r
  unfolding bits_judged
  judges k (done t) e = by_bits (too_many_bits t.blocks) refl e
    where
      by_bits : (b : Bool) → too_many_bits t.blocks ≡ b → (b ⇒ refused last_bits ∣ done t) ≡ refused k → Judges k (done t)
      by_bits true q f = let z : last_bits ≡ k = cc in last t refl q (sym z)
      by_bits false q f = let z : ◌≡◌ {A = ℕ} 0 1 = cc in absurd (omega arith)
  judges k (failed f) e = let z : ◌≡◌ {A = ℕ} 0 1 = cc in absurd (omega arith)
  judges k (refused j) e = let z : j ≡ k = cc in piece (ap refused z)

  -- its head is a TZX's, and the pieces are judged
  heads : (k : ℕ) (h : Heading) → head_at s ≡ h → headed lent s model h ≡ refused k → Headed s × Judges k pieces
  unfolding headed
  heads k (heading.Version major minor) q e = ((major, minor, q), judges k pieces e)
  heads k heading.BadSignature q e = let z : ◌≡◌ {A = ℕ} 0 1 = cc in absurd (omega arith)
  heads k (heading.Short p w) q e = let z : ◌≡◌ {A = ℕ} 0 1 = cc in absurd (omega arith)

  tzx_judges : (k : ℕ) → read_tzx lent s model ≡ refused k → Headed s × Judges k pieces
  unfolding read_tzx
  tzx_judges k e = heads k (head_at s) refl e

  pub tzx-headed : Headed s → read_tzx lent s model ≡ bits_judged pieces
  unfolding read_tzx headed
  tzx-headed (major, minor, q) = rw q

  -- 4, 5, 6: a piece's
  pub tzx_piece : (k : ℕ) → k ≤ blocks_full → (read_tzx lent s model ≡ refused k) ↔ (Headed s × (pieces ≡ refused k))
  unfolding bits_judged
  tzx_piece k l = (λ e. let x = tzx_judges k e in (x.0, of x.1), λ x. tzx-headed x.0 ∙ ap bits_judged x.1)
    where
      of : Judges k pieces → pieces ≡ refused k
      of (piece e) = e
      of (last t e b z) = absurd (omega arith)

  -- 7: of the whole
  pub tzx_last : (read_tzx lent s model ≡ refused last_bits)
      ↔ (Headed s × ((t : Parsed) × (pieces ≡ done t) × (too_many_bits t.blocks ≡ true)))
  unfolding bits_judged
  tzx_last =
      (λ e. let x = tzx_judges last_bits e in (x.0, of x.1), λ x. tzx-headed x.0 ∙ ap bits_judged x.1.1 ∙ rw x.1.2)
    where
      of : Judges last_bits pieces → (t : Parsed) × (pieces ≡ done t) × (too_many_bits t.blocks ≡ true)
      of (piece e) = let b = refused-between last_bits (pieces_tell lent s model) e in absurd (omega (arith, b.high))
      of (last t e b z) = (t, e, b)
