-- A TONE ROW BY ARITHMETIC is the tone row step by step: every pulse's level, and the line behind it. Assumes nothing.
use Prim.Native.Nat.{ℕ, zero, suc, ◌+◌, ◌-◌, ◌%◌}
use native.Mathlib.Omega.{arith}
use native.Mathlib.Decide.{ℕ_discrete}
use native.Mathlib.Numerals.{add-one}
use borrow.Author.Tests.{eq-eqb, ne_eqb}
use mathlib.Core.Path.{◌≡◌, refl, sym, ap, subst, ◌∙◌}
use mathlib.Core.Bool.{Bool, true, false, not, not-not}
use mathlib.Core.List.{[], ◌∷◌}
use lib.Dec.{eqb}
use Rattle.law_base.specs.Rules.{◌⇒◌, ◌∣◌}
use Rattle.law_pulses.specs.Play.{Level, low, high, pulse}
use Rattle.law_pulses.specs.Runs.{run}
use Rattle.rows.specs.declared.Tone.{Tone}
use Rattle.play_levels.specs.declared.Line.{Line}
use Rattle.play_levels.specs.Voiced.{tick, behind, voice, sounded, line_by, voiced, line_past, lots, bare, Voices}
use Rattle.play_levels.specs.Closed.{begin_of, pulses_of, is_one, times_of, second_signal, tone_signals, turned, first_level}
use Rattle.play_levels.specs.Closed.{last_level, line_before, line_after, wave_item}
use Rattle.play_levels.proofs.Voices.{voices_none, voices_by, voices_run}

pub turned_next : (n : ℕ) (v : Level) → turned (n + 1) v ≡ not (turned n v)
unfolding turned
turned_next n v =
    elim (ℕ_discrete (n % 2) 0) [
      | yes z ↦ let o : (n + 1) % 2 ≡ 1 = omega arith in rw (eq-eqb (n % 2) 0 z, o)
      | no z ↦ let o : (n + 1) % 2 ≡ 0 = omega arith in rw (ne_eqb (n % 2) 0 z, o) (sym (not-not v))
    ]

-- begin 0, 1, 2 and one pulse a repetition, as tests
abbrev voice_by : Bool → Bool → Bool → Line → Level
voice_by x y z l = x ⇒ l.current ∣ y ⇒ l.played ∣ z ⇒ low ∣ high

abbrev first_by : Bool → Bool → Bool → Bool → Line → ℕ → Level
first_by x y z o l q =
    x ⇒ (o ⇒ turned q l.current ∣ l.current) ∣ y ⇒ (o ⇒ l.played ∣ turned q l.played) ∣ z ⇒ low ∣ high

first-none : (x y z o : Bool) (l : Line) → voice_by x y z l ≡ first_by x y z o l 0
unfolding turned
first-none true y z true l = refl
first-none true y z false l = refl
first-none false true z true l = refl
first-none false true z false l = refl
first-none false false true o l = refl
first-none false false false o l = refl

first_next : (x y z o : Bool) (l : Line) (q : ℕ)
    → voice_by x y z (behind (o ⇒ first_by x y z o l q ∣ not (first_by x y z o l q))) ≡ first_by x y z o l (q + 1)
first_next true y z true l q = sym (turned_next q l.current)
first_next true y z false l q = not-not l.current
first_next false true z true l q = refl
first_next false true z false l q = sym (turned_next q l.played)
first_next false false true o l q = refl
first_next false false false o l q = refl

module _ (t : Tone) (l : Line) where
  before-none : line_before t l 0 ≡ l
  unfolding line_before
  before-none = refl

  pub before_next : (q : ℕ) → line_before t l (q + 1) ≡ behind (last_level t l q)
  unfolding line_before
  before_next q =
      let e : q + 1 - 1 ≡ q = omega arith in
      let n : q + 1 ≡ 0 → ⊥ = λ z. omega arith in
      rw (ne_eqb (q + 1) 0 n, e)

  -- THE FIRST PULSE of repetition q is at the level that the line before it gives
  pub first-voiced : (q : ℕ) → voice (begin_of t) (line_before t l q) ≡ first_level t l q
  unfolding first_level
  first-voiced zero =
      ap (voice (begin_of t)) before-none ∙ first-none (eqb (begin_of t) 0) (eqb (begin_of t) 1) (eqb (begin_of t) 2) (is_one t) l
  first-voiced (suc q) =
      rw (← add-one q)
      (ap (voice (begin_of t)) (before_next q) ∙ first_next (eqb (begin_of t) 0) (eqb (begin_of t) 1) (eqb (begin_of t) 2) (is_one t) l q)

wave_by : {A : Type 0} (o : Bool) (begin m n : ℕ) (a c : A) (l : Line)
    → Voices l (tick begin m ∷ (o ⇒ [] ∣ tick 0 n ∷ [])) (behind (o ⇒ voice begin l ∣ not (voice begin l)))
    (pulse a (voice begin l) m ∷ (o ⇒ [] ∣ pulse c (not (voice begin l)) n ∷ []))
unfolding voiced line_past sounded line_by bare
wave_by true begin m n a c l = record { heard = refl; line = refl }
wave_by false begin m n a c l = record { heard = refl; line = refl }

-- lots without a signal
nothing : (p m : ℕ) → lots (λ q. []) p m ≡ []
unfolding lots
nothing p zero = refl
nothing p (suc m) = nothing (p + 1) m

module _ {A : Type 0} (t : Tone) (l : Line) (a c : ℕ → A) where
  one_wave : (q : ℕ)
      → Voices (line_before t l q) (tick (begin_of t) t.len1 ∷ second_signal t) (line_before t l (q + 1)) (wave_item t l a c q)
  one_wave q =
      rw (before_next t l q, ← first-voiced t l q)
      (wave_by (is_one t) (begin_of t) t.len1 t.len2 (a q) (c q) (line_before t l q))

  by-pulses : (n : Bool)
      → Voices l (lots (λ q. n ⇒ [] ∣ tick (begin_of t) t.len1 ∷ second_signal t) 0 t.num)
      (line_before t l (n ⇒ 0 ∣ t.num)) (run (wave_item t l a c) 0 (n ⇒ 0 ∣ t.num))
  unfolding run
  by-pulses true = rw (nothing 0 t.num, before-none t l) (voices_none l)
  by-pulses false =
      let z : 0 + t.num ≡ t.num = omega arith in
      let e = before-none t l in
      let v = voices_run (λ q. tick (begin_of t) t.len1 ∷ second_signal t) (wave_item t l a c) (line_before t l) 0 t.num
      (λ q x y. one_wave q) in
      subst (λ (k : Line). Voices k (lots (λ q. tick (begin_of t) t.len1 ∷ second_signal t) 0 t.num) (line_before t l t.num)
      (run (wave_item t l a c) 0 t.num)) e (voices_by (ap (line_before t l) z) v)

  -- A TONE ROW: its signals, voiced one by one, are these entries, and leave the line behind the row
  pub tone_voices : Voices l (tone_signals t) (line_after t l) (run (wave_item t l a c) 0 (times_of t))
  unfolding tone_signals line_after times_of
  tone_voices = by-pulses (eqb (pulses_of t) 0)
