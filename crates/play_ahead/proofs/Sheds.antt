-- ONE TURN of the source's walk drops an entry, whole cycles or a byte. Assumes nothing.
use Prim.Native.Nat.{ℕ, zero, suc, ◌+◌, ◌-◌, ◌≤◌, ◌<◌}
use native.Mathlib.Omega.{arith}
use borrow.Author.Tests.{lt-leb, le-leb, eq-eqb, ne_eqb}
use native.Mathlib.Decide.{ℕ_discrete}
use mathlib.Core.Path.{◌≡◌, ap, ◌∙◌}
use mathlib.Core.Bool.{Bool, true, false}
use Rattle.law_base.specs.Rules.{◌⇒◌, ◌∣◌}
use mathlib.Core.Logic.{⊎_elim}
use mathlib.Core.List.{List, [], ◌∷◌}
use lib.ListN.{length, length-append}
use Rattle.law_base.proofs.Numbers.{lt_or_ge}
use Rattle.law_pulses.specs.Play.{Level, Entry, pulse}
use Rattle.law_pulses.proofs.Ahead.{drops, drops_here, drops_past}
use Rattle.law_pulses.proofs.Dropped.{Within, drops_run, run-within}
use Rattle.rows.specs.declared.Tone.{Tone}
use Rattle.rows.specs.declared.Block.{Block}
use Rattle.play_entries.specs.declared.Phase.{Phase}
use Rattle.play_entries.specs.declared.Phase.TheVariants.{Start, Tones, Data, Edge, Pause}
use Rattle.play_entries.specs.declared.Duration.{Duration}
use Rattle.play_entries.specs.declared.Duration.TheVariants.{T, Endless}
use Rattle.play_entries.specs.Entries.{Label, label_at, entry_of, is_single, bits_at, bit_of, half_of, bit_entries, byte_of}
use Rattle.play_entries.specs.Places.{Tape, block_in, tone_in, byte_in, left_at, level_in, cycles_in, cycle_item, bit_in, valid, has_in, length_in}
use Rattle.play_entries.proofs.Bounds.{bits_some}
use Rattle.play_entries.proofs.Valid.{tone-entry, data_entry, remains-full, stands-valid}
use Rattle.play_entries.proofs.Parts.{left_part}
use Rattle.play_steps.specs.declared.Step.{Step}
use Rattle.play_steps.specs.Steps.{cycles_step, byte_step, one_step}
use Rattle.std.specs.Prelude.{Option, Some, None}
use Rattle.play_ahead.specs.Drops.{drop_one, drop_entry, second_time, drop_of}
use Rattle.play_steps.proofs.Leaps.{full_at, left_behind, HasNext, One, Leap, leap_one, leap_cycles, leap_byte, runs_some, one_time}

-- a step that is dropped of es, d being the count left
pub record Shed (w : Tape) (b : ℕ) (es : List (Entry Label)) (d : ℕ) (s : Step) : Type 0 where
  pub goes : drops es d ≡ s.time + drops (left_behind w b s) d
  pub less : length (left_behind w b s) < length es
  pub has : HasNext w b s.phase

-- what a turn drops of es, if it does
abbrev pub Sheds : Tape → ℕ → List (Entry Label) → ℕ → Option Step → Type 0
Sheds w b es d (Some s) = Shed w b es d s
Sheds w b es d None = drops es d ≡ 0

one_sheds : (w : Tape) (b : ℕ) (es : List (Entry Label)) (s : Step) (d : ℕ) → One w b es s → s.time ≤ d → Shed w b es d s
one_sheds w b es s d o h =
    record {
      goes = ap (λ (x : List (Entry Label)). drops x d) o.split
          ∙ drops_past o.label o.level s.time (left_behind w b s) d h;
      less = omega (arith, ap length o.split);
      has = o.has;
    }

leap_sheds : (w : Tape) (b : ℕ) (es : List (Entry Label)) (s : Step) {gone : List (Entry Label)} (d : ℕ) → Leap w b es s gone
    → Within gone d → 0 < s.passed → Shed w b es d s
leap_sheds w b es s {gone} d l h p =
    record {
      goes =
          ap (λ (x : List (Entry Label)). drops x d) l.split
          ∙ drops_run gone (left_behind w b s) d h
          ∙ ap (λ (x : ℕ). x + drops (left_behind w b s) d) l.lasts;
      less = omega (arith, ap length l.split, length-append gone (left_behind w b s), l.many);
      has = l.has;
    }

half_within : (r : Block) (d x : ℕ) → r.zero ≤ d → r.one ≤ d → half_of r x ≤ d
unfolding half_of
half_within r d x p q =
    elim (ℕ_discrete x 0) [
      | yes z ↦ rw (eq-eqb x 0 z) p
      | no z ↦ rw (ne_eqb x 0 z) q
    ]

byte_within : (b : ℕ) (r : Block) (c : Level) (pos v d : ℕ) → r.zero ≤ d → r.one ≤ d → Within (byte_of b r c pos v) d
unfolding byte_of Within
byte_within b r c pos v d p q =
    run-within (bit_entries b r c pos v) d 0 (bits_at r pos)
    (λ k l g. (half_within r d (bit_of v k) p q, (half_within r d (bit_of v k) p q, tt)))

many_some : (tones : List ℕ) (t : Tone) (r : Block) (i p k : ℕ) → 0 < k → 0 < (cycles_step tones t r i p k).passed
unfolding cycles_step
many_some tones t r i p k l = runs_some (is_single r t) k l

second_within : (o : Bool) (a : Label) (v : Level) (n d : ℕ) → (o ⇒ 0 ∣ n) ≤ d → Within (o ⇒ [] ∣ pulse a v n ∷ []) d
unfolding Within
second_within true a v n d h = tt
second_within false a v n d h = (h, tt)

byte_some : (tape : List ℕ) (r : Block) (pos : ℕ) → 0 < (byte_step tape r pos).passed
unfolding byte_step
byte_some tape r pos = omega (arith, bits_some r pos)

pub time-none : {t : ℕ} → T t ≡ T 0 → 0 ≡ t
time-none {t} e = cc

module _ (w : Tape) (b : ℕ) (below : b < w.count) (d : ℕ) where
  shed_left : (f : Phase) (left : Duration) → has_in w b f ≡ true → valid w b f left ≡ true
      → Sheds w b (left_at w b f left) d (drop_one w.tones (block_in w b) f left d)
  unfolding drop_one entry_of drops
  shed_left f (T t) h v =
      ⊎_elim
      (λ l.
      let x = left_part w b below f (T t) v in
      rw (lt-leb t d l)
      (ap (λ (y : List (Entry Label)). drops y d) x.rest ∙ drops_here (label_at b f) (level_in w b f) t x.next d l))
      (λ g.
      rw (le-leb t d g)
      (one_sheds w b (left_at w b f (T t)) (one_step w.tones (block_in w b) f t) d (leap_one w b below f t h)
      (one_time w.tones (block_in w b) f t d g)))
      (lt_or_ge d t)
  shed_left f Endless h v = ap (λ (y : List (Entry Label)). drops y d) (left_part w b below f Endless v).rest

  pub full-valid : (f : Phase) → has_in w b f ≡ true → valid w b f (length_in w b f) ≡ true
  full-valid f h = stands-valid w b f (length_in w b f) (record { below = below; entry = h; some = remains-full (length_in w b f) })

  shed_entry : (f : Phase) → has_in w b f ≡ true → Sheds w b (full_at w b f) d (drop_entry w.bytes w.tones (block_in w b) f d)
  shed_entry f h = shed_left f (length_in w b f) h (full-valid f h)

  shed_cycles : (i p : ℕ) → has_in w b (Tones i p false) ≡ true
      → Sheds w b (full_at w b (Tones i p false)) d (drop_of w.bytes w.tones (block_in w b) (Tones i p false) d)
  unfolding drop_of Within
  shed_cycles i p h =
      let x = tone_in w b i in
      let n = tone-entry w.tones (block_in w b) i p false h in
      let y = second_time (block_in w b) x in
      let k = cycles_in w b i - p in
      ⊎_elim
      (λ l. rw (lt-leb x.len1 d l) (shed_entry (Tones i p false) h))
      (λ g.
      ⊎_elim
      (λ l. rw (le-leb x.len1 d g, lt-leb y d l) (shed_entry (Tones i p false) h))
      (λ m.
      rw (le-leb x.len1 d g, le-leb y d m)
      (leap_sheds w b (full_at w b (Tones i p false)) (cycles_step w.tones x (block_in w b) i p k) d
      (leap_cycles w b below i p k n.0 n.1 (omega (arith, n.1)))
      (run-within (cycle_item w b i) d p k (λ j u z. (g, second_within (is_single (block_in w b) x) _ _ _ d m)))
      (many_some w.tones x (block_in w b) i p k (omega (arith, n.1)))))
      (lt_or_ge d y))
      (lt_or_ge d x.len1)

  shed_byte : (pos : ℕ) → has_in w b (Data pos 0 false) ≡ true
      → Sheds w b (full_at w b (Data pos 0 false)) d (drop_of w.bytes w.tones (block_in w b) (Data pos 0 false) d)
  unfolding drop_of
  shed_byte pos h =
      let r = block_in w b in
      let n = data_entry w.tones (block_in w b) pos 0 false h in
      ⊎_elim
      (λ l. rw (lt-leb r.zero d l) (shed_entry (Data pos 0 false) h))
      (λ g.
      ⊎_elim
      (λ l. rw (le-leb r.zero d g, lt-leb r.one d l) (shed_entry (Data pos 0 false) h))
      (λ m.
      rw (le-leb r.zero d g, le-leb r.one d m)
      (leap_sheds w b (full_at w b (Data pos 0 false)) (byte_step w.bytes r pos) d (leap_byte w b below pos n.0)
      (byte_within b r (bit_in w b) pos (byte_in w b pos) d g m) (byte_some w.bytes r pos)))
      (lt_or_ge d r.one))
      (lt_or_ge d r.zero)

  -- ONE TURN of the source's walk
  pub shed : (f : Phase) → has_in w b f ≡ true → Sheds w b (full_at w b f) d (drop_of w.bytes w.tones (block_in w b) f d)
  unfolding drop_of
  shed Start h = shed_entry Start h
  shed (Tones i p true) h = shed_entry (Tones i p true) h
  shed (Tones i p false) h = shed_cycles i p h
  shed (Data pos k true) h = shed_entry (Data pos k true) h
  shed (Data pos zero false) h = shed_byte pos h
  shed (Data pos (suc k) false) h = rw (ne_eqb (suc k) 0 (omega arith)) (shed_entry (Data pos (suc k) false) h)
  shed Edge h = shed_entry Edge h
  shed Pause h = shed_entry Pause h
