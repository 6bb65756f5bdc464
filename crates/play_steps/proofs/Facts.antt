-- What a step knows of the tone row that it read, and of the cycles that fit. Assumes nothing.
use Prim.Native.Nat.{ℕ, suc, ◌+◌, ◌-◌, ◌*◌, ◌/◌, ◌≤◌, ◌<◌, min}
use native.Mathlib.Nat.{mul-le-mul, div-mul-le_self, mul-zero}
use native.Mathlib.Omega.{arith}
use borrow.Author.Tests.{lt-ltb, le-ltb, eq-eqb, ne_eqb}
use native.Mathlib.Decide.{ℕ_discrete}
use mathlib.Core.Path.{◌≡◌, sym, subst}
use mathlib.Core.Bool.{Bool, true, false}
use Rattle.law_base.specs.Rules.{◌⇒◌, ◌∣◌}
use mathlib.Core.List.{List}
use Rattle.rows.specs.declared.Tone.{Tone}
use Rattle.rows.specs.declared.Block.{Block}
use Rattle.rows.specs.Well.{well_tones}
use Rattle.rows.proofs.WellLaws.{tone-most, tones-each}
use Rattle.play_entries.specs.declared.Phase.{Phase}
use Rattle.play_entries.specs.declared.Phase.TheVariants.{Tones}
use Rattle.play_entries.specs.Entries.{tone_at, cycles_of, is_single, cycle_pulses, cycle_time}
use Rattle.play_entries.specs.Places.{has_entry}
use Rattle.play_entries.proofs.Bounds.{cycles_most, cycle_most}
use Rattle.play_steps.specs.Steps.{step_to, data_from, pulse_from, tone_from, cycle_from, cycles_step, one_step, cycles_fitting}
use Rattle.play_steps.specs.Steps.{take_cycles}

-- the numbers of a well-formed tone row
pub record Small (r : Block) (t : Tone) : Type 0 where
  pub cycles : cycles_of r t ≤ 65535
  pub lasts : cycle_time r t ≤ 131070
  pub pulses : cycle_pulses r t ≤ 2

by-pulses : (o : Bool) → (o ⇒ 1 ∣ 2) ≤ 2
by-pulses true = omega arith
by-pulses false = omega arith

pub tone_small : (tones : List ℕ) (r : Block) → well_tones tones r.tone r.tones ≡ true → (i : ℕ) → i < r.tones
    → Small r (tone_at tones r i)
tone_small tones r w i h =
    let m = tone-most _ (tones-each tones r.tone r.tones i w h) in
    let t = tone_at tones r i in
    record { cycles = omega (arith, cycles_most r t); lasts = omega (arith, cycle_most r t); pulses = by-pulses (is_single r t) }

-- of the tone row that the code read
pub small_of : (tones : List ℕ) (r : Block) (i : ℕ) (x : Tone) → x ≡ tone_at tones r i
    → well_tones tones r.tone r.tones ≡ true → i < r.tones → Small r x
small_of tones r i x e w h = subst (Small r) (sym e) (tone_small tones r w i h)

-- whole cycles, fewer than d T-states of them
pub record Fitting (c m d k : ℕ) : Type 0 where
  pub most : k ≤ m
  pub before : k * c < d

pub fit : (c m d : ℕ) → 0 < d → Fitting c m d (cycles_fitting c m d)
unfolding cycles_fitting
fit c m d p =
    elim (ℕ_discrete c 0) [
      | yes z ↦ rw (eq-eqb c 0 z) (record { most = omega arith; before = rw z (omega (arith, mul-zero m)) })
      | no z ↦
          let k = min m ((d - 1) / c) in
          let l : k ≤ (d - 1) / c = omega arith in
          let x : k * c ≤ (d - 1) / c * c = mul-le-mul l (omega arith) in
          rw (ne_eqb c 0 z) (record { most = omega arith; before = omega (arith, div-mul-le_self (d - 1) c) })
    ]

-- an entry of a phase that a match told
pub has_by : (tones : List ℕ) (r : Block) {f g : Phase} → f ≡ g → has_entry tones r f ≡ true → has_entry tones r g ≡ true
has_by tones r e x = subst (λ (h : Phase). has_entry tones r h ≡ true) e x

-- what `take_cycles` answers, of the tone it read, its repetitions, what one lasts, its pulses, and how many fit
module _ (tones : List ℕ) (r : Block) (i p t d : ℕ) (x : Tone) (n c m k : ℕ) (e : x ≡ tone_at tones r i) (u : n ≡ cycles_of r x)
    (v : c ≡ cycle_time r x) (g : k ≡ cycles_fitting c (n - p) d) where
  fits_so : k ≡ cycles_fitting (cycle_time r (tone_at tones r i)) (cycles_of r (tone_at tones r i) - p) d
  fits_so = subst (λ (y : Tone). k ≡ cycles_fitting (cycle_time r y) (cycles_of r y - p) d) e (rw (← u, ← v) g)

  pub takes_run : m ≡ cycle_pulses r x → 0 < k → step_to (cycle_from tones x r i (p + k)) (k * c) (k * m) ≡ take_cycles tones r i p t d
  unfolding take_cycles cycles_step
  takes_run z h =
      subst (λ (y : Tone). c ≡ cycle_time r y → m ≡ cycle_pulses r y
      → step_to (cycle_from tones y r i (p + k)) (k * c) (k * m) ≡ take_cycles tones r i p t d) (sym e)
      (λ a b. rw (← fits_so, lt-ltb 0 k h, a, b)) v z

  pub takes_one : k ≤ 0 → one_step tones r (Tones i p false) t ≡ take_cycles tones r i p t d
  unfolding take_cycles
  takes_one h = rw (← fits_so, le-ltb 0 k h)

-- a tone row with a pulse, one without, and none left
module _ (tones : List ℕ) (r : Block) (i : ℕ) where
  pub tone_here : i < r.tones → 0 < cycles_of r (tone_at tones r i) → tone_from tones r i ≡ Tones i 0 false
  unfolding tone_from pulse_from
  tone_here h l = let e : r.tones - i ≡ suc (r.tones - (i + 1)) = omega arith in rw (e, lt-ltb 0 (cycles_of r (tone_at tones r i)) l)

  pub tone_past : i < r.tones → cycles_of r (tone_at tones r i) ≤ 0 → tone_from tones r i ≡ tone_from tones r (i + 1)
  unfolding tone_from pulse_from
  tone_past h l = let e : r.tones - i ≡ suc (r.tones - (i + 1)) = omega arith in rw (e, le-ltb 0 (cycles_of r (tone_at tones r i)) l)

  pub tone_over : r.tones ≤ i → tone_from tones r i ≡ data_from r 0
  unfolding tone_from pulse_from
  tone_over h = let e : r.tones - i ≡ 0 = omega arith in rw e
