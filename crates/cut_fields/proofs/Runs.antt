-- Runs of equal steps: where each step moves by g bytes or stops, n of them are a product, or the first that stops. Assumes nothing.
use Prim.Native.Nat.{ℕ, zero, suc, ◌+◌, ◌*◌, ◌≤◌, ◌<◌}
use mathlib.Core.List.{List}
use mathlib.Core.Path.{◌≡◌, refl, sym, ap, ◌∙◌}
use mathlib.Core.Logic.{⊎_elim}
use native.Mathlib.Omega.{arith}
use native.Mathlib.Nat.{zero-mul, suc-mul, not-suc-le-zero}
use lib.ListN.{length}
use borrow.Author.Tests.{le-leb, lt-leb}
use Rattle.law_base.proofs.Numbers.{lt_or_ge}
use Rattle.std.specs.Prelude.{Ok, Err}
use Rattle.cut_fields.specs.declared.Short.{Short}
use Rattle.cut_fields.specs.Field.{Cursor, came_short, number_at, field_at, place_of}
use Rattle.cut_fields.specs.Run.{times, each_at, groups_at, Wholes}

-- a cursor that came up short
pub data Stopped : Cursor → Type 0 where
  stopped : {e : Short} → Stopped (Err e)

-- it stands nowhere
told : {e : Short} {q : ℕ} → ◌≡◌ {A = Cursor} (Err e) (Ok q) → ⊥
told h = let z : ◌≡◌ {A = ℕ} 0 1 = cc in omega arith

pub times-stopped : (f : Cursor → Cursor) (n : ℕ) {c : Cursor} → Stopped c → times f n c ≡ c
unfolding times
times-stopped f zero stopped = refl
times-stopped f (suc n) stopped = refl

-- a step that moves by g bytes where they are among the first l
module _ (f : Cursor → Cursor) (g l : ℕ) (moves : (p : ℕ) → p + g ≤ l → f (Ok p) ≡ Ok (p + g)) where
  times-whole : (n p : ℕ) → p + n * g ≤ l → times f n (Ok p) ≡ Ok (p + n * g)
  unfolding times
  times-whole zero p h = let e : p ≡ p + 0 * g = omega (arith, zero-mul g) in ap Ok e
  times-whole (suc n) p h =
      let m = suc-mul n g in
      let e : p + g + n * g ≡ p + suc n * g = omega arith in
      rw (moves p (omega arith)) (times-whole n (p + g) (omega arith) ∙ ap Ok e)

  times-short : (q n p : ℕ) → q < n → (0 < q → p + q * g ≤ l) → Stopped (f (Ok (p + q * g)))
      → times f n (Ok p) ≡ f (Ok (p + q * g))
  unfolding times
  times-short q zero p h k s = absurd (not-suc-le-zero h)
  times-short zero (suc n) p h k s =
      let e : p + 0 * g ≡ p = omega (arith, zero-mul g) in
      rw (ap (λ (m : ℕ). f (Ok m)) e) (times-stopped f n (rw e at s))
  times-short (suc q) (suc n) p h k s =
      let m = suc-mul q g in
      let b = k (omega arith) in
      let e : p + suc q * g ≡ p + g + q * g = omega arith in
      rw (moves p (omega arith), ap (λ (m : ℕ). f (Ok m)) e)
      (times-short q n (p + g) (omega arith) (λ _. omega arith) (rw e at s))

  -- what code that divides gives: q steps at once, then, where steps are left, the one that stops
  pub times_wholes : {n p q : ℕ} → Wholes l p n g q → (l < p + q * g + g → Stopped (f (Ok (p + q * g)))) → q < n
      → times f n (Ok p) ≡ f (Ok (p + q * g))
  times_wholes {n} {p} {q} w stops h =
      let a = w.fits in
      times-short q n p h (λ k. let b = w.there k in omega arith) (stops (w.most h))

  pub times_all : (n : ℕ) {p q : ℕ} → Wholes l p n g q → n ≤ q → times f n (Ok p) ≡ Ok (p + q * g)
  unfolding times
  times_all zero {p} {q} w h =
      let a = w.few in
      let z : q ≡ 0 = omega arith in
      let e : p ≡ p + q * g = rw z (omega (arith, zero-mul g)) in
      ap Ok e
  times_all (suc n) {p} {q} w h =
      let a = w.few in
      let b = w.fits in
      let e : q ≡ suc n = omega arith in
      let k = w.there (omega arith) in
      let r : p + q * g ≤ l = omega arith in
      rw e (times-whole (suc n) p (rw e at r))

-- a run of steps that stands began at a place, and each of its steps moved
pub record Stood (c : Cursor) (b q : ℕ) : Type 0 where
  pub began : c ≡ Ok (place_of c)
  pub moved : q ≡ place_of c + b

not_there : {c : Cursor} {q : ℕ} → Stopped c → c ≡ Ok q → ⊥
not_there stopped e = told e

module _ (f : Cursor → Cursor) (g l : ℕ) (moves : (p : ℕ) → p + g ≤ l → f (Ok p) ≡ Ok (p + g))
    (stops : (p : ℕ) → l < p + g → Stopped (f (Ok p))) where
  times_moved : (n p : ℕ) {q : ℕ} → times f n (Ok p) ≡ Ok q → q ≡ p + n * g
  unfolding times
  times_moved zero p {q} e = let z = zero-mul g in let i : p ≡ q = cc in omega arith
  times_moved (suc n) p {q} e =
      ⊎_elim
      (λ (a : l < p + g). let t = stops p a in absurd (not_there t (sym (times-stopped f n t) ∙ e)))
      (λ (a : p + g ≤ l). let i : q ≡ p + g + n * g = times_moved n (p + g) (rw (moves p a) at e) in omega (arith, suc-mul n g))
      (lt_or_ge l (p + g))

  times_stood : (n : ℕ) (c : Cursor) {q : ℕ} → times f n c ≡ Ok q → Stood c (n * g) q
  unfolding place_of
  times_stood n (Ok p) e = record { began = refl; moved = times_moved n p e }
  times_stood n (Err x) e = absurd (not_there stopped (sym (times-stopped f n (stopped {e = x})) ∙ e))

module _ (s : List ℕ) where
  -- a field that is there, and one that is not
  pub field_there : (w p : ℕ) → p + w ≤ length s → field_at s (Ok p) w ≡ record { value = number_at s p w; cursor = Ok (p + w) }
  unfolding field_at
  field_there w p h = rw (le-leb (p + w) (length s) h)

  pub field_short : (w p : ℕ) → length s < p + w → field_at s (Ok p) w ≡ record { value = 0; cursor = came_short p w }
  unfolding field_at
  field_short w p h = rw (lt-leb (p + w) (length s) h)

  pub field_moves : (w p : ℕ) → p + w ≤ length s → (field_at s (Ok p) w).cursor ≡ Ok (p + w)
  field_moves w p h = rw (field_there w p h)

  pub field_stops : (w p : ℕ) → length s < p + w → (field_at s (Ok p) w).cursor ≡ came_short p w
  field_stops w p h = rw (field_short w p h)

  -- the place past a field is inside the tape
  pub field_inside : (c : Cursor) (w : ℕ) {e : ℕ} → (field_at s c w).cursor ≡ Ok e → e ≤ length s
  unfolding field_at
  field_inside (Ok p) w {e} h =
      ⊎_elim
      (λ (a : length s < p + w). let z : ◌≡◌ {A = Cursor} (came_short p w) (Ok e) = sym (field_stops w p a) ∙ h in absurd (told z))
      (λ (a : p + w ≤ length s). let z : ◌≡◌ {A = Cursor} (Ok (p + w)) (Ok e) = sym (field_moves w p a) ∙ h in
      let i : p + w ≡ e = cc in omega arith)
      (lt_or_ge (length s) (p + w))
  field_inside (Err e) w h = absurd (told h)

  each_moves : (k w p : ℕ) → p + k * w ≤ length s → each_at s (Ok p) k w ≡ Ok (p + k * w)
  unfolding each_at
  each_moves k w p h = times-whole (λ c. (field_at s c w).cursor) w (length s) (field_moves w) k p h

  pub each_stopped : (k w : ℕ) {c : Cursor} → Stopped c → each_at s c k w ≡ c
  unfolding each_at
  each_stopped k w h = times-stopped (λ c. (field_at s c w).cursor) k h

  pub each_stuck : (e : Short) (k w : ℕ) → each_at s (Err e) k w ≡ Err e
  each_stuck e k w = each_stopped k w stopped

  -- no field is read behind one that came up short
  pub field_stuck : (e : Short) (w : ℕ) → field_at s (Err e) w ≡ record { value = 0; cursor = Err e }
  unfolding field_at
  field_stuck e w = refl

  -- k fields of w bytes that are not all there stop
  each-stops : (k w p : ℕ) → p ≤ length s → length s < p + k * w → Stopped (each_at s (Ok p) k w)
  unfolding each_at times
  each-stops zero w p h l = let z = zero-mul w in absurd (omega arith)
  each-stops (suc k) w p h l =
      let m = suc-mul k w in
      ⊎_elim
      (λ (a : length s < p + w). rw (field_stops w p a, times-stopped (λ c. (field_at s c w).cursor) k (stopped {e = record { place = p; width = w }})) stopped)
      (λ (a : p + w ≤ length s). rw (field_moves w p a) (each-stops k w (p + w) a (omega arith)))
      (lt_or_ge (length s) (p + w))

  -- a group is a step of its own
  group_moves : (h k w p : ℕ) → p + (h + k * w) ≤ length s → each_at s (field_at s (Ok p) h).cursor k w ≡ Ok (p + (h + k * w))
  group_moves h k w p l =
      let e : p + h + k * w ≡ p + (h + k * w) = omega arith in
      rw (field_moves h p (omega arith)) (each_moves k w (p + h) (omega arith) ∙ ap Ok e)

  group_stops : (h k w p : ℕ) → length s < p + (h + k * w) → Stopped (each_at s (field_at s (Ok p) h).cursor k w)
  group_stops h k w p l =
      ⊎_elim
      (λ (a : length s < p + h). rw (field_stops h p a, each_stopped k w (stopped {e = record { place = p; width = h }})) stopped)
      (λ (a : p + h ≤ length s). rw (field_moves h p a) (each-stops k w (p + h) a (omega arith)))
      (lt_or_ge (length s) (p + h))

  -- the answers of `each`
  pub each_short : {n w p q : ℕ} → Wholes (length s) p n w q → q < n → each_at s (Ok p) n w ≡ came_short (p + q * w) w
  unfolding each_at
  each_short {n} {w} {p} {q} h k =
      let e = field_stops w (p + q * w) (h.most k) in
      times_wholes (λ c. (field_at s c w).cursor) w (length s) (field_moves w) h (λ _. rw e stopped) k ∙ e

  pub each_all : {n w p q : ℕ} → Wholes (length s) p n w q → n ≤ q → each_at s (Ok p) n w ≡ Ok (p + q * w)
  unfolding each_at
  each_all {n} {w} h k = times_all (λ c. (field_at s c w).cursor) w (length s) (field_moves w) n h k

  -- the answers of `groups`
  pub groups_short : (h k w : ℕ) {n p q : ℕ} → Wholes (length s) p n (h + k * w) q → q < n
      → groups_at s (Ok p) n h k w ≡ each_at s (field_at s (Ok (p + q * (h + k * w))) h).cursor k w
  unfolding groups_at
  groups_short h k w {n} {p} {q} t l =
      times_wholes (λ c. each_at s (field_at s c h).cursor k w) (h + k * w) (length s) (group_moves h k w) t
      (group_stops h k w (p + q * (h + k * w))) l

  pub groups_behind : (h k w : ℕ) {n p q : ℕ} {e : Short} → Wholes (length s) p n (h + k * w) q → q < n
      → (field_at s (Ok (p + q * (h + k * w))) h).cursor ≡ Err e → groups_at s (Ok p) n h k w ≡ Err e
  groups_behind h k w {e = e} t l r = groups_short h k w t l ∙ rw r (each_stopped k w stopped)

  pub groups_all : (h k w : ℕ) {n p q : ℕ} → Wholes (length s) p n (h + k * w) q → n ≤ q
      → groups_at s (Ok p) n h k w ≡ Ok (p + q * (h + k * w))
  unfolding groups_at
  groups_all h k w {n} t l = times_all (λ c. each_at s (field_at s c h).cursor k w) (h + k * w) (length s) (group_moves h k w) n t l

  pub groups-stopped : (n h k w : ℕ) {c : Cursor} → Stopped c → groups_at s c n h k w ≡ c
  unfolding groups_at
  groups-stopped n h k w t = times-stopped (λ c. each_at s (field_at s c h).cursor k w) n t

  pub groups_stuck : (e : Short) (n h k w : ℕ) → groups_at s (Err e) n h k w ≡ Err e
  groups_stuck e n h k w = groups-stopped n h k w stopped

  -- fields and groups that are all there
  pub each_stood : (n w : ℕ) (c : Cursor) {q : ℕ} → each_at s c n w ≡ Ok q → Stood c (n * w) q
  unfolding each_at
  each_stood n w c e =
      times_stood (λ c. (field_at s c w).cursor) w (length s) (field_moves w) (λ p a. rw (field_stops w p a) stopped) n c e

  pub groups_stood : (n h k w : ℕ) (c : Cursor) {q : ℕ} → groups_at s c n h k w ≡ Ok q → Stood c (n * (h + k * w)) q
  unfolding groups_at
  groups_stood n h k w c e =
      times_stood (λ c. each_at s (field_at s c h).cursor k w) (h + k * w) (length s) (group_moves h k w) (group_stops h k w) n c e
