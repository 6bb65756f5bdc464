-- WHERE A WALK LEAVES: what the list's answer is there, and which rows a walk needs. Assumes nothing.
use Prim.Native.Nat.{ℕ, ◌+◌, ◌-◌, ◌≤◌, ◌<◌}
use native.Mathlib.Omega.{arith}
use borrow.Author.Tests.{lt-ltb, le-ltb}
use mathlib.Core.Path.{◌≡◌, refl, ap, ap₂, ◌∙◌}
use mathlib.Core.Bool.{false}
use mathlib.Core.Logic.{◌⊎◌, inl, ⊎_elim}
use mathlib.Core.List.{List, [], ◌∷◌}
use lib.ListN.{length}
use Rattle.law_base.proofs.Numbers.{lt_or_ge}
use Rattle.law_pulses.specs.Play.{Level, Entry, pulse, endless, Status, standing, stopped, made, rest, over, status_here, status, answer}
use Rattle.law_pulses.proofs.Steps.{rest-nil, rest-stop, rest-zero, rest-here, over_zero, over-pulse}
use Rattle.law_pulses.proofs.Demand.{status_left, status-over}
use Rattle.law_pulses.proofs.Lead.{Leads, lead_by, lead_as}
use Rattle.play_entries.specs.declared.Phase.{Phase}
use Rattle.play_entries.specs.declared.Phase.TheVariants.{Start}
use Rattle.play_entries.specs.declared.Duration.TheVariants.{T, Endless}
use Rattle.play_entries.specs.Entries.{Label, label_at, start_level}
use Rattle.play_entries.specs.Places.{Tape, block_in, list_from, from_tone, head_of, left_of}
use Rattle.play_entries.specs.Mounted.{cut_to}
use Rattle.play_entries.proofs.Follows.{list_in, list_out}
use Rattle.std.specs.Prelude.{Err}
use Rattle.play_walk.specs.declared.How.TheVariants.{At, Stopped, Ended}
use Rattle.play_walk.specs.declared.Fault.TheVariants.{NotFormed}
use Rattle.play_walk.specs.Heads.{placed, start_at, stand, level_here, rest_level, told_as, told_reached, walked, came}

over-nil : (A : Type 0) (m : ℕ) → over {A = A} [] m ≡ m
unfolding over
over-nil A m = refl

module _ {A : Type 0} {es : List (Entry A)} {n : ℕ} where
  -- the answer by what a walk has led to
  answer-by : (fs gs : List (Entry A)) (m i u : ℕ) → Leads es n 0 fs m i → rest fs m ≡ gs → over fs m ≡ u
      → length fs ≡ length gs
      → answer es n ≡ made gs (status gs u) i
  unfolding answer
  answer-by fs gs m i u l r o k =
      let e : rest es n ≡ gs = l.rests ∙ r in
      let c : length es - length (rest es n) ≡ i = omega (arith, l.counts, ap length e) in
      ap₂ (λ (x : List (Entry A)) (j : ℕ). made x (status x (over es n)) j) e c
      ∙ ap (λ (x : ℕ). made gs (status gs x) i) (l.overs ∙ o)

  pub answer_in : (a : A) (v : Level) (t : ℕ) (fs : List (Entry A)) (m i : ℕ) → Leads es n 0 (pulse a v t ∷ fs) m i
      → (m ≡ 0) ⊎ (m < t)
      → answer es n ≡ made (pulse a v (t - m) ∷ fs) standing i
  unfolding status_here
  answer_in a v t fs m i l h =
      answer-by (pulse a v t ∷ fs) (pulse a v (t - m) ∷ fs) m i 0 l
      (⊎_elim
      (λ z.
      let y : t ≡ t - m = omega arith in
      ap (rest (pulse a v t ∷ fs)) z ∙ rest-zero _ ∙ ap (λ (x : ℕ). pulse a v x ∷ fs) y)
      (λ g. rest-here a v t fs m g) h)
      (over-pulse a v t fs m ∙ none) refl
      ∙ ap (λ (s : Status). made (pulse a v (t - m) ∷ fs) s i) (status_left _ 0 refl)
    where
      none : over fs (m - t) ≡ 0
      none = let y : m - t ≡ 0 = ⊎_elim (λ z. omega arith) (λ g. omega arith) h in ap (over fs) y ∙ over_zero fs

  pub answer-stop : (a : A) (v : Level) (fs : List (Entry A)) (m i : ℕ) → Leads es n 0 (endless a v ∷ fs) m i
      → answer es n ≡ made (endless a v ∷ fs) stopped i
  unfolding status_here over
  answer-stop a v fs m i l =
      answer-by (endless a v ∷ fs) (endless a v ∷ fs) m i 0 l (rest-stop a v fs m) refl refl
      ∙ ap (λ (s : Status). made (endless a v ∷ fs) s i) (status_left _ 0 refl)

  pub answer_end : (m i : ℕ) → Leads es n 0 [] m i → answer es n ≡ made [] (status {A = A} [] m) i
  answer_end m i l = answer-by [] [] m i m l (rest-nil m) (over-nil A m) refl

module _ (w v : Tape) {es : List (Entry Label)} {n : ℕ} where
  -- standing in an entry
  pub tells_at : (b : ℕ) (f : Phase) (x : Level) (t : ℕ) (fs : List (Entry Label)) (m i : ℕ)
      → Leads es n 0 (pulse (label_at b f) x t ∷ fs) m i
      → (m ≡ 0) ⊎ (m < t) → walked w v (answer es n) ≡ came At (stand (placed b f (T (t - m))) i x)
  unfolding walked told_reached told_as level_here head_of left_of
  tells_at b f x t fs m i l h = rw (answer_in (label_at b f) x t fs m i l h)

  pub tells_stop : (b : ℕ) (f : Phase) (x : Level) (fs : List (Entry Label)) (m i : ℕ)
      → Leads es n 0 (endless (label_at b f) x ∷ fs) m i
      → walked w v (answer es n) ≡ came Stopped (stand (placed b f Endless) i x)
  unfolding walked told_reached told_as level_here head_of left_of
  tells_stop b f x fs m i l = rw (answer-stop (label_at b f) x fs m i l)

  -- at the end of v with T-states left: the tape's end, or a row that is not well formed
  pub tells_end : (m i : ℕ) → Leads es n 0 [] m i → 0 < m → w.count ≤ v.count
      → walked w v (answer es n) ≡ came Ended (stand (start_at v.count) i false)
  unfolding walked told_reached told_as level_here rest_level head_of left_of
  tells_end m i l h e = rw (answer_end m i l, status-over {A = Label} [] m h, le-ltb v.count w.count e)

  pub tells_bad : (m i : ℕ) → Leads es n 0 [] m i → 0 < m → v.count < w.count → walked w v (answer es n) ≡ Err NotFormed
  unfolding walked
  tells_bad m i l h e = rw (answer_end m i l, status-over {A = Label} [] m h, lt-ltb v.count w.count e)

  pub tells_last : (i : ℕ) → Leads es n 0 [] 0 i
      → walked w v (answer es n) ≡ came At (stand (start_at v.count) i (rest_level w v.count))
  unfolding walked told_reached told_as level_here head_of left_of status_here
  tells_last i l = rw (answer_end 0 i l, status_left {A = Label} [] 0 refl)

-- a row below the count
rest_start : (w : Tape) (b : ℕ) → b < w.count → start_level (block_in w b) ≡ rest_level w b
unfolding rest_level
rest_start w b h = rw (lt-ltb b w.count h)

module _ (w : Tape) (k : ℕ) (few : k ≤ w.count) {es : List (Entry Label)} {n : ℕ} where
  -- at the start of the block behind b, with nothing left to spend
  pub tells_next : (b m i : ℕ) → Leads es n 0 (list_from (cut_to w k) (b + 1)) m i → m ≡ 0 → b < k
      → walked w (cut_to w k) (answer es n) ≡ came At (stand (start_at (b + 1)) i (rest_level w (b + 1)))
  tells_next b m i l z h =
      let v = cut_to w k in
      ⊎_elim
      (λ g.
      let y : 0 - m ≡ 0 = omega arith in
      tells_at w v (b + 1) Start (start_level (block_in w (b + 1))) 0 (from_tone v (b + 1) 0) m i (lead_by (list_in v (b + 1) g) l) (inl z)
      ∙ ap₂ (λ (x : ℕ) (c : Level). came At (stand (placed (b + 1) Start (T x)) i c)) y (rest_start w (b + 1) (omega arith)))
      (λ g.
      let e : k ≡ b + 1 = omega arith in
      tells_last w v i (lead_as 0 i z refl (lead_by (list_out v (b + 1) g) l))
      ∙ ap (λ (x : ℕ). came At (stand (start_at x) i (rest_level w x))) e)
      (lt_or_ge (b + 1) k)
