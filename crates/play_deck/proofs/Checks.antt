-- The checks of a position, and what a fine one is. Assumes nothing.
use Rattle.std.specs.Prelude.{Err}
use Rattle.play_walk.specs.Heads.{came}
use Prim.Native.Nat.{ℕ, zero, suc, ◌+◌, ◌-◌, ◌≤◌, ◌<◌}
use native.Mathlib.Omega.{arith}
use borrow.Author.Tests.{lt-ltb, le-ltb, ltb-false, le-leb, lt-leb, ne_eqb, not-false}
use mathlib.Core.Path.{◌≡◌, refl, sym, ap, subst, ◌∙◌}
use mathlib.Core.Bool.{Bool, true, false, not, ◌&&◌}
use mathlib.Core.Logic.{⊎_elim}
use mathlib.Core.List.{List, [], ◌∷◌}
use Rattle.law_base.proofs.Numbers.{lt_or_ge}
use Rattle.law_base.specs.Rules.{◌⇒◌, ◌∣◌}
use Rattle.law_base.proofs.Tests.{first, second}
use Rattle.law_pulses.specs.Play.{low, Entry, status_here}
use Rattle.law_pulses.proofs.Lead.{lead_here, lead_by}
use Rattle.rows.specs.Table.{capacity_of}
use Rattle.rows.specs.Rows.{tone, tone_most, block, block_most}
use Rattle.play_entries.specs.declared.Phase.{Phase}
use Rattle.play_entries.specs.declared.Phase.TheVariants.{Start, Tones, Data, Edge, Pause}
use Rattle.play_entries.specs.declared.Duration.{Duration}
use Rattle.play_entries.specs.declared.Duration.TheVariants.{T, Endless}
use Rattle.play_entries.specs.Entries.{Label, label_at, entry_of}
use Rattle.play_entries.specs.Places.{Tape, block_in, has_entry, left_at, level_in, remains, is_start, is_none, valid, has_in, length_in}
use Rattle.rows.specs.declared.Block.{Block}
use Rattle.play_entries.proofs.Lent.{row_lent}
use Rattle.play_entries.proofs.Follows.{list_out}
use Rattle.play_entries.proofs.Valid.{stands-valid, below_stands}
use Rattle.play_entries.proofs.Parts.{left_part}
use Rattle.play_walk.specs.declared.Position.{Position}
use Rattle.play_walk.specs.declared.How.TheVariants.{At, Stopped, Ended}
use Rattle.play_entries.specs.Mounted.{well_row, first_bad, cut_to, formed}
use Rattle.play_walk.specs.Heads.{start_at, stand, ahead, level_here, told_as, walk_from, Walkable}
use Rattle.play_walk.proofs.Leaves.{tells_end}
use Rattle.play_walk.specs.declared.Fault.TheVariants.{NotValid, NotFormed}
use Rattle.play_entries.specs.Mounted.{overfull}
use Rattle.play_deck.specs.Deck.{all_fine, at_start, ruled_out, ill_formed, valid_at, judged, stays}

-- two tests that hold together are one
pub same_test : (a b : Bool) → (a ≡ true → b ≡ true) → (b ≡ true → a ≡ true) → a ≡ b
same_test true b f g = sym (f refl)
same_test false true f g = g refl
same_test false false f g = refl

pub valid_below : (w : Tape) (b : ℕ) (f : Phase) (left : Duration) → b < w.count
    → valid w b f left ≡ (has_in w b f && remains left (length_in w b f))
valid_below w b f left h =
    same_test _ _
    (λ e. let s = below_stands w b f left h e in rw (s.entry, s.some))
    (λ e.
    stands-valid w b f left
    (record {
      below = h;
      entry = first (has_in w b f) (remains left (length_in w b f)) e;
      some = second (has_in w b f) (remains left (length_in w b f)) e;
    }))

-- the checks, way by way
module _ (w : Tape) (q : Position) where
  pub judged-over : capacity_of block block_most w.blocks < w.count → judged w q ≡ Err NotFormed
  unfolding judged
  judged-over h = rw (lt-ltb _ _ h)

  module _ (fits : w.count ≤ capacity_of block block_most w.blocks) where
    pub judged_start : w.count ≤ q.block → at_start q ≡ true → judged w q ≡ all_fine
    unfolding judged ruled_out ill_formed valid
    judged_start h e =
        rw (
          le-ltb (capacity_of block block_most w.blocks) w.count fits,
          le-leb w.count q.block h,
          le-ltb q.block w.count h,
          e,
        )

    pub judged-past : w.count ≤ q.block → at_start q ≡ false → judged w q ≡ Err NotValid
    unfolding judged ruled_out
    judged-past h e = rw (le-ltb (capacity_of block block_most w.blocks) w.count fits, le-leb w.count q.block h, e)

    module _ (h : q.block < w.count) where
      pub judged-bad : well_row w q.block ≡ false → judged w q ≡ Err NotFormed
      unfolding judged ruled_out ill_formed
      judged-bad e =
          rw (
            le-ltb (capacity_of block block_most w.blocks) w.count fits,
            lt-leb w.count q.block h,
            lt-ltb q.block w.count h,
            e,
          )

      abbrev entry_fine : Bool
      entry_fine = has_in w q.block q.phase && remains q.left (length_in w q.block q.phase)

      pub judged-not : well_row w q.block ≡ true → entry_fine ≡ false → judged w q ≡ Err NotValid
      unfolding judged ruled_out ill_formed
      judged-not e f =
          rw (
            le-ltb (capacity_of block block_most w.blocks) w.count fits,
            lt-leb w.count q.block h,
            lt-ltb q.block w.count h,
            e,
            valid_below w q.block q.phase q.left h,
            f,
          )

      pub judged_fine : well_row w q.block ≡ true → entry_fine ≡ true → judged w q ≡ all_fine
      unfolding judged ruled_out ill_formed
      judged_fine e f =
          rw (
            le-ltb (capacity_of block block_most w.blocks) w.count fits,
            lt-leb w.count q.block h,
            lt-ltb q.block w.count h,
            e,
            valid_below w q.block q.phase q.left h,
            f,
          )

-- the four tests of a fine position
record Passed (a b c d : Bool) : Type 0 where
  pub over : a ≡ false
  pub ruled : b ≡ false
  pub row : c ≡ false
  pub valid : d ≡ true

passed : (a b c d : Bool) → (a ⇒ Err NotFormed ∣ b ⇒ Err NotValid ∣ c ⇒ Err NotFormed ∣ not d ⇒ Err NotValid ∣ all_fine) ≡ all_fine
    → Passed a b c d
passed true b c d e = let y : ◌≡◌ {A = ℕ} 0 1 = cc in absurd (omega arith)
passed false true c d e = let y : ◌≡◌ {A = ℕ} 0 1 = cc in absurd (omega arith)
passed false false true d e = let y : ◌≡◌ {A = ℕ} 0 1 = cc in absurd (omega arith)
passed false false false true e = record { over = refl; ruled = refl; row = refl; valid = refl }
passed false false false false e = let y : ◌≡◌ {A = ℕ} 0 1 = cc in absurd (omega arith)

start_is : (f : Phase) → is_start f ≡ true → f ≡ Start
start_is Start e = refl
start_is (Tones i p h) e = cc
start_is (Data pos k h) e = cc
start_is Edge e = cc
start_is Pause e = cc

none_is : (left : Duration) → is_none left ≡ true → left ≡ T 0
none_is (T zero) e = refl
none_is (T (suc n)) e = let z = ne_eqb (suc n) 0 (omega arith) in cc
none_is Endless e = cc

-- A FINE POSITION: below the count one that a walk can begin at, otherwise a start
module _ (w : Tape) (q : Position) (fine : judged w q ≡ all_fine) where
  tests : Passed (overfull w) (ruled_out w q) (ill_formed w q) (valid_at w q)
  unfolding judged
  tests = passed (overfull w) (ruled_out w q) (ill_formed w q) (valid_at w q) fine

  pub fine_below : q.block < w.count → Walkable w q
  unfolding ill_formed
  fine_below h =
      let r : (true && not (well_row w q.block)) ≡ false = rw (lt-ltb q.block w.count h) at tests.row in
      record { lent = ltb-false _ _ tests.over; below = h; row = not-false (well_row w q.block) r; stands = tests.valid }

  at_past : w.count ≤ q.block → at_start q ≡ true
  unfolding ruled_out
  at_past h = let r : (true && not (at_start q)) ≡ false = rw (le-leb w.count q.block h) at tests.ruled in not-false (at_start q) r

  pub fine_start : w.count ≤ q.block → q.phase ≡ Start
  fine_start h = start_is q.phase (first (is_start q.phase) (is_none q.left) (at_past h))

  pub fine_none : w.count ≤ q.block → q.left ≡ T 0
  fine_none h = none_is q.left (second (is_start q.phase) (is_none q.left) (at_past h))

  past-nil : w.count ≤ q.block → (k : ℕ) → k ≤ q.block → ahead (cut_to w k) q ≡ []
  unfolding left_at
  past-nil h k l = ap (λ (f : Phase). left_at (cut_to w k) q.block f q.left) (fine_start h) ∙ list_out (cut_to w k) q.block l

  -- a call of 0
  stays_by : (es : List (Entry Label)) → ahead w q ≡ es → stays w q ≡ told_as (status_here es) (stand q 0 (level_here low es))
  unfolding stays
  stays_by es e = ap (λ (x : List (Entry Label)). told_as (status_here x) (stand q 0 (level_here low x))) e

  pub stays_at : (t : ℕ) → q.left ≡ T t → q.block < w.count → stays w q ≡ came At (stand q 0 (level_in w q.block q.phase))
  unfolding told_as status_here level_here entry_of
  stays_at t e h =
      let x = left_part w q.block h q.phase q.left tests.valid in
      stays_by _
      (x.rest ∙ ap (λ (y : Duration). entry_of (label_at q.block q.phase) (level_in w q.block q.phase) y ∷ x.next) e)

  pub stays-past : w.count ≤ q.block → stays w q ≡ came At (stand q 0 low)
  unfolding told_as status_here level_here
  stays-past h = stays_by [] (past-nil h w.count h)

  pub stays-endless : q.left ≡ Endless → stays w q ≡ came Stopped (stand q 0 (level_in w q.block q.phase))
  unfolding told_as status_here level_here entry_of
  stays-endless e =
      ⊎_elim
      (λ h.
      let x = left_part w q.block h q.phase q.left tests.valid in
      stays_by _
      (x.rest ∙ ap (λ (y : Duration). entry_of (label_at q.block q.phase) (level_in w q.block q.phase) y ∷ x.next) e))
      (λ h. absurd (apart (sym (fine_none h) ∙ e)))
      (lt_or_ge q.block w.count)
    where
      apart : T 0 ≡ Endless → ⊥
      apart z = cc

  -- a start past the count: the end, at the count's start
  pub past-ends : w.count ≤ q.block → (n : ℕ) → 0 < n → walk_from w q n ≡ came Ended (stand (start_at w.count) 0 false)
  unfolding walk_from formed first_bad
  past-ends h n p =
      let z : w.count - q.block ≡ 0 = omega arith in
      rw z
      (tells_end w (cut_to w w.count) n 0
      (lead_by (past-nil h w.count h) (lead_here (ahead (cut_to w w.count) q) n 0)) p (omega arith))

-- what the level of a position's entry asks, of the row that the code read
abbrev Lent : Tape → Phase → Block → Type 0
Lent w f r = (r.tone + r.tones ≤ capacity_of tone tone_most w.tones) × (has_entry w.tones r f ≡ true)

pub may_stand : (w : Tape) (q : Position) → Walkable w q → (r : Block) → r ≡ block_in w q.block → Lent w q.phase r
unfolding well_row
may_stand w q a r e =
    subst (Lent w q.phase) (sym e) (
      (row_lent w.bytes w.tones (block_in w q.block) a.row).rows,
      (below_stands w q.block q.phase q.left a.below a.stands).entry,
    )
