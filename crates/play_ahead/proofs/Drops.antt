-- WHAT THE SOURCE'S WALK DROPS, turn by turn and in all, over a tape cut at its first bad row. Assumes nothing.
use Prim.Native.Nat.{ℕ, zero, suc, ◌+◌, ◌-◌, ◌*◌, ◌≤◌, ◌<◌}
use native.Mathlib.Omega.{arith}
use native.Mathlib.Nat.{suc-mul, zero-mul}
use mathlib.Core.Path.{◌≡◌, refl, sym, ap, subst, ◌∙◌}
use mathlib.Core.Bool.{true, false}
use mathlib.Core.Logic.{⊎_elim}
use mathlib.Core.List.{List, [], ◌∷◌, ◌++◌}
use lib.ListN.{length}
use Rattle.law_base.proofs.Numbers.{lt_or_ge}
use Rattle.law_pulses.specs.Play.{Entry, pulse, endless, time}
use Rattle.law_pulses.proofs.Joined.{time_append}
use Rattle.law_pulses.specs.Runs.{run}
use Rattle.law_pulses.proofs.Ahead.{drops, drops_here, drops_past, runs_ahead, ahead-here, ahead_past}
use Rattle.law_pulses.proofs.Agreement.{dropped-ahead}
use Rattle.rows.specs.declared.Block.{Block}
use Rattle.play_entries.specs.declared.Phase.{Phase}
use Rattle.play_entries.specs.declared.Phase.TheVariants.{Start, Tones, Data, Edge, Pause}
use Rattle.play_entries.specs.declared.Duration.{Duration}
use Rattle.play_entries.specs.declared.Duration.TheVariants.{T, Endless}
use Rattle.play_entries.specs.Entries.{Label, label_at, entry_of, entries_of}
use Rattle.play_entries.specs.Places.{Tape, block_in, list_from, left_at, has_entry, level_in, valid, has_in, length_in}
use Rattle.play_entries.proofs.Bounds.{block_below}
use Rattle.play_entries.proofs.Valid.{valid_start}
use Rattle.play_entries.proofs.Lent.{LentRow, row_lent}
use Rattle.play_entries.proofs.Parts.{left_part}
use Rattle.play_steps.specs.declared.Step.{Step}
use Rattle.play_steps.specs.Steps.{one_step}
use Rattle.std.specs.Prelude.{Option, Some, None}
use Rattle.play_ahead.specs.Drops.{drop_of}
use Rattle.play_walk.specs.declared.Position.{Position}
use Rattle.play_entries.specs.Mounted.{tape_size, well_row, cut_to, formed}
use Rattle.play_walk.specs.Heads.{dropped_from, Walkable}
use Rattle.play_steps.proofs.Leaps.{full_at, left_from, left_behind, HasNext, One, leap_one}
use Rattle.play_walk.proofs.Needed.{WellUpTo, well_before, bad_there}
use Rattle.play_entries.proofs.Follows.{list_out}
use Rattle.rows.specs.Rows.{block}
use Rattle.rows.specs.Well.{well_block}
use Rattle.play_walk.proofs.Turns.{On, on_has, cut_of, rows_of, on-first}
use Rattle.play_ahead.proofs.Sheds.{Sheds, time-none, full-valid, shed}

-- what is dropped lasts no longer than the list
drops_most : {A : Type 0} (es : List (Entry A)) (d : ℕ) → drops es d ≤ time es
unfolding drops time
drops_most [] d = omega arith
drops_most (endless a v ∷ es) d = omega arith
drops_most (pulse a v t ∷ es) d =
    ⊎_elim (λ l. omega (arith, drops_here a v t es d l)) (λ g. omega (arith, drops_past a v t es d g, drops_most es d)) (lt_or_ge d t)

time-most : {A : Type 0} (xs ys : List (Entry A)) → time (xs ++ ys) ≤ time xs + time ys
unfolding time
time-most [] ys = omega arith
time-most (endless a v ∷ xs) ys = omega arith
time-most (pulse a v t ∷ xs) ys = omega (arith, time-most xs ys)

run-most : {A : Type 0} (item : ℕ → List (Entry A)) (c p m : ℕ) → ((i : ℕ) → p ≤ i → i < p + m → time (item i) ≤ c)
    → time (run item p m) ≤ m * c
unfolding run time
run-most item c p zero h = omega (arith, zero-mul c)
run-most item c p (suc m) h =
    omega (
      arith,
      time-most (item p) (run item (p + 1) m),
      h p (omega arith) (omega arith),
      run-most item c (p + 1) m (λ i l g. h i (omega arith) (omega arith)),
      suc-mul m c,
    )

list_most : {w : Tape} {b₀ k : ℕ} → WellUpTo w b₀ k → w.count ≤ 4096 → (b : ℕ) → b₀ ≤ b
    → time (list_from (cut_to w k) b) ≤ 4611686018427387904
unfolding well_row list_from
list_most {w} {b₀} {k} x h b l =
    let v = cut_to w k in
    let n = run-most (λ i. entries_of v.bytes v.tones i (block_in v i)) 1125899906842624 b (k - b)
    (λ i y z. omega (
      arith,
      block_below (tape_size v.bytes) v.bytes v.tones i (block_in v i) (x.well i (omega arith) (omega arith)) (omega arith),
    )) in
    omega (arith, n, x.most)

pub from_most : {w : Tape} {b₀ k : ℕ} → WellUpTo w b₀ k → w.count ≤ 4096 → (b : ℕ) → b₀ ≤ b → b < k
    → (next : Option Phase) → HasNext w b next
    → (d : ℕ) → drops (left_from (cut_to w k) b next) d ≤ 4611686018427387904
from_most {w} {b₀} {k} x h b l g None s d =
    omega (arith, drops_most (list_from (cut_to w k) (b + 1)) d, list_most x h (b + 1) (omega arith))
from_most {w} {b₀} {k} x h b l g (Some f) s d =
    let v = cut_to w k in
    let p = left_part v b g f (length_in v b f) (full-valid v b g d f s) in
    let e : list_from v b ≡ p.entry.gone ++ full_at v b f =
    p.entry.whole ∙ ap (λ (y : List (Entry Label)). p.entry.gone ++ y) (sym p.rest) in
    omega (arith, drops_most (full_at v b f) d, list_most x h b l, ap time e, time_append p.entry.gone (full_at v b f) p.entry.finite)

-- a turn's state, on the tape cut to k: at this entry, or over the block
pub record Off (w : Tape) (k b : ℕ) (next : Option Phase) (d sum : ℕ) : Type 0 where
  pub below : b < k
  pub has : HasNext w b next
  pub few : sum + drops (left_from (cut_to w k) b next) d ≤ 4611686018427387904

pub drops_nil : (v : Tape) (b d : ℕ) → list_from v b ≡ [] → drops (list_from v b) d ≡ 0
unfolding drops
drops_nil v b d e = ap (λ (x : List (Entry Label)). drops x d) e

module _ (w : Tape) (b : ℕ) (f : Phase) (d : ℕ) (has : has_in w b f ≡ true) (r : Block) (er : r ≡ block_in w b) where
  shed_here : (o : Option Step) → o ≡ drop_of w.bytes w.tones r f d → (n : ℕ) → b < n
      → Sheds (cut_to w n) b (full_at (cut_to w n) b f) d o
  shed_here o e n h =
      subst (λ (x : Option Step). Sheds (cut_to w n) b (full_at (cut_to w n) b f) d x)
      (sym (e ∙ ap (λ (x : Block). drop_of w.bytes w.tones x f d) er))
      (shed (cut_to w n) b h d f has)

  pub shed_rests : None ≡ drop_of w.bytes w.tones r f d → (n : ℕ) → b < n → drops (full_at (cut_to w n) b f) d ≡ 0
  shed_rests e n h = shed_here None e n h

  module _ (s : Step) (es : Some s ≡ drop_of w.bytes w.tones r f d) where
    pub shed_goes : (n : ℕ) → b < n → (sum : ℕ)
        → sum + drops (full_at (cut_to w n) b f) d ≡ sum + s.time + drops (left_from (cut_to w n) b s.phase) d
    shed_goes n h sum = omega (arith, (shed_here (Some s) es n h).goes)

    pub shed_less : length (left_from (cut_to w (b + 1)) b s.phase) < length (full_at (cut_to w (b + 1)) b f)
    shed_less = (shed_here (Some s) es (b + 1) (omega arith)).less

    pub shed_has : HasNext w b s.phase
    shed_has = (shed_here (Some s) es (b + 1) (omega arith)).has

-- the head's own entry, and what is dropped behind it
module _ (v : Tape) (b : ℕ) (below : b < v.count) (f : Phase) (left : Duration) (e : valid v b f left ≡ true) (n : ℕ) where
  pub ahead-stop : left ≡ Endless → runs_ahead (left_at v b f left) n ≡ 0
  unfolding entry_of runs_ahead
  ahead-stop z =
      let x = left_part v b below f left e in
      ap (λ (y : List (Entry Label)). runs_ahead y n)
      (x.rest ∙ ap (λ (y : Duration). entry_of (label_at b f) (level_in v b f) y ∷ x.next) z)

  pub ahead-short : (t : ℕ) → left ≡ T t → n < t → runs_ahead (left_at v b f left) n ≡ 0
  unfolding entry_of
  ahead-short t z l =
      let x = left_part v b below f left e in
      ap (λ (y : List (Entry Label)). runs_ahead y n)
      (x.rest ∙ ap (λ (y : Duration). entry_of (label_at b f) (level_in v b f) y ∷ x.next) z)
      ∙ ahead-here (label_at b f) (level_in v b f) t x.next n l

  own_time : (t : ℕ) → left ≡ T t → (g : Phase) → g ≡ f → (one_step v.tones (block_in v b) g t).time ≡ t
  unfolding one_step
  own_time t z Start g =
      let y = valid_start v b left (subst (λ (x : Phase). valid v b x left ≡ true) (sym g) e) in
      time-none (sym z ∙ y)
  own_time t z (Tones i p false) g = refl
  own_time t z (Tones i p true) g = refl
  own_time t z (Data pos k false) g = refl
  own_time t z (Data pos k true) g = refl
  own_time t z Edge g = refl
  own_time t z Pause g = refl

  pub ahead_long : (t : ℕ) → left ≡ T t → t ≤ n → has_in v b f ≡ true → (r : Block) → r ≡ block_in v b → (s : Step)
      → s ≡ one_step v.tones r f t
      → runs_ahead (left_at v b f left) n ≡ drops (left_behind v b s) (n - t)
  ahead_long t z l h r er s es =
      let q : s ≡ one_step v.tones (block_in v b) f t = es ∙ ap (λ (x : Block). one_step v.tones x f t) er in
      let o = subst (λ (x : Step). One v b (left_at v b f (T t)) x) (sym q) (leap_one v b below f t h) in
      let k : s.time ≡ t = ap (λ (x : Step). x.time) q ∙ own_time t z f refl in
      ap (λ (x : Duration). runs_ahead (left_at v b f x) n) z
      ∙ ap (λ (y : List (Entry Label)). runs_ahead y n) o.split
      ∙ ahead_past o.label o.level s.time (left_behind v b s) n (omega arith)
      ∙ ap (λ (x : ℕ). drops (left_behind v b s) (n - x)) k

-- WHAT A CALL DROPS, by the head's own entry and the entry behind it
module _ (w : Tape) (q : Position) (a : Walkable w q) (n : ℕ) where
  abbrev cut : ℕ
  cut = cut_of w q

  rows : WellUpTo w q.block cut
  rows = rows_of w q a

  first_on : On w cut q.block q.phase q.left false 0
  first_on = on-first w q cut a rows

  pub dropped-stop : q.left ≡ Endless → 0 ≡ dropped_from w q n
  unfolding dropped_from formed
  dropped-stop z =
      sym (dropped-ahead _ n ∙ ahead-stop (cut_to w cut) q.block first_on.below q.phase q.left first_on.stands n z)

  module _ (t : ℕ) (z : q.left ≡ T t) where
    pub dropped-short : n < t → 0 ≡ dropped_from w q n
    unfolding dropped_from formed
    dropped-short l =
        sym (dropped-ahead _ n ∙ ahead-short (cut_to w cut) q.block first_on.below q.phase q.left first_on.stands n t z l)

    module _ (l : t ≤ n) (r : Block) (er : r ≡ block_in w q.block) (s : Step) (es : s ≡ one_step w.tones r q.phase t) where
      pub dropped-behind : dropped_from w q n ≡ drops (left_from (cut_to w cut) q.block s.phase) (n - t)
      unfolding dropped_from formed
      dropped-behind =
          dropped-ahead _ n
          ∙ ahead_long (cut_to w cut) q.block first_on.below q.phase q.left first_on.stands n t z l
          (on_has first_on) r er s es

      pub off_first : Off w cut q.block s.phase (n - t) 0
      off_first =
          let e = es ∙ ap (λ (x : Block). one_step w.tones x q.phase t) er in
          let o = subst (λ (x : Step). One (cut_to w cut) q.block (left_at (cut_to w cut) q.block q.phase (T t)) x) (sym e)
          (leap_one (cut_to w cut) q.block first_on.below q.phase t (on_has first_on)) in
          record {
            below = first_on.below;
            has = o.has;
            few = omega (
              arith,
              from_most rows (omega (arith, a.lent)) q.block (omega arith) first_on.below s.phase o.has (n - t),
            );
          }

-- what a call drops is small
pub dropped-most : (w : Tape) (q : Position) (n : ℕ) → Walkable w q → dropped_from w q n ≤ 4611686018427387904
dropped-most w q n a = by_left q.left refl
  where
    by_left : (l : Duration) → q.left ≡ l → dropped_from w q n ≤ 4611686018427387904
    by_left Endless z = omega (arith, dropped-stop w q a n z)
    by_left (T t) z =
        ⊎_elim
        (λ l. omega (arith, dropped-short w q a n t z l))
        (λ g.
        let s = one_step w.tones (block_in w q.block) q.phase t in
        omega (
          arith,
          dropped-behind w q a n t z g (block_in w q.block) refl s refl,
          (off_first w q a n t z g (block_in w q.block) refl s refl).few,
        ))
        (lt_or_ge n t)

-- WHERE A WALK STANDS, d being the count left: what was dropped, and what is behind a turn
pub record Gone (w : Tape) (q : Position) (n b : ℕ) (next : Option Phase) (d sum : ℕ) : Type 0 where
  pub adds : dropped_from w q n ≡ sum + drops (left_from (cut_to w (cut_of w q)) b next) d
  pub off : Off w (cut_of w q) b next d sum
  pub from : q.block ≤ b

module _ {w : Tape} {q : Position} (a : Walkable w q) {n : ℕ} where
  pub gone_first : (t : ℕ) → q.left ≡ T t → t ≤ n → (r : Block) → r ≡ block_in w q.block → (s : Step) → s ≡ one_step w.tones r q.phase t
      → Gone w q n q.block s.phase (n - t) 0
  gone_first t z l r er s es =
      record { adds = omega (arith, dropped-behind w q a n t z l r er s es); off = off_first w q a n t z l r er s es; from = omega arith }

  module _ {b : ℕ} {next : Option Phase} {d sum : ℕ} (g : Gone w q n b next d sum) where
    gone_rows : WellUpTo w q.block (cut_of w q)
    gone_rows = rows_of w q a

    pub gone_below : (b < w.count) × (w.count ≤ 4096)
    gone_below = let x = gone_rows in (omega (arith, g.off.below, x.most), omega (arith, a.lent))

    pub gone_lent : b * block.width + block.width ≤ length w.blocks
    gone_lent = omega (arith, gone_below, a.lent)

    pub gone_well : (r : Block) → r ≡ block_in w b → well_block (tape_size w.bytes) w.tones r ≡ true
    unfolding well_row
    gone_well r e = ap (well_block (tape_size w.bytes) w.tones) e ∙ gone_rows.well b g.from g.off.below

    pub gone_lends : (r : Block) → r ≡ block_in w b → LentRow w.bytes w.tones r
    gone_lends r e = row_lent w.bytes w.tones r (gone_well r e)

    -- at an entry
    module _ (f : Phase) (z : next ≡ Some f) (r : Block) (er : r ≡ block_in w b) where
      here : has_in w b f ≡ true
      here = subst (HasNext w b) z g.off.has

      same : drops (left_from (cut_to w (cut_of w q)) b next) d ≡ drops (full_at (cut_to w (cut_of w q)) b f) d
      same = ap (λ (x : Option Phase). drops (left_from (cut_to w (cut_of w q)) b x) d) z

      pub gone_has : has_entry w.tones r f ≡ true
      gone_has = ap (λ (x : Block). has_entry w.tones x f) er ∙ here

      pub gone_rests : None ≡ drop_of w.bytes w.tones r f d → sum ≡ dropped_from w q n
      gone_rests e = omega (arith, g.adds, same, shed_rests w b f d here r er e (cut_of w q) g.off.below)

      module _ (s : Step) (es : Some s ≡ drop_of w.bytes w.tones r f d) where
        goes : sum + drops (full_at (cut_to w (cut_of w q)) b f) d
            ≡ sum + s.time + drops (left_from (cut_to w (cut_of w q)) b s.phase) d
        goes = shed_goes w b f d here r er s es (cut_of w q) g.off.below sum

        pub gone_fits : sum + s.time ≤ 4611686018427387904
        gone_fits = omega (arith, goes, same, g.off.few)

        pub gone_on : Gone w q n b s.phase d (sum + s.time)
        gone_on =
            record {
              adds = omega (arith, g.adds, same, goes);
              off = record {
                below = g.off.below;
                has = shed_has w b f d here r er s es;
                few = omega (arith, goes, same, g.off.few);
              };
              from = g.from;
            }

        pub gone_falls : length (left_from (cut_to w (b + 1)) b s.phase) < length (left_from (cut_to w (b + 1)) b next)
        gone_falls =
            omega (
              arith,
              shed_less w b f d here r er s es,
              ap (λ (x : Option Phase). length (left_from (cut_to w (b + 1)) b x)) z,
            )

    -- over the block
    module _ (z : next ≡ None) where
      out : drops (left_from (cut_to w (cut_of w q)) b next) d ≡ drops (list_from (cut_to w (cut_of w q)) (b + 1)) d
      out = ap (λ (x : Option Phase). drops (left_from (cut_to w (cut_of w q)) b x) d) z

      ends : cut_of w q ≤ b + 1 → sum ≡ dropped_from w q n
      ends l =
          let v = cut_to w (cut_of w q) in
          omega (arith, g.adds, out, drops_nil v (b + 1) d (list_out v (b + 1) l))

      pub gone_last : b + 1 ≡ w.count → sum ≡ dropped_from w q n
      gone_last e = let x = gone_rows in ends (omega (arith, x.most))

      pub gone_bad : well_row w (b + 1) ≡ false → sum ≡ dropped_from w q n
      gone_bad e =
          let c = bad_there gone_rows (b + 1) (omega (arith, g.from)) (omega (arith, g.off.below)) e in ends (omega (arith, c))

      pub gone_next : (b + 1 ≡ w.count → ⊥) → well_row w (b + 1) ≡ true → Gone w q n (b + 1) (Some Start) d sum
      unfolding left_at has_entry
      gone_next e h =
          let x = gone_rows in
          record {
            adds = g.adds ∙ ap (λ (y : ℕ). sum + y) out;
            off = record {
              below = well_before x (b + 1) (omega (arith, g.from)) (omega (arith, g.off.below, x.most, e)) h;
              has = refl;
              few = omega (arith, out, g.off.few);
            };
            from = omega (arith, g.from);
          }
