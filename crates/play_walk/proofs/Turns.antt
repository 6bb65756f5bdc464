-- ONE TURN of the measured walk over a tape cut at its first bad row, and where it leaves. Assumes nothing.
use Prim.Native.Nat.{ℕ, ◌+◌, ◌-◌, ◌*◌, ◌≤◌, ◌<◌}
use native.Mathlib.Omega.{arith}
use borrow.Author.Tests.{eqb-true, eqb-false}
use mathlib.Core.Path.{◌≡◌, refl, sym, ap, subst, ◌∙◌}
use mathlib.Core.Bool.{Bool, true, false}
use mathlib.Core.Logic.{◌⊎◌, ⊎_elim}
use mathlib.Core.List.{List, [], ◌∷◌}
use lib.Dec.{eqb}
use lib.ListN.{length}
use Rattle.law_base.specs.Rules.{◌⇒◌, ◌∣◌}
use Rattle.law_pulses.specs.Play.{Entry, answer}
use Rattle.law_pulses.proofs.Lead.{Leads, lead_here, lead_by, lead_on}
use Rattle.rows.specs.declared.Block.{Block}
use Rattle.rows.specs.Rows.{block}
use Rattle.rows.specs.Well.{well_block}
use Rattle.play_entries.specs.declared.Phase.{Phase}
use Rattle.play_entries.specs.declared.Phase.TheVariants.{Start}
use Rattle.play_entries.specs.declared.Duration.{Duration}
use Rattle.play_entries.specs.declared.Duration.TheVariants.{T, Endless}
use Rattle.play_entries.specs.Entries.{Label, entry_of}
use Rattle.play_entries.specs.Places.{Tape, block_in, list_from, left_at, has_entry, length_at, level_in, valid, has_in, length_in}
use Rattle.play_entries.proofs.Valid.{Stands, remains-full, stands-valid, start_valid, below_stands, remains_less}
use Rattle.play_entries.proofs.Follows.{list_out}
use Rattle.play_entries.proofs.Parts.{left_part}
use Rattle.play_entries.proofs.Lent.{LentRow, row_lent}
use Rattle.play_voice.specs.Voice.{Standing}
use Rattle.play_walk.specs.declared.Position.{Position}
use Rattle.play_steps.specs.declared.Step.{Step}
use Rattle.std.specs.Prelude.{Result, Some, None}
use Rattle.play_walk.specs.declared.How.TheVariants.{At, Stopped, Ended}
use Rattle.play_walk.specs.declared.Fault.{Fault}
use Rattle.play_walk.specs.declared.Reached.{Reached}
use Rattle.play_steps.specs.Steps.{take_of}
use Rattle.play_entries.specs.Mounted.{tape_size, well_row, first_bad, cut_to, formed}
use Rattle.play_walk.specs.Heads.{placed, start_at, stand, how_left, came, ahead, walked, walk_from, next_of, Walkable}
use Rattle.play_steps.proofs.Leaps.{left_from, HasNext, Took, took}
use Rattle.play_walk.proofs.Needed.{WellUpTo, needed, well_before, bad_there, few_entries}
use Rattle.play_walk.proofs.Leaves.{tells_at, tells_stop, tells_next, tells_end, tells_bad}

-- a turn's state, on the tape cut to k: an entry below the cut, known to be full where it is said, the entries counted and left few
pub record On (w : Tape) (k b : ℕ) (f : Phase) (left : Duration) (full : Bool) (p : ℕ) : Type 0 where
  pub below : b < k
  pub stands : valid (cut_to w k) b f left ≡ true
  pub whole : full ≡ true → left ≡ length_in w b f
  pub few : p + length (left_at (cut_to w k) b f left) ≤ 35254272000000

pub on_has : {w : Tape} {k b : ℕ} {f : Phase} {left : Duration} {full : Bool} {p : ℕ} → On w k b f left full p
    → has_in w b f ≡ true
on_has {w} {k} {b} {f} {left} o = (below_stands (cut_to w k) b f left o.below o.stands).entry

module _ (w : Tape) (k b : ℕ) (f : Phase) (left : Duration) (full : Bool) (p : ℕ) (o : On w k b f left full p) where
  -- where the walk leaves inside a block
  module _ {es : List (Entry Label)} {n d : ℕ} (l : Leads es n 0 (left_at (cut_to w k) b f left) d p) where
    pub leaves_at : (t : ℕ) → left ≡ T t → (d ≡ 0) ⊎ (d < t)
        → walked w (cut_to w k) (answer es n) ≡ came At (stand (placed b f (T (t - d))) p (level_in w b f))
    unfolding entry_of
    leaves_at t e h =
        let x = left_part (cut_to w k) b o.below f left o.stands in
        tells_at w (cut_to w k) b f (level_in w b f) t x.next d p
        (lead_by (x.rest ∙ ap (λ (y : Duration). entry_of (record { block = b; phase = f }) (level_in w b f) y ∷ x.next) e) l) h

    pub leaves-stopped : left ≡ Endless → walked w (cut_to w k) (answer es n) ≡ came Stopped (stand (placed b f Endless) p (level_in w b f))
    unfolding entry_of
    leaves-stopped e =
        let x = left_part (cut_to w k) b o.below f left o.stands in
        tells_stop w (cut_to w k) b f (level_in w b f) x.next d p
        (lead_by (x.rest ∙ ap (λ (y : Duration). entry_of (record { block = b; phase = f }) (level_in w b f) y ∷ x.next) e) l)

  -- the step that the code took
  module _ (d t : ℕ) (e : left ≡ T t) (some : 0 < d) (most : t ≤ d) (r : Block) (er : r ≡ block_in w b) (s : Step)
      (es : s ≡ take_of w.bytes w.tones r f full t d) where
    pub stepped : (n : ℕ) → b < n → Took (cut_to w n) b (left_at (cut_to w n) b f left) d p s
    stepped n h =
        subst (λ (x : Step). Took (cut_to w n) b (left_at (cut_to w n) b f left) d p x)
        (sym (es ∙ ap (λ (x : Block). take_of w.bytes w.tones x f full t d) er))
        (subst (λ (x : Duration).
        Took (cut_to w n) b (left_at (cut_to w n) b f x) d p (take_of w.bytes w.tones (block_in w b) f full t d)) (sym e)
        (took (cut_to w n) b h d p some f full t (on_has o) (λ y. sym e ∙ o.whole y) most))

    pub step-most : s.time ≤ d
    step-most = (stepped k o.below).most

    pub step_few : p + s.passed ≤ 35254272000000
    step_few = omega (arith, (stepped k o.below).lead.counts, o.few)

    module _ (g : Phase) (z : s.phase ≡ Some g) where
      pub step_has : has_in w b g ≡ true
      step_has = subst (HasNext (cut_to w k) b) z (stepped k o.below).has

      -- to the next entry
      pub turn_lead : (n : ℕ) → b < n → (m : Duration) → m ≡ length_in w b g
          → Leads (left_at (cut_to w n) b f left) d p (left_at (cut_to w n) b g m) (d - s.time) (p + s.passed)
      turn_lead n h m e =
          lead_by (ap (left_from (cut_to w n) b) z ∙ ap (left_at (cut_to w n) b g) (sym e)) (stepped n h).lead

      pub turn_on : (m : Duration) → m ≡ length_in w b g → On w k b g m true (p + s.passed)
      turn_on m e =
          record {
            below = o.below;
            stands =
                rw e (stands-valid (cut_to w k) b g _
                (record { below = o.below; entry = step_has; some = remains-full (length_in w b g) }));
            whole = λ y. e;
            few = omega (arith, (turn_lead k o.below m e).counts, o.few);
          }

      pub turn_less : (m : Duration) → m ≡ length_in w b g
          → length (left_at (cut_to w (b + 1)) b g m) < length (left_at (cut_to w (b + 1)) b f left)
      turn_less m e = omega (arith, (turn_lead (b + 1) (omega arith) m e).counts, (stepped (b + 1) (omega arith)).some)

    -- over the block
    pub turn_out : s.phase ≡ None
        → Leads (left_at (cut_to w k) b f left) d p (list_from (cut_to w k) (b + 1)) (d - s.time) (p + s.passed)
    turn_out z = lead_by (ap (left_from (cut_to w k) b) z) (stepped k o.below).lead

stands_cut : (w : Tape) (k b : ℕ) (f : Phase) (left : Duration) → b < k → Stands w b f left → Stands (cut_to w k) b f left
stands_cut w k b f left h s = record { below = h; entry = s.entry; some = s.some }

-- where the tape that a walk may play is cut, and what its rows are
abbrev pub cut_of : Tape → Position → ℕ
cut_of w q = first_bad w q.block (w.count - q.block)

pub rows_of : (w : Tape) (q : Position) → Walkable w q → WellUpTo w q.block (cut_of w q)
rows_of w q a = needed w q.block (omega (arith, a.below))

-- the position where a walk begins
pub on-first : (w : Tape) (q : Position) (k : ℕ) → Walkable w q → WellUpTo w q.block k
    → On w k q.block q.phase q.left false 0
on-first w q k a x =
    let h = well_before x q.block x.from a.below a.row in
    let v = stands-valid (cut_to w k) q.block q.phase q.left
    (stands_cut w k q.block q.phase q.left h (below_stands w q.block q.phase q.left a.below a.stands)) in
    record {
      below = h;
      stands = v;
      whole = λ z. absurd (no z);
      few = omega (arith, few_entries x (omega (arith, a.lent)) q.phase q.left h v);
    }
  where
    no : false ≡ true → ⊥
    no z = let y : ◌≡◌ {A = ℕ} 1 0 = ap (λ (t : Bool). t ⇒ 0 ∣ 1) z in absurd (omega arith)

-- a block's start
pub on_start : (w : Tape) (k b p : ℕ) → b < k → p + length (list_from (cut_to w k) b) ≤ 35254272000000 → On w k b Start (T 0) true p
unfolding left_at length_at
on_start w k b p h l = record { below = h; stands = start_valid (cut_to w k) b; whole = λ z. refl; few = l }

-- WHERE A WALK GOES BEHIND A BLOCK: into the next one, whose row is well formed, or it leaves with what the list answers
into_by : (a b c : Bool) (x y z : Result Reached Fault) → (a ⇒ Some x ∣ b ⇒ Some y ∣ c ⇒ None ∣ Some z) ≡ None
    → (a ≡ false) × ((b ≡ false) × (c ≡ true))
into_by true b c x y z e = let i : ◌≡◌ {A = ℕ} 0 1 = cc in absurd (omega arith)
into_by false true c x y z e = let i : ◌≡◌ {A = ℕ} 0 1 = cc in absurd (omega arith)
into_by false false true x y z e = (refl, (refl, refl))
into_by false false false x y z e = let i : ◌≡◌ {A = ℕ} 0 1 = cc in absurd (omega arith)

pub left_by : (P : Result Reached Fault → Type 0) (a b c : Bool) (x y z r : Result Reached Fault)
    → (a ⇒ Some x ∣ b ⇒ Some y ∣ c ⇒ None ∣ Some z) ≡ Some r
    → (a ≡ true → P x) → (a ≡ false → b ≡ true → P y) → (a ≡ false → b ≡ false → c ≡ false → P z) → P r
left_by P true b c x y z r e f g h = let i : x ≡ r = cc in subst P i (f refl)
left_by P false true c x y z r e f g h = let i : y ≡ r = cc in subst P i (g refl refl)
left_by P false false true x y z r e f g h = let i : ◌≡◌ {A = ℕ} 0 1 = cc in absurd (omega arith)
left_by P false false false x y z r e f g h = let i : z ≡ r = cc in subst P i (h refl refl refl)

pub next_into : (w : Tape) (b d i : ℕ) → next_of w b d i ≡ None → (b ≡ w.count → ⊥) × (well_row w b ≡ true)
unfolding next_of
next_into w b d i e =
    let t = into_by (eqb d 0) (eqb b w.count) (well_row w b) _ _ _ e in
    (eqb-false _ _ t.1.0, t.1.1)

pub next_left : {w : Tape} {b₀ k : ℕ} → WellUpTo w b₀ k → {es : List (Entry Label)} {n : ℕ} (b d i : ℕ) (r : Result Reached Fault)
    → next_of w (b + 1) d i ≡ Some r
    → Leads es n 0 (list_from (cut_to w k) (b + 1)) d i → b₀ ≤ b → b < k → r ≡ walked w (cut_to w k) (answer es n)
unfolding next_of
next_left {w} {b₀} {k} x {es} {n} b d i r e l h g =
    let v = cut_to w k in
    let out : k ≤ b + 1 → Leads es n 0 [] d i = λ m. lead_by (list_out v (b + 1) m) l in
    left_by (λ (y : Result Reached Fault). y ≡ walked w v (answer es n)) (eqb d 0) (eqb (b + 1) w.count) (well_row w (b + 1)) _ _ _ r e
    (λ z. sym (tells_next w k x.most b d i l (eqb-true _ _ z) g))
    (λ z q.
    let p : b + 1 ≡ w.count = eqb-true _ _ q in
    let c : w.count ≡ k = omega (arith, x.most) in
    ap (λ (y : ℕ). came Ended (stand (start_at y) i false)) c
    ∙ sym (tells_end w v d i (out (omega arith)) (omega (arith, eqb-false d 0 z)) (omega arith)))
    (λ z q f.
    let p = eqb-false (b + 1) w.count q in
    let c = bad_there x (b + 1) (omega arith) (omega arith) f in
    sym (tells_bad w v d i (out (omega (arith, c))) (omega (arith, eqb-false d 0 z)) (omega (arith, x.most, c, p))))

-- where a call may go on, one may with less left of the entry
pub walkable_less : (w : Tape) (b : ℕ) (f : Phase) (t u : ℕ) → Walkable w (placed b f (T t)) → 0 < u → u ≤ t
    → Walkable w (placed b f (T u))
walkable_less w b f t u a p h =
    let s = below_stands w b f (T t) a.below a.stands in
    record {
      lent = a.lent;
      below = a.below;
      row = a.row;
      stands = stands-valid w b f (T u) (record { below = a.below; entry = s.entry; some = remains_less t u _ p h s.some });
    }

-- WHERE A WALK STANDS that has spent all but d of its T-states: what it has led to, at an entry of a row that it needs
pub record Gone (w : Tape) (q : Position) (n b : ℕ) (f : Phase) (left : Duration) (full : Bool) (d p : ℕ) : Type 0 where
  pub leads : Leads (ahead (cut_to w (cut_of w q)) q) n 0 (left_at (cut_to w (cut_of w q)) b f left) d p
  pub on : On w (cut_of w q) b f left full p
  pub from : q.block ≤ b

pub gone_first : (w : Tape) (q : Position) (n : ℕ) → Walkable w q → Gone w q n q.block q.phase q.left false n 0
gone_first w q n a =
    record { leads = lead_here _ _ _; on = on-first w q (cut_of w q) a (rows_of w q a); from = omega arith }

module _ {w : Tape} {q : Position} (a : Walkable w q) {n b : ℕ} {f : Phase} {left : Duration} {full : Bool} {d p : ℕ}
    (g : Gone w q n b f left full d p) where
  -- its row is lent, below the count
  pub gone_below : (b < w.count) × (w.count ≤ 4096)
  gone_below = let x = rows_of w q a in (omega (arith, g.on.below, x.most), omega (arith, a.lent))

  pub gone_lent : b * block.width + block.width ≤ length w.blocks
  gone_lent = omega (arith, gone_below, a.lent)

  gone_row : WellUpTo w q.block (cut_of w q)
  gone_row = rows_of w q a

  pub gone_well : (r : Block) → r ≡ block_in w b → well_block (tape_size w.bytes) w.tones r ≡ true
  unfolding well_row
  gone_well r e = ap (well_block (tape_size w.bytes) w.tones) e ∙ gone_row.well b g.from g.on.below

  pub gone_lends : (r : Block) → r ≡ block_in w b → LentRow w.bytes w.tones r
  gone_lends r e = row_lent w.bytes w.tones r (gone_well r e)

  pub gone_has : (r : Block) → r ≡ block_in w b → has_entry w.tones r f ≡ true
  gone_has r e = ap (λ (x : Block). has_entry w.tones x f) e ∙ on_has g.on

  -- what the level where the walk leaves asks
  pub gone_standing : Standing w.tones w.blocks b f
  gone_standing =
      record { row = gone_lent; rows = (row_lent w.bytes w.tones (block_in w b) (gone_well (block_in w b) refl)).rows; entry = on_has g.on }

  pub gone_walkable : Walkable w (placed b f left)
  gone_walkable =
      let s = below_stands (cut_to w (cut_of w q)) b f left g.on.below g.on.stands in
      record {
        lent = a.lent;
        below = gone_below.0;
        row = gone_row.well b g.from g.on.below;
        stands = stands-valid w b f left (record { below = gone_below.0; entry = s.entry; some = s.some });
      }

  -- the walk leaves at the endless pause, or in an entry of which more is left than it has to spend
  pub gone_stopped : left ≡ Endless → came (how_left left) (stand (placed b f left) p (level_in w b f)) ≡ walk_from w q n
  unfolding walk_from formed
  gone_stopped e = rw e (sym (leaves-stopped w (cut_of w q) b f left full p g.on g.leads e))

  pub gone_at : (t : ℕ) → left ≡ T t → (d ≡ 0) ⊎ (d < t)
      → came At (stand (placed b f (T (t - d))) p (level_in w b f)) ≡ walk_from w q n
  unfolding walk_from formed
  gone_at t e h = sym (leaves_at w (cut_of w q) b f left full p g.on g.leads t e h)

  pub gone_less : (t : ℕ) → left ≡ T t → (d ≡ 0) ⊎ (d < t) → Walkable w (placed b f (T (t - d)))
  gone_less t e h =
      let o = rw e at gone_walkable in
      ⊎_elim
      (λ z. let y : t - d ≡ t = omega arith in rw y o)
      (λ l. walkable_less w b f t (t - d) o (omega arith) (omega arith)) h

  -- the turn that the code took
  module _ (t : ℕ) (e : left ≡ T t) (some : 0 < d) (most : t ≤ d) (r : Block) (er : r ≡ block_in w b) (s : Step)
      (es : s ≡ take_of w.bytes w.tones r f full t d) where
    pub turn_fits : (s.time ≤ d) × (p + s.passed ≤ 35254272000000)
    turn_fits = (
      step-most w (cut_of w q) b f left full p g.on d t e some most r er s es,
      step_few w (cut_of w q) b f left full p g.on d t e some most r er s es,
    )

    module _ (h : Phase) (z : s.phase ≡ Some h) where
      pub turn_has : has_entry w.tones r h ≡ true
      turn_has =
          ap (λ (x : Block). has_entry w.tones x h) er
          ∙ step_has w (cut_of w q) b f left full p g.on d t e some most r er s es h z

      module _ (m : Duration) (l : m ≡ length_at w.bytes w.tones r h) where
        long : m ≡ length_in w b h
        long = l ∙ ap (λ (y : Block). length_at w.bytes w.tones y h) er

        pub turn_goes : Gone w q n b h m true (d - s.time) (p + s.passed)
        turn_goes =
            let k = cut_of w q in
            record {
              leads = lead_on g.leads (turn_lead w k b f left full p g.on d t e some most r er s es h z k g.on.below m long);
              on = turn_on w k b f left full p g.on d t e some most r er s es h z m long;
              from = g.from;
            }

        pub turn_falls : length (left_at (cut_to w (b + 1)) b h m) < length (left_at (cut_to w (b + 1)) b f left)
        turn_falls = turn_less w (cut_of w q) b f left full p g.on d t e some most r er s es h z m long

    module _ (z : s.phase ≡ None) where
      out : Leads (ahead (cut_to w (cut_of w q)) q) n 0 (list_from (cut_to w (cut_of w q)) (b + 1)) (d - s.time) (p + s.passed)
      out = lead_on g.leads (turn_out w (cut_of w q) b f left full p g.on d t e some most r er s es z)

      pub block_next : next_of w (b + 1) (d - s.time) (p + s.passed) ≡ None
          → Gone w q n (b + 1) Start (T 0) true (d - s.time) (p + s.passed)
      unfolding left_at
      block_next h =
          let x = gone_row in
          let y = next_into w (b + 1) (d - s.time) (p + s.passed) h in
          let l = turn_out w (cut_of w q) b f left full p g.on d t e some most r er s es z in
          record {
            leads = out;
            on = on_start w (cut_of w q) (b + 1) (p + s.passed)
                (well_before x (b + 1) (omega (arith, g.from)) (omega (arith, g.on.below, x.most, y.0)) y.1)
                (omega (arith, l.counts, g.on.few));
            from = omega (arith, g.from);
          }

      pub block_left : (r : Result Reached Fault) → next_of w (b + 1) (d - s.time) (p + s.passed) ≡ Some r → r ≡ walk_from w q n
      unfolding walk_from formed
      block_left r h = next_left gone_row b (d - s.time) (p + s.passed) r h out g.from g.on.below
