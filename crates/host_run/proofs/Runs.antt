-- A RUN GOES ON: by the calls that end inside an entry, and by one call. Assumes nothing.
use Prim.Native.Nat.{ℕ, suc, ◌+◌, ◌-◌, ◌*◌, ◌/◌, ◌≤◌, ◌<◌}
use native.Mathlib.Omega.{arith}
use native.Mathlib.Nat.{eq-zero-or-pos}
use native.Mathlib.Numerals.{add-one}
use borrow.Author.Tests.{lt-ltb, le-ltb, ltb-true, eq-eqb, ne_eqb}
use mathlib.Core.Path.{◌≡◌, refl, sym, ap, subst, ◌∙◌}
use mathlib.Core.Bool.{Bool, true, false}
use mathlib.Core.Logic.{⊎_elim}
use mathlib.Core.List.{List, [], ◌∷◌}
use lib.Dec.{ltb}
use lib.ListN.{length, get_or, drop}
use lib.Seq.{drop-cons, drop-drop}
use Rattle.law_base.specs.Rules.{◌⇒◌, ◌∣◌}
use Rattle.law_base.proofs.Numbers.{lt_or_ge}
use Rattle.law_pulses.specs.Play.{Level}
use Rattle.rows.specs.Table.{put, put_all}
use Rattle.play_entries.specs.declared.Phase.{Phase}
use Rattle.play_entries.specs.declared.Duration.{Duration}
use Rattle.play_entries.specs.declared.Duration.TheVariants.{T}
use Rattle.play_entries.specs.Places.{Tape, level_in, is_none}
use Rattle.play_walk.specs.declared.Position.{Position}
use Rattle.std.specs.Prelude.{Result, Ok, Err}
use Rattle.play_walk.specs.declared.Reached.{Reached}
use Rattle.play_walk.specs.declared.How.TheVariants.{At}
use Rattle.play_walk.specs.declared.Fault.{Fault}
use Rattle.play_walk.specs.Heads.{came, placed, stand, Walkable}
use Rattle.play_walk.proofs.Turns.{walkable_less}
use Rattle.play_deck.specs.declared.Finding.{Finding}
use Rattle.play_deck.specs.Deck.{unless, stays, play_measured, play_source}
use Rattle.play_deck.specs.Assay.{Assayed, Found}
use Rattle.play_deck.specs.Inside.{ends_inside, less_by, in_place}
use Rattle.play_deck.specs.Calls.{position_in, passed_in, answer_level}
use Rattle.play_deck.proofs.Assays.{level_below}
use Rattle.play_deck.proofs.Checks.{fine_below, fine_none, stays_at}
use Rattle.play_deck.proofs.Inside.{inside_walk, inside-source}
use Rattle.play_deck.proofs.Landing.{walkable_fine}
use Rattle.host_words.specs.Words.{span_of}
use Rattle.host_run.specs.declared.AnswerRow.{AnswerRow}
use Rattle.host_run.specs.declared.Going.{Going}
use Rattle.host_run.specs.Rows.{answer_row, how_of, stand_row, call_row}
use Rattle.refusals.specs.declared.Refusal.TheVariants.{NoRoom}
use Rattle.host_run.specs.Runs.{player_of, run_rows, room_for}
use Rattle.host_run.specs.Inside.{with_left, inside_rows, inside_left, leads_to, Known}
use Rattle.host_run.proofs.Insides.{drop_end}

-- a call that ends inside its entry, of either player
module _ (w : Tape) (q : Position) (n t : ℕ) (a : Walkable w q) (e : q.left ≡ T t) (l : n < t) where
  ends : ends_inside q.left n ≡ true
  unfolding ends_inside
  ends = ap (λ (d : Duration). ends_inside d n) e ∙ lt-ltb n t l

  -- a call of 0 stays
  none : n ≡ 0 → stays w q ≡ in_place w q n
  unfolding less_by
  none z =
      let f : t ≡ t - n = omega arith in
      let g : q.left ≡ less_by q.left n = e ∙ ap T f ∙ sym (ap (λ (d : Duration). less_by d n) e) in
      stays_at w q (walkable_fine w q a) t e a.below
      ∙ ap (λ (d : Duration). came At (stand (placed q.block q.phase d) 0 (level_in w q.block q.phase))) g

  pub inside_play : (m : Bool) → player_of m w q n ≡ in_place w q n
  unfolding player_of play_measured play_source unless
  inside_play true =
      rw (walkable_fine w q a)
      (⊎_elim (λ z. rw (eq-eqb n 0 z) (none z)) (λ p. rw (ne_eqb n 0 (omega arith)) (sym (inside_walk w q n a ends))) (eq-zero-or-pos n))
  inside_play false =
      rw (walkable_fine w q a)
      (⊎_elim (λ z. rw (eq-eqb n 0 z) (none z)) (λ p. rw (ne_eqb n 0 (omega arith)) (sym (inside-source w q n a ends))) (eq-zero-or-pos n))

pub never_none : (t : ℕ) → T t ≡ T 0 → 0 < t → ⊥
never_none t e h =
    let u : ◌≡◌ {A = ℕ} 0 1 = ap (λ (c : Bool). c ⇒ 0 ∣ 1) (sym (ap is_none e) ∙ ne_eqb t 0 (omega arith)) in
    absurd (omega arith)

module _ (m : Bool) (w : Tape) (b : ℕ) (f : Phase) (a : Finding) where
  abbrev at : ℕ → Position
  at t = placed b f (T t)

  goes : (t : ℕ) → 0 < t → Found w (at t) a → Walkable w (at t)
  goes t p x =
      ⊎_elim (λ h. fine_below w (at t) x.fine h)
      (λ h. absurd (never_none t (fine_none w (at t) x.fine h) p)) (lt_or_ge b w.count)

  pub assayed_less : (t n : ℕ) → n < t → Found w (at t) a → Found w (at (t - n)) a
  assayed_less t n l x =
      let y = goes t (omega arith) x in
      record {
        fine = walkable_fine w (at (t - n)) (walkable_less w b f t (t - n) y (omega arith) (omega arith));
        level = x.level;
        told = x.told;
      }

  -- the head's row, so much left
  abbrev row_left : ℕ → AnswerRow
  row_left t = stand_row 0 (stand (at t) 0 a.level)

  abbrev Play : Position → ℕ → Result Reached Fault
  Play = player_of m w

  -- a call that ends inside: its row, and where it leaves the head
  inside_row : (t n : ℕ) (ns : List ℕ) → n < t → Found w (at t) a
      → run_rows Play (at t) (n ∷ ns) ≡ row_left (t - n) ∷ run_rows Play (at (t - n)) ns
  unfolding run_rows call_row how_of position_in passed_in answer_level less_by
  inside_row t n ns l x =
      let y = goes t (omega arith) x in
      let v = level_below x y.below in
      let e = inside_play w (at t) n t y refl l m ∙ ap (λ (k : Level). came At (stand (at (t - n)) 0 k)) (sym v) in
      ap (λ (r : Result Reached Fault). call_row (at t) r ∷ run_rows Play (position_in (at t) r) ns) e

  module _ (r : AnswerRow) (same : (k : ℕ) → with_left r k ≡ row_left k) where
    -- THE CALLS THAT END INSIDE are the run's first ones, and it goes on from where they leave the head
    pub inside_on : (ns : List ℕ) (t i : ℕ) (x : List ℕ) → Found w (at t) a
        → Found w (at (inside_left t ns)) a
        × (put_all answer_row (put_all answer_row x i (inside_rows r t ns)) (i + length (inside_rows r t ns))
        (run_rows Play (at (inside_left t ns)) (drop (length (inside_rows r t ns)) ns))
        ≡ put_all answer_row x i (run_rows Play (at t) ns))
    unfolding inside_rows inside_left put_all run_rows
    inside_on [] t i x k = (k, refl)
    inside_on (n ∷ ns) t i x k =
        by_test (ltb n t) refl (λ l. inside_on ns (t - n) (i + 1) (put answer_row x i (with_left r (t - n))) (assayed_less t n l k))
      where
        by_test : (c : Bool) → ltb n t ≡ c → (n < t → Found w (at (inside_left (t - n) ns)) a
            × (put_all answer_row (put_all answer_row (put answer_row x i (with_left r (t - n))) (i + 1) (inside_rows r (t - n) ns))
            (i + 1 + length (inside_rows r (t - n) ns))
            (run_rows Play (at (inside_left (t - n) ns)) (drop (length (inside_rows r (t - n) ns)) ns))
            ≡ put_all answer_row (put answer_row x i (with_left r (t - n))) (i + 1) (run_rows Play (at (t - n)) ns)))
            → Found w (at (c ⇒ inside_left (t - n) ns ∣ t)) a
            × (put_all answer_row (put_all answer_row x i (c ⇒ with_left r (t - n) ∷ inside_rows r (t - n) ns ∣ []))
            (i + length (c ⇒ with_left r (t - n) ∷ inside_rows r (t - n) ns ∣ []))
            (run_rows Play (at (c ⇒ inside_left (t - n) ns ∣ t))
            (drop (length (c ⇒ with_left r (t - n) ∷ inside_rows r (t - n) ns ∣ [])) (n ∷ ns)))
            ≡ put_all answer_row x i (run_rows Play (at t) (n ∷ ns)))
        by_test true e go =
            let l = ltb-true n t e in
            let y = go l in
            let j = length (inside_rows r (t - n) ns) in
            let z : i + suc j ≡ i + 1 + j = omega arith in (
              y.0,
              ap (λ (u : ℕ). put_all answer_row
                  (put_all answer_row (put answer_row x i (with_left r (t - n))) (i + 1) (inside_rows r (t - n) ns)) u
                  (run_rows Play (at (inside_left (t - n) ns)) (drop j ns))) z
                  ∙ y.1
                  ∙ ap (λ (s : AnswerRow). put_all answer_row (put answer_row x i s) (i + 1) (run_rows Play (at (t - n)) ns)) (same (t - n))
                  ∙ sym (ap (put_all answer_row x i) (inside_row t n ns l k)),
            )
        by_test false e go =
            let z : i + 0 ≡ i = omega arith in
            (k, ap (λ (u : ℕ). put_all answer_row x u (run_rows Play (at t) (n ∷ ns))) z)

-- they are no more than the calls
pub inside_few : (r : AnswerRow) (t : ℕ) (ns : List ℕ) → length (inside_rows r t ns) ≤ length ns
unfolding inside_rows
inside_few r t [] = omega arith
inside_few r t (n ∷ ns) = by_test (ltb n t) (inside_few r (t - n) ns)
  where
    by_test : (c : Bool) → length (inside_rows r (t - n) ns) ≤ length ns
        → length (c ⇒ with_left r (t - n) ∷ inside_rows r (t - n) ns ∣ []) ≤ suc (length ns)
    by_test true h = omega arith
    by_test false h = omega arith

-- A TURN BY THOSE CALLS, as the code takes it
module _ (m : Bool) (w : Tape) (ns table : List ℕ) (g : Going) (t : ℕ) (known : Known w g) (a : Finding) (fine : g.finding ≡ Ok a)
    (left : g.position.left ≡ T t) where
  abbrev here : Position
  here = placed g.position.block g.position.phase (T t)

  abbrev lead : List ℕ → Position → ℕ → List ℕ
  lead y q k = put_all answer_row y k (run_rows (player_of m w) q (drop k ns))

  known_here : Found w here a
  known_here =
      subst (λ (d : Duration). Found w (placed g.position.block g.position.phase d) a) left
      (subst (λ (x : Result Finding Fault). Assayed w g.position x) fine known)

  pub gone_inside : (r : AnswerRow) → r ≡ stand_row 0 (stand g.position 0 a.level) → (h : Going)
      → (h.position ≡ placed g.position.block g.position.phase (T (inside_left r.left (drop g.next ns))))
      → (h.finding ≡ g.finding)
      → (h.next ≡ g.next + length (inside_rows r r.left (drop g.next ns)))
      → (after : List ℕ) → after ≡ put_all answer_row table g.next (inside_rows r r.left (drop g.next ns))
      → Known w h × (leads_to m w ns after h ≡ leads_to m w ns table g)
  unfolding span_of
  gone_inside r e h p q k after x =
      let b = g.position.block in
      let f = g.position.phase in
      let v = a.level in
      let xs = drop g.next ns in
      let er : r ≡ stand_row 0 (stand here 0 v) = e ∙ ap (λ (d : Duration). stand_row 0 (stand (placed b f d) 0 v)) left in
      let el : r.left ≡ t = ap (λ (y : AnswerRow). y.left) er in
      let on = inside_on m w b f a r (λ j. ap (λ (y : AnswerRow). with_left y j) er) xs t g.next table known_here in
      let there : h.position ≡ placed b f (T (inside_left t xs)) =
      p ∙ ap (λ (u : ℕ). placed b f (T (inside_left u xs))) el in (
        subst (λ (y : Result Finding Fault). Assayed w h.position y) (sym (q ∙ fine))
            (subst (λ (y : Position). Found w y a) (sym there) on.0),
        ap (λ (y : List ℕ). lead y h.position h.next) (x ∙ ap (λ (u : ℕ). put_all answer_row table g.next (inside_rows r u xs)) el)
            ∙ ap (λ (y : Position). lead (put_all answer_row table g.next (inside_rows r t xs)) y h.next) there
            ∙ ap (λ (y : ℕ). lead (put_all answer_row table g.next (inside_rows r t xs)) (placed b f (T (inside_left t xs))) y)
            (k ∙ ap (λ (u : ℕ). g.next + length (inside_rows r u xs)) el)
            ∙ ap (λ (zs : List ℕ). put_all answer_row (put_all answer_row table g.next (inside_rows r t xs))
            (g.next + length (inside_rows r t xs)) (run_rows (player_of m w) (placed b f (T (inside_left t xs))) zs))
            (sym (drop-drop (length (inside_rows r t xs)) g.next ns))
            ∙ on.1
            ∙ ap (λ (d : Duration). put_all answer_row table g.next (run_rows (player_of m w) (placed b f d) xs)) (sym left),
      )

-- A TURN BY ONE CALL, as the code takes it
module _ (m : Bool) (w : Tape) (ns table : List ℕ) (g : Going) (in_calls : g.next < length ns) where
  pub gone_on : (n : ℕ) → n ≡ get_or ns g.next 0 → (r : Result Reached Fault) → r ≡ player_of m w g.position n
      → (row : AnswerRow) → row ≡ call_row g.position r
      → (after : List ℕ) → after ≡ put answer_row table g.next row
      → (h : Going) → h.position ≡ position_in g.position r → h.next ≡ g.next + 1
      → leads_to m w ns after h ≡ leads_to m w ns table g
  unfolding run_rows put_all
  gone_on n e r er row ew after ea h ep en =
      let i = g.next in
      let q = g.position in
      let P = player_of m w in
      let xs = drop (i + 1) ns in
      let here : drop i ns ≡ n ∷ xs =
      drop-cons ns i 0 in_calls ∙ ap (λ (k : ℕ). get_or ns i 0 ∷ drop k ns) (sym (add-one i)) ∙ ap (λ (k : ℕ). k ∷ xs) (sym e) in
      ap (λ (y : List ℕ). put_all answer_row y h.next (run_rows P h.position (drop h.next ns)))
      (ea ∙ ap (put answer_row table i) (ew ∙ ap (call_row q) er))
      ∙ ap (λ (k : ℕ). put_all answer_row (put answer_row table i (call_row q (P q n))) k (run_rows P h.position (drop k ns))) en
      ∙ ap (λ (y : Position). put_all answer_row (put answer_row table i (call_row q (P q n))) (i + 1) (run_rows P y xs))
      (ep ∙ ap (position_in q) er)
      ∙ sym (ap (λ (zs : List ℕ). put_all answer_row table i (run_rows P q zs)) here)

-- behind the last call a run leads nowhere else
pub gone_all : (m : Bool) (w : Tape) (ns table : List ℕ) (g : Going) → length ns ≤ g.next → leads_to m w ns table g ≡ table
unfolding run_rows put_all
gone_all m w ns table g h =
    ap (λ (zs : List ℕ). put_all answer_row table g.next (run_rows (player_of m w) g.position zs)) (drop_end ns g.next h)

-- room for every row
pub no_room_lem : (ns table : List ℕ) → length table / 10 < length ns → room_for ns table ≡ Err NoRoom
unfolding room_for
no_room_lem ns table h = rw (lt-ltb (length table) (length ns * answer_row.width) (omega arith))

pub room : (ns table : List ℕ) → length ns ≤ length table / 10 → room_for ns table ≡ Ok tt
unfolding room_for
room ns table h = rw (le-ltb (length table) (length ns * answer_row.width) (omega arith))
