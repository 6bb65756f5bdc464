-- THE LEVEL OF A DOCUMENT ROW'S ENTRY is the level by the line behind the rows below it. Assumes nothing.
use Prim.Native.Nat.{ℕ, ◌≤◌}
use native.Mathlib.Omega.{arith}
use mathlib.Core.Path.{◌≡◌, refl, sym, ap, ◌∙◌}
use mathlib.Core.Bool.{Bool, true, false}
use mathlib.Core.List.{List}
use lib.Dec.{eqb}
use Rattle.law_base.specs.Rules.{◌⇒◌, ◌∣◌}
use Rattle.law_pulses.specs.Play.{low, high}
use Rattle.rows.specs.declared.Block.{Block}
use Rattle.rows_well.specs.declared.Seen.{Seen}
use Rattle.rows_well.specs.Seen.{seen_of, steady_seen}
use Rattle.play_levels.specs.declared.Line.{Line}
use Rattle.play_levels.specs.Closed.{begin_of, is_one, turned, flipped, first_level}
use Rattle.play_entries.specs.declared.Phase.{Phase}
use Rattle.play_entries.specs.declared.Phase.TheVariants.{Start, Tones, Data, Edge, Pause}
use Rattle.play_entries.specs.Entries.{tone_at, is_source, line_at, cycle_level, bit_level, pause_level}
use Rattle.play_entries.specs.Places.{has_entry, level_at}
use Rattle.play_entries.proofs.Valid.{tone-entry}
use Rattle.play_voice.specs.Voice.{rows_below, level_by, asks_played, turned_line}
use Rattle.play_voice.proofs.Turned.{current_turned}

-- by whether it is endless, and whether it is 0
paused : (x y : Bool) (at : ℕ → Line) (n : ℕ)
    → (x ⇒ low ∣ y ⇒ (at n).current ∣ low) ≡ (x ⇒ low ∣ y ⇒ (at (x ⇒ 0 ∣ y ⇒ n ∣ 0)).current ∣ low)
paused true y at n = refl
paused false true at n = refl
paused false false at n = refl

module _ (tones : List ℕ) (r : Block) where
  -- the rows below an entry are rows of its block
  pub below_most : (f : Phase) → has_entry tones r f ≡ true → rows_below r f ≤ r.tones
  unfolding rows_below
  below_most Start e = omega arith
  below_most (Tones i p h) e = let k = tone-entry tones r i p h e in omega arith
  below_most (Data pos k h) e = omega arith
  below_most Edge e = omega arith
  below_most Pause e = pause_most (eqb r.endless 1) (eqb r.pause 0) r.tones
    where
      pause_most : (x y : Bool) (n : ℕ) → (x ⇒ 0 ∣ y ⇒ n ∣ 0) ≤ n
      pause_most true y n = omega arith
      pause_most false true n = omega arith
      pause_most false false n = omega arith

  module _ (d : is_source r ≡ false) where
    pub level_by_lem : (f : Phase) → level_at tones r f ≡ level_by tones r f (line_at tones r (rows_below r f))
    unfolding level_at level_by rows_below cycle_level bit_level pause_level
    level_by_lem Start = refl
    level_by_lem (Tones i p h) = rw d
    level_by_lem (Data pos k h) = rw d
    level_by_lem Edge = rw d
    level_by_lem Pause = rw d (paused (eqb r.endless 1) (eqb r.pause 0) (line_at tones r) r.tones)

  -- a level that doesn't ask for the level last played, from two lines of the same current level
  module _ (l m : Line) (e : l.current ≡ m.current) where
    first-same : (x y z o : Bool) (q : ℕ) → y ≡ false
        → (x ⇒ (o ⇒ turned q l.current ∣ l.current) ∣ y ⇒ (o ⇒ l.played ∣ turned q l.played) ∣ z ⇒ low ∣ high)
        ≡ (x ⇒ (o ⇒ turned q m.current ∣ m.current) ∣ y ⇒ (o ⇒ m.played ∣ turned q m.played) ∣ z ⇒ low ∣ high)
    first-same x true z o q n = cc
    first-same x false z o q n = rw e

    pub level_same : (f : Phase) → asks_played tones r f ≡ false → level_by tones r f l ≡ level_by tones r f m
    unfolding level_by asks_played first_level
    level_same Start n = refl
    level_same (Tones i p h) n =
        let t = tone_at tones r i in
        ap (flipped h) (first-same (eqb (begin_of t) 0) (eqb (begin_of t) 1) (eqb (begin_of t) 2) (is_one t) p n)
    level_same (Data pos k h) n = ap (flipped h) e
    level_same Edge n = e
    level_same Pause n = rw e

  -- THE LEVEL BY TURNS, where the rows below are of begin 0 and the entry doesn't ask for the level last played
  pub level_turned : is_source r ≡ false → (f : Phase) (s : Seen) → s ≡ seen_of tones r.tone (rows_below r f)
      → steady_seen s ≡ true → asks_played tones r f ≡ false
      → level_by tones r f (turned_line r s) ≡ level_at tones r f
  level_turned d f s e t n =
      let c = current_turned tones r (rows_below r f) (sym (ap steady_seen e) ∙ t) in
      level_same (turned_line r s) (line_at tones r (rows_below r f)) (ap (λ (x : Seen). (turned_line r x).current) e ∙ sym c) f n
      ∙ sym (level_by_lem d f)
