-- THE LOADING TIME BY THE ROWS' WORDS, a row at a time: what it comes to, where a stop was met, and that every sum fits. Assumes nothing.
use Prim.Native.Nat.{ℕ, zero, suc, ◌+◌, ◌-◌, ◌*◌, ◌^◌, ◌≤◌, ◌<◌}
use native.Mathlib.Nat.{eq-zero-or-pos}
use native.Mathlib.Numerals.{add-one}
use native.Mathlib.Omega.{arith}
use borrow.Author.Tests.{eqb-false, lt-ltb, le-ltb}
use mathlib.Core.Path.{◌≡◌, refl, sym, ap, ◌∙◌}
use mathlib.Core.Bool.{Bool, true, false, ◌||◌}
use mathlib.Core.Logic.{⊎_elim}
use lib.Dec.{ltb, eqb}
use Rattle.law_base.specs.Rules.{◌⇒◌, ◌∣◌}
use Rattle.rows.specs.declared.Block.{Block}
use Rattle.rows.specs.Well.{well_numbers}
use Rattle.rows.proofs.WellLaws.{numbers-most}
use Rattle.play_entries.specs.Places.{Tape, block_in, by_row}
use Rattle.play_entries.specs.Stored.{rows_loading, rows_time}
use Rattle.play_loading.specs.declared.Loading.{Loading}
use Rattle.play_loading.specs.Sums.{no_loading, end_with, one_more, loading_after}

-- the whole loading time, if that much comes later: where a stop was met, nothing does
abbrev whole_with : Loading → ℕ → ℕ
whole_with s later = s.over ⇒ s.end ∣ end_with s later

-- before the first row, where all is to come; behind the last, where nothing is
at_first : (n : ℕ) → whole_with no_loading n ≡ n
at_first n = ⊎_elim (λ z. rw (le-ltb 0 n (omega arith)) (sym z)) (λ h. rw (lt-ltb 0 n h) (omega arith)) (eq-zero-or-pos n)

at_last : (s : Loading) → whole_with s 0 ≡ s.end
at_last s = of s.over
  where
    of : (o : Bool) → (o ⇒ s.end ∣ s.end) ≡ s.end
    of true = refl
    of false = refl

-- a sound of t and a pause of p: what comes later ends behind both, or the sound is the last
passes : (s : Loading) (t p later : ℕ) → end_with s (ltb 0 later ⇒ t + p + later ∣ t)
    ≡ end_with (record { sum = s.sum + t + p; end = end_with s t; over = false }) later
passes s t p later =
    ⊎_elim (λ z. rw (le-ltb 0 later (omega arith)))
    (λ h. rw (lt-ltb 0 later h, lt-ltb 0 (t + p + later) (omega arith)) (omega arith)) (eq-zero-or-pos later)

-- ONE ROW MORE comes to the same
turn : (s : Loading) (r : Block) (later : ℕ) → whole_with s (by_row r r.sound later) ≡ whole_with (one_more s r) later
unfolding one_more
turn s r later = of s.over refl (eqb r.endless 1) refl
  where
    of : (o : Bool) → s.over ≡ o → (x : Bool) → eqb r.endless 1 ≡ x
        → whole_with s (by_row r r.sound later) ≡ whole_with (one_more s r) later
    of true e x f = rw e
    of false e true f = rw (e, f)
    of false e false f = rw (e, f) (passes s r.sound r.pause later)

module _ (w : Tape) where
  pub after_next : (b : ℕ) → one_more (loading_after w b) (block_in w b) ≡ loading_after w (b + 1)
  unfolding loading_after
  after_next b = rw add-one

  rows_next : (b n : ℕ) → by_row (block_in w b) (block_in w b).sound (rows_loading w (suc b) n) ≡ rows_loading w b (suc n)
  unfolding rows_loading
  rows_next b n = rw add-one

  -- after any number of rows it is the same
  whole_same : (b n : ℕ) → b + n ≡ w.count → whole_with (loading_after w b) (rows_loading w b n) ≡ rows_time w
  unfolding loading_after
  whole_same zero n e = at_first (rows_loading w 0 n) ∙ ap (rows_loading w 0) (omega arith)
  whole_same (suc b) n e =
      sym (turn (loading_after w b) (block_in w b) (rows_loading w (suc b) n))
      ∙ ap (whole_with (loading_after w b)) (rows_next b n)
      ∙ whole_same b (suc n) (omega arith)

  none_left : (b : ℕ) → rows_loading w b 0 ≡ 0
  unfolding rows_loading
  none_left b = refl

  -- after all of them, and from a stop on
  pub after-whole : (loading_after w w.count).end ≡ rows_time w
  after-whole =
      let s = loading_after w w.count in
      sym (at_last s) ∙ ap (whole_with s) (sym (none_left w.count)) ∙ whole_same w.count 0 (omega arith)

  pub after_stop : (b : ℕ) → b ≤ w.count → (loading_after w b).over ≡ true → (loading_after w b).end ≡ rows_time w
  after_stop b h o = rw o at (whole_same b (w.count - b) (omega arith))

-- WHERE A STOP WAS MET: with one row more, there or before
pub more_over : (s : Loading) (r : Block) → (one_more s r).over ≡ (s.over || eqb r.endless 1)
unfolding one_more
more_over s r = of s.over refl (eqb r.endless 1) refl
  where
    of : (o : Bool) → s.over ≡ o → (x : Bool) → eqb r.endless 1 ≡ x → (one_more s r).over ≡ (s.over || eqb r.endless 1)
    of true e x f = rw e
    of false e true f = rw (e, f)
    of false e false f = rw (e, f)

-- EVERY SUM FITS, where the rows' words are within their limits
pub record Within (w : Tape) (n : ℕ) : Type 0 where
  pub sound : (b : ℕ) → b < n → (block_in w b).sound < 2 ^ 50
  pub numbers : (b : ℕ) → b < n → well_numbers (block_in w b) ≡ true

more_few : (s : Loading) (r : Block) → r.sound < 2 ^ 50 → well_numbers r ≡ true → (one_more s r).sum ≤ s.sum + 1125900136215123
unfolding one_more
more_few s r h e = of s.over refl (eqb r.endless 1) refl
  where
    of : (o : Bool) → s.over ≡ o → (x : Bool) → eqb r.endless 1 ≡ x → (one_more s r).sum ≤ s.sum + 1125900136215123
    of true g x f = rw g (omega arith)
    of false g true f = rw (g, f) (omega arith)
    of false g false f = rw (g, f) (omega (arith, (numbers-most r e).pause (eqb-false _ _ f)))

module _ (w : Tape) where
  pub after_few : (n : ℕ) → Within w n → (loading_after w n).sum ≤ n * 1125900136215123
  unfolding loading_after
  after_few zero h = omega arith
  after_few (suc n) h =
      let few = after_few n (record { sound = λ b l. h.sound b (omega arith); numbers = λ b l. h.numbers b (omega arith) }) in
      omega (arith, few, more_few (loading_after w n) (block_in w n) (h.sound n (omega arith)) (h.numbers n (omega arith)))

  pub sums_fit : (n : ℕ) → n ≤ 4096 → Within w n → (loading_after w n).sum < 2 ^ 63
  sums_fit n l h = omega (arith, after_few n h)
