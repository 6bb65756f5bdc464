-- THE LOADING TIME, block by block: a turn of its loop, and each way out of it. Assumes nothing.
use Prim.Native.Nat.{ℕ, suc, ◌+◌, ◌-◌, ◌^◌, ◌≤◌, ◌<◌}
use native.Mathlib.Omega.{arith}
use borrow.Author.Tests.{ltb-true}
use mathlib.Core.Path.{◌≡◌, sym, ap, ap₂, subst, ◌∙◌}
use mathlib.Core.Bool.{Bool, true, false, ◌||◌}
use mathlib.Core.Logic.{⊎_elim}
use lib.Dec.{eqb}
use Rattle.law_base.proofs.Numbers.{lt_or_ge}
use Rattle.std.specs.Prelude.{Ok, Err}
use Rattle.refusals.specs.declared.Refusal.TheVariants.{BadRow}
use Rattle.rows.specs.declared.Block.{Block}
use Rattle.rows.specs.Well.{well_numbers}
use Rattle.rows.proofs.WellLaws.{block_clauses}
use Rattle.play_entries.specs.Places.{Tape, block_in}
use Rattle.play_entries.specs.Stored.{rows_time}
use Rattle.play_entries.specs.Mounted.{tape_size, overfull, well_row}
use Rattle.play_loading.specs.declared.Loading.{Loading}
use Rattle.play_loading.specs.Sums.{no_loading, one_more, loading_after}
use Rattle.play_loading.proofs.Summing.{after_next, after-whole, after_stop, more_over, sums_fit}
use Rattle.ask.specs.Queries.{asked, well_to_stop, loading_of}
use Rattle.ask.proofs.Refusals.{answerable}
use Rattle.ask.proofs.Needed.{need_none, need_bad, need_stop, need_on}

-- what a well-formed row's words are within
pub record Limits (r : Block) : Type 0 where
  pub sound : r.sound < 2 ^ 50
  pub numbers : well_numbers r ≡ true

pub row_limits : (w : Tape) (i : ℕ) → well_row w i ≡ true → Limits (block_in w i)
unfolding well_row
row_limits w i g =
    let k = block_clauses (tape_size w.bytes) w.tones (block_in w i) g in
    record { sound = ltb-true _ _ k.sound; numbers = k.numbers }

-- the answer by what is needed
module _ (w : Tape) (o : overfull w ≡ false) where
  pub loading_given : well_to_stop w 0 w.count ≡ true → Ok (rows_time w) ≡ loading_of w
  unfolding loading_of
  loading_given e = rw (o, e)

  loading_refused : well_to_stop w 0 w.count ≡ false → Err BadRow ≡ loading_of w
  unfolding loading_of
  loading_refused e = rw (o, e)

-- before block b: each row below it is well formed and no stop, and the sum is theirs
pub record Loads (w : Tape) (b : ℕ) (s : Loading) : Type 0 where
  pub sums : s ≡ loading_after w b
  pub going : s.over ≡ false
  pub well : (i : ℕ) → i < b → well_row w i ≡ true
  pub needs : (n : ℕ) → b + n ≡ w.count → well_to_stop w b n ≡ well_to_stop w 0 w.count

pub loads_none : (w : Tape) {s : Loading} → s ≡ no_loading → Loads w 0 s
unfolding loading_after
loads_none w e =
    record {
      sums = e;
      going = ap (λ (x : Loading). x.over) e;
      well = λ i h. absurd (omega arith);
      needs = λ n q. ap (well_to_stop w 0) (omega arith);
    }

module _ {w : Tape} {b : ℕ} {s : Loading} (o : overfull w ≡ false) (l : Loads w b s) where
  -- out: past the last block, or at a row that is not well formed
  pub loads_over : b ≡ w.count → Ok s.end ≡ loading_of w
  loads_over z =
      ap (λ (x : Loading). Ok x.end) (l.sums ∙ ap (loading_after w) z)
      ∙ ap Ok (after-whole w)
      ∙ loading_given w o (sym (l.needs 0 (omega arith)) ∙ need_none w b)

  pub loads_bad : b < w.count → well_row w b ≡ false → Err BadRow ≡ loading_of w
  loads_bad h e = loading_refused w o (sym (l.needs (suc (w.count - b - 1)) (omega arith)) ∙ need_bad w b _ e)

-- a block whose row r is well formed
module _ {w : Tape} {b : ℕ} {s : Loading} (l : Loads w b s) {r : Block} (q : r ≡ block_in w b) (g : well_row w b ≡ true) where
  -- what a turn asks, where the table has no more rows than it may
  pub summable : b ≤ 4096 → ((s.sum < 2 ^ 63) × (r.sound < 2 ^ 50)) × (well_numbers r ≡ true)
  summable k =
      let m = subst Limits (sym q) (row_limits w b g) in
      ((omega (arith, ap (λ (x : Loading). x.sum) l.sums, few), m.sound), m.numbers)
    where
      few : (loading_after w b).sum < 2 ^ 63
      few =
          sums_fit w b k
          (record { sound = λ i h. (row_limits w i (l.well i h)).sound; numbers = λ i h. (row_limits w i (l.well i h)).numbers })

  -- with it
  module _ (h : b < w.count) {s' : Loading} (p : s' ≡ one_more s r) where
    after : s' ≡ loading_after w (b + 1)
    after = p ∙ ap₂ one_more l.sums q ∙ after_next w b

    stop-here : s'.over ≡ eqb (block_in w b).endless 1
    stop-here =
        ap (λ (x : Loading). x.over) p
        ∙ more_over s r
        ∙ ap (λ (x : Bool). x || eqb r.endless 1) l.going
        ∙ ap (λ (y : Block). eqb y.endless 1) q

    -- out: at a stop
    pub loads_stop : overfull w ≡ false → s'.over ≡ true → Ok s'.end ≡ loading_of w
    loads_stop o e =
        let f : well_to_stop w b (suc (w.count - b - 1)) ≡ true = need_stop w b _ g (sym stop-here ∙ e) in
        ap (λ (x : Loading). Ok x.end) after
        ∙ ap Ok (after_stop w (b + 1) (omega arith) (ap (λ (x : Loading). x.over) (sym after) ∙ e))
        ∙ loading_given w o (sym (l.needs (suc (w.count - b - 1)) (omega arith)) ∙ f)

    pub loads_on : s'.over ≡ false → Loads w (b + 1) s'
    loads_on e =
        record {
          sums = after;
          going = e;
          well = λ i d. ⊎_elim (λ x. l.well i x) (λ x. let z : i ≡ b = omega arith in ap (well_row w) z ∙ g) (lt_or_ge i b);
          needs = λ n x. need_on w b n g (sym stop-here ∙ e) ∙ l.needs (suc n) (omega arith);
        }

-- what a row that is answered is within
pub asked_limits : (w : Tape) (i : ℕ) (r : Block) → Ok r ≡ asked w i → (r.sound < 2 ^ 50) × (well_numbers r ≡ true)
asked_limits w i r e =
    let a = answerable w i r e in
    let m = subst Limits a.row (row_limits w i a.well) in
    (m.sound, m.numbers)
