-- Refusal 7's test row by row, and what it makes of a TZX read whole. Assumes nothing.
use Prim.Native.Nat.{ℕ, zero, suc, ◌+◌, ◌≤◌, ◌<◌}
use mathlib.Core.Path.{◌≡◌, refl, sym, ap, ◌∙◌}
use mathlib.Core.Bool.{Bool, true, false, ◌&&◌}
use mathlib.Core.List.{List, [], ◌∷◌}
use native.Mathlib.Omega.{arith}
use lib.ListN.{length, get_or, drop}
use lib.Dec.{ltb}
use Rattle.std.specs.Prelude.{Result, Ok, Err, IsErrAnd}
use Rattle.std.proofs.lemmas.Result.{err_from_is_err_and}
use Rattle.refusals.specs.Refusals.{last_bits}
use Rattle.law_base.specs.Rules.{◌⇒◌, ◌∣◌}
use Rattle.rows.specs.declared.Block.{Block}
use Rattle.rows.specs.Table.{get, table_of, capacity_of, zeros}
use Rattle.rows.specs.Rows.{block, block_most}
use Rattle.rows.proofs.Tables.{get_row}
use Rattle.load_state.specs.declared.State.{State}
use Rattle.load_state.specs.Parser.{Parsed}
use Rattle.load_state.specs.Holds.{Holds}
use Rattle.cut_grammar.specs.declared.Heading.{Heading}
use Rattle.cut_grammar.specs.Cut.{head_at}
use Rattle.load_source.specs.declared.Failure.{Failure}
use Rattle.load_source.specs.declared.NotRead.{NotRead}
use Rattle.load_source.specs.declared.NotRead.TheVariants.{Failed, Refused}
use Rattle.load_blocks.specs.Adds.{Lent}
use Rattle.load_source.specs.Source.{Verdict, done, failed, refused, too_many_bits, bits_judged, headed, read_tzx}
use Rattle.load_source.specs.Does.{Finds, ends, fails, refuses}

bits_more : (rs : List Block) (i : ℕ) (d : Block) → i < length rs
    → too_many_bits (drop i rs) ≡ ((ltb 0 (get_or rs i d).size && ltb 8 (get_or rs i d).last) ⇒ true ∣ too_many_bits (drop (i + 1) rs))
unfolding too_many_bits
bits_more [] i d h = absurd (omega arith)
bits_more (r ∷ rs) zero d h = refl
bits_more (r ∷ rs) (suc i) d h = let e : suc i + 1 ≡ suc (i + 1) = omega arith in rw e (bits_more rs i d (omega arith))

-- one row, then the others
pub bits_turn : (B : ℕ) (rs : List Block) (i : ℕ) {b : Bool} {bt : List ℕ} {r : Block} → bt ≡ table_of block rs B → i < length rs
    → r ≡ get block bt i
    → b ≡ (ltb 0 r.size && ltb 8 r.last) → too_many_bits (drop i rs) ≡ (b ⇒ true ∣ too_many_bits (drop (i + 1) rs))
bits_turn B rs i {r = r} e h q s =
    let g : r ≡ get_or rs i r = q ∙ ap (λ (t : List ℕ). get block t i) e ∙ get_row block rs (zeros B) i r h in
    bits_more rs i r h
    ∙ ap (λ (x : Block). (ltb 0 x.size && ltb 8 x.last) ⇒ true ∣ too_many_bits (drop (i + 1) rs)) (sym g)
    ∙ ap (λ (x : Bool). x ⇒ true ∣ too_many_bits (drop (i + 1) rs)) (sym s)

pub bits_none : (rs : List Block) (i : ℕ) → length rs ≤ i → too_many_bits (drop i rs) ≡ false
unfolding too_many_bits
bits_none [] zero h = refl
bits_none [] (suc i) h = refl
bits_none (r ∷ rs) zero h = absurd (omega arith)
bits_none (r ∷ rs) (suc i) h = bits_none rs i (omega arith)

module _ {B N : ℕ} {r : Result State NotRead} {bt tt : List ℕ} {o : Verdict} (f : Finds B N r bt tt o) where
  -- a reading that is done holds a tape
  pub found_done : {s : State} → r ≡ Ok s → (t : Parsed) × (o ≡ done t) × Holds B N s bt tt t
  found_done = by_cases f
    where
      by_cases : {r : Result State NotRead} {o : Verdict} {s : State} → Finds B N r bt tt o → r ≡ Ok s
          → (t : Parsed) × (o ≡ done t) × Holds B N s bt tt t
      by_cases {s = s} (ends {s = s₁} {t = t} h) e = let q : s₁ ≡ s = cc in (t, refl, rw q at h)
      by_cases (fails) e = cc
      by_cases (refuses) e = cc

  pub found_failed : {x : Failure} → r ≡ Err (Failed x) → o ≡ failed x
  found_failed = by_cases f
    where
      by_cases : {r : Result State NotRead} {o : Verdict} {x : Failure} → Finds B N r bt tt o → r ≡ Err (Failed x) → o ≡ failed x
      by_cases (ends h) e = cc
      by_cases {x = x} (fails {f = y}) e = let q : y ≡ x = cc in ap failed q
      by_cases (refuses) e = cc

  pub found_refused : {k : ℕ} → r ≡ Err (Refused k) → o ≡ refused k
  found_refused = by_cases f
    where
      by_cases : {r : Result State NotRead} {o : Verdict} {k : ℕ} → Finds B N r bt tt o → r ≡ Err (Refused k) → o ≡ refused k
      by_cases (ends h) e = cc
      by_cases (fails) e = cc
      by_cases {k = k} (refuses {k = j}) e = let q : j ≡ k = cc in ap refused q

  -- its rows are in the table
  pub done_room : {s : State} → r ≡ Ok s → s.blocks ≤ capacity_of block block_most bt
  done_room e = let h = (found_done e).2 in rw h.len_b (omega (arith, h.nb, h.room_b))

  module _ {s : State} (e : r ≡ Ok s) {b : Bool}
      (k : (B : ℕ) (rs : List Block) → s.blocks ≡ length rs → bt ≡ table_of block rs B → b ≡ too_many_bits rs) where
    pub judged_seven : b ≡ true → Finds B N (Err (Refused last_bits)) bt tt (bits_judged o)
    unfolding bits_judged
    judged_seven q =
        let d = found_done e in
        rw (d.1, sym (k B d.0.blocks d.2.nb d.2.is_b) ∙ q) refuses

    pub judged-done : b ≡ false → Finds B N (Ok s) bt tt (bits_judged o)
    unfolding bits_judged
    judged-done q =
        let d = found_done e in
        rw (d.1, sym (k B d.0.blocks d.2.nb d.2.is_b) ∙ q) (ends d.2)

  -- a reading that isn't is handed on
  pub judged_err : {e : NotRead} {x : Result State NotRead} → r ≡ Err e → IsErrAnd x (λ d. d ≡ e) → Finds B N x bt tt (bits_judged o)
  unfolding bits_judged
  judged_err {e} {x} h d = let p = err_from_is_err_and x d in rw (p.1, p.2) (by_cases e h)
    where
      by_cases : (e : NotRead) → r ≡ Err e → Finds B N (Err e) bt tt (bits_judged o)
      by_cases (Failed x) h = rw (found_failed h) fails
      by_cases (Refused k) h = rw (found_refused h) refuses

module _ (lent : Lent) (s : List ℕ) (model : ℕ) where
  pub tzx-headed : {x : Heading} → x ≡ head_at s → read_tzx lent s model ≡ headed lent s model x
  unfolding read_tzx
  tzx-headed q = rw q
