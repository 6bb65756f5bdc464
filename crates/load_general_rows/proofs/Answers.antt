-- What the piece gives, from what its parts are, and the answer and the tone table that go with it. Assumes nothing.
use Prim.Native.Nat.{ℕ, ◌+◌, ◌-◌, ◌<◌}
use mathlib.Core.Path.{◌≡◌, refl, sym, ap, ◌∙◌}
use mathlib.Core.Bool.{Bool, true, false, ◌&&◌}
use native.Mathlib.Omega.{arith}
use mathlib.Core.List.{List, ◌++◌}
use lib.ListN.{length, length-append}
use lib.Dec.{leb, ltb}
use borrow.Author.Tests.{ltb-true, eqb-true}
use Rattle.rows.specs.Table.{put_all, capacity_of}
use Rattle.rows.specs.Rows.{tone, tone_most}
use Rattle.rows.specs.declared.Tone.{Tone}
use Rattle.rows.proofs.Tables.{put_all_append}
use Rattle.cut_grammar.specs.declared.GeneralizedData.{GeneralizedData}
use Rattle.std.specs.Prelude.{Ok, Err}
use Rattle.load_general.specs.declared.NoRows.{NoRows}
use Rattle.load_general.specs.declared.NoRows.TheVariants.{Refused, Full, Stop}
use Rattle.load_general.specs.declared.Made.TheVariants.{Data, Tones}
use Rattle.load_general.specs.General.{Part, refused, stops, tones, symbol_at, ordinary, used_bits, data_part, plain}
use Rattle.load_general.specs.General.{toned, with_data, with_pilot}
use Rattle.load_general.specs.Made.{judged_of, part_tones, made_of, leaves, MadeDone}
use Rattle.load_general.proofs.Parts.{differ, told_rows}

-- what the piece comes to, by what is judged of its parts
module _ (used : ℕ) (t : List ℕ) where
  -- a part that is refused or a stop alters nothing
  pub data_none : (ps : List Tone) (p : Part) {e : NoRows} → judged_of p ≡ Err e → MadeDone (with_data ps p) used t t (Err e)
  unfolding judged_of with_data made_of leaves
  data_none ps refused {e} q = let k : e ≡ Refused = cc in record { answer = ap (λ (x : NoRows). Err x) k; table = refl }
  data_none ps stops {e} q = let k : e ≡ Stop = cc in record { answer = ap (λ (x : NoRows). Err x) k; table = refl }
  data_none ps (tones ts) q = absurd (let z : ◌≡◌ {A = ℕ} 0 1 = cc in omega arith)

  pub pilot_none : (s : List ℕ) (g : GeneralizedData) (p : Part) {e : NoRows} → judged_of p ≡ Err e → MadeDone (with_pilot s g p) used t t (Err e)
  unfolding judged_of with_pilot made_of leaves
  pilot_none s g refused {e} q = let k : e ≡ Refused = cc in record { answer = ap (λ (x : NoRows). Err x) k; table = refl }
  pilot_none s g stops {e} q = let k : e ≡ Stop = cc in record { answer = ap (λ (x : NoRows). Err x) k; table = refl }
  pilot_none s g (tones ts) q = absurd (let z : ◌≡◌ {A = ℕ} 0 1 = cc in omega arith)

  -- a data block of n pilot rows
  module _ (s : List ℕ) (g : GeneralizedData) (p : Part) {n : ℕ} (q : judged_of p ≡ Ok n) (b : (ltb 0 g.totd && ordinary s g) ≡ true) where
    plain_given : (p ≡ tones (part_tones p)) → with_pilot s g p ≡ plain (part_tones p) (symbol_at s g.symbols 2 0).first (symbol_at s g.symbols 2 1).first (used_bits g.totd)
    unfolding with_pilot
    plain_given e = ap (with_pilot s g) e ∙ rw b

    pub plain_fits : leb n (capacity_of tone tone_most t - used) ≡ true
        → MadeDone (with_pilot s g p) used t (put_all tone t used (part_tones p))
        (Ok (Data n (symbol_at s g.symbols 2 0).first (symbol_at s g.symbols 2 1).first (used_bits g.totd)))
    unfolding made_of leaves
    plain_fits f =
        let o = told_rows p q in
        rw (plain_given o.0) (record { answer = rw (o.1, f); table = rw (o.1, f) })

    pub plain_full : leb n (capacity_of tone tone_most t - used) ≡ false → MadeDone (with_pilot s g p) used t t (Err Full)
    unfolding made_of leaves
    plain_full f =
        let o = told_rows p q in
        rw (plain_given o.0) (record { answer = rw (o.1, f); table = rw (o.1, f) })

  -- a block of n and m rows
  module _ (p d : Part) {n m : ℕ} (q : judged_of p ≡ Ok n) (r : judged_of d ≡ Ok m) where
    toned_given : d ≡ tones (part_tones d) → with_data (part_tones p) d ≡ toned (part_tones p ++ part_tones d)
    unfolding with_data
    toned_given e = ap (with_data (part_tones p)) e

    both : length (part_tones p ++ part_tones d) ≡ n + m
    both = rw (length-append, (told_rows p q).1, (told_rows d r).1)

    pub toned_fits : leb (n + m) (capacity_of tone tone_most t - used) ≡ true
        → MadeDone (with_data (part_tones p) d) used t (put_all tone (put_all tone t used (part_tones p)) (used + n) (part_tones d)) (Ok (Tones (n + m)))
    unfolding made_of leaves
    toned_fits f =
        let j : put_all tone t used (part_tones p ++ part_tones d) ≡ put_all tone (put_all tone t used (part_tones p)) (used + n) (part_tones d) =
        rw (put_all_append tone t used (part_tones p) (part_tones d), (told_rows p q).1) in
        rw (toned_given (told_rows d r).0) (record { answer = rw (both, f); table = rw (both, f) (sym j) })

    pub toned_full : leb (n + m) (capacity_of tone tone_most t - used) ≡ false → MadeDone (with_data (part_tones p) d) used t t (Err Full)
    unfolding made_of leaves
    toned_full f = rw (toned_given (told_rows d r).0) (record { answer = rw (both, f); table = rw (both, f) })

-- where the data is no ordinary block, the piece is its pilot's tones and the data part
pub pilot_data : (s : List ℕ) (g : GeneralizedData) (p : Part) {n : ℕ} → judged_of p ≡ Ok n → (ltb 0 g.totd && ordinary s g) ≡ false
    → with_pilot s g p ≡ with_data (part_tones p) (data_part s g)
unfolding with_pilot
pilot_data s g p q b = ap (with_pilot s g) (told_rows p q).0 ∙ rw b

-- an ordinary block has two symbols of two pulses
pub record Plain (g : GeneralizedData) : Type 0 where
  pub used : 0 < g.totd
  pub asd : g.asd ≡ 2
  pub npd : g.npd ≡ 2

and_true : (a b : Bool) → (a && b) ≡ true → (a ≡ true) × (b ≡ true)
and_true true b e = (refl, e)
and_true false b e = (e, absurd (differ (sym e)))

pub plain_two : (s : List ℕ) (g : GeneralizedData) → (ltb 0 g.totd && ordinary s g) ≡ true → Plain g
unfolding ordinary
plain_two s g e =
    let a = and_true _ _ e in
    let b = and_true _ _ a.1 in
    let d = and_true _ _ b.1 in
    record { used = ltb-true 0 g.totd a.0; asd = eqb-true g.asd 2 b.0; npd = eqb-true g.npd 2 d.0 }
