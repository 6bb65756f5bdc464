-- KEEPS, 13: a block for each pair of pulses. Assumes nothing.
use Prim.Native.Nat.{ℕ, zero, suc, ◌+◌, ◌*◌, ◌-◌, ◌/◌, ◌%◌}
use native.Mathlib.Omega.{arith}
use mathlib.Core.Path.{◌≡◌, refl, sym, ap, ◌∙◌}
use mathlib.Core.Bool.{Bool, true, false}
use mathlib.Core.List.{List, [], ◌∷◌, ◌++◌, map, append-nil}
use lib.Dec.{eqb}
use borrow.Author.Tests.{eqb-true, eqb-false}
use Rattle.law_base.proofs.Tests.{other}
use Rattle.cut_fields.specs.Field.{le_at}
use Rattle.load_state.specs.Parser.{Parsed}
use Rattle.load_state.proofs.Kept.{sure_also, sure_then}
use Rattle.load_state.specs.Kept.{Sure, sure}
use Rattle.load_blocks.specs.declared.Origin.{Origin}
use Rattle.load_general.specs.General.{plain_tone}
use Rattle.load_blocks.specs.Sounds.{row_of, add_sounds}
use Rattle.load_blocks.specs.Blocks.{pulse_at, tone_sound, pair_sounds}
use Rattle.load_blocks.specs.Adds.{Lent}
use Rattle.law_tzx.specs.Format.{lasts, each, data_pulses, format13, lengths_of, lasting}
use Rattle.law_tzx.specs.Kept.{kept13, Plays, Keeps, as_said}
use Rattle.law_tzx.proofs.Lengths.{long, long_append, lasting_append, waves_of, pause_in, block_lengths}
use Rattle.law_tzx.proofs.Adds.{plays-none, plays_then, plays_as, sound_plays}
use Rattle.law_tzx.proofs.Waves.{each_split}
use Rattle.law_tzx.proofs.KeepSounds.{sound_with}

-- 13: pulse i
abbrev pub pulse_in : List ℕ → ℕ → ℕ → List ℕ
pulse_in s from i = le_at s (from + i * 2) 2 ∷ []

pair_same : (origin : Origin) (s : List ℕ) (a b n : ℕ)
    → block_lengths s (plain_tone 1 a b ∷ []) (row_of s origin (tone_sound (plain_tone 1 a b ∷ [])) n)
    ≡ lasting (map lasts (a ∷ b ∷ []))
unfolding block_lengths waves_of each row_of data_pulses pause_in lasting
pair_same origin s a b n = append-nil (long (a ∷ b ∷ []) ++ []) ∙ append-nil (long (a ∷ b ∷ []))

-- two items more
each_two : (f : ℕ → List ℕ) (i n : ℕ) → each f i (suc n * 2) ≡ f i ++ (f (i + 1) ++ each f (i + 2) (n * 2))
unfolding each
each_two f i n =
    let e : suc n * 2 ≡ suc (suc (n * 2)) = omega arith in
    let q : i + 1 + 1 ≡ i + 2 = omega arith in
    ap (each f i) e ∙ ap (λ (k : ℕ). f i ++ (f (i + 1) ++ each f k (n * 2))) q

none-heard : (f : ℕ → List ℕ) (i : ℕ) → long (each f i (zero * 2)) ≡ []
unfolding each lasting
none-heard f i = refl

-- an item of one pulse of 0 behind
last_none : (xs : List ℕ) (f : ℕ → List ℕ) (p : ℕ) → f p ≡ 0 ∷ [] → long (xs ++ each f p 1) ≡ long xs
unfolding each lasting
last_none xs f p e =
    long_append xs (f p ++ []) ∙ ap (λ (r : List ℕ). long xs ++ long (r ++ [])) e ∙ append-nil (long xs)

-- a pause of 0
pub no_pause : (xs : List ℕ) → lasting (lengths_of (sound_with xs (lasts 0))) ≡ long xs
unfolding lengths_of lasting
no_pause xs = lasting_append (map lasts xs) (lasts 0 ∷ []) ∙ append-nil (long xs)

pub pairs_play : (lent : Lent) (origin : Origin) (s : List ℕ) (from i n : ℕ) (t : Parsed)
    → Sure (Plays s (map lasts (each (pulse_in s from) i (n * 2))) t) (add_sounds lent s origin (pair_sounds s from i n) t)
unfolding add_sounds pair_sounds pulse_at
pairs_play lent origin s from i zero t = sure (plays-none refl refl (none-heard (pulse_in s from) i))
pairs_play lent origin s from i (suc n) t =
    let a = le_at s (from + i * 2) 2 in
    let b = le_at s (from + (i + 1) * 2) 2 in
    let e : map lasts (a ∷ b ∷ each (pulse_in s from) (i + 2) (n * 2)) ≡ map lasts (each (pulse_in s from) i (suc n * 2)) =
    ap (map lasts) (sym (each_two (pulse_in s from) i n)) in
    sure_then (add_sounds lent s origin (pair_sounds s from (i + 2) n))
    (sound_plays s origin (tone_sound (plain_tone 1 a b ∷ [])) (map lasts (a ∷ b ∷ [])) (pair_same origin s a b) lent t)
    (λ u p. sure_also (λ v q. plays_as (ap lasting e) (plays_then p q)) (pairs_play lent origin s from (i + 2) n u))

-- an odd last pulse of 0 is not heard
pairs_same : (s : List ℕ) (count from : ℕ) → kept13 s count from ≡ true
    → long (each (pulse_in s from) 0 (count / 2 * 2)) ≡ long (each (pulse_in s from) 0 count)
unfolding kept13
pairs_same s count from e = by_cases (eqb (count % 2) 0) refl
  where
    f : ℕ → List ℕ
    f = pulse_in s from

    by_cases : (b : Bool) → eqb (count % 2) 0 ≡ b → long (each f 0 (count / 2 * 2)) ≡ long (each f 0 count)
    by_cases true q =
        let h : count % 2 ≡ 0 = eqb-true (count % 2) 0 q in
        let k : count / 2 * 2 ≡ count = omega arith in
        ap (λ (m : ℕ). long (each f 0 m)) k
    by_cases false q =
        let h = eqb-false (count % 2) 0 q in
        let z : le_at s (from + (count - 1) * 2) 2 ≡ 0 =
        eqb-true _ 0 (other (eqb (count % 2) 0) (eqb (le_at s (from + (count - 1) * 2) 2) 0) e q) in
        let k : count ≡ count / 2 * 2 + 1 = omega arith in
        let l : count - 1 ≡ 0 + count / 2 * 2 = omega arith in
        let w : f (0 + count / 2 * 2) ≡ 0 ∷ [] = ap f (sym l) ∙ ap (λ (x : ℕ). x ∷ []) z in
        sym (ap (λ (m : ℕ). long (each f 0 m)) k
        ∙ ap long (each_split f 0 (count / 2 * 2) 1)
        ∙ last_none (each f 0 (count / 2 * 2)) f (0 + count / 2 * 2) w)

pub keep13 : (lent : Lent) (origin : Origin) (s : List ℕ) (t : Parsed) (count from : ℕ) → kept13 s count from ≡ true
    → Sure (λ u. Keeps s t u (format13 s count from)) (add_sounds lent s origin (pair_sounds s from 0 (count / 2)) t)
unfolding format13
keep13 lent origin s t count from e =
    sure_also (λ u p. as_said (plays_as (pairs_same s count from e ∙ sym (no_pause (each (pulse_in s from) 0 count))) p))
    (pairs_play lent origin s from 0 (count / 2) t)
