-- Which data symbols are given: those whose numbers are below the alphabet's size. Assumes nothing.
use Prim.Native.Nat.{ℕ, ◌*◌, ◌/◌, ◌^◌, ◌≤◌, ◌<◌}
use mathlib.Core.Path.{◌≡◌, refl, sym, ◌∙◌}
use mathlib.Core.Bool.{Bool, true, false, ◌&&◌}
use mathlib.Core.List.{List, []}
use mathlib.Core.Logic.{⊎_elim}
use native.Mathlib.Nat.{mod-lt, lt_of_lt_of_le}
use lib.Pow.{pow_pos}
use lib.ListN.{get_or}
use lib.Dec.{leb, ltb}
use borrow.Author.Tests.{leb-true, ltb-true, lt-ltb, le-ltb, lt-leb, le-leb}
use Rattle.law_base.specs.Rules.{◌⇒◌, ◌∣◌}
use Rattle.law_base.proofs.Numbers.{lt_or_ge}
use Rattle.rows.specs.declared.Tone.{Tone}
use Rattle.cut_grammar.specs.declared.GeneralizedData.{GeneralizedData}
use Rattle.std.specs.Prelude.{is_some, Option, None, Some}
use Rattle.load_general.specs.General.{plain_tone, symbol_number, single_row, pair_row, rows_from}
use Rattle.load_general.specs.Made.{is_tones}
use Rattle.load_general.specs.Held.{Kept}
use Rattle.load_general.proofs.Parts.{all_given}
use Rattle.load_general.proofs.Symbols.{kept_first, kept_second}
use Rattle.law_base.proofs.Tests.{first, second}

-- a number not below the size is refused
rule : (size n : ℕ) (r : Option Tone) → is_some (leb size n ⇒ None ∣ r) ≡ (ltb n size && is_some r)
rule size n r =
    ⊎_elim
    (λ (b : n < size). rw (lt-leb size n b, lt-ltb n size b))
    (λ (b : size ≤ n). rw (le-leb size n b, le-ltb n size b))
    (lt_or_ge n size)

last : (b : Bool) → (b && true) ≡ b
last true = refl
last false = refl

module _ (s : List ℕ) (g : GeneralizedData) where
  pub single_given : (i : ℕ) → is_some (single_row s g i) ≡ ltb (symbol_number s g (i * g.nb) 0) g.asd
  unfolding single_row
  single_given i = rule g.asd (symbol_number s g (i * g.nb) 0) _ ∙ last _

  pub pair_given : (i : ℕ)
      → is_some (pair_row s g i)
      ≡ (ltb (symbol_number s g (2 * i * g.nb) 0) g.asd && ltb (symbol_number s g (2 * i * g.nb) 1) g.asd)
  unfolding pair_row
  pair_given i = rule g.asd (symbol_number s g (2 * i * g.nb) 0) _ ∙ rw (rule g.asd (symbol_number s g (2 * i * g.nb) 1), last)

  -- a number of nb bits is below a size that every such number is below
  number_below : leb (2 ^ g.nb) g.asd ≡ true → (bit more : ℕ) → ltb (symbol_number s g bit more) g.asd ≡ true
  unfolding symbol_number
  number_below h bit more = lt-ltb _ _ (lt_of_lt_of_le (mod-lt _ (pow_pos g.nb)) (leb-true _ _ h))

  pub every_single : leb (2 ^ g.nb) g.asd ≡ true → is_tones (rows_from (single_row s g) 0 g.totd) ≡ true
  every_single h = all_given (single_row s g) 0 g.totd (λ i l. single_given i ∙ number_below h (i * g.nb) 0)

  pub every_pair : leb (2 ^ g.nb) g.asd ≡ true → is_tones (rows_from (pair_row s g) 0 (g.totd / 2)) ≡ true
  every_pair h = all_given (pair_row s g) 0 (g.totd / 2)
      (λ i l. pair_given i ∙ rw (number_below h (2 * i * g.nb) 0, number_below h (2 * i * g.nb) 1))

  -- the numbers of what is given, and the tone, from the array that holds the alphabet
  module _ (i : ℕ) (e : is_some (single_row s g i) ≡ true) where
    pub single_below : symbol_number s g (i * g.nb) 0 < g.asd
    single_below = ltb-true _ _ (sym (single_given i) ∙ e)

    pub single_tone : (a : List (List ℕ)) → Kept s g.symbols g.npd g.asd a → (b : ℕ)
        → b ≡ symbol_number s g (i * g.nb) 0
        → single_row s g i ≡ Some (plain_tone 1 (get_or (get_or a b []) 0 0) (get_or (get_or a b []) 1 0))
    unfolding single_row
    single_tone a k b q =
        let h = single_below in
        rw (
          q,
          kept_first s g.symbols g.npd g.asd a k (symbol_number s g (i * g.nb) 0) h,
          kept_second s g.symbols g.npd g.asd a k (symbol_number s g (i * g.nb) 0) h,
          lt-leb g.asd (symbol_number s g (i * g.nb) 0) h,
        )

  module _ (i : ℕ) (e : is_some (pair_row s g i) ≡ true) where
    pub pair_below : symbol_number s g (2 * i * g.nb) 0 < g.asd
    pair_below = ltb-true _ _ (first _ _ (sym (pair_given i) ∙ e))

    pub pair_below_2 : symbol_number s g (2 * i * g.nb) 1 < g.asd
    pair_below_2 = ltb-true _ _ (second (ltb (symbol_number s g (2 * i * g.nb) 0) g.asd) _ (sym (pair_given i) ∙ e))

    pub pair_tone : (a : List (List ℕ)) → Kept s g.symbols g.npd g.asd a → (b d : ℕ)
        → b ≡ symbol_number s g (2 * i * g.nb) 0 → d ≡ symbol_number s g (2 * i * g.nb) 1
        → pair_row s g i ≡ Some (plain_tone 1 (get_or (get_or a b []) 0 0) (get_or (get_or a d []) 0 0))
    unfolding pair_row
    pair_tone a k b d q r =
        rw (
          q,
          r,
          kept_first s g.symbols g.npd g.asd a k (symbol_number s g (2 * i * g.nb) 0) pair_below,
          kept_first s g.symbols g.npd g.asd a k (symbol_number s g (2 * i * g.nb) 1) pair_below_2,
          lt-leb g.asd (symbol_number s g (2 * i * g.nb) 0) pair_below,
          lt-leb g.asd (symbol_number s g (2 * i * g.nb) 1) pair_below_2,
        )
