-- What the model changes of a load: nothing between 1 and 2, and nothing at all where no 2A is reached. Assumes nothing.
use Prim.Native.Nat.{ℕ, zero, suc, ◌<◌}
use native.Mathlib.Nat.{not-suc-le-zero, le_of_suc-le-suc}
use mathlib.Core.Path.{◌≡◌, refl, sym, ap, subst, ◌∙◌}
use mathlib.Core.Bool.{false}
use mathlib.Core.List.{List}
use Rattle.load_blocks.specs.Adds.{Lent}
use Rattle.load_blocks.specs.Does.{lent_of}
use Rattle.load_source.specs.Source.{Load}
use Rattle.load_source.specs.Reached.{reaches_2a}
use Rattle.load_source.proofs.Models.{models_equal, models_agree}
use Rattle.std.specs.Prelude.{Result}
use Rattle.load_tape.specs.declared.Loaded.{Loaded}
use Rattle.load_tape.specs.declared.NotLoaded.{NotLoaded}
use Rattle.load_tape.specs.Load.{named_load, load_named, Leaves}
use Rattle.load_tape.proofs.Leaving.{one_outcome}

module _ (lent : Lent) (s : List ℕ) where
  named_equal : load_named lent s 1 ≡ load_named lent s 2
  unfolding load_named
  named_equal = ap (named_load s) (models_equal lent s)

  named_agree : reaches_2a lent s ≡ false → load_named lent s 0 ≡ load_named lent s 1
  unfolding load_named
  named_agree e = ap (named_load s) (models_agree lent s e)

  -- each of the three models as the 128K
  named_as_lem : reaches_2a lent s ≡ false → (m : ℕ) → m < 3 → load_named lent s m ≡ load_named lent s 1
  named_as_lem e zero h = named_agree e
  named_as_lem e (suc zero) h = refl
  named_as_lem e (suc (suc zero)) h = sym named_equal
  named_as_lem e (suc (suc (suc m))) h = absurd (not-suc-le-zero (le_of_suc-le-suc (le_of_suc-le-suc (le_of_suc-le-suc h))))

module _ {B N : ℕ} (s : List ℕ) {a a' : Result Loaded NotLoaded} {bt bt' tt tt' : List ℕ} where
  same : {l l' : Load} → l ≡ l' → Leaves B N l a bt tt → Leaves B N l' a' bt' tt'
      → (a ≡ a') × (bt ≡ bt') × (tt ≡ tt')
  same e x y = one_outcome (subst (λ (l : Load). Leaves B N l a bt tt) e x) y

  -- models 1 and 2: the answer and every word
  pub load_models : Leaves B N (load_named (lent_of B N) s 1) a bt tt → Leaves B N (load_named (lent_of B N) s 2) a' bt' tt'
      → (a ≡ a') × (bt ≡ bt') × (tt ≡ tt')
  load_models x y = same (named_equal (lent_of B N) s) x y

  -- any two models, where no 2A is reached
  pub load_models_all : reaches_2a (lent_of B N) s ≡ false → (m m' : ℕ) → m < 3 → m' < 3
      → Leaves B N (load_named (lent_of B N) s m) a bt tt → Leaves B N (load_named (lent_of B N) s m') a' bt' tt'
      → (a ≡ a') × (bt ≡ bt') × (tt ≡ tt')
  load_models_all e m m' h h' x y = same (named_as_lem (lent_of B N) s e m h ∙ sym (named_as_lem (lent_of B N) s e m' h')) x y
