-- `all_given` meets its contract: by what `all` answers. Assumes nothing.
use Rattle.std.proofs.Common.{rules, arith, ◌≡◌, ◌<◌, true, false, refl, sym}
use Rattle.std.proofs.lemmas.Iterator.{serves_from_Range, cases_from_all, YieldsList-from_range}
use Rattle.std.specs.Prelude.{is_some}
use Rattle.load_general.proofs.Parts.{judged}
use Rattle.load_general.proofs.all_given.Goals as goal

pub all-requires-clause-callable : goal.all-requires-clause-callable
all-requires-clause-callable g c = serves_from_Range (λ x q k. search rules) (λ x lo hi. search (rules, c.requires x (omega arith)))

pub returns : goal.returns
returns g c =
    λ row h.
    let n = c.args.n in
    judged row n c.all.result
    (cases_from_all _ _ c.all.result (λ i. i < n → is_some (row i) ≡ true) (λ i. i < n → is_some (row i) ≡ false)
    c.all.ensures.ran (YieldsList-from_range 0 n n refl (search rules))
    (λ x q k. (search rules, λ l. sym (h x true l (search rules))))
    (λ x q k l. sym (h x false l (search rules))))
