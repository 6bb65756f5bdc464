-- `glyvrask_listing` meets its contract: the refusals in their order, else the load's tables are ready and their text is told.
use native.Mathlib.Omega.{arith}
use mathlib.Core.Path.{refl, ◌∙◌}
use Rattle.listing.proofs.Mounting.{leaves-told, lent_words, load_ready, no_model, too_long, load_refused, load_told}
use Rattle.listing.proofs.glyvrask_listing.Goals as goal

pub returns-then-model-ge3 : goal.returns-then-model-ge3
returns-then-model-ge3 c = let h = no_model _ _ _ (omega arith) in
    record { value = h.0; out_after = h.1 }

pub returns-then-tape-gt65535 : goal.returns-then-tape-gt65535
returns-then-tape-gt65535 c =
    let h = too_long _ _ _ (omega arith) (omega arith) in
    record { value = h.0; out_after = h.1 }

pub slice_bounds-load-end : goal.slice_bounds-load-end
slice_bounds-load-end c = refl

pub slice_bounds-load-end-2 : goal.slice_bounds-load-end-2
slice_bounds-load-end-2 c = refl

pub tell-requires : goal.tell-requires
tell-requires c =
    let a = c.args in
    load_ready a.tape.now a.model (λ i. (c.type_inv.tape i).fits)
    (leaves-told (lent_words a.tape.now a.model c.load.ensures) c.in-Ok.is)

pub returns-in-Ok : goal.returns-in-Ok
returns-in-Ok c =
    let a = c.args in
    let h = load_told a.tape.now a.model (omega arith) (omega arith) a.out.now
    (leaves-told (lent_words a.tape.now a.model c.load.ensures) c.in-Ok.is) (c.tell.ensures.by_index, c.tell.ensures.by_index_2) in
    record { value = h.0; out_after = h.1 }

pub returns-in-Err : goal.returns-in-Err
returns-in-Err c =
    let a = c.args in
    let h = load_refused a.tape.now a.model (omega arith) (omega arith) a.out.now
    (leaves-told (lent_words a.tape.now a.model c.load.ensures) c.in-Err.is) in
    record { value = omega (arith, c.number.ensures ∙ h.0); out_after = h.1 }
