-- `data_figure` meets its contract: well-formed data lasts what the list does. Assumes nothing.
use Rattle.std.proofs.Common.{◌≡◌, ℕ, ◌<◌, true, false, get_or, sym, ◌∙◌, arith}
use Rattle.rows.specs.Well.{inside, well_numbers}
use Rattle.play_entries.specs.Mounted.{tape_size}
use Rattle.play_entries.proofs.Figures.{data_in_lem, bits_listed, data_figure-most}
use Rattle.play_times.proofs.data_figure.Goals as goal

pub returns-then-numbers_well : goal.returns-then-numbers_well
returns-then-numbers_well c =
    let a = c.args in
    let s = a.tape.now in
    let bytes : (i : ℕ) → get_or s i 0 < 256 = λ i. (c.type_inv.tape i).fits in
    let e : inside a.r.start a.r.size (tape_size s) ≡ true = rw c.size_of.ensures at (sym c.ranges-2.ensures ∙ c.if-ranges.true) in
    let w : well_numbers a.r ≡ true = sym c.numbers_well.ensures ∙ c.if-numbers_well.true in
    let d = c.data_time.ensures 0 false ∙ sym (data_in_lem s a.r e w ∙ bits_listed s bytes 0 a.r false w) in
    record { value = d; upper_bound = omega (arith, d, data_figure-most s bytes a.r) }
