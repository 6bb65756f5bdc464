-- `ones` meets its contract: the sum is the one-bits of the bytes passed. Assumes nothing.
use Rattle.std.proofs.Common.{◌≡◌, ℕ, ◌+◌, ◌-◌, ◌<◌, List, get_or, take, drop, ap, ◌∙◌, arith, add-one}
use Rattle.std.proofs.lemmas.List.{get_or-take, get_or-drop, length-take}
use lib.Count.{ones, ones-le}
use Rattle.play_entries.specs.Counted.{ones_from}
use Rattle.play_entries.proofs.Counted.{ones_most}
use Rattle.play_times.proofs.ones.Goals as goal

-- byte j of those gone through
byte_there : (s : List ℕ) (from n j : ℕ) → j < n → get_or (take (from + n - from) (drop from s)) j 0 ≡ get_or s (from + j) 0
byte_there s from n j h =
    let e : from + n - from ≡ n = omega arith in
    rw e (get_or-take n (drop from s) j 0 h ∙ get_or-drop from s j 0)

pub overflow_add-sum : goal.overflow_add-sum
overflow_add-sum c =
    let a = c.args in
    let j = c.loop-v.v-index in
    let h : j < a.n = omega (arith, length-take {A = ℕ}) in
    omega (
      arith,
      c.loop-v.invariant,
      ap ones (byte_there a.tape.now a.from a.n j h),
      ones_most a.tape.now (λ i. (c.type_inv.tape i).fits) a.from j,
      ones-le 8 (get_or a.tape.now (a.from + j) 0) (c.type_inv.tape (a.from + j)).fits,
    )

pub loop-v-preserved : goal.loop-v-preserved
unfolding ones_from
loop-v-preserved c =
    let a = c.args in
    let j = c.loop-v.v-index in
    let h : j < a.n = omega (arith, length-take {A = ℕ}) in
    rw (byte_there a.tape.now a.from a.n j h, add-one, c.loop-v.invariant)
