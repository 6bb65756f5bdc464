-- `block_name` meets its contract: the dry run tells the length, and the run is made where the name fits. Assumes nothing.
use Rattle.std.proofs.Common.{arith}
use Rattle.ask.proofs.Named.{name_asks, name_short, name_told}
use Rattle.ask.proofs.naming.block_name.Goals as goal

pub put-n-requires : goal.put-n-requires
put-n-requires c = let n = name_asks _ _ _ c.in_ok-r.ensures in (n.body, n.name, n.short)

pub returns-then-out-n : goal.returns-then-out-n
returns-then-out-n c =
    let h = name_short _ _ _ c.in_ok-r.ensures c.args.out.now c.put-n.ensures (omega arith) in
    record { value = h.0; out_after = h.1 }

pub put-requires : goal.put-requires
put-requires c = let n = name_asks _ _ _ c.in_ok-r.ensures in (n.body, n.name, n.short)

pub returns : goal.returns
returns c =
    let h = name_told _ _ _ c.in_ok-r.ensures c.put-n.ensures c.put.ensures (omega arith) in
    record { value = h.0; out_after = h.1 }
