-- The loops of `run.read_pieces`.
use Prim.Native.Nat.{◌-◌}
use lib.ListN.{length}
use Rattle.load_state.specs.Parser.{empty}
use Rattle.load_source.specs.Source.{tzx_see, fold_from}
use Rattle.load_blocks.specs.Does.{lent_of}
use Rattle.load_source.proofs.Rest.{Rest}
use Rattle.load_source.proofs.run.read_pieces.Given as goal

abbrev pub invariant-loop-at : goal.invariant-loop-at
invariant-loop-at l = let see = tzx_see (lent_of (length l.initial.blocks) (length l.initial.tones)) l.tape l.model in
    Rest (length l.tape) see (length l.initial.blocks) (length l.initial.tones) l.at l.s l.blocks l.tones (fold_from see (length l.tape) 10 empty)

abbrev pub decreases-loop-at : goal.decreases-loop-at
decreases-loop-at l = length l.tape - l.at
