-- What it is for a contract to determine its operation:
-- any two outcomes that it permits are equal, the result and every word or byte lent to be written.
-- `Post` is the contract itself: what its `ensures` say of the arguments, the result and the arguments at exit.
-- Definitions alone; assumes nothing.
use Rattle.std.specs.Prelude.{ℕ, ◌≡◌, List, Result}
use borrow.Fn.Kinds.{ParamKind, ResultKind, Out, Dens, res_t, ended_of}
use contract.Lifetimes.{Lfts}
use denote.Triple.Clauses.{AtExit}
use Rattle.play_entries.specs.Places.{Tape}
use Rattle.play_walk.specs.declared.Reached.{Reached}
use Rattle.play_walk.specs.declared.Fault.{Fault}
use Rattle.play_deck.specs.declared.Head.{Head}
use Rattle.play_deck.specs.Deck.{play_mounted}

-- `written` picks what is lent to be written, as it is at exit
abbrev pub Determined : {W : Type 0} (n : ℕ) (ps : List (ParamKind n)) (r : ResultKind n) → Out n ps r
    → ((κs : Lfts n) → AtExit (ended_of n ps r) κs → W) → Type 0
Determined {W} n ps r Post written =
    (κs : Lfts n) (a : Dens κs ps) (z z' : (res_t r κs).Denot) (e e' : AtExit (ended_of n ps r) κs) → Post κs a z e
    → Post κs a z' e'
    → (z ≡ z') × (written κs e ≡ written κs e')

-- nothing is lent to be written
abbrev pub Answered : (n : ℕ) (ps : List (ParamKind n)) (r : ResultKind n) → Out n ps r → Type 0
Answered n ps r Post = (κs : Lfts n) (a : Dens κs ps) (z z' : (res_t r κs).Denot) (e e' : AtExit (ended_of n ps r) κs)
    → Post κs a z e → Post κs a z' e' → z ≡ z'

-- `play_head` is lent its head: its `ensures` are these two equations, the answer, and the head at exit
abbrev pub HeadAnswered : Tape → Head → ℕ → Result Reached Fault → Head → Type 0
HeadAnswered w h n r h' = (r ≡ (play_mounted w h n).answer) × (h' ≡ (play_mounted w h n).head)
