-- Where the source reading departs from the format by a number alone: a 10's pilot, a loop's bodies. Definitions alone; assumes nothing.
use Rattle.std.specs.Prelude.{ℕ, zero, suc, ◌+◌, ◌≡◌, List, [], ◌∷◌, ◌++◌}
use Rattle.cut_grammar.specs.declared.Piece.TheVariants.{LoopEnd}
use Rattle.cut_grammar.specs.declared.Taken.TheVariants.{Whole}
use Rattle.cut_grammar.specs.Cut.{cut_at}
use Rattle.load_state.specs.Parser.{Parsed, Out, on}
use Rattle.load_blocks.specs.Adds.{Lent}
use Rattle.load_source.specs.Source.{full, thing, tzx_see}
use Rattle.law_tzx.specs.Format.{PulseLength, lasts, PulseTrain, lengths_of}

-- 10: one pilot pulse more, in front
unfoldable pub pulse_more : PulseTrain → List PulseLength
pulse_more x = lasts 2168 ∷ lengths_of x

-- so many times, one after the other
unfoldable pub repeated_lengths : ℕ → List PulseLength → List PulseLength
repeated_lengths zero ls = []
repeated_lengths (suc n) ls = ls ++ repeated_lengths n ls

-- 24, 25: a loop's pieces are played that many times in all; by the source reading once more
unfoldable pub source_times : ℕ → ℕ
source_times n = n + 1

-- THE PIECES OF A LOOP: from a place and a tape the source reading comes to another place and tape, past things of which none is a 25
pub data Between (lent : Lent) (s : List ℕ) (model : ℕ) : ℕ → Parsed → ℕ → Parsed → Type 0 where
  nothing_more : {at : ℕ} {t : Parsed} → Between lent s model at t at t
  one_more : {at next end : ℕ} {does : Parsed → Out} {t u v : Parsed} → tzx_see lent s model at ≡ thing next does
      → ((kind from past : ℕ) → cut_at s at full ≡ Whole kind from past LoopEnd → ⊥) → does t ≡ on u
      → Between lent s model next u end v
      → Between lent s model at t end v
