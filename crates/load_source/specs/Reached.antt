-- Whether the reading of a TZX reaches a 2A: reads one whole with length 0, also in a reading that errs later. Assumes nothing.
use Rattle.std.specs.Prelude.{ℕ, zero, suc, Bool, false, ◌||◌, List, length, ltb}
use Rattle.law_base.specs.Rules.{◌⇒◌, ◌∣◌}
use Rattle.cut_grammar.specs.declared.Taken.{Taken}
use Rattle.cut_grammar.specs.declared.Taken.TheVariants as taken
use Rattle.cut_grammar.specs.declared.Heading.{Heading}
use Rattle.cut_grammar.specs.declared.Heading.TheVariants as heading
use Rattle.cut_grammar.specs.Cut.{cut_at, head_at}
use Rattle.load_state.specs.Parser.{Parsed, Out, on, no as halt, empty}
use Rattle.load_blocks.specs.Adds.{Lent}
use Rattle.load_blocks.specs.Deeds.{asks48}
use Rattle.load_source.specs.Meaning.{deed_of}
use Rattle.load_source.specs.Source.{See, the_end, bad, refuses, thing, full, tzx_see}

-- a 2A that is whole, with length 0
unfoldable pub stops_at : List ℕ → Taken → Bool
stops_at s taken.End = false
stops_at s (taken.Whole kind from next piece) = asks48 (deed_of s piece)
stops_at s (taken.Unknown kind described) = false
stops_at s (taken.Short kind p w) = false
stops_at s (taken.Overflow kind p) = false

-- a reading that goes on goes on with what stands next: as `read_on` and `seeing` of Source do
unfoldable pub going_on : Out → (Parsed → Bool) → Bool
going_on (on t) k = k t
going_on (halt j) k = false

unfoldable pub passing : See → Parsed → (ℕ → Parsed → Bool) → Bool
passing the_end t k = false
passing (bad f) t k = false
passing (refuses j) t k = false
passing (thing next does) t k = going_on (does t) (k next)

module _ (lent : Lent) (s : List ℕ) where
  -- n things at the most, from a place on, as `fold_from` takes them
  unfoldable pub reached_from : ℕ → ℕ → ℕ → Parsed → Bool
  reached_from model zero at t = false
  reached_from model (suc n) at t = stops_at s (cut_at s at full) || passing (tzx_see lent s model at) t (reached_from model n)

  unfoldable pub reached_behind : ℕ → Heading → Bool
  reached_behind model (heading.Version major minor) = reached_from model (length s) 10 empty
  reached_behind model heading.BadSignature = false
  reached_behind model (heading.Short p w) = false

  -- a tape over 1,048,576 bytes is not read
  unfoldable pub reached_by : ℕ → Bool
  reached_by model = ltb 1048576 (length s) ⇒ false ∣ reached_behind model (head_at s)

  -- no matter of the model: the run followed is the 128K's, and up to the first 2A the runs are the same (`reached_any` of proofs/Models)
  unfoldable pub reaches_2a : Bool
  reaches_2a = reached_by 1
