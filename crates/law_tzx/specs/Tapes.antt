-- A tape of kept pieces alone, and what the format plays of such a tape: its pieces one after the other.
-- Definitions alone; assumes nothing.
use Rattle.std.specs.Prelude.{ℕ, zero, suc, Bool, false, ◌&&◌, ◌||◌, not, List, [], ◌++◌, length, eqb}
use Rattle.cut_grammar.specs.declared.Taken.{Taken}
use Rattle.cut_grammar.specs.declared.Taken.TheVariants as taken
use Rattle.cut_grammar.specs.Cut.{cut_at}
use Rattle.load_source.specs.Source as source
use Rattle.law_tzx.specs.Format.{PulseLength, Said, sounds, unsaid, format_of, lengths_of}
use Rattle.law_tzx.specs.Cut.{format_cut}
use Rattle.law_tzx.specs.Kept.{kept}

-- what is open: a group, a loop
pub record Open : Type 0 where
  pub group : Bool
  pub loop : Bool

abbrev pub none_open : Open
none_open = record { group = false; loop = false }

-- a 21 opens a group, a 24 a loop; groups don't nest, nor do loops. What ends them, 22 and 25, is not kept
abbrev pub loop_opened : ℕ → Open → Open
loop_opened kind o = record { group = o.group || eqb kind 0x21; loop = o.loop || eqb kind 0x24 }

abbrev pub nests : ℕ → Open → Bool
nests kind o = (o.group && eqb kind 0x21) || (o.loop && eqb kind 0x24)

-- a piece that is kept, and what is asked of the place past it; of a loop without an end nothing is said
unfoldable pub kept_then : List ℕ → Open → Taken → (ℕ → Open → Bool) → Bool
kept_then s o taken.End k = not o.loop
kept_then s o (taken.Whole kind at next piece) k = (kept s piece && not (nests kind o)) && k next (loop_opened kind o)
kept_then s o (taken.Unknown kind described) k = false
kept_then s o (taken.Short kind p w) k = false
kept_then s o (taken.Overflow kind p) k = false

-- every piece from a place on is kept, and there are fewer than n
unfoldable pub kept_from : List ℕ → ℕ → ℕ → Open → Bool
kept_from s zero at o = false
kept_from s (suc n) at o = kept_then s o (cut_at s at source.full) (kept_from s n)

-- A TZX OF KEPT PIECES: they begin behind its head
unfoldable pub kept_tape : List ℕ → Bool
kept_tape s = kept_from s (length s) 10 none_open

unfoldable pub said_of : Said → List PulseLength
said_of (sounds x) = lengths_of x
said_of unsaid = []

unfoldable pub said_then : Bool → List ℕ → Taken → (ℕ → List PulseLength) → List PulseLength
said_then on48 s taken.End k = []
said_then on48 s (taken.Whole kind at next piece) k = said_of (format_of on48 s piece) ++ k next
said_then on48 s (taken.Unknown kind described) k = []
said_then on48 s (taken.Short kind p w) k = []
said_then on48 s (taken.Overflow kind p) k = []

-- the pieces from a place on, as the format cuts and plays them; none of them is a loop's end
unfoldable pub format_from : Bool → List ℕ → ℕ → ℕ → List PulseLength
format_from on48 s zero at = []
format_from on48 s (suc n) at = said_then on48 s (format_cut s at) (format_from on48 s n)

-- WHAT THE FORMAT PLAYS of it
unfoldable pub format_tape : Bool → List ℕ → List PulseLength
format_tape on48 s = format_from on48 s (length s) 10
