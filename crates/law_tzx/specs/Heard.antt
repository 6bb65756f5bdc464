-- The piece at the head of a tape in both readings, for worked examples. Definitions alone; assumes nothing.
use Rattle.std.specs.Prelude.{ℕ, Bool, true, false, ◌&&◌, List, [], ◌∷◌, eqb}
use Rattle.refusals.specs.Refusals.{generalised}
use Rattle.rows.specs.Table.{table_of}
use Rattle.rows.specs.Rows.{tone}
use Rattle.cut_grammar.specs.declared.Taken.{Taken}
use Rattle.cut_grammar.specs.declared.Taken.TheVariants as taken
use Rattle.cut_grammar.specs.Cut.{cut_at}
use Rattle.load_state.specs.declared.Halt.TheVariants.{Refusal, Length}
use Rattle.load_state.specs.Parser.{Out, on, no as halt, empty}
use Rattle.load_blocks.specs.Sounds.{origin_at}
use Rattle.load_blocks.specs.Adds.{Lent}
use Rattle.load_source.specs.Source as source
use Rattle.law_tzx.specs.Format.{PulseLength, lasts, forever, Said, sounds, unsaid, format_of, lengths_of, lasting}
use Rattle.law_tzx.specs.Cut.{format_cut}
use Rattle.law_tzx.specs.Kept.{kept, lengths, entries_from}

-- lengths; a refusal; an error; or nothing that is said
pub data HeardOn : Type 0 where
  plays : List PulseLength → HeardOn
  refused : ℕ → HeardOn
  errs : HeardOn
  nothing : HeardOn

unfoldable pub heard_in : Said → HeardOn
heard_in (sounds x) = plays (lasting (lengths_of x))
heard_in unsaid = nothing

unfoldable pub played_by : List ℕ → Out → HeardOn
played_by s (on t) = plays (lasting (lengths (entries_from s (table_of tone t.tones 0) 0 t.blocks)))
played_by s (halt (Refusal k)) = refused k
played_by s (halt (Length kind at n)) = errs

abbrev pub most : Lent
most = record { blocks = 4096; tones = 65536 }

-- what the format says of a piece, and what the source reading plays, on 48K
unfoldable pub format_on : List ℕ → Taken → HeardOn
format_on s taken.End = nothing
format_on s (taken.Whole kind at next piece) = heard_in (format_of true s piece)
format_on s (taken.Unknown kind described) = nothing
format_on s (taken.Short kind p w) = nothing
format_on s (taken.Overflow kind p) = nothing

unfoldable pub source_on : List ℕ → Taken → HeardOn
source_on s taken.End = nothing
source_on s (taken.Whole kind at next piece) = played_by s (source.act most s 0 (origin_at kind at) piece empty)
source_on s (taken.Unknown kind described) = nothing
source_on s (taken.Short kind p w) = errs
source_on s (taken.Overflow kind p) = refused generalised

unfoldable pub kept_on : List ℕ → Taken → Bool
kept_on s taken.End = false
kept_on s (taken.Whole kind at next piece) = kept s piece
kept_on s (taken.Unknown kind described) = false
kept_on s (taken.Short kind p w) = false
kept_on s (taken.Overflow kind p) = false

abbrev pub format_at : List ℕ → HeardOn
format_at s = format_on s (format_cut s 0)

abbrev pub source_heard : List ℕ → HeardOn
source_heard s = source_on s (cut_at s 0 source.full)

abbrev pub kept_at : List ℕ → Bool
kept_at s = kept_on s (cut_at s 0 source.full)

-- two answers, compared
unfoldable pub same_length : PulseLength → PulseLength → Bool
same_length (lasts m) (lasts n) = eqb m n
same_length (lasts m) forever = false
same_length forever (lasts n) = false
same_length forever forever = true

unfoldable pub same_lengths : List PulseLength → List PulseLength → Bool
same_lengths [] [] = true
same_lengths [] (m ∷ ms) = false
same_lengths (l ∷ ls) [] = false
same_lengths (l ∷ ls) (m ∷ ms) = same_length l m && same_lengths ls ms

unfoldable pub same_heard : HeardOn → HeardOn → Bool
same_heard (plays ls) (plays ms) = same_lengths ls ms
same_heard (plays ls) (refused k) = false
same_heard (plays ls) errs = false
same_heard (plays ls) nothing = false
same_heard (refused j) (plays ms) = false
same_heard (refused j) (refused k) = eqb j k
same_heard (refused j) errs = false
same_heard (refused j) nothing = false
same_heard errs (plays ms) = false
same_heard errs (refused k) = false
same_heard errs errs = true
same_heard errs nothing = false
same_heard nothing (plays ms) = false
same_heard nothing (refused k) = false
same_heard nothing errs = false
same_heard nothing nothing = true
