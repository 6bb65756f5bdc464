-- What the contracts of a run's loops cite: the lines of its rows, and of a run that is refused from its start on. Definitions alone;
-- assumes nothing.
use Rattle.std.specs.Prelude.{ℕ, zero, suc, Bool, List, [], ◌∷◌, ◌++◌}
use Rattle.law_base.specs.Rules.{◌⇒◌, ◌∣◌}
use Rattle.play_entries.specs.Places.{Tape}
use Rattle.play_deck.specs.Deck.{block_at}
use Rattle.host_run.specs.declared.AnswerRow.{AnswerRow}
use Rattle.text_trace.specs.Lines.{line_of}
use Rattle.prog_calls.specs.Answers.{place_in, reached_in}
use Rattle.prog_calls.specs.Trace.{ends_run}

unfoldable pub line_in : Bool → Tape → AnswerRow → List ℕ
line_in measured w a = line_of measured (reached_in a) (block_at w (place_in a))

unfoldable pub lines_in : Bool → Tape → List AnswerRow → List ℕ
lines_in measured w [] = []
lines_in measured w (a ∷ more) = line_in measured w a ++ (ends_run measured (reached_in a) ⇒ [] ∣ lines_in measured w more)

-- the same line n times
unfoldable pub same_lines : ℕ → List ℕ → List ℕ
same_lines zero t = []
same_lines (suc n) t = t ++ same_lines n t
