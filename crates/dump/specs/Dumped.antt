-- What the program `dump` prints of its input, line by line (rules 110, 145). Definitions alone; assumes nothing.
use Rattle.std.specs.Prelude.{ℕ, ◌≡◌, List, [], ◌∷◌, ltb, leb, length, drop}
use Rattle.law_base.specs.Rules.{◌⇒◌, ◌∣◌}
use Rattle.refusals.specs.Refusals.{bad_model, tape_long}
use Rattle.load_source.specs.Source.{Load, no}
use Rattle.load_tape.specs.Load.{block_table, tone_table}
use Rattle.listing.specs.Listing.{block_words, tone_words, loaded_of}
use Rattle.prog_model.specs.Models.{model_of}
use Rattle.prog_tape.specs.declared.Opening.{Opening}
use Rattle.prog_tape.specs.Lines.{load_lines, Opens}

-- what is loaded of an input: 1 for a byte that names no model, or none; 2 over 65,535 bytes; then what the load gives
unfoldable pub load_heard : List ℕ → Load
load_heard [] = no bad_model
load_heard (b ∷ tape) =
    leb 3 (model_of b) ⇒ no bad_model
    ∣ ltb 65535 (length tape) ⇒ no tape_long
    ∣ loaded_of tape (model_of b)

-- THE LINES of a dump
abbrev pub dump_lines : List ℕ → List (List ℕ)
dump_lines input = load_lines (drop 1 input) (load_heard input)

-- what is left with the first line of what is loaded of an input; and with that of a refusal by k, in tables of B and N words, whatever the tape's bytes
unfoldable pub FirstHeard : List ℕ → Opening → List ℕ → List ℕ → List ℕ → List ℕ → Type 0
FirstHeard input o bt tt out out' = Opens block_words tone_words (drop 1 input) (load_heard input) o bt tt out out'

unfoldable pub FirstRefused : ℕ → ℕ → ℕ → Opening → List ℕ → List ℕ → List ℕ → List ℕ → Type 0
FirstRefused B N k o bt tt out out' = (s : List ℕ) → Opens B N s (no k) o bt tt out out'

-- the tables are as the load leaves them
pub record Dumping (input bt tt : List ℕ) : Type 0 where
  pub blocks : bt ≡ block_table block_words (load_heard input)
  pub tones : tt ≡ tone_table tone_words (load_heard input)
