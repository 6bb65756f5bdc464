-- WHAT `trace` PRINTS of its input (rule 146). Definitions alone; assumes nothing.
use Rattle.std.specs.Prelude.{ℕ, ◌*◌, ◌≡◌, Bool, not, ◌&&◌, List, [], ◌∷◌, ◌++◌, ltb, eqb, length, get_or, take, drop, Result, Ok, Err}
use Rattle.text_out.specs.Out.{refused_line}
use Rattle.io.specs.Counts.{IsPrefixLen}
use Rattle.law_base.specs.Rules.{◌⇒◌, ◌∣◌}
use Rattle.refusals.specs.Refusals.{bad_model, tape_long, no_position}
use Rattle.rows.specs.Rows.{block, tone}
use Rattle.play_entries.specs.Places.{Tape}
use Rattle.play_entries.specs.Mounted.{tape_of}
use Rattle.play_walk.specs.declared.Position.{Position}
use Rattle.play_walk.specs.declared.Reached.{Reached}
use Rattle.play_walk.specs.declared.Fault.{Fault}
use Rattle.play_walk.specs.Heads.{start_at, ended_in}
use Rattle.play_deck.specs.Deck.{block_at}
use Rattle.play_deck.specs.Calls.{position_in}
use Rattle.host_run.specs.Runs.{player_of}
use Rattle.load_blocks.specs.Adds.{Lent}
use Rattle.load_source.specs.Source.{Load}
use Rattle.load_tape.specs.declared.Loaded.{Loaded}
use Rattle.load_tape.specs.declared.NotLoaded.{NotLoaded}
use Rattle.load_tape.specs.Load.{load_named, answer_of, not_loaded_no, block_table, tone_table}
use Rattle.text_trace.specs.Lines.{line_of}
use Rattle.prog_model.specs.Models.{model_of}
use Rattle.prog_calls.specs.Playback.{number_in, calls_in, tape_in, counts_in, is_description}

-- the source's run ends with the tape
unfoldable pub ends_run : Bool → Result Reached Fault → Bool
ends_run measured r = not measured && ended_in r

-- THE TEXT OF A RUN from a position: a line for each call, of the player's answer and of the block where it leaves the head; the next call
-- is from there
unfoldable pub run_text : Bool → Tape → Position → List ℕ → List ℕ
run_text measured w q [] = []
run_text measured w q (n ∷ ns) =
    let r = player_of measured w q n in
    let there = position_in q r in
    line_of measured r (block_at w there) ++ (ends_run measured r ⇒ [] ∣ run_text measured w there ns)

-- so many rows are lent to the load
abbrev pub trace_lent : Lent
trace_lent = record { blocks = 512; tones = 2048 }

-- a run from a block's start over the tables that a load of the bytes s leaves; or the load's refusal
unfoldable pub loaded_text : Bool → List ℕ → ℕ → List ℕ → Load → Result Loaded NotLoaded → List ℕ
loaded_text measured s from ns l (Ok d) =
    run_text measured (tape_of s (tone_table (2048 * tone.width) l) (block_table (512 * block.width) l) d.blocks) (start_at from) ns
loaded_text measured s from ns l (Err e) = refused_line (not_loaded_no e)

unfoldable pub tape_text : Bool → ℕ → List ℕ → ℕ → List ℕ → List ℕ
tape_text measured model s from ns =
    let l = load_named trace_lent s model in
    loaded_text measured s from ns l (answer_of l)

-- of a description and its tape: 2 for a tape over 65,535 bytes
unfoldable pub described_text : ℕ → List ℕ → List ℕ
described_text model s =
    ltb 65535 (length (tape_in s)) ⇒ refused_line tape_long
    ∣ tape_text (eqb (get_or s 1 0) 0x6D) model (tape_in s) (number_in s 2 4) (counts_in (drop 8 s) (calls_in s))

-- THE TEXT OF AN INPUT: 1 for the model's byte, or none; 9 for any other fault of the description; then 2, the load's refusal, or the run
unfoldable pub trace_text : List ℕ → List ℕ
trace_text s =
    eqb (length s) 0 ⇒ refused_line bad_model
    ∣ eqb (model_of (get_or s 0 0)) 3 ⇒ refused_line bad_model
    ∣ not (is_description s) ⇒ refused_line no_position
    ∣ described_text (model_of (get_or s 0 0)) s

-- the first r bytes of `out` are the text
abbrev pub Prints : List ℕ → ℕ → List ℕ → Type 0
Prints t r out = IsPrefixLen r out × (take r out ≡ t)
