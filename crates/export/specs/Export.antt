-- What a C host gets of a position as words, a load and a name: the answer, and what is left of each lent row.
-- Definitions alone; assumes nothing.
use Rattle.std.specs.Prelude.{ℕ, Bool, List, [], ◌∷◌, ltb, leb, eqb, length, Option, Some, None, Result}
use Rattle.law_base.specs.Rules.{◌⇒◌, ◌∣◌}
use Rattle.refusals.specs.Refusals.{no_position, no_room, bad_row}
use Rattle.play_entries.specs.Places.{Tape}
use Rattle.play_entries.specs.Mounted.{overfull, well_row}
use Rattle.play_walk.specs.declared.Position.{Position}
use Rattle.ask.specs.Queries.{name_bytes}
use Rattle.play_deck.specs.Deck.{play_measured, play_source, play_mounted, block_at}
use Rattle.text_out.specs.Out.{told}
use Rattle.load_blocks.specs.Does.{lent_of}
use Rattle.load_source.specs.Source.{Load}
use Rattle.load_tape.specs.Load.{load_named}
use Rattle.load_tape.specs.declared.Loaded.{Loaded}
use Rattle.load_tape.specs.declared.NotLoaded.{NotLoaded}
use Rattle.host_words.specs.Words.{words_of, position_from}
use Rattle.host_run.specs.Runs.{run_no, run_table}
use Rattle.host_answers.specs.Answers.{Reply, refused_by, number_of, of_selected, of_reached, of_loaded}

-- WORDS THAT NAME NO POSITION are refused in rule 37's order, the first of them the block's number: 11 for the count, 9 at or past it,
-- 11 for its row, 9. With no word there is no row to look at
unfoldable pub misplaced_no : Tape → List ℕ → ℕ
misplaced_no w [] = overfull w ⇒ bad_row ∣ no_position
misplaced_no w (b ∷ ws) = overfull w ⇒ bad_row ∣ leb w.count b ⇒ no_position ∣ well_row w b ⇒ no_position ∣ bad_row

-- WITH A POSITION as words: what f says of it, or that refusal where they name none
unfoldable pub with_place : (Position → Reply) → Tape → List ℕ → Option Position → Reply
with_place f w ws (Some q) = f q
with_place f w ws None = refused_by (misplaced_no w ws)

-- a position's block, and both players' answers, from lent words
abbrev pub selected_at : Tape → List ℕ → Reply
selected_at w ws = with_place (λ q. of_selected (block_at w q)) w ws (position_from ws)

abbrev pub source_at : Tape → List ℕ → ℕ → Reply
source_at w ws n = with_place (λ q. of_reached (play_source w q n)) w ws (position_from ws)

abbrev pub measured_at : Tape → List ℕ → ℕ → Reply
measured_at w ws n = with_place (λ q. of_reached (play_measured w q n)) w ws (position_from ws)

-- what f says of the position that words name, or other
unfoldable pub from_place : {A : Type 0} → (Position → A) → A → Option Position → A
from_place f other (Some q) = f q
from_place f other None = other

-- A RUN OF CALLS from lent words: its number, and what is left of the table
abbrev pub run_number : Tape → List ℕ → List ℕ → List ℕ → ℕ
run_number w ws ns table = from_place (λ q. run_no w q ns table) (misplaced_no w ws) (position_from ws)

abbrev pub run_left : Bool → Tape → List ℕ → List ℕ → List ℕ → List ℕ
run_left measured w ws ns table = from_place (λ q. run_table measured w q ns table) table (position_from ws)

-- THE MOUNTED HEAD as lent words: where the call leaves it; a refusal, 10 too, leaves them as they were
unfoldable pub moved_to : Tape → Position → ℕ → List ℕ → List ℕ → List ℕ
moved_to w q n row ws =
    let p = play_mounted w (record { position = q }) n in
    eqb (number_of (of_reached p.answer) row) 0 ⇒ told (words_of p.head.position) ws ∣ ws

abbrev pub head_left : Tape → List ℕ → ℕ → List ℕ → List ℕ
head_left w ws n row = from_place (λ q. moved_to w q n row ws) ws (position_from ws)

-- the load of a tape for a model into lent tables
abbrev pub load_in : List ℕ → List ℕ → List ℕ → ℕ → Load
load_in blocks tones tape model = load_named (lent_of (length blocks) (length tones)) tape model

-- a load whose answer doesn't fit its row of three words is 10, before anything is read, and alters nothing
unfoldable pub load_number : Result Loaded NotLoaded → List ℕ → ℕ
load_number a row = ltb (length row) 3 ⇒ no_room ∣ (of_loaded a).no

unfoldable pub load_table : List ℕ → List ℕ → List ℕ → List ℕ
load_table row was now = ltb (length row) 3 ⇒ was ∣ now

-- a name's bytes are not written where there is no word for its length
unfoldable pub name_left : Tape → ℕ → List ℕ → List ℕ → List ℕ
name_left w i row out = ltb (length row) 1 ⇒ out ∣ name_bytes w i out
