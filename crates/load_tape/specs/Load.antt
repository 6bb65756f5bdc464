-- What a load is and what it leaves: the source reading, then the naming pass; its answer, and every word of both lent tables.
-- Assumes nothing.
use Rattle.std.specs.Prelude.{ℕ, ◌≡◌, false, List, length, Result, Ok, Err}
use Rattle.refusals.specs.Refusals.{tape_bad}
use Rattle.rows.specs.Table.{table_of, zeros}
use Rattle.rows.specs.Rows.{block, tone}
use Rattle.load_state.specs.Parser.{Parsed, parsed_of}
use Rattle.load_blocks.specs.Adds.{Lent}
use Rattle.load_source.specs.Source.{Load, tzx, tapped, both_err, no, load_of}
use Rattle.text_name.specs.Names.{name_all}
use Rattle.load_tape.specs.declared.Format.{Format}
use Rattle.load_tape.specs.declared.Format.TheVariants.{Tap, Tzx}
use Rattle.load_tape.specs.declared.Loaded.{Loaded}
use Rattle.load_tape.specs.declared.NotLoaded.{NotLoaded}
use Rattle.load_tape.specs.declared.NotLoaded.TheVariants.{Unread, Refused}

-- the naming pass of `Tape::new`, over the blocks of a tape that was read from the bytes s
unfoldable pub named_tape : List ℕ → Parsed → Parsed
named_tape s t = parsed_of (name_all s false t.blocks) t.tones t.pending t.body

-- a refusal stays as it is, with what it tells
unfoldable pub named_load : List ℕ → Load → Load
named_load s (tzx t) = tzx (named_tape s t)
named_load s (tapped t) = tapped (named_tape s t)
named_load s (both_err f g) = both_err f g
named_load s (no k) = no k

-- rule 10: `new_tap`, `new_tzx`, the naming pass of `Tape::new`
unfoldable pub load_named : Lent → List ℕ → ℕ → Load
load_named lent s model = named_load s (load_of lent s model)

-- the values of a loaded tape (rule 134); what both attempts met, or a refusal's number alone (rule 33)
abbrev pub loaded_as : Format → ℕ → ℕ → Loaded
loaded_as format blocks tones = record { format = format; blocks = blocks; tones = tones }

unfoldable pub answer_of : Load → Result Loaded NotLoaded
answer_of (tzx t) = Ok (loaded_as Tzx (length t.blocks) (length t.tones))
answer_of (tapped t) = Ok (loaded_as Tap (length t.blocks) (length t.tones))
answer_of (both_err f g) = Err (Unread f g)
answer_of (no k) = Err (Refused k)

-- a load of such an answer
abbrev pub not_loaded : NotLoaded → Load
not_loaded (Unread f g) = both_err f g
not_loaded (Refused k) = no k

-- THE NUMBER FOR NO of an answer, 0 for none: where both attempts err it is 3
abbrev pub not_loaded_no : NotLoaded → ℕ
not_loaded_no (Unread f g) = tape_bad
not_loaded_no (Refused k) = k

unfoldable pub refusal_no : Result Loaded NotLoaded → ℕ
refusal_no (Ok l) = 0
refusal_no (Err e) = not_loaded_no e

-- the rows, then zeros up to the lent words; all zeros after a refusal
unfoldable pub block_table : ℕ → Load → List ℕ
block_table B (tzx t) = table_of block t.blocks B
block_table B (tapped t) = table_of block t.blocks B
block_table B (both_err f g) = zeros B
block_table B (no k) = zeros B

unfoldable pub tone_table : ℕ → Load → List ℕ
tone_table N (tzx t) = table_of tone t.tones N
tone_table N (tapped t) = table_of tone t.tones N
tone_table N (both_err f g) = zeros N
tone_table N (no k) = zeros N

pub record Leaves (B N : ℕ) (l : Load) (a : Result Loaded NotLoaded) (bt tt : List ℕ) : Type 0 where
  pub answer : a ≡ answer_of l
  pub blocks : bt ≡ block_table B l
  pub tones : tt ≡ tone_table N l
