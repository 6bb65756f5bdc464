-- WHAT A POSITION COMES TO: its checks, the level there, and what was heard of tone rows on the way. Definitions alone; assumes nothing.
use Rattle.std.specs.Prelude.{ℕ, ◌+◌, ◌*◌, ◌≤◌, ◌≡◌, Bool, true, false, List, Result, Ok, Err, ltb, length}
use Rattle.law_base.specs.Rules.{◌⇒◌, ◌∣◌}
use Rattle.law_pulses.specs.Play.{Level, low}
use Rattle.rows.specs.Table.{capacity_of}
use Rattle.rows.specs.Rows.{tone, block, tone_most}
use Rattle.rows.specs.Well.{well_tones, well_block}
use Rattle.rows.specs.declared.Block.{Block}
use Rattle.rows_well.specs.Words.{well_words}
use Rattle.play_entries.specs.declared.Phase.{Phase}
use Rattle.play_entries.specs.Entries.{is_source}
use Rattle.play_entries.specs.Places.{Tape, level_at, level_in}
use Rattle.play_entries.specs.Source.{level_of}
use Rattle.play_voice.specs.declared.Heard.{Heard}
use Rattle.play_voice.specs.Voice.{silence, ToldSeen, row_at}
use Rattle.play_walk.specs.declared.Position.{Position}
use Rattle.play_walk.specs.declared.Fault.{Fault}
use Rattle.play_walk.specs.declared.Fault.TheVariants.{NotValid, NotFormed}
use Rattle.play_deck.specs.declared.Finding.{Finding}
use Rattle.play_deck.specs.Deck.{all_fine, judged}

abbrev pub finding : Level → Heard → Finding
finding v h = record { level = v; heard = h }

-- what a position at or past the count comes to, by whether it is a start with 0 left
abbrev pub past_found : Bool → Result Finding Fault
past_found true = Ok (finding low silence)
past_found false = Err NotValid

-- what an entry of a source row comes to, by whether so much may be left of it
abbrev pub source_found : Phase → Bool → Result Finding Fault
source_found f true = Ok (finding (level_of f) silence)
source_found f false = Err NotValid

-- what was heard on the way; nothing where it is refused
abbrev pub heard_on_way : Result Finding Fault → Heard
heard_on_way (Ok a) = a.heard
heard_on_way (Err f) = silence

-- a row that may be gone on with: a document row's tone rows are judged with the level
unfoldable pub ready_row : ℕ → List ℕ → Block → Bool
ready_row tape tones r = is_source r ⇒ well_block tape tones r ∣ well_words tape tones r

-- the level where a head stands; low past the last block
abbrev pub level_there : Tape → Position → Level
level_there w q = ltb q.block w.count ⇒ level_in w q.block q.phase ∣ low

-- a fine position: the level there; and what was heard is so
pub record Found (w : Tape) (q : Position) (a : Finding) : Type 0 where
  pub fine : judged w q ≡ all_fine
  pub level : a.level ≡ level_there w q
  pub told : ToldSeen w.tones w.blocks a.heard

-- WHAT IT COMES TO: where the checks are fine, what was found; or the refusal
abbrev pub Assayed : Tape → Position → Result Finding Fault → Type 0
Assayed w q (Ok a) = Found w q a
Assayed w q (Err f) = judged w q ≡ Err f

-- block b's row and its tone rows are lent
pub record Lending (tones blocks : List ℕ) (b : ℕ) : Type 0 where
  pub row : b * block.width + block.width ≤ length blocks
  pub rows : (row_at blocks b).tone + (row_at blocks b).tones ≤ capacity_of tone tone_most tones

-- a document row, well formed but for its tone rows: these, and whether so much may be left of its entry, decide
pub record Told (tones blocks : List ℕ) (b : ℕ) (f : Phase) (has : Bool) (a : Finding) : Type 0 where
  pub rows : well_tones tones (row_at blocks b).tone (row_at blocks b).tones ≡ true
  pub has_left : has ≡ true
  pub level : a.level ≡ level_at tones (row_at blocks b) f
  pub told : ToldSeen tones blocks a.heard

abbrev pub Sounded : List ℕ → List ℕ → ℕ → Phase → Bool → Result Finding Fault → Type 0
Sounded tones blocks b f has (Ok a) = Told tones blocks b f has a
Sounded tones blocks b f has (Err NotValid) = (well_tones tones (row_at blocks b).tone (row_at blocks b).tones ≡ true) × (has ≡ false)
Sounded tones blocks b f has (Err NotFormed) = well_tones tones (row_at blocks b).tone (row_at blocks b).tones ≡ false
