-- THE LEVEL OF A DOCUMENT ROW'S ENTRY by the line before it, and that line from what a pass gathered. Definitions alone; assumes nothing.
use Rattle.std.specs.Prelude.{ℕ, ◌+◌, ◌*◌, ◌%◌, ◌≤◌, ◌≡◌, Bool, true, false, List, eqb, length}
use Rattle.law_base.specs.Rules.{◌⇒◌, ◌∣◌}
use Rattle.law_pulses.specs.Play.{Level, low}
use Rattle.rows.specs.Table.{get, capacity_of}
use Rattle.rows.specs.Rows.{tone, block, tone_most}
use Rattle.rows.specs.declared.Block.{Block}
use Rattle.rows_well.specs.declared.Seen.{Seen}
use Rattle.rows_well.specs.Seen.{unseen, seen_of}
use Rattle.play_levels.specs.declared.Line.{Line}
use Rattle.play_levels.specs.Voiced.{lined}
use Rattle.play_levels.specs.Closed.{begin_of, flipped, first_level}
use Rattle.play_entries.specs.declared.Phase.{Phase}
use Rattle.play_entries.specs.declared.Phase.TheVariants.{Start, Tones, Data, Edge, Pause}
use Rattle.play_entries.specs.Entries.{tone_at, start_level}
use Rattle.play_entries.specs.Places.{has_entry}
use Rattle.play_voice.specs.declared.Heard.{Heard}

-- the tone rows below an entry whose line its level needs: of a pause, where it leaves the level
abbrev pub pause_below : Block → ℕ
pause_below r = eqb r.endless 1 ⇒ 0 ∣ eqb r.pause 0 ⇒ r.tones ∣ 0

unfoldable pub rows_below : Block → Phase → ℕ
rows_below r Start = 0
rows_below r (Tones i p h) = i
rows_below r (Data pos k h) = r.tones
rows_below r Edge = r.tones
rows_below r Pause = pause_below r

-- a document row's entry, l being the line behind those rows
abbrev pub pause_by : Block → Line → Level
pause_by r l = eqb r.endless 1 ⇒ low ∣ eqb r.pause 0 ⇒ l.current ∣ low

unfoldable pub level_by : List ℕ → Block → Phase → Line → Level
level_by tones r Start l = start_level r
level_by tones r (Tones i p h) l = flipped h (first_level (tone_at tones r i) l p)
level_by tones r (Data pos k h) l = flipped h l.current
level_by tones r Edge l = l.current
level_by tones r Pause l = pause_by r l

-- whether it asks for the level last played: a tone row of begin 1
unfoldable pub asks_played : List ℕ → Block → Phase → Bool
asks_played tones r Start = false
asks_played tones r (Tones i p h) = eqb (begin_of (tone_at tones r i)) 1
asks_played tones r (Data pos k h) = false
asks_played tones r Edge = false
asks_played tones r Pause = false

-- the line behind rows of begin 0, as far as the current level goes: turned where they turn it an odd number of times
abbrev pub turned_line : Block → Seen → Line
turned_line r s = lined (flipped (eqb (s.turns % 2) 1) (eqb r.level 1)) (eqb r.played 1)

-- nothing heard
abbrev pub silence : Heard
silence = record { block = 0; rows = 0; seen = unseen }

-- the first n tone rows of block b, whose row is r
abbrev pub heard_to : List ℕ → Block → ℕ → ℕ → Heard
heard_to tones r b n = record { block = b; rows = n; seen = seen_of tones r.tone n }

-- what was heard is of the rows that it says
abbrev pub ToldSeen : List ℕ → List ℕ → Heard → Type 0
ToldSeen tones blocks h = h.seen ≡ seen_of tones (get block blocks h.block).tone h.rows

-- block b's row
abbrev pub row_at : List ℕ → ℕ → Block
row_at blocks b = get block blocks b

-- block b's row and its tone rows are lent, and it has an entry of this phase
pub record Standing (tones blocks : List ℕ) (b : ℕ) (f : Phase) : Type 0 where
  pub row : b * block.width + block.width ≤ length blocks
  pub rows : (row_at blocks b).tone + (row_at blocks b).tones ≤ capacity_of tone tone_most tones
  pub entry : has_entry tones (row_at blocks b) f ≡ true
