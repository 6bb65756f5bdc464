-- The queries of a mounted tape (rules 28, 30, 31, 36, 112). Definitions alone; assumes nothing.
use Rattle.std.specs.Prelude.{ℕ, zero, suc, ◌+◌, Bool, true, ◌&&◌, ◌||◌, List, ◌≡◌, leb, eqb, length, Result, Ok, Err}
use Rattle.law_base.specs.Rules.{◌⇒◌, ◌∣◌}
use Rattle.refusals.specs.declared.Refusal.{Refusal}
use Rattle.refusals.specs.declared.Refusal.TheVariants.{NoBlock, NoRoom, BadRow}
use Rattle.refusals.specs.Refusals.{no_room, answer_no}
use Rattle.rows.specs.declared.Block.{Block}
use Rattle.text_out.specs.Out.{fits, told}
use Rattle.play_entries.specs.declared.Duration.{Duration}
use Rattle.play_entries.specs.Places.{Tape, block_in}
use Rattle.play_entries.specs.Stored.{row_lasts, rows_time}
use Rattle.play_entries.specs.Mounted.{overfull, well_row}
use Rattle.text_name.specs.Names.{name_of}

-- what is told of a row, where the query isn't refused
unfoldable pub told_of : {A : Type 0} → (Block → A) → Result Block Refusal → Result A Refusal
told_of f (Ok r) = Ok (f r)
told_of f (Err k) = Err k

-- QUERIES: the row of block i; or 11 for the count, 8, 11 for the row
unfoldable pub asked : Tape → ℕ → Result Block Refusal
asked w i = overfull w ⇒ Err BadRow ∣ leb w.count i ⇒ Err NoBlock ∣ well_row w i ⇒ Ok (block_in w i) ∣ Err BadRow

-- 0 where none of them is given
abbrev pub refusal_of : Tape → ℕ → ℕ
refusal_of w i = answer_no (asked w i)

-- how many blocks the tape has
unfoldable pub len_of : Tape → Result ℕ Refusal
len_of w = overfull w ⇒ Err BadRow ∣ Ok w.count

-- a block's data size
unfoldable pub size_of : Tape → ℕ → Result ℕ Refusal
size_of w i = told_of (λ r. r.size) (asked w i)

-- its selectable mark
unfoldable pub selectable_of : Tape → ℕ → Result Bool Refusal
selectable_of w i = told_of (λ r. eqb r.selectable 1) (asked w i)

-- its T-states with its pause, or that it never ends, by its row's words
unfoldable pub time_of : Tape → ℕ → Result Duration Refusal
time_of w i = told_of row_lasts (asked w i)

-- its name, as text
abbrev pub name_in : Tape → ℕ → List ℕ
name_in w i = name_of w.bytes (block_in w i)

-- the text's length, or that the output buffer is shorter than the text
unfoldable pub length_or_no_room : List ℕ → List ℕ → Result ℕ Refusal
length_or_no_room text out = fits text out ⇒ Ok (length text) ∣ Err NoRoom

-- .. of the name of a row, where the query isn't refused
unfoldable pub named_or : Tape → List ℕ → Result Block Refusal → Result ℕ Refusal
named_or w out (Ok r) = length_or_no_room (name_of w.bytes r) out
named_or w out (Err k) = Err k

unfoldable pub name_answer : Tape → ℕ → List ℕ → Result ℕ Refusal
name_answer w i out = named_or w out (asked w i)

-- the output bytes after it: a refusal writes no byte, bytes past the text stay
unfoldable pub name_bytes : Tape → ℕ → List ℕ → List ℕ
name_bytes w i out = eqb (refusal_of w i) 0 ⇒ told (name_in w i) out ∣ out

-- LOADING TIME, by the rows' words. Of the n rows from block b on those up to and including the first stop are needed,
-- also behind the last sound
unfoldable pub well_to_stop : Tape → ℕ → ℕ → Bool
well_to_stop w b zero = true
well_to_stop w b (suc n) = well_row w b && (eqb (block_in w b).endless 1 || well_to_stop w (b + 1) n)

unfoldable pub loading_of : Tape → Result ℕ Refusal
loading_of w =
    overfull w ⇒ Err BadRow
    ∣ well_to_stop w 0 w.count ⇒ Ok (rows_time w)
    ∣ Err BadRow

-- the number for no (rule 20) is 0 in each answer, but for a name's where the lent bytes are shorter than it: 10
pub record EachAnswered (w : Tape) (i : ℕ) : Type 0 where
  pub len : answer_no (len_of w) ≡ 0
  pub size : answer_no (size_of w i) ≡ 0
  pub selectable : answer_no (selectable_of w i) ≡ 0
  pub lasts : answer_no (time_of w i) ≡ 0
  pub name : (out : List ℕ) → answer_no (name_answer w i out) ≡ (fits (name_in w i) out ⇒ 0 ∣ no_room)
  pub loading : answer_no (loading_of w) ≡ 0
