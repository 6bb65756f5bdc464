-- A listing's lines (rules 114, 115): a block's row as text, and the first n rows. Definitions alone; assumes nothing.
use Rattle.std.specs.Prelude.{ℕ, zero, suc, Bool, List, [], ◌++◌, eqb}
use Rattle.law_base.specs.Rules.{◌⇒◌, ◌∣◌}
use Rattle.text_out.specs.Out.{ascii, decimal}
use Rattle.play_entries.specs.declared.Duration.{Duration}
use Rattle.play_entries.specs.Stored.{row_lasts}
use Rattle.play_entries.specs.Places.{Tape, block_in}
use Rattle.text_name.specs.Names.{name_of}
use Rattle.text_listing.specs.Shown.{shown}
use Rattle.text_value.specs.Values.{lasts_text}

-- T-states (`stop` if endless)
unfoldable pub time_text : Duration → List ℕ
time_text d = lasts_text (ascii "stop") d

-- selectable mark (`*` or `-`)
unfoldable pub mark_text : Bool → List ℕ
mark_text selectable = selectable ⇒ ascii "*" ∣ ascii "-"

-- A ROW has number, selectable mark, data size, T-states, name; the T-states of each row are handed in
unfoldable pub row_text_by : (ℕ → Duration) → Tape → ℕ → List ℕ
row_text_by lasts w i =
    decimal i ++ ascii " "
    ++ mark_text (eqb (block_in w i).selectable 1) ++ ascii " "
    ++ decimal (block_in w i).size ++ ascii " "
    ++ time_text (lasts i) ++ ascii " "
    ++ shown (name_of w.bytes (block_in w i)) ++ ascii "\n"

-- the first n rows
unfoldable pub rows_text_by : (ℕ → Duration) → Tape → ℕ → List ℕ
rows_text_by lasts w zero = []
rows_text_by lasts w (suc n) = rows_text_by lasts w n ++ row_text_by lasts w n

-- by the rows' own words
abbrev pub row_text : Tape → ℕ → List ℕ
row_text w = row_text_by (λ i. row_lasts (block_in w i)) w

abbrev pub rows_text : Tape → ℕ → List ℕ
rows_text w = rows_text_by (λ i. row_lasts (block_in w i)) w
