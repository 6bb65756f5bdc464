-- What the contracts of the lines' functions cite: a line's parts, and what every load's tape has. Definitions alone; assumes nothing.
use Rattle.std.specs.Prelude.{ℕ, ◌+◌, ◌*◌, ◌^◌, ◌≤◌, ◌<◌, ◌≡◌, true, List, ◌++◌, length, eqb}
use Rattle.text_out.specs.Out.{ascii, decimal}
use Rattle.rows.specs.declared.Block.{Block}
use Rattle.rows.specs.Table.{get}
use Rattle.rows.specs.Rows.{block}
use Rattle.rows.specs.Well.{well_numbers}
use Rattle.text_name.specs.Names.{name_of}
use Rattle.play_entries.specs.declared.Duration.{Duration}
use Rattle.play_entries.specs.Mounted.{tape_size}
use Rattle.text_listing.specs.Shown.{shown}
use Rattle.text_listing.specs.Lines.{time_text, mark_text}

-- a row's line in two parts: number, mark and size; T-states and name
abbrev pub row_head_text : ℕ → Block → List ℕ
row_head_text i r = decimal i ++ ascii " " ++ mark_text (eqb r.selectable 1) ++ ascii " " ++ decimal r.size ++ ascii " "

abbrev pub row_tail_text : Duration → List ℕ → List ℕ
row_tail_text d name = time_text d ++ ascii " " ++ shown name ++ ascii "\n"

-- row i is lent, its data and its name lie in the tape, its numbers are within their limits, and its name is at most 510 bytes long
pub record ReadyRow (bytes blocks : List ℕ) (i : ℕ) : Type 0 where
  pub lent : i * block.width + block.width ≤ length blocks
  pub inside : (get block blocks i).start + (get block blocks i).size ≤ tape_size bytes
  pub named : (get block blocks i).text + (get block blocks i).chars ≤ tape_size bytes
  pub numbers : well_numbers (get block blocks i) ≡ true
  pub sound : (get block blocks i).sound < 2 ^ 50
  pub short : length (name_of bytes (get block blocks i)) ≤ 510

-- so is each of the first n, which are at most 512
pub record Ready (bytes blocks : List ℕ) (n : ℕ) : Type 0 where
  pub few : n ≤ 512
  pub rows : (i : ℕ) → i < n → ReadyRow bytes blocks i
