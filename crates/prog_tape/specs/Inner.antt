-- What the contracts of a line's functions cite: its last two parts, and the row that it is of. Definitions alone; assumes nothing.
use Rattle.std.specs.Prelude.{ℕ, ◌≡◌, true, List, ◌++◌}
use Rattle.rows.specs.declared.Tone.{Tone}
use Rattle.rows.specs.Table.{get}
use Rattle.rows.specs.Rows.{block}
use Rattle.rows.specs.Well.{well_block}
use Rattle.play_entries.specs.Mounted.{tape_size}
use Rattle.text_out.specs.Out.{ascii}
use Rattle.text_view.specs.Dump.{hex_all, tones_text}
use Rattle.text_listing.specs.Inner.{ReadyRow}

abbrev pub data_text : List ℕ → List ℕ
data_text bytes = ascii " data=" ++ hex_all bytes

abbrev pub pulses_text : List Tone → List ℕ
pulses_text tones = ascii " tones=" ++ tones_text tones ++ ascii "\n"

-- what a block's line is written from: row i is ready, as for a listing, and well formed with its tone rows
pub record ReadyLine (bytes tones blocks : List ℕ) (i : ℕ) : Type 0 where
  pub row : ReadyRow bytes blocks i
  pub well : well_block (tape_size bytes) tones (get block blocks i) ≡ true
