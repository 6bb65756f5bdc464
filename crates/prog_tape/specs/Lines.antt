-- The text of a load, line by line (rule 145). Definitions alone; assumes nothing.
use Rattle.std.specs.Prelude.{ℕ, suc, ◌+◌, ◌≡◌, List, [], ◌∷◌, ◌++◌, length, get_or, Result, Ok, Err}
use Rattle.text_out.specs.Out.{ascii, decimal, Fitted, refused_line}
use Rattle.load_source.specs.Source.{Load, tzx, tapped, both_err, no}
use Rattle.load_tape.specs.declared.Loaded.{Loaded}
use Rattle.load_tape.specs.declared.NotLoaded.{NotLoaded}
use Rattle.load_tape.specs.Load.{answer_of, not_loaded_no, block_table, tone_table}
use Rattle.text_listing.specs.Page.{format_text}
use Rattle.text_view.specs.View.{View, block_list}
use Rattle.text_view.specs.Dump.{view_line}
use Rattle.prog_tape.specs.declared.Opening.{Opening}

-- `TAP n` or `TZX n`, n the number of blocks; or `refused n`
unfoldable pub first_line : Result Loaded NotLoaded → List ℕ
first_line (Ok l) = format_text l.format ++ ascii " " ++ decimal l.blocks ++ ascii "\n"
first_line (Err e) = refused_line (not_loaded_no e)

-- how many lines follow it
unfoldable pub lines_after : Result Loaded NotLoaded → ℕ
lines_after (Ok l) = l.blocks
lines_after (Err e) = 0

-- blocks, numbered from i on
unfoldable pub view_lines : ℕ → List View → List (List ℕ)
view_lines i [] = []
view_lines i (v ∷ vs) = view_line i v ∷ view_lines (i + 1) vs

-- the blocks of a load of the bytes s; a refused one has none
unfoldable pub block_lines : List ℕ → Load → List (List ℕ)
block_lines s (tzx t) = view_lines 0 (block_list s t.tones t.blocks)
block_lines s (tapped t) = view_lines 0 (block_list s t.tones t.blocks)
block_lines s (both_err f g) = []
block_lines s (no k) = []

-- THE LINES of a load
unfoldable pub load_lines : List ℕ → Load → List (List ℕ)
load_lines s l = first_line (answer_of l) ∷ block_lines s l

-- WHAT IS LEFT WITH THE FIRST LINE of a load: the line in `out`, how many follow, and the tables of B and N words that they are read from
pub record Opens (B N : ℕ) (s : List ℕ) (l : Load) (o : Opening) (bt tt out out' : List ℕ) : Type 0 where
  pub line : Fitted (get_or (load_lines s l) 0 []) out out' o.size
  pub more : suc o.more ≡ length (load_lines s l)
  pub blocks : bt ≡ block_table B l
  pub tones : tt ≡ tone_table N l
