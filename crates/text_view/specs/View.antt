-- The Rust's `Block` as a view of a row: what demand 2 speaks of. Places occur in rows alone; a view has the bytes. Assumes nothing.
use Rattle.std.specs.Prelude.{ℕ, zero, suc, ◌+◌, Bool, List, [], ◌∷◌, take, drop, eqb}
use Rattle.rows.specs.Table.{get, rows_of}
use Rattle.rows.specs.Rows.{block, tone, tones_in}
use Rattle.rows.specs.declared.Tone.{Tone}
use Rattle.rows.specs.declared.Block.{Block}
use Rattle.play_entries.specs.declared.Duration.{Duration}
use Rattle.play_entries.specs.Entries.{whole_pause}
use Rattle.play_entries.specs.Places.{Tape}
use Rattle.text_name.specs.Names.{name_of}

pub record View : Type 0 where
  pub name : List ℕ
  pub selectable : Bool
  pub tones : List Tone
  pub zero : ℕ
  pub one : ℕ
  pub last : ℕ
  pub pause : Duration
  pub bytes : List ℕ

-- n tone rows from row `from` on
unfoldable pub tones_from : List ℕ → ℕ → ℕ → List Tone
tones_from tones from zero = []
tones_from tones from (suc n) = get tone tones from ∷ tones_from tones (from + 1) n

abbrev pub view_of : List ℕ → List Tone → Block → View
view_of tape ts r =
    record {
      name = name_of tape r;
      selectable = eqb r.selectable 1;
      tones = ts;
      zero = r.zero;
      one = r.one;
      last = r.last;
      pause = whole_pause r;
      bytes = take r.size (drop r.start tape);
    }

-- A ROW'S BLOCK, over a tape's bytes and a tone table
abbrev pub row_view : List ℕ → List ℕ → Block → View
row_view tape tones r = view_of tape (tones_from tones r.tone r.tones) r

-- the blocks of rows, and of a mounted tape
unfoldable pub row_views : List ℕ → List ℕ → List Block → List View
row_views tape tones [] = []
row_views tape tones (r ∷ rs) = row_view tape tones r ∷ row_views tape tones rs

abbrev pub views_in : Tape → List View
views_in w = row_views w.bytes w.tones (rows_of block w.blocks w.count)

-- the block list of what was read from a tape: its rows, and its tones
unfoldable pub block_list : List ℕ → List Tone → List Block → List View
block_list tape ts [] = []
block_list tape ts (r ∷ rs) = view_of tape (tones_in ts r) r ∷ block_list tape ts rs
