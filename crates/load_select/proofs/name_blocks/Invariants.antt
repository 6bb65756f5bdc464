-- The loops of `name_blocks`.
use Rattle.text_name.proofs.Selecting.{next}
use Rattle.text_name.specs.Names.{name_one}
use Rattle.rows.proofs.Passes.{turned_rows, carried}
use Rattle.rows.specs.Table.{table_over, rows_of}
use Rattle.rows.specs.Rows.{block}
use mathlib.Core.Bool.{false}
use mathlib.Core.Path.{◌≡◌}
use Rattle.load_select.proofs.name_blocks.Given as goal

abbrev pub invariant-loop-i : goal.invariant-loop-i
invariant-loop-i l = (l.prefixed ≡ carried (name_one l.tape) (next l.tape) l.i false (rows_of block l.initial.blocks l.n))
    × (l.blocks ≡ table_over block (turned_rows (name_one l.tape) (next l.tape) l.i false (rows_of block l.initial.blocks l.n)) l.initial.blocks)
