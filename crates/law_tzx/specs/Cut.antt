-- THE PIECE THAT THE FORMAT CUTS at a place. Its rows are the grammar's, with an alphabet size of 0 meaning 256; but a 19 is as long as its
-- length says, which the source reading makes no use of. Definitions alone; assumes nothing.
use Rattle.std.specs.Prelude.{ℕ, ◌+◌, List, length, get_or, leb, eqb, Ok}
use Rattle.law_base.specs.Rules.{◌⇒◌, ◌∣◌}
use Rattle.cut_grammar.specs.declared.Taken.{Taken}
use Rattle.cut_grammar.specs.declared.Taken.TheVariants as taken
use Rattle.cut_grammar.specs.Grammar.{Layout, number, within, read_at}
use Rattle.cut_grammar.specs.Kinds.{body19, kind_of}
use Rattle.cut_grammar.specs.Cut.{taken_as}
use Rattle.law_tzx.specs.Format.{format_full}

-- 19: length 4 (of what follows): its parts see no byte past that, and the piece ends there
abbrev pub layout19 : Layout
layout19 = number 4 λ length. within length (body19 format_full length)

-- the row of a kind
abbrev pub layout_of : ℕ → Layout
layout_of kind = eqb kind 0x19 ⇒ layout19 ∣ kind_of format_full kind

abbrev pub format_cut : List ℕ → ℕ → Taken
format_cut s at =
    leb (length s) at ⇒ taken.End
    ∣ taken_as (get_or s at 0) at (read_at (layout_of (get_or s at 0)) s (Ok (at + 1)))
