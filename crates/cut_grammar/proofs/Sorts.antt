-- Of all rows of the grammar's table, 13's alone gives pulses, 19's alone a generalised piece and 2A's alone a stop of a 48K: the one list
-- of kinds that says so. Assumes nothing.
use Prim.Native.Nat.{ℕ}
use mathlib.Core.Path.{refl}
use mathlib.Core.Bool.{Bool, not}
use lib.Dec.{eqb}
use Rattle.cut_grammar.specs.declared.Piece.{Piece}
use Rattle.cut_grammar.specs.declared.Piece.TheVariants as piece
use Rattle.cut_grammar.specs.Grammar.{Layout, unknown}
use Rattle.cut_grammar.specs.Kinds.{kind10, kind11, kind12, kind13, kind14, kind19, kind20, kind21, kind22, kind24, kind25, kind_2a}
use Rattle.cut_grammar.specs.Kinds.{kind30, kind31, info32, kind32, kind33, kind35, kind_5a, unread, kinds, kind_of}
use Rattle.cut_grammar.proofs.Others.{Other, EveryRow, no_more, ◌&◌, found_row}

-- 1 for pulses, 2 for a generalised piece, 3 for a stop of a 48K, 0 for any other
unfoldable pub sort_of : Piece → ℕ
sort_of (piece.Standard a b d) = 0
sort_of (piece.Turbo a) = 0
sort_of (piece.Tone a b) = 0
sort_of (piece.Pulses a b) = 1
sort_of (piece.Pure a b d x y z) = 0
sort_of (piece.Generalized g) = 2
sort_of (piece.Pause a) = 0
sort_of (piece.GroupStart a b) = 0
sort_of piece.GroupEnd = 0
sort_of (piece.LoopStart a) = 0
sort_of piece.LoopEnd = 0
sort_of (piece.Stop48 a) = 3
sort_of (piece.Text a b) = 0
sort_of piece.Message = 0
sort_of piece.Archive = 0
sort_of piece.Hardware = 0
sort_of piece.Custom = 0
sort_of piece.Glue = 0

abbrev pub is_pulses : Piece → Bool
is_pulses p = eqb (sort_of p) 1

abbrev pub is_general : Piece → Bool
is_general p = eqb (sort_of p) 2

abbrev pub is_stop48 : Piece → Bool
is_stop48 p = eqb (sort_of p) 3

-- one of the three
abbrev pub is_listed : Piece → Bool
is_listed p = not (eqb (sort_of p) 0)

pub data RowSort (full : ℕ) : ℕ → Layout → Type 0 where
  pulses : RowSort full 0x13 kind13
  general : RowSort full 0x19 (kind19 full)
  stop48 : RowSort full 0x2A kind_2a
  other : {kind : ℕ} (l : Layout) → Other is_listed l → RowSort full kind l

each_row : (full : ℕ) → EveryRow (RowSort full) (kinds full)
unfolding sort_of kinds kind10 kind11 kind12 kind14 kind20 kind21 kind22 kind24 kind25 kind30 kind31 info32 kind32
    kind33 kind35 kind_5a
each_row full =
    other kind10 (λ _ _ _. refl) &
    other kind11 (λ _ _ _ _ _ _ _ _ _ _. refl) &
    other kind12 (λ _ _. refl) &
    pulses &
    other kind14 (λ _ _ _ _ _ _. refl) &
    general &
    other kind20 (λ _. refl) &
    other kind21 (λ _ _. refl) &
    other kind22 refl &
    other unread tt &
    other kind24 (λ _. refl) &
    other kind25 refl &
    stop48 &
    other unread tt &
    other kind30 (λ _ _. refl) &
    other kind31 (λ _ _ _. refl) &
    other kind32 (λ _ _. refl) &
    other kind33 (λ _. refl) &
    other unread tt &
    other kind35 (λ _ _. refl) &
    other unread tt &
    other kind_5a refl &
    no_more

pub row_of : (full kind : ℕ) → RowSort full kind (kind_of full kind)
unfolding kind_of
row_of full kind = found_row (RowSort full) (kinds full) kind (unknown _) (each_row full) (other (unknown _) tt)
