-- Block rows of worked examples, by their first words: each later word is 0. Assumes nothing.
use Prim.Native.Nat.{ℕ}
use mathlib.Core.List.{List}
use Rattle.rows.specs.Rows.{encode_block, decode_block}

abbrev pub row_words : List ℕ → List ℕ
row_words w = encode_block (decode_block w)
