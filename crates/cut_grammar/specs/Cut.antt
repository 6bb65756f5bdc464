-- The head of a TZX, one piece of it, and one block of a TAP. Assumes nothing.
use Rattle.std.specs.Prelude.{ℕ, ◌+◌, Bool, true, ◌&&◌, List, [], ◌∷◌, length, get_or, leb, eqb, Ok, Err}
use Rattle.law_base.specs.Rules.{◌⇒◌, ◌∣◌}
use Rattle.cut_fields.specs.Field.{Cursor}
use Rattle.cut_grammar.specs.declared.NotCut.TheVariants as not_cut
use Rattle.cut_grammar.specs.declared.Taken.{Taken}
use Rattle.cut_grammar.specs.declared.Taken.TheVariants as taken
use Rattle.cut_grammar.specs.declared.TakenTap.{TakenTap}
use Rattle.cut_grammar.specs.declared.TakenTap.TheVariants as tap
use Rattle.cut_grammar.specs.declared.Heading.{Heading}
use Rattle.cut_grammar.specs.declared.Heading.TheVariants as head
use Rattle.cut_grammar.specs.Grammar.{Body, Span, read_at, counted_at}
use Rattle.cut_grammar.specs.Kinds.{kind_of}

-- `ZXTape!` and 1A
abbrev pub signature : List ℕ
signature = 0x5A ∷ 0x58 ∷ 0x54 ∷ 0x61 ∷ 0x70 ∷ 0x65 ∷ 0x21 ∷ 0x1A ∷ []

-- the bytes from p on are these
unfoldable pub starts_at : List ℕ → ℕ → List ℕ → Bool
starts_at s p [] = true
starts_at s p (x ∷ xs) = eqb (get_or s p 0) x && starts_at s (p + 1) xs

-- 10 bytes, one field: the signature, major, minor
unfoldable pub head_at : List ℕ → Heading
head_at s =
    leb 10 (length s) ⇒ (starts_at s 0 signature ⇒ head.Version (get_or s 8 0) (get_or s 9 0) ∣ head.BadSignature)
    ∣ head.Short 0 10

-- a body under the kind and the place of its piece
unfoldable pub taken_as : ℕ → ℕ → Body → Taken
taken_as kind at (Ok x) = taken.Whole kind at x.next x.piece
taken_as kind at (Err (not_cut.Unknown described)) = taken.Unknown kind described
taken_as kind at (Err (not_cut.Short e)) = taken.Short kind e.place e.width
taken_as kind at (Err (not_cut.Overflow p)) = taken.Overflow kind p

-- the piece at a place: a kind byte and its body
unfoldable pub cut_at : List ℕ → ℕ → ℕ → Taken
cut_at s at full =
    leb (length s) at ⇒ taken.End
    ∣ taken_as (get_or s at 0) at (read_at (kind_of full (get_or s at 0)) s (Ok (at + 1)))

-- the block at a place of a TAP: length 2, data; zero or one byte left ends the list
unfoldable pub tap_block : Span → Cursor → TakenTap
tap_block data' (Ok next) = tap.Block data'.from data'.size next
tap_block data' (Err e) = tap.Short e.place e.width

unfoldable pub tap_at : List ℕ → ℕ → TakenTap
tap_at s at =
    leb (length s) at ⇒ tap.End
    ∣ eqb (at + 1) (length s) ⇒ tap.Lone
    ∣ tap_block (counted_at s (Ok at) 2) (counted_at s (Ok at) 2).cursor
