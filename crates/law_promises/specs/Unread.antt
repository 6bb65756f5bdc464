-- WHAT BOTH ATTEMPTS MET, where a load is refused by 3: exactly when each report is given, by the bytes. Definitions alone; assumes nothing.
use Rattle.std.specs.Prelude.{ℕ, ◌+◌, ◌≤◌, ◌<◌, ◌≡◌, false, List, ◌∷◌, ◌++◌, length, get_or}
use Rattle.cut_fields.specs.Field.{number_at}
use Rattle.cut_grammar.specs.Kinds.{kind_of}
use Rattle.cut_grammar.specs.Cut.{signature, starts_at}
use Rattle.cut_grammar.specs.Trace.{Field, field_in, trace, head_trace, tap_trace, FirstShort}
use Rattle.load_state.specs.Parser.{Parsed}
use Rattle.load_blocks.specs.Adds.{Lent}
use Rattle.load_source.specs.declared.Failure.{Failure}
use Rattle.load_source.specs.declared.Failure.TheVariants.{BadSignature, Short, ShortPiece, Length}
use Rattle.load_source.specs.Source.{See, full}
use Rattle.law_promises.specs.Numbers.{Comes, here, past, ByTzx, ByTap}

-- of these fields the one at p of w bytes is the first that is not all there
abbrev pub ShortAt : List Field → ℕ → ℕ → Type 0
ShortAt fs p w = (e : ℕ) × FirstShort fs (record { place = p; width = w; end = e })

-- at a piece: the first short field of what its kind byte names; or a 2A whose four bytes of length are there, and are not 0
pub data PieceMet (s : List ℕ) : Failure → ℕ → Type 0 where
  field-short : {kind at p w : ℕ} → at < length s → kind ≡ get_or s at 0 → ShortAt (trace (kind_of full kind) s (at + 1)) p w
      → PieceMet s (ShortPiece kind at p w) at
  length48 : {at n : ℕ} → get_or s at 0 ≡ 0x2A → at + 5 ≤ length s → n ≡ number_at s (at + 1) 4 → 0 < n
      → PieceMet s (Length 0x2A at n) at

-- THE TZX ATTEMPT: fewer than ten bytes; ten, the first eight of them not the signature; or what the reading comes to
pub data TzxMet (lent : Lent) (s : List ℕ) (model : ℕ) : Failure → Type 0 where
  head_short : {p w : ℕ} → FirstShort (head_trace s) (field_in s p w) → TzxMet lent s model (Short p w)
  head_other : 10 ≤ length s → starts_at s 0 signature ≡ false → TzxMet lent s model BadSignature
  at_piece : {f : Failure} → ByTzx lent s model (λ at t. PieceMet s f at) → TzxMet lent s model f

-- at a block of a TAP: its data, as many bytes as its length says
pub data BlockMet (s : List ℕ) : Failure → ℕ → Type 0 where
  data_short : {at p w : ℕ} → at + 1 < length s → p ≡ at + 2 → w ≡ number_at s at 2 → FirstShort (tap_trace s at) (field_in s p w)
      → BlockMet s (Short p w) at

-- THE TAP ATTEMPT
abbrev pub TapMet : Lent → List ℕ → Failure → Type 0
TapMet lent s f = ByTap lent s (λ at t. BlockMet s f at)

-- THE FIELDS OF AN ATTEMPT in reading order: of each thing that it passes, then of what stands where it comes to
unfoldable pub attempt_trace : (ℕ → List Field) → {see : ℕ → See} {P : ℕ → Parsed → Type 0} {at : ℕ} {t : Parsed} → Comes see P at t
    → List Field
attempt_trace fields (here {at = at} m) = fields at
attempt_trace fields (past {at = at} e d c) = fields at ++ attempt_trace fields c

-- a piece's: its kind byte, and what that names
abbrev pub piece_trace : List ℕ → ℕ → List Field
piece_trace s at = field_in s at 1 ∷ trace (kind_of full (get_or s at 0)) s (at + 1)
