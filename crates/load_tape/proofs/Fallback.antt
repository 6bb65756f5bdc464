-- A tape that errs as TZX and loads as TAP: no report. Assumes nothing.
-- Its bytes are too many to compute: laws over any count of zeros, then the one count whose TAP length the signature spells.
use Prim.Native.Nat.{ℕ, zero, suc, ◌+◌, ◌<◌}
use mathlib.Core.Path.{◌≡◌, refl, sym, ap, subst, ◌∙◌}
use mathlib.Core.Bool.{false}
use mathlib.Core.List.{List, [], ◌∷◌, ◌++◌}
use native.Mathlib.Omega.{arith}
use lib.ListN.{length, get_or, length-append, length-replicate, get_or-replicate, get_or-append}
use lib.Seq.{get_or-append-add, get_or-append_seam}
use borrow.Author.Tests.{le-leb, lt-leb, le-ltb, ne_eqb}
use Rattle.std.specs.Prelude.{Ok}
use Rattle.rows.specs.Table.{zeros}
use Rattle.cut_fields.specs.Field.{le_at, number_at, field_at, place_of}
use Rattle.cut_fields.proofs.Runs.{field_there}
use Rattle.cut_grammar.specs.declared.Heading.TheVariants as heading
use Rattle.cut_grammar.specs.declared.Taken.TheVariants as taken
use Rattle.cut_grammar.specs.declared.TakenTap.TheVariants as tap
use Rattle.cut_grammar.specs.Grammar.{Span, span_read, counted_at, whole_at, read_at}
use Rattle.cut_grammar.specs.Kinds.{kind10, kinds, kind_of}
use Rattle.cut_grammar.specs.Cut.{signature, starts_at, head_at, taken_as, cut_at, tap_block, tap_at}
use Rattle.cut_grammar.proofs.Cutting.{cut_there}
use Rattle.load_state.specs.Parser.{Parsed, on, empty, ◌⟫◌, add_tones, add_block}
use Rattle.load_blocks.specs.Adds.{Lent, add_rows}
use Rattle.load_blocks.specs.Sounds.{add_sound}
use Rattle.load_blocks.specs.Blocks.{standard_tones, standard_sound}
use Rattle.load_source.specs.declared.Failure.{Failure}
use Rattle.load_source.specs.declared.Failure.TheVariants.{ShortPiece}
use Rattle.load_source.specs.Source.{See, bad, thing, failed, seeing, read_on, fold_from, full, bits_judged, tzx_of, tzx_see, headed, read_tzx}
use Rattle.load_source.specs.Source.{tap_of, read_tap, or_tap, or_else}
use Rattle.load_source.proofs.Rest.{tzx_sees, tap_sees, tap_stops}
use Rattle.text_name.specs.Names.{name_all}
use Rattle.load_tape.specs.declared.Format.TheVariants.{Tap}
use Rattle.load_tape.specs.Load.{loaded_as, named_tape, named_load, load_named, answer_of}
use Rattle.load_tape.proofs.Leaving.{load_reads}

-- n things of one byte that leave the tape read so far as it is
passed : (see : ℕ → See) (n m at : ℕ) (t : Parsed) → ((i : ℕ) → i < n → see (at + i) ≡ thing (at + i + 1) on)
    → fold_from see (n + m) at t ≡ fold_from see m (at + n) t
unfolding fold_from seeing read_on
passed see zero m at t h =
    let a : 0 + m ≡ m = omega arith in
    let b : at + 0 ≡ at = omega arith in
    rw (a, b)
passed see (suc n) m at t h =
    let a : suc n + m ≡ suc (n + m) = omega arith in
    let b : at + 0 ≡ at = omega arith in
    let c : at + suc n ≡ at + 1 + n = omega arith in
    let d : see at ≡ thing (at + 1) on = rw b at (h 0 (omega arith)) in
    rw (a, c, d)
    (passed see n m (at + 1) t λ i q.
    let e : at + suc i ≡ at + 1 + i = omega arith in
    subst (λ (k : ℕ). see k ≡ thing (k + 1) on) e (h (suc i) (omega arith)))

module _ (lent : Lent) (s : List ℕ) (model : ℕ) where
  -- 0 is no kind: one byte, skipped
  sees_zero : (at : ℕ) → at < length s → get_or s at 0 ≡ 0 → tzx_see lent s model at ≡ thing (at + 1) on
  unfolding kinds kind_of read_at taken_as tzx_of
  sees_zero at h z =
      let c : cut_at s at full ≡ taken.Unknown 0 false = cut_there s at full h ∙ rw z refl in
      tzx_sees lent s model at (sym c)

  -- a kind 10 that is the last byte: its first field is not there
  sees_last : (at : ℕ) → length s ≡ at + 1 → get_or s at 0 ≡ 0x10 → tzx_see lent s model at ≡ bad (ShortPiece 0x10 at (at + 1) 2)
  unfolding kind10 kinds kind_of read_at whole_at counted_at field_at taken_as tzx_of
  sees_last at l k =
      let c : cut_at s at full ≡ taken.Short 0x10 (at + 1) 2 =
      cut_there s at full (omega arith) ∙ rw (k, lt-leb (at + 1 + 2) (length s) (omega arith)) refl in
      tzx_sees lent s model at (sym c)

-- room for three blocks and four tone rows
abbrev room : Lent
room = record { blocks = 3; tones = 4 }

-- a TAP whose first length is of all that follows
module _ (s : List ℕ) (size : ℕ) (l : length s ≡ size + 2) (n : le_at s 0 2 ≡ size) where
  whole-span : counted_at s (Ok 0) 2 ≡ span_read 2 size (Ok (2 + size))
  unfolding counted_at number_at place_of
  whole-span = rw (field_there s 2 0 (omega arith), n, field_there s size 2 (omega arith))

  sees_whole : tap_at s 0 ≡ tap.Block 2 size (2 + size)
  unfolding tap_at tap_block
  sees_whole =
      rw (lt-leb (length s) 0 (omega arith), ne_eqb (0 + 1) (length s) (λ e. omega arith))
      (ap (λ (d : Span). tap_block d d.cursor) whole-span)

  -- one block of two tone rows
  whole-answer : (f : Failure) → answer_of (named_load s (or_else (failed f) (read_tap room s))) ≡ Ok (loaded_as Tap 1 2)
  unfolding read_tap fold_from seeing read_on tap_of empty ◌⟫◌ add_tones add_block add_rows add_sound standard_tones standard_sound
      or_else or_tap name_all named_tape named_load answer_of
  whole-answer f =
      let a : length s ≡ suc (suc size) = omega arith in
      rw (a, tap_sees room s 0 (sym sees_whole), tap_stops room s (2 + size) (omega arith))

-- a TZX's head
abbrev head : List ℕ
head = signature ++ 1 ∷ 20 ∷ []

-- a head, n zeros and the kind 10
unfoldable pub zeroed : ℕ → List ℕ
zeroed n = head ++ zeros n ++ 0x10 ∷ []

module _ (n : ℕ) where
  count : length (zeros n) ≡ n
  count = length-replicate n 0

  zeroed_length : length (zeroed n) ≡ n + 11
  unfolding zeroed
  zeroed_length = rw (length-append (zeros n) (0x10 ∷ []), count) (omega arith)

  zeroed_zero : (i : ℕ) → i < n → get_or (zeroed n) (10 + i) 0 ≡ 0
  unfolding zeroed
  zeroed_zero i h =
      get_or-append-add head (zeros n ++ 0x10 ∷ []) i 0
      ∙ get_or-append (zeros n) (0x10 ∷ []) 0 i (rw count h)
      ∙ get_or-replicate n i 0 0 h

  zeroed_last : get_or (zeroed n) (10 + n) 0 ≡ 0x10
  unfolding zeroed
  zeroed_last =
      get_or-append-add head (zeros n ++ 0x10 ∷ []) n 0
      ∙ rw count at (get_or-append_seam (zeros n) 0x10 [] 0)

  zeroed_head : head_at (zeroed n) ≡ heading.Version 1 20
  unfolding zeroed head_at starts_at
  zeroed_head = rw (le-leb 10 (length (zeroed n)) (rw zeroed_length (omega arith)))

  zeroed_tzx : (lent : Lent) (model : ℕ) → read_tzx lent (zeroed n) model ≡ failed (ShortPiece 0x10 (10 + n) (10 + n + 1) 2)
  unfolding read_tzx headed fold_from seeing bits_judged
  zeroed_tzx lent model =
      let s = zeroed n in
      let l = zeroed_length in
      let over = passed (tzx_see lent s model) n 11 10 empty λ i h. sees_zero lent s model (10 + i) (omega arith) (zeroed_zero i h) in
      rw (zeroed_head, l, over, sees_last lent s model (10 + n) (omega arith) zeroed_last)

-- 22,620 bytes: the first two, as a TAP's length, say 22,618
abbrev long_tap : List ℕ
long_tap = zeroed 22609

pub long_tzx : read_tzx room long_tap 0 ≡ failed (ShortPiece 0x10 22619 22620 2)
long_tzx = zeroed_tzx 22609 room 0

long_number : (n : ℕ) → le_at (zeroed n) 0 2 ≡ 22618
unfolding zeroed le_at
long_number n = refl

pub long_tap_lem : answer_of (load_named room long_tap 0) ≡ Ok (loaded_as Tap 1 2)
unfolding load_named
long_tap_lem =
    let l = zeroed_length 22609 in
    rw (load_reads room long_tap 0 refl (le-ltb 1048576 (length long_tap) (omega arith)), long_tzx)
    (whole-answer long_tap 22618 l (long_number 22609) (ShortPiece 0x10 22619 22620 2))
