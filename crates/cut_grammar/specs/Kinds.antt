-- The layout of each kind, as docs/FORMAT.md has it, row by row. Numbers are little-endian. Assumes nothing.
use Rattle.std.specs.Prelude.{ℕ, ◌+◌, ◌*◌, ◌-◌, ◌/◌, true, ◌||◌, List, [], ◌∷◌}
use Rattle.law_base.specs.Arms.{Arm, ◌▸◌, lookup, between}
use Rattle.cut_grammar.specs.declared.GeneralizedData.{GeneralizedData}
use Rattle.cut_grammar.specs.declared.Piece.TheVariants.{Standard, Turbo, Tone, Pulses, Pure, Generalized, Pause, GroupStart}
use Rattle.cut_grammar.specs.declared.Piece.TheVariants.{GroupEnd, LoopStart, LoopEnd, Stop48, Text, Message, Archive, Hardware}
use Rattle.cut_grammar.specs.declared.Piece.TheVariants.{Custom, Glue}
use Rattle.cut_grammar.specs.Grammar.{Layout, number, counted, here, pass, within, fitting, whole, unknown, bytes, fields, groups}
use Rattle.cut_grammar.specs.Grammar.{texts, bits_of, or_full, held_if}

-- 10: pause ms 2, length 2, data
unfoldable pub kind10 : Layout
kind10 = number 2 λ pause. counted 2 λ from size. whole (Standard pause from size)

-- 11: pilot 2, sync1 2, sync2 2, zero 2, one 2, pilot pulses 2, used bits of last byte 1, pause ms 2, length 3, data
unfoldable pub kind11 : Layout
kind11 =
    number 2 λ pilot. number 2 λ sync1. number 2 λ sync2. number 2 λ nil. number 2 λ one. number 2 λ pilots.
    number 1 λ last. number 2 λ pause. counted 3 λ from size.
    whole
    (Turbo
    (record {
      pilot = pilot;
      sync1 = sync1;
      sync2 = sync2;
      zero = nil;
      one = one;
      pilots = pilots;
      last = last;
      pause = pause;
      from = from;
      size = size;
    }))

-- 12: pulse length 2, number of pulses 2
unfoldable pub kind12 : Layout
kind12 = number 2 λ half. number 2 λ count. whole (Tone half count)

-- 13: number 1, then 2 each
unfoldable pub kind13 : Layout
kind13 = number 1 λ count. here λ from. pass (fields count 2) (whole (Pulses count from))

-- 14: zero 2, one 2, used bits 1, pause ms 2, length 3, data
unfoldable pub kind14 : Layout
kind14 =
    number 2 λ nil. number 2 λ one. number 1 λ last. number 2 λ pause. counted 3 λ from size.
    whole (Pure nil one last pause from size)

-- 19: length 4 (of what follows), pause ms 2, TOTP 4, NPP 1, ASP 1, TOTD 4, NPD 1, ASD 1, then the tables:
-- only if TOTP > 0, ASP symbols of a flag 1 and NPP pulses 2, TOTP entries of symbol 1 and repetitions 2;
-- only if TOTD > 0, ASD symbols of a flag 1 and NPD pulses 2, ceil(NB × TOTD / 8) bytes, NB the bits of ASD - 1
unfoldable pub stream19 : ℕ → GeneralizedData → Layout
stream19 bits general = fitting bits (pass (fields general.size 1) (whole (Generalized general)))

-- what follows the length
abbrev pub body19 : ℕ → ℕ → Layout
body19 full length =
    number 2 λ pause.
    number 4 λ totp. number 1 λ npp. number 1 λ asp0.
    number 4 λ totd. number 1 λ npd. number 1 λ asd0.
    let asp = or_full full asp0 in
    let asd = or_full full asd0 in
    let nb = bits_of (asd - 1) in
    let size = (nb * totd + 7) / 8 in
    here λ pilot. pass (groups (held_if totp asp) 1 npp 2) (
    here λ entries. pass (groups totp 1 1 2) (
    here λ symbols. pass (groups (held_if totd asd) 1 npd 2) (
    here λ from. stream19 (nb * totd)
    (record {
      length = length;
      pause = pause;
      totp = totp;
      npp = npp;
      asp0 = asp0;
      asp = asp;
      pilot = pilot;
      entries = entries;
      totd = totd;
      npd = npd;
      asd0 = asd0;
      asd = asd;
      nb = nb;
      symbols = symbols;
      from = from;
      size = size;
    }))))

unfoldable pub kind19 : ℕ → Layout
kind19 full = number 4 λ length. body19 full length

-- 20: ms 2
unfoldable pub kind20 : Layout
kind20 = number 2 λ ms. whole (Pause ms)

-- 21: length 1, text
unfoldable pub kind21 : Layout
kind21 = counted 1 λ from size. whole (GroupStart from size)

-- 22: none
unfoldable pub kind22 : Layout
kind22 = whole GroupEnd

-- 24: repetitions 2
unfoldable pub kind24 : Layout
kind24 = number 2 λ times. whole (LoopStart times)

-- 25: none
unfoldable pub kind25 : Layout
kind25 = whole LoopEnd

-- 2A: length 4, and no more bytes, whatever it says
unfoldable pub kind_2a : Layout
kind_2a = number 4 λ length. whole (Stop48 length)

-- 30: length 1, text
unfoldable pub kind30 : Layout
kind30 = counted 1 λ from size. whole (Text from size)

-- 31: seconds 1, length 1, text
unfoldable pub kind31 : Layout
kind31 = number 1 λ seconds. counted 1 λ from size. whole Message

-- 32: length 2 (of what follows), number 1, then id 1, length 1, text each
unfoldable pub info32 : Layout
info32 = number 1 λ count. pass (texts count) (whole Archive)

unfoldable pub kind32 : Layout
kind32 = number 2 λ length. within length info32

-- 33: number 1, then type 1, id 1, info 1 each
unfoldable pub kind33 : Layout
kind33 = number 1 λ count. pass (groups count 1 2 1) (whole Hardware)

-- 35: identification 16, length 4, body
unfoldable pub kind35 : Layout
kind35 = pass (bytes 16) (counted 4 λ from size. whole Custom)

-- 5A: 9 bytes
unfoldable pub kind_5a : Layout
kind_5a = pass (bytes 9) (whole Glue)

-- a kind that the format describes and no rule names (rule 47)
abbrev pub unread : Layout
unread = unknown true

-- the kinds of rules 49 to 63 and 68, and the other kinds that TZX 1.20 or an edition before it describes
unfoldable pub kinds : ℕ → List (Arm Layout)
kinds full =
    0x10 ▸ kind10 ∷ 0x11 ▸ kind11 ∷ 0x12 ▸ kind12 ∷ 0x13 ▸ kind13 ∷ 0x14 ▸ kind14 ∷ 0x19 ▸ kind19 full ∷
    0x20 ▸ kind20 ∷ 0x21 ▸ kind21 ∷ 0x22 ▸ kind22 ∷ 0x23 ▸ unread ∷ 0x24 ▸ kind24 ∷ 0x25 ▸ kind25 ∷
    0x2A ▸ kind_2a ∷ 0x2B ▸ unread ∷
    0x30 ▸ kind30 ∷ 0x31 ▸ kind31 ∷ 0x32 ▸ kind32 ∷ 0x33 ▸ kind33 ∷ 0x34 ▸ unread ∷ 0x35 ▸ kind35 ∷
    0x40 ▸ unread ∷ 0x5A ▸ kind_5a ∷ []

-- every kind from 0 to 255 has its row: 15 to 18 and 26 to 28 are described too, and any other kind is not
unfoldable pub kind_of : ℕ → ℕ → Layout
kind_of full kind = lookup (kinds full) kind (unknown (between 0x15 0x18 kind || between 0x26 0x28 kind))
