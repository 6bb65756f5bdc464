-- Worked examples of the grammar by computation: one of each kind, the ends of every range, and for 11, 13, 19 and 32 a cut in
-- each field with the place and the width of the field. Assumes nothing.
use Prim.Native.Nat.{ℕ, ◌+◌, ◌-◌}
use mathlib.Core.Path.{◌≡◌, refl}
use mathlib.Core.Bool.{true, false}
use mathlib.Core.List.{List, [], ◌∷◌, map, ◌++◌}
use lib.ListN.{take, get_or}
use Rattle.cut_fields.specs.Field.{le_at, number_at, field_at, place_of}
use Rattle.cut_fields.specs.Run.{times, each_at, groups_at}
use Rattle.cut_grammar.specs.declared.Piece.TheVariants.{Standard, Turbo, Tone, Pulses, Pure, Generalized, Pause, GroupStart}
use Rattle.cut_grammar.specs.declared.Piece.TheVariants.{GroupEnd, LoopStart, LoopEnd, Stop48, Text, Message, Archive, Hardware}
use Rattle.cut_grammar.specs.declared.Piece.TheVariants.{Custom, Glue}
use Rattle.cut_grammar.specs.declared.Taken.{Taken}
use Rattle.cut_grammar.specs.declared.Taken.TheVariants as taken
use Rattle.cut_grammar.specs.declared.TakenTap.TheVariants as tap
use Rattle.cut_grammar.specs.declared.Heading.TheVariants as head
use Rattle.cut_grammar.specs.Grammar.{pass_at, counted_at, texts_at, whole_at, sealed, enclosed, fitting_at, read_at, binary_digits}
use Rattle.cut_grammar.specs.Grammar.{or_full, held_if}
use Rattle.cut_grammar.specs.Kinds.{kind10, kind11, kind12, kind13, kind14, stream19, kind19, kind20, kind21, kind22, kind24}
use Rattle.cut_grammar.specs.Kinds.{kind25, kind_2a, kind30, kind31, info32, kind32, kind33, kind35, kind_5a, kinds, kind_of}
use Rattle.cut_grammar.specs.Cut.{signature, starts_at, head_at, taken_as, cut_at, tap_block, tap_at}
use Rattle.cut_grammar.specs.Trace.{each_trace, counted_trace, texts_trace, pass_trace, trace}

pub record Example : Type 0 where
  pub tape : List ℕ
  pub at : ℕ
  pub full : ℕ
  pub wants : Taken

abbrev row : List ℕ → ℕ → ℕ → Taken → Example
row tape at full wants = record { tape = tape; at = at; full = full; wants = wants }

unfoldable pub examples : List Example
examples =
    -- 10
    row (0x10 ∷ 0xE8 ∷ 0x03 ∷ 0x03 ∷ 0x00 ∷ 0x01 ∷ 0x02 ∷ 0x03 ∷ []) 0 255 (taken.Whole 0x10 0 8 (Standard 1000 5 3)) ∷
    -- 11
    row (0x11 ∷ 0x78 ∷ 0x08 ∷ 0x9B ∷ 0x02 ∷ 0xDF ∷ 0x02 ∷ 0x57 ∷ 0x03 ∷ 0xAE ∷ 0x06 ∷ 0x7F ∷ 0x1F ∷ 0x08 ∷
    0xE8 ∷ 0x03 ∷ 0x03 ∷ 0x00 ∷ 0x00 ∷ 0x01 ∷ 0x02 ∷ 0x03 ∷ []) 0 255 (taken.Whole 0x11 0 22 (Turbo (record {
      pilot = 2168;
      sync1 = 667;
      sync2 = 735;
      zero = 855;
      one = 1710;
      pilots = 8063;
      last = 8;
      pause = 1000;
      from = 19;
      size = 3;
    }))) ∷
    -- 12
    row (0x12 ∷ 0x64 ∷ 0x00 ∷ 0x04 ∷ 0x00 ∷ []) 0 255 (taken.Whole 0x12 0 5 (Tone 100 4)) ∷
    -- 13
    row (0x13 ∷ 0x02 ∷ 0x2C ∷ 0x01 ∷ 0x90 ∷ 0x01 ∷ []) 0 255 (taken.Whole 0x13 0 6 (Pulses 2 2)) ∷
    -- 14, at a place past 0
    row (0xFF ∷ 0x14 ∷ 0x0A ∷ 0x00 ∷ 0x14 ∷ 0x00 ∷ 0x00 ∷ 0x00 ∷ 0x00 ∷ 0x01 ∷ 0x00 ∷ 0x00 ∷ 0x80 ∷ []) 1 255
    (taken.Whole 0x14 1 13 (Pure 10 20 0 0 12 1)) ∷
    -- 19
    row (0x19 ∷ 0x26 ∷ 0x00 ∷ 0x00 ∷ 0x00 ∷ 0x07 ∷ 0x00 ∷ 0x02 ∷ 0x00 ∷ 0x00 ∷ 0x00 ∷ 0x01 ∷ 0x02 ∷ 0x09 ∷
    0x00 ∷ 0x00 ∷ 0x00 ∷ 0x02 ∷ 0x02 ∷ 0x00 ∷ 0xF4 ∷ 0x01 ∷ 0x00 ∷ 0x58 ∷ 0x02 ∷ 0x00 ∷ 0x03 ∷ 0x00 ∷ 0x01 ∷
    0x04 ∷ 0x00 ∷ 0x00 ∷ 0x0A ∷ 0x00 ∷ 0x0A ∷ 0x00 ∷ 0x00 ∷ 0x14 ∷ 0x00 ∷ 0x14 ∷ 0x00 ∷ 0xAA ∷ 0x80 ∷ []) 0 255
    (taken.Whole 0x19 0 43 (Generalized (record {
      length = 38;
      pause = 7;
      totp = 2;
      npp = 1;
      asp0 = 2;
      asp = 2;
      pilot = 19;
      entries = 25;
      totd = 9;
      npd = 2;
      asd0 = 2;
      asd = 2;
      nb = 1;
      symbols = 31;
      from = 41;
      size = 2;
    }))) ∷
    -- 19 with no table, alphabet size 0
    row (0x19 ∷ 0x0E ∷ 0x00 ∷ 0x00 ∷ 0x00 ∷ 0x00 ∷ 0x00 ∷ 0x00 ∷ 0x00 ∷ 0x00 ∷ 0x00 ∷ 0x01 ∷ 0x00 ∷ 0x00 ∷
    0x00 ∷ 0x00 ∷ 0x00 ∷ 0x01 ∷ 0x00 ∷ []) 0 255 (taken.Whole 0x19 0 19 (Generalized (record {
      length = 14;
      pause = 0;
      totp = 0;
      npp = 1;
      asp0 = 0;
      asp = 255;
      pilot = 19;
      entries = 19;
      totd = 0;
      npd = 1;
      asd0 = 0;
      asd = 255;
      nb = 8;
      symbols = 19;
      from = 19;
      size = 0;
    }))) ∷
    -- the same where 0 means 256
    row (0x19 ∷ 0x0E ∷ 0x00 ∷ 0x00 ∷ 0x00 ∷ 0x00 ∷ 0x00 ∷ 0x00 ∷ 0x00 ∷ 0x00 ∷ 0x00 ∷ 0x01 ∷ 0x00 ∷ 0x00 ∷
    0x00 ∷ 0x00 ∷ 0x00 ∷ 0x01 ∷ 0x00 ∷ []) 0 256 (taken.Whole 0x19 0 19 (Generalized (record {
      length = 14;
      pause = 0;
      totp = 0;
      npp = 1;
      asp0 = 0;
      asp = 256;
      pilot = 19;
      entries = 19;
      totd = 0;
      npd = 1;
      asd0 = 0;
      asd = 256;
      nb = 8;
      symbols = 19;
      from = 19;
      size = 0;
    }))) ∷
    -- 19: 2 bits 2,147,483,648 times pass 32 bits, at the data bytes
    row (0x19 ∷ 0x00 ∷ 0x00 ∷ 0x00 ∷ 0x00 ∷ 0x00 ∷ 0x00 ∷ 0x00 ∷ 0x00 ∷ 0x00 ∷ 0x00 ∷ 0x01 ∷ 0x01 ∷ 0x00 ∷
    0x00 ∷ 0x00 ∷ 0x80 ∷ 0x01 ∷ 0x03 ∷ 0x00 ∷ 0x01 ∷ 0x00 ∷ 0x00 ∷ 0x01 ∷ 0x00 ∷ 0x00 ∷ 0x01 ∷ 0x00 ∷ []) 0 255
    (taken.Overflow 0x19 28) ∷
    -- 19: one symbol less does not, and the first data byte is missing
    row (0x19 ∷ 0x00 ∷ 0x00 ∷ 0x00 ∷ 0x00 ∷ 0x00 ∷ 0x00 ∷ 0x00 ∷ 0x00 ∷ 0x00 ∷ 0x00 ∷ 0x01 ∷ 0x01 ∷ 0xFF ∷
    0xFF ∷ 0xFF ∷ 0x7F ∷ 0x01 ∷ 0x03 ∷ 0x00 ∷ 0x01 ∷ 0x00 ∷ 0x00 ∷ 0x01 ∷ 0x00 ∷ 0x00 ∷ 0x01 ∷ 0x00 ∷ []) 0 255
    (taken.Short 0x19 28 1) ∷
    -- 19: an alphabet that is short comes first
    row (0x19 ∷ 0x00 ∷ 0x00 ∷ 0x00 ∷ 0x00 ∷ 0x00 ∷ 0x00 ∷ 0x00 ∷ 0x00 ∷ 0x00 ∷ 0x00 ∷ 0x01 ∷ 0x01 ∷ 0x00 ∷
    0x00 ∷ 0x00 ∷ 0x80 ∷ 0x01 ∷ 0x03 ∷ 0x00 ∷ 0x01 ∷ 0x00 ∷ 0x00 ∷ 0x01 ∷ 0x00 ∷ 0x00 ∷ 0x01 ∷ []) 0 255
    (taken.Short 0x19 26 2) ∷
    -- 19: 4,294,967,295 entries, none there
    row (0x19 ∷ 0x00 ∷ 0x00 ∷ 0x00 ∷ 0x00 ∷ 0x00 ∷ 0x00 ∷ 0xFF ∷ 0xFF ∷ 0xFF ∷ 0xFF ∷ 0x00 ∷ 0x01 ∷ 0x00 ∷
    0x00 ∷ 0x00 ∷ 0x00 ∷ 0x01 ∷ 0x01 ∷ 0x00 ∷ 0x05 ∷ []) 0 255 (taken.Short 0x19 21 2) ∷
    -- 20
    row (0x20 ∷ 0xF4 ∷ 0x01 ∷ []) 0 255 (taken.Whole 0x20 0 3 (Pause 500)) ∷
    -- 21
    row (0x21 ∷ 0x03 ∷ 0x41 ∷ 0x42 ∷ 0x43 ∷ []) 0 255 (taken.Whole 0x21 0 5 (GroupStart 2 3)) ∷
    -- 22
    row (0x22 ∷ []) 0 255 (taken.Whole 0x22 0 1 GroupEnd) ∷
    -- 24
    row (0x24 ∷ 0x02 ∷ 0x00 ∷ []) 0 255 (taken.Whole 0x24 0 3 (LoopStart 2)) ∷
    -- 25
    row (0x25 ∷ []) 0 255 (taken.Whole 0x25 0 1 LoopEnd) ∷
    -- 2A
    row (0x2A ∷ 0x00 ∷ 0x00 ∷ 0x00 ∷ 0x00 ∷ []) 0 255 (taken.Whole 0x2A 0 5 (Stop48 0)) ∷
    -- 2A of another length is whole with its 4 bytes
    row (0x2A ∷ 0xFF ∷ 0xFF ∷ 0xFF ∷ 0xFF ∷ []) 0 255 (taken.Whole 0x2A 0 5 (Stop48 4294967295)) ∷
    -- 30, of no bytes
    row (0x30 ∷ 0x00 ∷ []) 0 255 (taken.Whole 0x30 0 2 (Text 2 0)) ∷
    -- 31
    row (0x31 ∷ 0x09 ∷ 0x02 ∷ 0x41 ∷ 0x42 ∷ []) 0 255 (taken.Whole 0x31 0 5 Message) ∷
    -- 32
    row (0x32 ∷ 0x08 ∷ 0x00 ∷ 0x02 ∷ 0x00 ∷ 0x02 ∷ 0x41 ∷ 0x42 ∷ 0x01 ∷ 0x01 ∷ 0x43 ∷ 0x00 ∷ []) 0 255
    (taken.Whole 0x32 0 11 Archive) ∷
    -- 32 ends with its length, not with its entries
    row (0x32 ∷ 0x09 ∷ 0x00 ∷ 0x02 ∷ 0x00 ∷ 0x02 ∷ 0x41 ∷ 0x42 ∷ 0x01 ∷ 0x01 ∷ 0x43 ∷ 0x00 ∷ []) 0 255
    (taken.Whole 0x32 0 12 Archive) ∷
    -- 33
    row (0x33 ∷ 0x02 ∷ 0x01 ∷ 0x02 ∷ 0x03 ∷ 0x04 ∷ 0x05 ∷ 0x06 ∷ []) 0 255 (taken.Whole 0x33 0 8 Hardware) ∷
    -- 33, its bytes one by one
    row (0x33 ∷ 0x02 ∷ 0x01 ∷ 0x02 ∷ 0x03 ∷ 0x04 ∷ []) 0 255 (taken.Short 0x33 6 1) ∷
    -- 35
    row (0x35 ∷ 0x20 ∷ 0x20 ∷ 0x20 ∷ 0x20 ∷ 0x20 ∷ 0x20 ∷ 0x20 ∷ 0x20 ∷ 0x20 ∷ 0x20 ∷ 0x20 ∷ 0x20 ∷ 0x20 ∷
    0x20 ∷ 0x20 ∷ 0x20 ∷ 0x02 ∷ 0x00 ∷ 0x00 ∷ 0x00 ∷ 0x01 ∷ 0x02 ∷ []) 0 255 (taken.Whole 0x35 0 23 Custom) ∷
    -- 35, identification one field of 16
    row (0x35 ∷ 0x20 ∷ 0x20 ∷ 0x20 ∷ 0x20 ∷ 0x20 ∷ 0x20 ∷ 0x20 ∷ 0x20 ∷ 0x20 ∷ 0x20 ∷ 0x20 ∷ 0x20 ∷ 0x20 ∷
    0x20 ∷ 0x20 ∷ []) 0 255 (taken.Short 0x35 1 16) ∷
    -- 5A
    row (0x5A ∷ 0x00 ∷ 0x00 ∷ 0x00 ∷ 0x00 ∷ 0x00 ∷ 0x00 ∷ 0x00 ∷ 0x00 ∷ 0x00 ∷ []) 0 255
    (taken.Whole 0x5A 0 10 Glue) ∷
    -- 5A one field of 9
    row (0x5A ∷ 0x00 ∷ 0x00 ∷ 0x00 ∷ 0x00 ∷ 0x00 ∷ 0x00 ∷ 0x00 ∷ 0x00 ∷ []) 0 255 (taken.Short 0x5A 1 9) ∷
    -- 15: described, and no row here
    row (0x15 ∷ 0x00 ∷ []) 0 255 (taken.Unknown 0x15 true) ∷
    -- 18, 26 and 28: the ends of the ranges
    row (0x18 ∷ []) 0 255 (taken.Unknown 0x18 true) ∷
    row (0x26 ∷ []) 0 255 (taken.Unknown 0x26 true) ∷
    row (0x28 ∷ []) 0 255 (taken.Unknown 0x28 true) ∷
    -- 29 and FF are in no edition
    row (0x29 ∷ []) 0 255 (taken.Unknown 0x29 false) ∷
    row (0xFF ∷ []) 0 255 (taken.Unknown 0xFF false) ∷
    -- nothing left
    row (0x22 ∷ []) 1 255 (taken.End) ∷
    -- past the end
    row ([]) 7 255 (taken.End) ∷
    []

pub examples_hold : map (λ e. cut_at e.tape e.at e.full) examples ≡ map (λ e. e.wants) examples
unfolding examples cut_at kind_of kinds kind10 kind11 kind12 kind13 kind14 stream19 kind19 kind20 kind21 kind22 kind24 kind25 kind_2a kind30
    kind31 info32 kind32 kind33 kind35 kind_5a taken_as read_at pass_at counted_at texts_at whole_at sealed enclosed fitting_at binary_digits or_full
    held_if field_at number_at le_at place_of times each_at groups_at
examples_hold = refl

-- a piece cut inside each of these fields, places and widths, one byte before its end: that field comes up short
unfoldable pub short_at : List ℕ → List (ℕ × ℕ) → List Taken
short_at whole fs = map (λ f. cut_at (take (f.0 + f.1 - 1) whole) 0 255) fs

unfoldable pub shorts : ℕ → List (ℕ × ℕ) → List Taken
shorts kind fs = map (λ f. taken.Short kind f.0 f.1) fs

pub cut_11 : short_at (0x11 ∷ 0x78 ∷ 0x08 ∷ 0x9B ∷ 0x02 ∷ 0xDF ∷ 0x02 ∷ 0x57 ∷ 0x03 ∷ 0xAE ∷ 0x06 ∷ 0x7F ∷ 0x1F ∷
    0x08 ∷ 0xE8 ∷ 0x03 ∷ 0x03 ∷ 0x00 ∷ 0x00 ∷ 0x01 ∷ 0x02 ∷ 0x03 ∷ [])
    ((1, 2) ∷ (3, 2) ∷ (5, 2) ∷ (7, 2) ∷ (9, 2) ∷ (11, 2) ∷ (13, 1) ∷ (14, 2) ∷ (16, 3) ∷ (19, 3) ∷ [])
    ≡ shorts 0x11 ((1, 2) ∷ (3, 2) ∷ (5, 2) ∷ (7, 2) ∷ (9, 2) ∷ (11, 2) ∷ (13, 1) ∷ (14, 2) ∷ (16, 3) ∷ (19, 3) ∷ [])
unfolding short_at shorts cut_at kind_of kinds kind10 kind11 kind12 kind13 kind14 stream19 kind19 kind20 kind21 kind22 kind24 kind25 kind_2a
    kind30 kind31 info32 kind32 kind33 kind35 kind_5a taken_as read_at pass_at counted_at texts_at whole_at sealed enclosed fitting_at binary_digits
    or_full held_if field_at number_at le_at place_of times each_at groups_at
cut_11 = refl

pub cut_13 : short_at (0x13 ∷ 0x02 ∷ 0x2C ∷ 0x01 ∷ 0x90 ∷ 0x01 ∷ []) ((1, 1) ∷ (2, 2) ∷ (4, 2) ∷ [])
    ≡ shorts 0x13 ((1, 1) ∷ (2, 2) ∷ (4, 2) ∷ [])
unfolding short_at shorts cut_at kind_of kinds kind10 kind11 kind12 kind13 kind14 stream19 kind19 kind20 kind21 kind22 kind24 kind25 kind_2a
    kind30 kind31 info32 kind32 kind33 kind35 kind_5a taken_as read_at pass_at counted_at texts_at whole_at sealed enclosed fitting_at binary_digits
    or_full held_if field_at number_at le_at place_of times each_at groups_at
cut_13 = refl

pub cut_19 : short_at
    (0x19 ∷ 0x26 ∷ 0x00 ∷ 0x00 ∷ 0x00 ∷ 0x07 ∷ 0x00 ∷ 0x02 ∷ 0x00 ∷ 0x00 ∷ 0x00 ∷ 0x01 ∷ 0x02 ∷ 0x09 ∷ 0x00 ∷
    0x00 ∷ 0x00 ∷ 0x02 ∷ 0x02 ∷ 0x00 ∷ 0xF4 ∷ 0x01 ∷ 0x00 ∷ 0x58 ∷ 0x02 ∷ 0x00 ∷ 0x03 ∷ 0x00 ∷ 0x01 ∷ 0x04 ∷
    0x00 ∷ 0x00 ∷ 0x0A ∷ 0x00 ∷ 0x0A ∷ 0x00 ∷ 0x00 ∷ 0x14 ∷ 0x00 ∷ 0x14 ∷ 0x00 ∷ 0xAA ∷ 0x80 ∷ []) ((1, 4) ∷ (
      5,
      2,
    ) ∷ (7, 4) ∷ (11, 1) ∷ (12, 1) ∷ (13, 4) ∷ (17, 1) ∷ (18, 1) ∷ (19, 1) ∷ (20, 2) ∷ (22, 1) ∷ (23, 2) ∷ (25, 1) ∷
    (26, 2) ∷ (28, 1) ∷ (29, 2) ∷ (31, 1) ∷ (32, 2) ∷ (34, 2) ∷ (36, 1) ∷ (37, 2) ∷ (39, 2) ∷ (41, 1) ∷ (42, 1) ∷ [])
    ≡ shorts 0x19 ((1, 4) ∷ (5, 2) ∷ (7, 4) ∷ (11, 1) ∷ (12, 1) ∷ (13, 4) ∷ (17, 1) ∷ (18, 1) ∷ (19, 1) ∷ (20, 2) ∷
    (22, 1) ∷ (23, 2) ∷ (25, 1) ∷ (26, 2) ∷ (28, 1) ∷ (29, 2) ∷ (31, 1) ∷ (32, 2) ∷ (34, 2) ∷ (36, 1) ∷ (37, 2) ∷
    (39, 2) ∷ (41, 1) ∷ (42, 1) ∷ [])
unfolding short_at shorts cut_at kind_of kinds kind10 kind11 kind12 kind13 kind14 stream19 kind19 kind20 kind21 kind22 kind24 kind25 kind_2a
    kind30 kind31 info32 kind32 kind33 kind35 kind_5a taken_as read_at pass_at counted_at texts_at whole_at sealed enclosed fitting_at binary_digits
    or_full held_if field_at number_at le_at place_of times each_at groups_at
cut_19 = refl

pub cut_32 : short_at (0x32 ∷ 0x08 ∷ 0x00 ∷ 0x02 ∷ 0x00 ∷ 0x02 ∷ 0x41 ∷ 0x42 ∷ 0x01 ∷ 0x01 ∷ 0x43 ∷ [])
    ((1, 2) ∷ (3, 8) ∷ [])
    ≡ shorts 0x32 ((1, 2) ∷ (3, 8) ∷ [])
unfolding short_at shorts cut_at kind_of kinds kind10 kind11 kind12 kind13 kind14 stream19 kind19 kind20 kind21 kind22 kind24 kind25 kind_2a
    kind30 kind31 info32 kind32 kind33 kind35 kind_5a taken_as read_at pass_at counted_at texts_at whole_at sealed enclosed fitting_at binary_digits
    or_full held_if field_at number_at le_at place_of times each_at groups_at
cut_32 = refl

-- the fields inside a 32 come up short where its length says that it ends
pub cut_32_inside : map
    (λ n. cut_at (0x32 ∷ n ∷ 0 ∷ 0x02 ∷ 0x00 ∷ 0x02 ∷ 0x41 ∷ 0x42 ∷ 0x01 ∷ 0x01 ∷ 0x43 ∷ 0x00 ∷ []) 0 255)
    (0 ∷ 1 ∷ 2 ∷ 3 ∷ 4 ∷ 5 ∷ 6 ∷ 7 ∷ [])
    ≡ taken.Short 0x32 3 1 ∷ taken.Short 0x32 4 1 ∷ taken.Short 0x32 5 1 ∷ taken.Short 0x32 6 2 ∷ taken.Short 0x32 6 2 ∷
    taken.Short 0x32 8 1 ∷ taken.Short 0x32 9 1 ∷ taken.Short 0x32 10 1 ∷ []
unfolding cut_at kind_of kinds kind10 kind11 kind12 kind13 kind14 stream19 kind19 kind20 kind21 kind22 kind24 kind25 kind_2a kind30 kind31
    info32 kind32 kind33 kind35 kind_5a taken_as read_at pass_at counted_at texts_at whole_at sealed enclosed fitting_at binary_digits or_full held_if
    field_at number_at le_at place_of times each_at groups_at
cut_32_inside = refl

pub heads_hold : map head_at ((0x5A ∷ 0x58 ∷ 0x54 ∷ 0x61 ∷ 0x70 ∷ 0x65 ∷ 0x21 ∷ 0x1A ∷ 0x01 ∷ 0x14 ∷ 0x22 ∷ []) ∷
    (0x5A ∷ 0x58 ∷ 0x54 ∷ 0x61 ∷ 0x70 ∷ 0x65 ∷ 0x21 ∷ 0x1B ∷ 0x01 ∷ 0x14 ∷ []) ∷
    (0x5A ∷ 0x58 ∷ 0x54 ∷ 0x61 ∷ 0x70 ∷ 0x65 ∷ 0x21 ∷ 0x1A ∷ 0x01 ∷ []) ∷ ([]) ∷ [])
    ≡ head.Version 1 20 ∷ head.BadSignature ∷ head.Short 0 10 ∷ head.Short 0 10 ∷ []
unfolding head_at starts_at
heads_hold = refl

-- nothing left, a lone byte, an empty block, a block, and one behind it, a length without its data
pub taps_hold : map (λ (e : List ℕ × ℕ). tap_at e.0 e.1) (([], 0) ∷ (0x05 ∷ [], 0) ∷ (0x00 ∷ 0x00 ∷ [], 0) ∷ (
  0x01 ∷ 0x00 ∷ 0xFF ∷ 0x02 ∷ 0x00 ∷ 0x01 ∷ 0x02 ∷ [],
  3,
) ∷ (0x02 ∷ 0x00 ∷ 0xFF ∷ [], 0) ∷ []) ≡ tap.End ∷ tap.Lone ∷ tap.Block 2 0 2 ∷ tap.Block 5 2 7 ∷ tap.Short 2 2 ∷ []
unfolding tap_at tap_block counted_at field_at number_at le_at place_of
taps_hold = refl

-- the fields of the piece behind a head of 10 bytes, each with its place, its width and the end of the bytes that it is read from
unfoldable pub fields_of : List ℕ → List (ℕ × (ℕ × ℕ))
fields_of piece =
    let s = signature ++ (0x01 ∷ 0x14 ∷ piece) in
    map (λ f. (f.place, (f.width, f.end))) (trace (kind_of 255 (get_or s 10 0)) s 11)

-- a 20, a 10 and a 13 without their last bytes; a 32 whose body ends before the tape does: what stands in the body is read from the body;
-- a 32 whose body goes on behind the tape's end
pub fields_hold : map fields_of ((0x20 ∷ 0x01 ∷ []) ∷ (0x10 ∷ 0x00 ∷ 0x00 ∷ 0x05 ∷ 0x00 ∷ 0xAA ∷ []) ∷
    (0x13 ∷ 0x03 ∷ 0x01 ∷ 0x00 ∷ 0x02 ∷ []) ∷ (0x32 ∷ 0x01 ∷ 0x00 ∷ 0x01 ∷ 0x20 ∷ 0x01 ∷ 0x00 ∷ []) ∷
    (0x32 ∷ 0x05 ∷ 0x00 ∷ 0x01 ∷ []) ∷ [])
    ≡ ((11, (2, 12)) ∷ []) ∷ ((11, (2, 16)) ∷ (13, (2, 16)) ∷ (15, (5, 16)) ∷ []) ∷
    ((11, (1, 15)) ∷ (12, (2, 15)) ∷ (14, (2, 15)) ∷ (16, (2, 15)) ∷ []) ∷
    ((11, (2, 17)) ∷ (13, (1, 17)) ∷ (13, (1, 14)) ∷ (14, (1, 14)) ∷ (15, (1, 14)) ∷ (16, (0, 14)) ∷ []) ∷
    ((11, (2, 14)) ∷ (13, (5, 14)) ∷ (13, (1, 14)) ∷ (14, (1, 14)) ∷ (15, (1, 14)) ∷ (16, (0, 14)) ∷ []) ∷ []
unfolding fields_of kind_of kinds kind10 kind13 kind20 info32 kind32 trace pass_trace each_trace counted_trace texts_trace number_at le_at
fields_hold = refl
