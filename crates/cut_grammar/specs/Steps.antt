-- Where the code cuts a long layout into functions: what the first part of 19 hands on, and the rest of it. Assumes nothing.
use Rattle.std.specs.Prelude.{ℕ, ◌+◌, ◌*◌, ◌-◌, ◌/◌, List}
use Rattle.cut_fields.specs.Field.{Cursor, field_at, place_of}
use Rattle.cut_fields.specs.Run.{groups_at}
use Rattle.cut_grammar.specs.declared.GeneralHead.{GeneralHead}
use Rattle.cut_grammar.specs.Grammar.{Body, read_at, bits_of, or_full, held_if}
use Rattle.cut_grammar.specs.Kinds.{stream19}

-- the numbers that 19 begins with, and the cursor past them
pub record Head19 : Type 0 where
  pub head : GeneralHead
  pub cursor : Cursor

abbrev pub head_read : GeneralHead → Cursor → Head19
head_read h c = record { head = h; cursor = c }

unfoldable pub head19 : List ℕ → Cursor → Head19
head19 s c =
    let length = field_at s c 4 in
    let pause = field_at s length.cursor 2 in
    let totp = field_at s pause.cursor 4 in
    let npp = field_at s totp.cursor 1 in
    let asp = field_at s npp.cursor 1 in
    let totd = field_at s asp.cursor 4 in
    let npd = field_at s totd.cursor 1 in
    let asd = field_at s npd.cursor 1 in
    record {
      head = record {
        length = length.value;
        pause = pause.value;
        totp = totp.value;
        npp = npp.value;
        asp = asp.value;
        totd = totd.value;
        npd = npd.value;
        asd = asd.value;
      };
      cursor = asd.cursor;
    }

-- its four tables, behind these numbers
unfoldable pub tables19 : ℕ → List ℕ → Head19 → Body
tables19 full s x =
    let h = x.head in
    let asp = or_full full h.asp in
    let asd = or_full full h.asd in
    let nb = bits_of (asd - 1) in
    let entries = groups_at s x.cursor (held_if h.totp asp) 1 h.npp 2 in
    let symbols = groups_at s entries h.totp 1 1 2 in
    let from = groups_at s symbols (held_if h.totd asd) 1 h.npd 2 in
    read_at (stream19 (nb * h.totd)
    (record {
      length = h.length;
      pause = h.pause;
      totp = h.totp;
      npp = h.npp;
      asp0 = h.asp;
      asp = asp;
      pilot = place_of x.cursor;
      entries = place_of entries;
      totd = h.totd;
      npd = h.npd;
      asd0 = h.asd;
      asd = asd;
      nb = nb;
      symbols = place_of symbols;
      from = place_of from;
      size = (nb * h.totd + 7) / 8;
    })) s from
