-- REPORTS, by computation: every failure in the line of the attempt as TZX, and those of a TAP in the other's. Assumes nothing.
use mathlib.Core.Path.{◌≡◌, refl}
use mathlib.Core.List.{◌++◌}
use Rattle.std.specs.Prelude.{Ok, Err}
use Rattle.refusals.specs.Refusals.{bad_model, last_bits}
use Rattle.text_out.specs.Out.{ascii, digits, decimal, refused_text, refused_line}
use Rattle.load_source.specs.declared.Failure.TheVariants.{BadSignature, Short, ShortPiece, Length}
use Rattle.load_tape.specs.declared.Format.TheVariants.{Tap, Tzx}
use Rattle.load_tape.specs.declared.NotLoaded.TheVariants.{Unread, Refused}
use Rattle.load_tape.specs.Load.{loaded_as}
use Rattle.prog_unread.specs.Report.{piece_text, field_text, failure_text, tzx_text, read_text, report_text}

-- a TAP's two bytes of a length, and one more where two are to come
head_short : report_text (Err (Unread (Short 0 10) (Short 2 2))) ≡
    ascii "refused 3\n"
    ++ ascii "tzx signature short place 0 width 10\n"
    ++ ascii "tap short place 2 width 2\n"
unfolding report_text refused_line refused_text tzx_text failure_text field_text decimal digits
head_short = refl

signature-bad : report_text (Err (Unread BadSignature (Short 2 65535))) ≡
    ascii "refused 3\n"
    ++ ascii "tzx signature bad\n"
    ++ ascii "tap short place 2 width 65535\n"
unfolding report_text refused_line refused_text tzx_text failure_text field_text decimal digits
signature-bad = refl

-- a 10 of five bytes of data, of which one is there
piece_short : report_text (Err (Unread (ShortPiece 0x10 10 15 5) (Short 2 22618))) ≡
    ascii "refused 3\n"
    ++ ascii "tzx short kind 16 piece 10 place 15 width 5\n"
    ++ ascii "tap short place 2 width 22618\n"
unfolding report_text refused_line refused_text tzx_text failure_text piece_text field_text decimal digits
piece_short = refl

-- a 2A of length 1
length_one : report_text (Err (Unread (Length 0x2A 13 1) (Short 2 22618))) ≡
    ascii "refused 3\n"
    ++ ascii "tzx length kind 42 piece 13 length 1\n"
    ++ ascii "tap short place 2 width 22618\n"
unfolding report_text refused_line refused_text tzx_text failure_text piece_text field_text decimal digits
length_one = refl

-- the other answers
read_tap_lem : report_text (Ok (loaded_as Tap 2 4)) ≡ ascii "read TAP\n"
unfolding report_text read_text
read_tap_lem = refl

read_tzx_lem : report_text (Ok (loaded_as Tzx 0 0)) ≡ ascii "read TZX\n"
unfolding report_text read_text
read_tzx_lem = refl

no_model : report_text (Err (Refused bad_model)) ≡ ascii "refused 1\n"
unfolding report_text refused_line refused_text decimal digits
no_model = refl

last_bits_lem : report_text (Err (Refused last_bits)) ≡ ascii "refused 7\n"
unfolding report_text refused_line refused_text decimal digits
last_bits_lem = refl
