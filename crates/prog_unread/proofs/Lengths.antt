-- HOW LONG A REPORT CAN BE: no longer than 256 bytes, and its parts accordingly. Assumes nothing.
use Prim.Native.Nat.{ℕ, ◌≤◌}
use native.Mathlib.Omega.{arith}
use mathlib.Core.List.{List}
use lib.ListN.{length, length-append}
use Rattle.std.specs.Prelude.{Result, Ok, Err}
use Rattle.text_out.specs.Out.{digits, decimal, Wrote, Fitted, refused_text, refused_line}
use Rattle.text_out.proofs.Writing.{decimal-length, refused_line_length, wrote_fitted}
use Rattle.load_source.specs.declared.Failure.{Failure}
use Rattle.load_source.specs.declared.Failure.TheVariants.{BadSignature, Short, ShortPiece, Length}
use Rattle.load_tape.specs.declared.Format.{Format}
use Rattle.load_tape.specs.declared.Format.TheVariants.{Tap, Tzx}
use Rattle.load_tape.specs.declared.Loaded.{Loaded}
use Rattle.load_tape.specs.declared.NotLoaded.{NotLoaded}
use Rattle.load_tape.specs.declared.NotLoaded.TheVariants.{Unread, Refused}
use Rattle.prog_unread.specs.Report.{piece_text, field_text, failure_text, tzx_text, read_text, report_text}

pub piece_length : (k a : ℕ) → length (piece_text k a) ≤ 53
unfolding piece_text
piece_length k a = simp length-append (omega (arith, decimal-length k, decimal-length a))

field-length : (p w : ℕ) → length (field_text p w) ≤ 54
unfolding field_text
field-length p w = simp length-append (omega (arith, decimal-length p, decimal-length w))

pub failure_length : (f : Failure) → length (failure_text f) ≤ 112
unfolding failure_text
failure_length BadSignature = omega arith
failure_length (Short p w) = omega (arith, field-length p w)
failure_length (ShortPiece k a p w) = simp length-append (omega (arith, piece_length k a, field-length p w))
failure_length (Length k a n) = simp length-append (omega (arith, piece_length k a, decimal-length n))

pub tzx-length : (f : Failure) → length (tzx_text f) ≤ 112
unfolding tzx_text failure_text
tzx-length BadSignature = omega arith
tzx-length (Short p w) = omega (arith, field-length p w)
tzx-length (ShortPiece k a p w) = failure_length (ShortPiece k a p w)
tzx-length (Length k a n) = failure_length (Length k a n)

read_length : (f : Format) → length (read_text f) ≤ 9
unfolding read_text
read_length Tap = omega arith
read_length Tzx = omega arith

report_length : (a : Result Loaded NotLoaded) → length (report_text a) ≤ 256
unfolding report_text refused_line refused_text decimal digits
report_length (Ok l) = omega (arith, read_length l.format)
report_length (Err (Unread f g)) = simp length-append (omega (arith, tzx-length f, failure_length g))
report_length (Err (Refused k)) = simp length-append (omega (arith, decimal-length k))

-- by which a report's parts stay below a bound
pub ruleset report_parts = (refused_line_length, tzx-length, failure_length)

-- a report that was written into bytes that have room for every one
pub report_fits : {out out' : List ℕ} {n : ℕ} (a : Result Loaded NotLoaded) → Wrote out 0 (report_text a) out' n → 256 ≤ length out
    → Fitted (report_text a) out out' n
report_fits a w h = wrote_fitted w (omega (arith, report_length a))
