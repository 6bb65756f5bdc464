-- A load's answer as text, a line or three; the tables that a program lends. Definitions alone; assumes nothing.
use Rattle.std.specs.Prelude.{ℕ, ◌*◌, List, ◌++◌, Result, Ok, Err}
use Rattle.refusals.specs.Refusals.{tape_bad}
use Rattle.rows.specs.Rows.{block, tone, block_most, tone_most}
use Rattle.text_out.specs.Out.{ascii, decimal, refused_line}
use Rattle.load_source.specs.declared.Failure.{Failure}
use Rattle.load_source.specs.declared.Failure.TheVariants.{BadSignature, Short, ShortPiece, Length}
use Rattle.load_tape.specs.declared.Format.{Format}
use Rattle.load_tape.specs.declared.Format.TheVariants.{Tap, Tzx}
use Rattle.load_tape.specs.declared.Loaded.{Loaded}
use Rattle.load_tape.specs.declared.NotLoaded.{NotLoaded}
use Rattle.load_tape.specs.declared.NotLoaded.TheVariants.{Unread, Refused}

-- ` kind K piece A`, A the place of its kind byte
unfoldable pub piece_text : ℕ → ℕ → List ℕ
piece_text k a = (ascii " kind " ++ decimal k) ++ (ascii " piece " ++ decimal a)

-- ` place P width W`
unfoldable pub field_text : ℕ → ℕ → List ℕ
field_text p w = (ascii " place " ++ decimal p) ++ (ascii " width " ++ decimal w)

-- WHAT AN ATTEMPT MET: a bad signature; a field that came up short, in no piece or in one; a 2A of another length than 0
unfoldable pub failure_text : Failure → List ℕ
failure_text BadSignature = ascii "signature bad"
failure_text (Short p w) = ascii "short" ++ field_text p w
failure_text (ShortPiece k a p w) = ascii "short" ++ piece_text k a ++ field_text p w
failure_text (Length k a n) = ascii "length" ++ piece_text k a ++ (ascii " length " ++ decimal n)

-- THE SAME OF THE ATTEMPT AS TZX: a field in no piece is the head's, which is the signature
unfoldable pub tzx_text : Failure → List ℕ
tzx_text BadSignature = failure_text BadSignature
tzx_text (Short p w) = ascii "signature " ++ failure_text (Short p w)
tzx_text (ShortPiece k a p w) = failure_text (ShortPiece k a p w)
tzx_text (Length k a n) = failure_text (Length k a n)

-- `read` and the format
unfoldable pub read_text : Format → List ℕ
read_text Tap = ascii "read TAP\n"
read_text Tzx = ascii "read TZX\n"

-- THE TEXT of a load's answer: `read` and the format; `refused n`; refusal 3 with a line for each attempt
unfoldable pub report_text : Result Loaded NotLoaded → List ℕ
report_text (Ok l) = read_text l.format
report_text (Err (Unread f g)) =
    refused_line tape_bad ++ (ascii "tzx " ++ tzx_text f ++ ascii "\n") ++ (ascii "tap " ++ failure_text g ++ ascii "\n")
report_text (Err (Refused k)) = refused_line k

-- THE WORDS OF BOTH TABLES where every row has its place
abbrev pub full_blocks : ℕ
full_blocks = block_most * block.width

abbrev pub full_tones : ℕ
full_tones = tone_most * tone.width
