-- What the program `unread` prints of its input. Definitions alone; assumes nothing.
use Rattle.std.specs.Prelude.{ℕ, List, [], ◌∷◌, Err}
use Rattle.refusals.specs.Refusals.{bad_model}
use Rattle.load_blocks.specs.Does.{lent_of}
use Rattle.load_tape.specs.declared.NotLoaded.TheVariants.{Refused}
use Rattle.load_tape.specs.Load.{load_named, answer_of}
use Rattle.prog_model.specs.Models.{model_of}
use Rattle.prog_unread.specs.Report.{report_text, full_blocks, full_tones}

-- a missing first byte is 1; else it names the model, a bad one too, and the rest is the tape
unfoldable pub unread_heard : List ℕ → List ℕ
unread_heard [] = report_text (Err (Refused bad_model))
unread_heard (b ∷ tape) = report_text (answer_of (load_named (lent_of full_blocks full_tones) tape (model_of b)))
