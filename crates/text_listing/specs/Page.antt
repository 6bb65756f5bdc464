-- A listing's whole text over a mounted tape (rules 112 to 115). Definitions alone; assumes nothing.
use Rattle.std.specs.Prelude.{ℕ, List, ◌++◌, eqb}
use Rattle.law_base.specs.Rules.{◌⇒◌, ◌∣◌}
use Rattle.text_out.specs.Out.{ascii, decimal}
use Rattle.play_entries.specs.declared.Duration.{Duration}
use Rattle.play_entries.specs.Entries.{entries_of, lasts_of}
use Rattle.play_entries.specs.Places.{Tape, block_in, load_time}
use Rattle.play_entries.specs.Stored.{row_lasts, rows_time}
use Rattle.load_tape.specs.declared.Format.{Format}
use Rattle.load_tape.specs.declared.Format.TheVariants.{Tap, Tzx}
use Rattle.text_listing.specs.Lines.{rows_text_by}

-- models print as 48K, 128K, Plus3
unfoldable pub model_text : ℕ → List ℕ
model_text model =
    eqb model 0 ⇒ ascii "48K"
    ∣ eqb model 1 ⇒ ascii "128K"
    ∣ ascii "Plus3"

-- formats TAP, TZX
unfoldable pub format_text : Format → List ℕ
format_text Tap = ascii "TAP"
format_text Tzx = ascii "TZX"

-- ` format F blocks N`
unfoldable pub count_text : Format → ℕ → List ℕ
count_text format n =
    ascii " format " ++ format_text format
    ++ ascii " blocks " ++ decimal n ++ ascii "\n"

-- `time T`: the loading time
unfoldable pub loading_text : ℕ → List ℕ
loading_text time = ascii "time " ++ decimal time ++ ascii "\n"

-- what follows the model's name: the T-states of each row and the loading time are handed in
unfoldable pub rest_text : Format → (ℕ → Duration) → ℕ → Tape → List ℕ
rest_text format lasts time w = count_text format w.count ++ rows_text_by lasts w w.count ++ loading_text time

-- THE TEXT, by the rows' own words
unfoldable pub listing_text : ℕ → Format → Tape → List ℕ
listing_text model format w =
    ascii "model " ++ model_text model ++ rest_text format (λ i. row_lasts (block_in w i)) (rows_time w) w

-- and by the pulse list: what it is on every table that a load leaves
unfoldable pub listed_text : ℕ → Format → Tape → List ℕ
listed_text model format w =
    ascii "model " ++ model_text model
    ++ rest_text format (λ i. lasts_of (entries_of w.bytes w.tones i (block_in w i))) (load_time w) w
