-- THE TIMES OF A MOUNTED TAPE BY ITS PULSE LIST (rules 30, 112): what the queries answer on every table that a load leaves.
-- Definitions alone; assumes nothing.
use Rattle.std.specs.Prelude.{ℕ, ◌&&◌, ltb, Result, Ok, Err}
use Rattle.law_base.specs.Rules.{◌⇒◌, ◌∣◌}
use Rattle.refusals.specs.declared.Refusal.{Refusal}
use Rattle.refusals.specs.declared.Refusal.TheVariants.{BadRow}
use Rattle.law_pulses.specs.Play.{comes_to}
use Rattle.law_pulses.specs.Source.{is_ended}
use Rattle.play_entries.specs.declared.Duration.{Duration}
use Rattle.play_entries.specs.Entries.{entries_of, lasts_of}
use Rattle.play_entries.specs.Places.{Tape, list_from, load_time}
use Rattle.play_entries.specs.Mounted.{overfull, formed}
use Rattle.ask.specs.Queries.{asked, told_of}

-- a block's T-states with its pause, or that it never ends
unfoldable pub time_listed : Tape → ℕ → Result Duration Refusal
time_listed w i = told_of (λ r. lasts_of (entries_of w.bytes w.tones i r)) (asked w i)

-- LOADING TIME. Of the rows up to and including the first stop each is needed, also behind the last pulse, and none beyond:
-- v is the tape up to the first row that is not well formed, and a list that ends where v is cut has come to that row
unfoldable pub loading_in : Tape → Tape → Result ℕ Refusal
loading_in w v =
    (is_ended (comes_to (list_from v 0)) && ltb v.count w.count) ⇒ Err BadRow
    ∣ Ok (load_time v)

unfoldable pub loading_listed : Tape → Result ℕ Refusal
loading_listed w = overfull w ⇒ Err BadRow ∣ loading_in w (formed w 0)
