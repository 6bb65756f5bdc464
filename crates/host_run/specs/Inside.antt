-- CALLS THAT END INSIDE ONE ENTRY, and a turn of a run: shortcuts of the code, which no public contract cites.
-- Definitions alone; assumes nothing.
use Rattle.std.specs.Prelude.{ℕ, ◌-◌, ◌*◌, ◌≤◌, Bool, List, [], ◌∷◌, ltb, length, drop}
use Rattle.law_base.specs.Rules.{◌⇒◌, ◌∣◌}
use Rattle.rows.specs.Table.{put_all}
use Rattle.play_entries.specs.Places.{Tape}
use Rattle.play_deck.specs.Assay.{Assayed}
use Rattle.host_run.specs.declared.AnswerRow.{AnswerRow}
use Rattle.host_run.specs.declared.Going.{Going}
use Rattle.host_run.specs.Rows.{answer_row}
use Rattle.host_run.specs.Runs.{player_of, run_rows}

-- a row with so much left
abbrev pub with_left : AnswerRow → ℕ → AnswerRow
with_left r left =
    record {
      how = r.how;
      passed = r.passed;
      level = r.level;
      block = r.block;
      phase = r.phase;
      item = r.item;
      part = r.part;
      half = r.half;
      endless = r.endless;
      left = left;
    }

-- the rows of the first calls that end inside an entry of which t T-states are left, r being the head's row before them
unfoldable pub inside_rows : AnswerRow → ℕ → List ℕ → List AnswerRow
inside_rows r t [] = []
inside_rows r t (n ∷ ns) = ltb n t ⇒ with_left r (t - n) ∷ inside_rows r (t - n) ns ∣ []

-- what they leave of the entry
unfoldable pub inside_left : ℕ → List ℕ → ℕ
inside_left t [] = t
inside_left t (n ∷ ns) = ltb n t ⇒ inside_left (t - n) ns ∣ t

-- the table that a run still leads to
abbrev pub leads_to : Bool → Tape → List ℕ → List ℕ → Going → List ℕ
leads_to measured w ns table g = put_all answer_row table g.next (run_rows (player_of measured w) g.position (drop g.next ns))

-- where a run stands: what its position comes to is known
abbrev pub Known : Tape → Going → Type 0
Known w g = Assayed w g.position g.finding

-- the table holds a row for each call
abbrev pub HoldsRows : List ℕ → List ℕ → Type 0
HoldsRows ns table = length ns * answer_row.width ≤ length table
