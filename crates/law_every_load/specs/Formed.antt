-- What every row of every load is: formed, a source row, and one that says what it sounds. Definitions alone; assumes nothing.
use Rattle.std.specs.Prelude.{ℕ, ◌+◌, ◌≤◌, ◌≡◌, List, length}
use Rattle.rows.specs.declared.Block.{Block}
use Rattle.rows.specs.declared.Tone.{Tone}
use Rattle.rows.specs.Well.{Halves}
use Rattle.play_entries.specs.Figures.{sound_in}
use Rattle.load_state.specs.Kept.{All}

-- what a source row has of a document row's words: 0s
pub record Sourced (sort level played : ℕ) : Type 0 where
  pub is : sort ≡ 0
  pub low : level ≡ 0
  pub silent : played ≡ 0

-- its data and its name lie in the tape, its numbers are small, and so are its tones'
pub record Formed (s : List ℕ) (ts : List Tone) (r : Block) : Type 0 where
  pub bytes : r.start + r.size ≤ length s
  pub name : r.text + r.chars ≤ length s
  pub zero : r.zero ≤ 65535
  pub one : r.one ≤ 65535
  pub pause : r.pause ≤ 229372500
  pub endless : r.endless ≤ 1
  pub selectable : r.selectable ≤ 1
  pub named : r.named ≤ 4
  pub tones : All Halves ts
  pub source : Sourced r.sort r.level r.played

-- its word `sound` is what its own tone rows and its data sound
abbrev pub SaysSound : List ℕ → List Tone → Block → Type 0
SaysSound s ts r = r.sound ≡ sound_in s ts r
