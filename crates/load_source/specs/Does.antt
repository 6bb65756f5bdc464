-- What the run takes a piece to be, and what its answer says of the tables. Assumes nothing.
use Rattle.std.specs.Prelude.{ℕ, ◌+◌, ◌*◌, ◌≤◌, ◌≡◌, List, length, Result, Ok, Err}
use Rattle.rows.specs.Table.{zeros}
use Rattle.load_general.specs.Held.{Held}
use Rattle.cut_grammar.specs.declared.GeneralizedData.{GeneralizedData}
use Rattle.cut_grammar.specs.declared.Piece.{Piece}
use Rattle.cut_grammar.specs.declared.Piece.TheVariants.{Pulses, Generalized}
use Rattle.load_state.specs.declared.State.{State}
use Rattle.load_state.specs.Parser.{Parsed}
use Rattle.load_state.specs.Holds.{Holds}
use Rattle.load_source.specs.declared.Failure.{Failure}
use Rattle.load_source.specs.declared.NotRead.{NotRead}
use Rattle.load_source.specs.declared.NotRead.TheVariants.{Failed, Refused}
use Rattle.load_source.specs.Source.{Verdict, done, failed, refused}

-- what the code takes a piece of this tape to be: its pulses inside the tape, a 19 as `Held` says
pub record Fit (s : List ℕ) (p : Piece) : Type 0 where
  pub pulses : (count from : ℕ) → p ≡ Pulses count from → from + count * 2 ≤ length s
  pub general : (g : GeneralizedData) → p ≡ Generalized g → Held s g

-- a table not yet written
abbrev pub Blank : List ℕ → Type 0
Blank t = t ≡ zeros (length t)

-- a reading's answer is the definition's; where it is done, the state and tables hold the tape
pub data Finds (B N : ℕ) : Result State NotRead → List ℕ → List ℕ → Verdict → Type 0 where
  ends : {s : State} {bt tt : List ℕ} {t : Parsed} → Holds B N s bt tt t → Finds B N (Ok s) bt tt (done t)
  fails : {f : Failure} {bt tt : List ℕ} → Finds B N (Err (Failed f)) bt tt (failed f)
  refuses : {k : ℕ} {bt tt : List ℕ} → Finds B N (Err (Refused k)) bt tt (refused k)
