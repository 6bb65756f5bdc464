-- WHAT A RUN'S ROWS SAY: each is a single call's, and together they are the runs of calls that demand 3 speaks of. Assumes nothing.
use Prim.Native.Nat.{ℕ, suc}
use mathlib.Core.Path.{◌≡◌, refl, ap}
use mathlib.Core.List.{List, [], ◌∷◌, ◌++◌}
use lib.ListN.{length}
use Rattle.play_entries.specs.Places.{Tape}
use Rattle.play_walk.specs.declared.Position.{Position}
use Rattle.std.specs.Prelude.{Result}
use Rattle.play_walk.specs.declared.Reached.{Reached}
use Rattle.play_walk.specs.declared.Fault.{Fault}
use Rattle.play_deck.specs.Deck.{play_measured, play_source}
use Rattle.play_deck.specs.Calls.{position_in, passed_in, answer_level, counting, run_calls, run_sources}
use Rattle.host_words.specs.Words.{words_of, flag_of}
use Rattle.host_run.specs.declared.AnswerRow.{AnswerRow}
use Rattle.host_run.specs.Rows.{encode_answer, how_of, call_row}
use Rattle.host_run.specs.Runs.{answers_of, tallied, last_answer, run_rows, rows_over}

-- a row has the player's ten words: how it stands, the entries passed, the level, the position
pub row_words : (q : Position) (r : Result Reached Fault)
    → encode_answer (call_row q r) ≡ how_of r ∷ passed_in r ∷ flag_of (answer_level r) ∷ words_of (position_in q r)
unfolding call_row words_of
row_words q r = refl

module _ (w : Tape) where
  -- THE MEASURED PLAYER'S RUN comes to `run_calls`
  pub run-calls : (q : Position) (n : ℕ) (ns : List ℕ)
      → tallied (play_measured w q n) (answers_of (play_measured w) (position_in q (play_measured w q n)) ns) ≡ run_calls w q n ns
  unfolding answers_of tallied run_calls
  run-calls q n [] = refl
  run-calls q n (m ∷ ms) = ap (counting (passed_in (play_measured w q n))) (run-calls (position_in q (play_measured w q n)) m ms)

  -- the source's play's to `run_sources`
  pub run-sources : (q : Position) (n : ℕ) (ns : List ℕ)
      → last_answer (play_source w q n) (answers_of (play_source w) (position_in q (play_source w q n)) ns) ≡ run_sources w q n ns
  unfolding answers_of last_answer run_sources
  run-sources q n [] = refl
  run-sources q n (m ∷ ms) = run-sources (position_in q (play_source w q n)) m ms

-- a run is as long as its calls, and cut in two it is two runs, the second from where the first leaves the head
module _ (play : Position → ℕ → Result Reached Fault) where
  -- the rows are those of the answers
  pub rows-answers : (q : Position) (ns : List ℕ) → run_rows play q ns ≡ rows_over q (answers_of play q ns)
  unfolding run_rows rows_over answers_of
  rows-answers q [] = refl
  rows-answers q (n ∷ ns) = ap (λ (rs : List AnswerRow). call_row q (play q n) ∷ rs) (rows-answers (position_in q (play q n)) ns)

  pub rows_many : (q : Position) (ns : List ℕ) → length (run_rows play q ns) ≡ length ns
  unfolding run_rows
  rows_many q [] = refl
  rows_many q (n ∷ ns) = ap suc (rows_many (position_in q (play q n)) ns)

  unfoldable pub head_behind : Position → List ℕ → Position
  head_behind q [] = q
  head_behind q (n ∷ ns) = head_behind (position_in q (play q n)) ns

  pub run_cut : (q : Position) (ns ms : List ℕ) → run_rows play q (ns ++ ms) ≡ run_rows play q ns ++ run_rows play (head_behind q ns) ms
  unfolding run_rows head_behind
  run_cut q [] ms = refl
  run_cut q (n ∷ ns) ms = ap (λ (rs : List AnswerRow). call_row q (play q n) ∷ rs) (run_cut (position_in q (play q n)) ns ms)
