-- AN ANSWER OF A RUN AS TEN WORDS: a player's words; where a call is refused, its number, and the head as it was.
-- Definitions alone; assumes nothing.
use Rattle.std.specs.Prelude.{ℕ, refl, List, [], ◌∷◌, length, get_or, Result, Ok, Err}
use Rattle.rows.specs.Table.{Codec}
use Rattle.play_walk.specs.declared.Position.{Position}
use Rattle.play_walk.specs.declared.Stand.{Stand}
use Rattle.play_walk.specs.declared.Reached.{Reached}
use Rattle.play_walk.specs.declared.Fault.{Fault}
use Rattle.play_walk.specs.Heads.{fault_no}
use Rattle.play_deck.specs.Calls.{position_in, passed_in, answer_level}
use Rattle.host_words.specs.Words.{flag_of, how_number, spot_of, span_of}
use Rattle.host_run.specs.declared.AnswerRow.{AnswerRow}

abbrev pub encode_answer : AnswerRow → List ℕ
encode_answer r =
    r.how ∷ r.passed ∷ r.level ∷ r.block ∷ r.phase ∷ r.item ∷ r.part ∷ r.half ∷ r.endless ∷ r.left ∷ []

abbrev pub decode_answer : List ℕ → AnswerRow
decode_answer w =
    record {
      how = get_or w 0 0;
      passed = get_or w 1 0;
      level = get_or w 2 0;
      block = get_or w 3 0;
      phase = get_or w 4 0;
      item = get_or w 5 0;
      part = get_or w 6 0;
      half = get_or w 7 0;
      endless = get_or w 8 0;
      left = get_or w 9 0;
    }

abbrev pub answer_row : Codec AnswerRow
answer_row =
    record {
      width = length (encode_answer (decode_answer []));
      enc = encode_answer;
      dec = decode_answer;
      sized = λ r. refl;
      back = λ r. refl;
    }

-- how a call leaves the head; a refusal's number
unfoldable pub how_of : Result Reached Fault → ℕ
how_of (Ok a) = how_number a.how
how_of (Err f) = fault_no f

-- the words of a stand
abbrev pub stand_row : ℕ → Stand → AnswerRow
stand_row how s =
    let f = spot_of s.position.phase in
    let d = span_of s.position.left in
    record {
      how = how;
      passed = s.passed;
      level = flag_of s.level;
      block = s.position.block;
      phase = f.phase;
      item = f.item;
      part = f.part;
      half = f.half;
      endless = d.endless;
      left = d.left;
    }

-- THE ROW of a call from a position: how it came out, and where it leaves the head
unfoldable pub call_row : Position → Result Reached Fault → AnswerRow
call_row q r = stand_row (how_of r) (record { position = position_in q r; passed = passed_in r; level = answer_level r })
