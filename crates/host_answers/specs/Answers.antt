-- An answer as a C host gets it (rules 134, 137): number, values, and what is left of the lent row. Definitions alone; assumes nothing.
use Rattle.std.specs.Prelude.{ℕ, ◌-◌, Bool, List, [], ◌∷◌, get_or, Result, Ok, Err}
use Rattle.law_base.specs.Rules.{◌⇒◌, ◌∣◌}
use Rattle.refusals.specs.declared.Refusal.{Refusal}
use Rattle.refusals.specs.Refusals.{tape_bad, no_room, number}
use Rattle.text_out.specs.Out.{fits, told}
use Rattle.play_entries.specs.declared.Duration.{Duration}
use Rattle.play_walk.specs.declared.Position.{Position}
use Rattle.play_walk.specs.declared.Stand.{Stand}
use Rattle.play_walk.specs.declared.Reached.{Reached}
use Rattle.play_walk.specs.declared.Fault.{Fault}
use Rattle.play_walk.specs.Heads.{fault_no}
use Rattle.load_source.specs.declared.Failure.{Failure}
use Rattle.load_source.specs.declared.Failure.TheVariants as failure
use Rattle.load_tape.specs.declared.Format.{Format}
use Rattle.load_tape.specs.declared.Format.TheVariants.{Tap, Tzx}
use Rattle.load_tape.specs.declared.Loaded.{Loaded}
use Rattle.load_tape.specs.declared.NotLoaded.{NotLoaded}
use Rattle.load_tape.specs.declared.NotLoaded.TheVariants.{Unread, Refused}
use Rattle.host_answers.specs.declared.Met.{Met}
use Rattle.host_words.specs.Words.{flag_of, how_number, span_of, words_of}

-- an answer as a host gets it: the number for no (rule 20), 0 for none; its values as words; and the number where the row doesn't hold them
pub record Reply : Type 0 where
  pub no : ℕ
  pub values : List ℕ
  pub short : ℕ

abbrev pub given : List ℕ → Reply
given ws = record { no = 0; values = ws; short = no_room }

-- a refusal with words: its number stands, whatever row is lent
abbrev pub refused_with : ℕ → List ℕ → Reply
refused_with k ws = record { no = k; values = ws; short = k }

-- a refusal is its number alone
abbrev pub refused_by : ℕ → Reply
refused_by k = refused_with k []

-- WHAT IS RETURNED: the number; of an answer that is no refusal 10, where the lent row is shorter than the values
unfoldable pub number_of : Reply → List ℕ → ℕ
number_of a row = fits a.values row ⇒ a.no ∣ a.short

-- WHAT IS LEFT OF THE LENT ROW: the values, then the words that were there; all of them where nothing is told
unfoldable pub values_of : Reply → List ℕ → List ℕ
values_of a row = told a.values row

-- AN ANSWER: a value as its words, or a refusal
abbrev pub reply_of : {A E : Type 0} → (A → List ℕ) → (E → Reply) → Result A E → Reply
reply_of words why (Ok a) = given (words a)
reply_of words why (Err e) = why e

-- a refusal of the queries, and of the players
abbrev pub by_refusal : Refusal → Reply
by_refusal k = refused_by (number k)

abbrev pub by_fault : Fault → Reply
by_fault f = refused_by (fault_no f)

-- a number
abbrev pub number_words : ℕ → List ℕ
number_words n = n ∷ []

abbrev pub of_number : Result ℕ Refusal → Reply
of_number a = reply_of number_words by_refusal a

-- a selectable mark: 0 or 1
abbrev pub mark_words : Bool → List ℕ
mark_words b = flag_of b ∷ []

abbrev pub of_mark : Result Bool Refusal → Reply
of_mark a = reply_of mark_words by_refusal a

-- what a block lasts: whether it never ends, and its T-states
abbrev pub time_words : Duration → List ℕ
time_words d = (span_of d).endless ∷ (span_of d).left ∷ []

abbrev pub of_time : Result Duration Refusal → Reply
of_time a = reply_of time_words by_refusal a

-- a position
unfoldable pub of_position : Position → Reply
of_position q = given (words_of q)

-- a block for a menu
abbrev pub of_selected : Result ℕ Fault → Reply
of_selected a = reply_of number_words by_fault a

-- where a call leaves the head: how it stands, the entries passed, the level, the position
unfoldable pub stand_words : ℕ → Stand → List ℕ
stand_words how s = how ∷ s.passed ∷ flag_of s.level ∷ words_of s.position

-- a player's answer
abbrev pub reached_words : Reached → List ℕ
reached_words a = stand_words (how_number a.how) a.stand

abbrev pub of_reached : Result Reached Fault → Reply
of_reached a = reply_of reached_words by_fault a

-- where a call of n ends inside its entry, on the position's own words: a shortcut of the code, which no public contract cites
unfoldable pub inside_words : List ℕ → ℕ → Bool → List ℕ
inside_words ws n v =
    0 ∷ 0 ∷ flag_of v ∷ get_or ws 0 0 ∷ get_or ws 1 0 ∷ get_or ws 2 0 ∷ get_or ws 3 0 ∷ get_or ws 4 0 ∷ get_or ws 5 0 ∷ (get_or ws 6 0 - n) ∷ []

-- a tape's format: 0 TAP, 1 TZX
unfoldable pub format_number : Format → ℕ
format_number Tap = 0
format_number Tzx = 1

-- what an attempt to read met, as words. Cause 0: no piece's field came up short (as TZX the signature); 1: a bad signature;
-- 2: a piece's field came up short; 3: a piece has a length that is not 0. What a cause doesn't name is 0
unfoldable pub met_of : Failure → Met
met_of (failure.Short p w) = record { cause = 0; kind = 0; at = 0; place = p; width = w; length = 0 }
met_of failure.BadSignature = record { cause = 1; kind = 0; at = 0; place = 0; width = 0; length = 0 }
met_of (failure.ShortPiece kind at p w) = record { cause = 2; kind = kind; at = at; place = p; width = w; length = 0 }
met_of (failure.Length kind at n) = record { cause = 3; kind = kind; at = at; place = 0; width = 0; length = n }

-- what both attempts met: all of the TZX attempt's, then the TAP attempt's place and width
unfoldable pub both_words : Failure → Failure → List ℕ
both_words f g =
    let x = met_of f in
    let y = met_of g in
    x.cause ∷ x.kind ∷ x.at ∷ x.place ∷ x.width ∷ x.length ∷ y.place ∷ y.width ∷ []

-- a load's answer: the format, how many blocks, how many tone rows; or with 3 what both attempts met
abbrev pub loaded_words : Loaded → List ℕ
loaded_words l = format_number l.format ∷ l.blocks ∷ l.tones ∷ []

abbrev pub by_unread : NotLoaded → Reply
by_unread (Unread f g) = refused_with tape_bad (both_words f g)
by_unread (Refused k) = refused_by k

abbrev pub of_loaded : Result Loaded NotLoaded → Reply
of_loaded a = reply_of loaded_words by_unread a
