-- THE P READINGS (rule 118) about names and times, the printed listing (rule 113), the order of refusals (rule 36), and times by the rows'
-- words (rules 156, 158). Assumes nothing.
use Prim.Native.Nat.{ℕ}
use mathlib.Core.Path.{◌≡◌, refl}
use mathlib.Core.Bool.{true, false}
use mathlib.Core.List.{List, [], ◌∷◌, ◌++◌, map}
use Rattle.std.specs.Prelude.{Bool, Result, Ok, Err}
use Rattle.refusals.specs.declared.Refusal.{Refusal}
use Rattle.refusals.specs.declared.Refusal.TheVariants.{NoBlock, NoRoom, BadRow}
use Rattle.refusals.specs.Refusals.{number}
use Rattle.rows.specs.Well.{well_ranges, well_tone, well_numbers, well_cases, well_tones, well_block}
use Rattle.rows.proofs.Samples.{row_words}
use Rattle.text_out.specs.Out.{digits, decimal, told}
use Rattle.text_name.specs.Names.{is_header, size_shown, size_name, guessed, name_of}
use Rattle.play_entries.specs.declared.Duration.{Duration}
use Rattle.play_entries.specs.declared.Duration.TheVariants.{T, Endless}
use Rattle.play_entries.specs.Places.{Tape}
use Rattle.play_entries.specs.Stored.{row_lasts, rows_loading}
use Rattle.play_entries.specs.Mounted.{tape_of, well_row}
use Rattle.ask.specs.Queries.{told_of, asked, refusal_of, size_of, selectable_of, time_of, length_or_no_room}
use Rattle.ask.specs.Queries.{named_or, name_answer, name_bytes, well_to_stop, loading_of}

-- all that is answered of a block, with the bytes that its name leaves, and the tape's loading time
pub record Answers : Type 0 where
  pub refusal : ℕ
  pub size : Result ℕ Refusal
  pub selectable : Result Bool Refusal
  pub lasts : Result Duration Refusal
  pub name : Result ℕ Refusal
  pub bytes : List ℕ
  pub loading : Result ℕ Refusal

abbrev pub answered : Tape → ℕ → List ℕ → Answers
answered w i out =
    record {
      refusal = refusal_of w i;
      size = size_of w i;
      selectable = selectable_of w i;
      lasts = time_of w i;
      name = name_answer w i out;
      bytes = name_bytes w i out;
      loading = loading_of w;
    }

-- a block of `size` data bytes, its name n bytes long
abbrev says : ℕ → Result Bool Refusal → Duration → ℕ → List ℕ → ℕ → Answers
says size marked d n bytes loading =
    record {
      refusal = 0;
      size = Ok size;
      selectable = marked;
      lasts = Ok d;
      name = Ok n;
      bytes = bytes;
      loading = Ok loading;
    }

-- refusal k of each of these, which leaves the lent bytes
abbrev refuses : Refusal → List ℕ → Result ℕ Refusal → Answers
refuses k out loading =
    record {
      refusal = number k;
      size = Err k;
      selectable = Err k;
      lasts = Err k;
      name = Err k;
      bytes = out;
      loading = loading;
    }

abbrev starred : Result Bool Refusal
starred = Ok true

abbrev plain : Result Bool Refusal
plain = Ok false

-- ` bytes`, and `stop`
abbrev bytes_word : List ℕ
bytes_word = 0x20 ∷ 0x62 ∷ 0x79 ∷ 0x74 ∷ 0x65 ∷ 0x73 ∷ []

abbrev stop_word : List ℕ
stop_word = 0x73 ∷ 0x74 ∷ 0x6F ∷ 0x70 ∷ []

-- nine lent bytes
abbrev nine : List ℕ
nine = 1 ∷ 2 ∷ 3 ∷ 4 ∷ 5 ∷ 6 ∷ 7 ∷ 8 ∷ 9 ∷ []

-- a block's row by its first eleven words and by its sound's T-states
abbrev sounding : List ℕ → ℕ → List ℕ
sounding first n = row_words (first ++ (0 ∷ 0 ∷ 0 ∷ 0 ∷ 0 ∷ n ∷ []))

-- one without data: its first tone row, how many it has, its pause, whether it is endless, its mark, its name's case, its sound's T-states
abbrev sound : ℕ → ℕ → ℕ → ℕ → ℕ → ℕ → ℕ → List ℕ
sound tone tones pause endless selectable named n =
    sounding (tone ∷ tones ∷ 0 ∷ 0 ∷ 0 ∷ 0 ∷ 0 ∷ pause ∷ endless ∷ selectable ∷ named ∷ []) n

abbrev stop_row : List ℕ
stop_row = sound 0 0 0 1 1 1 0

-- last bits 9 of a byte: not well formed
abbrev broken_row : List ℕ
broken_row = row_words (0 ∷ 0 ∷ 0 ∷ 1 ∷ 0 ∷ 0 ∷ 9 ∷ 0 ∷ 0 ∷ 1 ∷ [])

-- a tape of one block, by its tone rows, how many they are, and its sound's T-states
abbrev pure_tone : List ℕ → ℕ → ℕ → Tape
pure_tone rows tones n = tape_of [] rows (sound 0 tones 0 0 0 0 n) 1

-- a tone of two cycles
abbrev one_tone : List ℕ
one_tone = 2 ∷ 100 ∷ 100 ∷ 0 ∷ []

-- the tape of the printed listing
abbrev printed : Tape
printed = tape_of [] one_tone (sound 0 1 0 0 0 0 400 ++ sound 1 0 3500 0 0 0 0 ++ stop_row) 3

abbrev pub readings : List (Tape × ℕ × List ℕ × Answers)
readings =
    -- `00 00`: 4,032 cycles, `0 bytes`
    (
      tape_of (0 ∷ 0 ∷ []) (4032 ∷ 2168 ∷ 2168 ∷ 0 ∷ 1 ∷ 667 ∷ 735 ∷ 0 ∷ [])
          (sounding (0 ∷ 2 ∷ 2 ∷ 0 ∷ 855 ∷ 1710 ∷ 8 ∷ 3500000 ∷ 0 ∷ 1 ∷ 0 ∷ []) 17484154) 1,
      0,
      nine,
      says 0 starred (T 20984154) 7 (0x30 ∷ bytes_word ++ (8 ∷ 9 ∷ [])) 17484154,
    ) ∷
    -- `01 00 FF`: 1,612 cycles, eight ones
    (
      tape_of (1 ∷ 0 ∷ 0xFF ∷ []) (1612 ∷ 2168 ∷ 2168 ∷ 0 ∷ 1 ∷ 667 ∷ 735 ∷ 0 ∷ [])
          (sounding (0 ∷ 2 ∷ 2 ∷ 1 ∷ 855 ∷ 1710 ∷ 8 ∷ 7000000 ∷ 0 ∷ 1 ∷ 0 ∷ []) 7018394) 1,
      0,
      nine,
      says 1 starred (T 14018394) 7 (0x31 ∷ bytes_word ++ (8 ∷ 9 ∷ [])) 7018394,
    ) ∷
    -- 12 with length 100, count 1, and with count 0
    (
      pure_tone (1 ∷ 0 ∷ 100 ∷ 0 ∷ 0 ∷ 100 ∷ 100 ∷ 0 ∷ []) 2 300,
      0,
      nine,
      says 0 plain (T 300) 7 (0x30 ∷ bytes_word ++ (8 ∷ 9 ∷ [])) 300,
    ) ∷
    (pure_tone (0 ∷ 100 ∷ 100 ∷ 0 ∷ []) 1 200, 0, nine, says 0 plain (T 200) 7 (0x30 ∷ bytes_word ++ (8 ∷ 9 ∷ [])) 200) ∷
    -- pure data byte 80, zero 10, one 20, last bits 0, pause 0
    (
      tape_of (0x80 ∷ []) (0 ∷ 0 ∷ 0 ∷ 0 ∷ 1 ∷ 0 ∷ 0 ∷ 0 ∷ [])
          (sounding (0 ∷ 2 ∷ 0 ∷ 1 ∷ 10 ∷ 20 ∷ 0 ∷ 0 ∷ 0 ∷ 1 ∷ 0 ∷ []) 40) 1,
      0,
      nine,
      says 1 starred (T 40) 7 (0x31 ∷ bytes_word ++ (8 ∷ 9 ∷ [])) 40,
    ) ∷
    -- a loop of 2 round a tone of 400: the copies last as long; and 22's pause behind a tone of 2
    (
      tape_of [] one_tone (sound 0 1 0 0 0 0 400 ++ sound 0 1 0 0 0 0 400 ++ sound 0 1 0 0 0 0 400) 3,
      2,
      nine,
      says 0 plain (T 400) 7 (0x30 ∷ bytes_word ++ (8 ∷ 9 ∷ [])) 1200,
    ) ∷ (
      tape_of [] (1 ∷ 1 ∷ 1 ∷ 0 ∷ []) (sound 0 1 3500 0 0 0 2) 1,
      0,
      nine,
      says 0 plain (T 3502) 7 (0x30 ∷ bytes_word ++ (8 ∷ 9 ∷ [])) 2,
    ) ∷
    -- the printed listing, line by line
    (printed, 0, nine, says 0 plain (T 400) 7 (0x30 ∷ bytes_word ++ (8 ∷ 9 ∷ [])) 400) ∷
    (printed, 1, nine, says 0 plain (T 3500) 7 (0x30 ∷ bytes_word ++ (8 ∷ 9 ∷ [])) 400) ∷
    (printed, 2, stop_word, says 0 starred Endless 4 stop_word 400) ∷
    -- the loading time has the sound of a stop's own row
    (tape_of [] one_tone (sound 0 1 0 1 1 1 400) 1, 0, stop_word, says 0 starred Endless 4 stop_word 400) ∷
    -- 11 for the count goes before 8
    (tape_of [] [] stop_row 2, 2, [], refuses BadRow [] (Err BadRow)) ∷
    -- 8 before 11 for the row: the row behind the count is not well formed
    (tape_of (0 ∷ []) [] (stop_row ++ broken_row) 1, 1, nine, refuses NoBlock nine (Ok 0)) ∷
    (tape_of [] [] [] 0, 0, [], refuses NoBlock [] (Ok 0)) ∷
    -- 11 for the row before 10; the loading time needs no row beyond the first stop, and each up to it
    (tape_of (0 ∷ []) [] (stop_row ++ broken_row) 2, 1, [], refuses BadRow [] (Ok 0)) ∷
    (tape_of (0 ∷ []) [] (broken_row ++ stop_row) 2, 0, [], refuses BadRow [] (Err BadRow)) ∷
    -- also behind the last pulse: without it nobody can tell that none follows
    (tape_of (0 ∷ []) one_tone (sound 0 1 0 0 0 0 400 ++ broken_row ++ stop_row) 3, 1, [], refuses BadRow [] (Err BadRow)) ∷
    -- 10: three bytes are too short for `stop`, and stay
    (
      printed,
      2,
      1 ∷ 2 ∷ 3 ∷ [],
      record {
        refusal = 0;
        size = Ok 0;
        selectable = starred;
        lasts = Ok Endless;
        name = Err NoRoom;
        bytes = 1 ∷ 2 ∷ 3 ∷ [];
        loading = Ok 400;
      },
    ) ∷
    -- TIMES BY THE ROWS' WORDS: 7 written in the row of a tone of two cycles; and a tone row's length made 300, the row as it was
    (pure_tone one_tone 1 7, 0, nine, says 0 plain (T 7) 7 (0x30 ∷ bytes_word ++ (8 ∷ 9 ∷ [])) 7) ∷
    (pure_tone (2 ∷ 300 ∷ 100 ∷ 0 ∷ []) 1 400, 0, nine, says 0 plain (T 400) 7 (0x30 ∷ bytes_word ++ (8 ∷ 9 ∷ [])) 400) ∷
    -- 1 written in the printed tape's row of a pause
    (
      tape_of [] one_tone (sound 0 1 0 0 0 0 400 ++ sound 1 0 3500 0 0 0 1 ++ stop_row) 3,
      1,
      nine,
      says 0 plain (T 3501) 7 (0x30 ∷ bytes_word ++ (8 ∷ 9 ∷ [])) 401,
    ) ∷
    -- the most that a row's sound may be, and one more: 11, in a stop's row too
    (
      pure_tone [] 0 1125899906842623,
      0,
      nine,
      says 0 plain (T 1125899906842623) 7 (0x30 ∷ bytes_word ++ (8 ∷ 9 ∷ [])) 1125899906842623,
    ) ∷
    (pure_tone [] 0 1125899906842624, 0, nine, refuses BadRow nine (Err BadRow)) ∷
    (tape_of [] [] (sound 0 0 0 1 1 1 1125899906842624) 1, 0, nine, refuses BadRow nine (Err BadRow)) ∷
    []

pub readings_said : map (λ e. answered e.0 e.1 e.2) readings ≡ map (λ e. e.3) readings
unfolding asked told_of named_or size_of selectable_of time_of length_or_no_room name_answer name_bytes told loading_of
    well_to_stop row_lasts rows_loading well_row well_block well_ranges well_numbers well_cases well_tones well_tone name_of guessed is_header
    size_name size_shown decimal digits
readings_said = refl
