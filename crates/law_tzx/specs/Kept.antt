-- Where the source reading keeps to the format, kind by kind, and what keeping is. Definitions alone; assumes nothing.
use Rattle.std.specs.Prelude.{ℕ, ◌+◌, ◌*◌, ◌-◌, ◌%◌, ◌≡◌, Bool, true, false, ◌&&◌, ◌||◌, not, List, [], ◌∷◌, ◌++◌, map, ltb, eqb, length, get_or}
use Rattle.refusals.specs.Refusals.{tones_full, blocks_full}
use Rattle.law_base.specs.Rules.{◌⇒◌, ◌∣◌}
use Rattle.cut_fields.specs.Field.{le_at}
use Rattle.law_pulses.specs.Play.{Entry, pulse, endless}
use Rattle.rows.specs.Table.{table_of}
use Rattle.rows.specs.Rows.{tone}
use Rattle.rows.specs.declared.Block.{Block}
use Rattle.rows.specs.declared.Tone.{Tone as ToneRow}
use Rattle.play_entries.specs.Entries.{Label, entries_of}
use Rattle.load_state.specs.declared.Halt.TheVariants.{Refusal}
use Rattle.load_state.specs.Parser.{Parsed, Out, on, no}
use Rattle.load_state.specs.Kept.{Sure}
use Rattle.cut_grammar.specs.declared.GeneralizedData.{GeneralizedData}
use Rattle.cut_grammar.specs.Places.{Places}
use Rattle.cut_grammar.specs.declared.TurboData.{TurboData}
use Rattle.cut_grammar.specs.declared.Piece.{Piece}
use Rattle.cut_grammar.specs.declared.Piece.TheVariants.{Standard, Turbo, Tone, Pulses, Pure, Generalized, Pause, GroupStart, GroupEnd}
use Rattle.cut_grammar.specs.declared.Piece.TheVariants.{LoopStart, LoopEnd, Stop48, Text, Message, Archive, Hardware, Custom, Glue}
use Rattle.load_blocks.specs.declared.Origin.{Origin}
use Rattle.load_blocks.specs.Adds.{Lent}
use Rattle.load_source.specs.Source.{act}
use Rattle.law_tzx.specs.Format.{PulseLength, lasts, forever, PulseTrain, Said, sounds, lengths_of, lasting, bits_said, every}
use Rattle.law_tzx.specs.Format.{symbol_pulse, pilot_symbol, repetitions, data_number, format_of}
use Rattle.law_tzx.specs.Cut.{format_cut}
use Rattle.cut_grammar.specs.declared.Taken.TheVariants as taken

-- 2, 4, 6 ..
unfoldable pub even_count : ℕ → Bool
even_count n = ltb 0 n && eqb (n % 2) 0

-- 11: a pilot is played in cycles, one at the least; last bits as the format says them
unfoldable pub kept11 : TurboData → Bool
kept11 d = (eqb d.pilot 0 || even_count d.pilots) && bits_said d.last d.size

-- 12: an odd pulse goes before the cycles, of which there is one at the least
unfoldable pub kept12 : ℕ → ℕ → Bool
kept12 half count = eqb half 0 || ltb 1 count

-- 13: an odd last pulse is dropped
unfoldable pub kept13 : List ℕ → ℕ → ℕ → Bool
kept13 s count from = eqb (count % 2) 0 || eqb (le_at s (from + (count - 1) * 2) 2) 0

-- 19: a symbol's first pulse, and its second, 0 where it has one alone
unfoldable pub first_pulse : List ℕ → ℕ → ℕ → ℕ → ℕ
first_pulse s place n i = symbol_pulse s place n i 0

unfoldable pub second_pulse : List ℕ → ℕ → ℕ → ℕ → ℕ
second_pulse s place n i = ltb 1 n ⇒ symbol_pulse s place n i 1 ∣ 0

-- a second pulse behind a first of 0 is played
unfoldable pub whole_wave : ℕ → ℕ → Bool
whole_wave a b = ltb 0 a || eqb b 0

-- n times: none is played once, and one pulse alone in cycles, for which one is added to n in 16 bits
unfoldable pub kept_times : ℕ → ℕ → ℕ → Bool
kept_times a b n = eqb a 0 ⇒ (eqb b 0 && not (eqb n 65535)) ∣ eqb b 0 ⇒ even_count n ∣ ltb 0 n

unfoldable pub kept_entry : List ℕ → GeneralizedData → ℕ → Bool
kept_entry s g i =
    let y = pilot_symbol s g i in
    ltb y g.asp && kept_times (first_pulse s g.pilot g.npp y) (second_pulse s g.pilot g.npp y) (repetitions s g i)

-- an alphabet's size of 0 in the tape is read as 255; other than one or two pulses a symbol make a stop
unfoldable pub kept_pilot : List ℕ → GeneralizedData → Bool
kept_pilot s g =
    eqb g.totp 0
    || (not (eqb g.asp0 0) && ((eqb g.npp 1 || eqb g.npp 2) && every (kept_entry s g) 0 g.totp))

-- symbol i of the data
unfoldable pub kept_symbol : List ℕ → GeneralizedData → ℕ → Bool
kept_symbol s g i = whole_wave (first_pulse s g.symbols 2 (data_number s g i)) (second_pulse s g.symbols 2 (data_number s g i))

-- one pulse each: an odd last one is dropped
unfoldable pub kept_pairs : List ℕ → GeneralizedData → Bool
kept_pairs s g = eqb (g.totd % 2) 0 || eqb (first_pulse s g.symbols 1 (data_number s g (g.totd - 1))) 0

-- no data is refused; groups of one bit alone are read as they stand
unfoldable pub kept_data : List ℕ → GeneralizedData → Bool
kept_data s g =
    ltb 0 g.totd
    && (eqb g.asd 2 && (eqb g.npd 2 ⇒ every (kept_symbol s g) 0 g.totd ∣ (eqb g.npd 1 && kept_pairs s g)))

-- its length is that of what follows: 14 bytes of numbers, and its tables, from the pilot's alphabet to the last data byte
abbrev pub length_right : GeneralizedData → Bool
length_right g = eqb g.length (14 + (g.from + g.size - g.pilot))

unfoldable pub kept19 : List ℕ → GeneralizedData → Bool
kept19 s g = length_right g && (kept_pilot s g && kept_data s g)

-- KEPT: the piece is played as the format says, in lengths
unfoldable pub kept : List ℕ → Piece → Bool
-- one pilot pulse more: 8,064 or 3,224
kept s (Standard pause from size) = false
kept s (Turbo d) = kept11 d
kept s (Tone half count) = kept12 half count
kept s (Pulses count from) = kept13 s count from
-- as 11: the tones in front have no length
kept s (Pure nil one last pause from size) = bits_said last size
kept s (Generalized g) = kept19 s g
-- the same pause, the same stop
kept s (Pause n) = true
-- no sound of its own, and no block
kept s (GroupStart from size) = true
-- the block before it may be given a pause
kept s GroupEnd = false
-- no sound of its own; the copies come at the loop's end; above 1 is said
kept s (LoopStart times) = ltb 1 times
-- one body more
kept s LoopEnd = false
-- another length errs
kept s (Stop48 length) = eqb length 0
-- no sound of their own, and no block
kept s (Text from size) = true
kept s Message = true
kept s Archive = true
kept s Hardware = true
kept s Custom = true
kept s Glue = true

-- the kinds of which `kept` is exact
unfoldable pub exact_kind : Piece → Bool
exact_kind (Standard pause from size) = true
exact_kind (Turbo d) = true
exact_kind (Tone half count) = true
exact_kind (Pulses count from) = true
exact_kind (Pure nil one last pause from size) = true
exact_kind (Generalized g) = false
exact_kind (Pause n) = true
exact_kind (GroupStart from size) = true
exact_kind GroupEnd = false
exact_kind (LoopStart times) = true
exact_kind LoopEnd = false
exact_kind (Stop48 length) = true
exact_kind (Text from size) = true
exact_kind Message = true
exact_kind Archive = true
exact_kind Hardware = true
exact_kind Custom = true
exact_kind Glue = true

-- an entry's length
unfoldable pub length_of : {A : Type 0} → Entry A → PulseLength
length_of (pulse a v t) = lasts t
length_of (endless a v) = forever

abbrev pub lengths : {A : Type 0} → List (Entry A) → List PulseLength
lengths es = map length_of es

-- the entries of blocks from block b on
unfoldable pub entries_from : List ℕ → List ℕ → ℕ → List Block → List (Entry Label)
entries_from s tones b [] = []
entries_from s tones b (r ∷ rs) = entries_of s tones b r ++ entries_from s tones (b + 1) rs

-- from t to t' blocks and tone rows were added that play these lengths: in any table that holds them, whatever stands behind
pub record Plays (s : List ℕ) (ls : List PulseLength) (t t' : Parsed) : Type 0 where
  pub blocks : List Block
  pub tones : List ToneRow
  pub added : t'.blocks ≡ t.blocks ++ blocks
  pub under : t'.tones ≡ t.tones ++ tones
  pub plays : (more : List ToneRow) (N b : ℕ)
      → lasting (lengths (entries_from s (table_of tone (t'.tones ++ more) N) b blocks)) ≡ lasting ls

-- so of what the format says of a piece
pub data Keeps (s : List ℕ) (t t' : Parsed) : Said → Type 0 where
  as_said : {x : PulseTrain} → Plays s (lengths_of x) t t' → Keeps s t t' (sounds x)

-- a step that goes on, or wants tone rows (5) or block rows (6): no other refusal, no error
pub data Answers : Out → Type 0 where
  goes : {t : Parsed} → Answers (on t)
  no-tones : Answers (no (Refusal tones_full))
  no_blocks : Answers (no (Refusal blocks_full))

-- a 19's tables are where its numbers say
abbrev pub Tables : List ℕ → Piece → Type 0
Tables s piece = (g : GeneralizedData) → piece ≡ Generalized g → Places s g

-- what the format cuts at a place where a kept piece was cut
pub record FormatCut (s : List ℕ) (at next : ℕ) (piece : Piece) : Type 0 where
  pub other : Piece
  pub cut : format_cut s at ≡ taken.Whole (get_or s at 0) at next other
  pub said : (on48 : Bool) → format_of on48 s other ≡ format_of on48 s piece

-- the piece that the format cuts at a place, and that the source reading's piece there is played as it says
pub record KeptAt (lent : Lent) (origin : Origin) (s : List ℕ) (model at next : ℕ) (piece : Piece) (t : Parsed) : Type 0 where
  pub other : Piece
  pub cut : format_cut s at ≡ taken.Whole (get_or s at 0) at next other
  pub plays : Sure (λ u. Keeps s t u (format_of (eqb model 0) s other)) (act lent s model origin piece t)
