-- What TZX 1.20 gives one piece: the lengths of its pulses in T-states, in order, and the pause behind them. Written from docs/FORMAT.md
-- alone, in its order and words; which bit of a byte is which is `bit_of`'s, as everywhere. Lengths only: no levels, so a pause's first
-- millisecond is not told apart. Assumes nothing.
use Rattle.std.specs.Prelude.{ℕ, zero, suc, ◌+◌, ◌*◌, ◌/◌, ◌%◌, ◌^◌, Bool, true, ◌&&◌, ◌||◌, List, [], ◌∷◌, ◌++◌, map, get_or, ltb, eqb}
use Rattle.law_base.specs.Rules.{◌⇒◌, ◌∣◌}
use Rattle.law_base.specs.Arms.{between}
use Rattle.cut_fields.specs.Field.{le_at}
use Rattle.cut_grammar.specs.declared.GeneralizedData.{GeneralizedData}
use Rattle.cut_grammar.specs.declared.TurboData.{TurboData}
use Rattle.cut_grammar.specs.declared.Piece.{Piece}
use Rattle.cut_grammar.specs.declared.Piece.TheVariants.{Standard, Turbo, Tone, Pulses, Pure, Generalized, Pause, GroupStart, GroupEnd}
use Rattle.cut_grammar.specs.declared.Piece.TheVariants.{LoopStart, LoopEnd, Stop48, Text, Message, Archive, Hardware, Custom, Glue}
use Rattle.play_entries.specs.Entries.{bit_of}

-- T-states, or none that ends it
pub data PulseLength : Type 0 where
  lasts : ℕ → PulseLength
  forever : PulseLength

-- pulses, and the pause behind them: none is one of 0, a stop is one that never ends
pub record PulseTrain : Type 0 where
  pub pulses : List ℕ
  pub pause : PulseLength

-- what the format says of a piece; of some pieces it does not say what is played
pub data Said : Type 0 where
  sounds : PulseTrain → Said
  unsaid : Said

abbrev pub said_pulses : List ℕ → PulseLength → Said
said_pulses pulses pause = sounds (record { pulses = pulses; pause = pause })

-- 1 ms is 3,500
abbrev pub pause_ms : ℕ → PulseLength
pause_ms n = lasts (n * 3500)

-- no sound of its own
abbrev pub silent : Said
silent = said_pulses [] (lasts 0)

-- n items from item p on
unfoldable pub each : (ℕ → List ℕ) → ℕ → ℕ → List ℕ
each item p zero = []
each item p (suc n) = item p ++ each item (p + 1) n

-- a wave, so many times
abbrev pub again : ℕ → List ℕ → List ℕ
again n wave = each (λ i. wave) 0 n

-- a 0 bit is two pulses of one length, a 1 bit two of another
unfoldable pub bit_pulses : ℕ → ℕ → ℕ → List ℕ
bit_pulses nil one bit = eqb bit 0 ⇒ nil ∷ nil ∷ [] ∣ one ∷ one ∷ []

-- of the last byte the top 'used bits' are played
unfoldable pub bits_in : ℕ → ℕ → ℕ → ℕ
bits_in used size pos = eqb (pos + 1) size ⇒ used ∣ 8

unfoldable pub byte_pulses : ℕ → ℕ → ℕ → ℕ → List ℕ
byte_pulses nil one v bits = each (λ k. bit_pulses nil one (bit_of v k)) 0 bits

unfoldable pub data_pulses : List ℕ → ℕ → ℕ → ℕ → ℕ → ℕ → List ℕ
data_pulses s nil one used from size = each (λ pos. byte_pulses nil one (get_or s (from + pos) 0) (bits_in used size pos)) 0 size

-- 1 to 8 bits of the last byte are said, where there is one
unfoldable pub bits_said : ℕ → ℕ → Bool
bits_said used size = eqb size 0 || between 1 8 used

-- 10: pilot pulses of 2,168, 8,063 of them where the first data byte (the flag) is below 128, else 3,223; sync 667, 735;
-- bits of 855 and 1,710
unfoldable pub pilot_count : ℕ → ℕ
pilot_count flag = ltb flag 128 ⇒ 8063 ∣ 3223

unfoldable pub format10 : List ℕ → ℕ → ℕ → ℕ → Said
format10 s pause from size =
    eqb size 0 ⇒ unsaid
    ∣ said_pulses (again (pilot_count (get_or s from 0)) (2168 ∷ []) ++ 667 ∷ 735 ∷ data_pulses s 855 1710 8 from size) (pause_ms pause)

-- 11: as 10 with its own numbers
unfoldable pub format11 : List ℕ → TurboData → Said
format11 s d =
    bits_said d.last d.size
    ⇒
    said_pulses (again d.pilots (d.pilot ∷ [])
    ++ d.sync1 ∷ d.sync2 ∷ data_pulses s d.zero d.one d.last d.from d.size) (pause_ms d.pause)
    ∣ unsaid

-- 12: that many pulses of one length
unfoldable pub format12 : ℕ → ℕ → Said
format12 half count = said_pulses (again count (half ∷ [])) (lasts 0)

-- 13: pulses, each with its own length
unfoldable pub format13 : List ℕ → ℕ → ℕ → Said
format13 s count from = said_pulses (each (λ i. le_at s (from + i * 2) 2 ∷ []) 0 count) (lasts 0)

-- 14: data with neither pilot nor sync
unfoldable pub format14 : List ℕ → ℕ → ℕ → ℕ → ℕ → ℕ → ℕ → Said
format14 s nil one last pause from size =
    bits_said last size ⇒ said_pulses (data_pulses s nil one last from size) (pause_ms pause) ∣ unsaid

-- 19: a symbol is a flag byte and n pulse lengths of 2 bytes; a shorter wave ends at a pulse of length 0
unfoldable pub wave_from : (ℕ → ℕ) → ℕ → ℕ → List ℕ
wave_from pulse k zero = []
wave_from pulse k (suc n) = eqb (pulse k) 0 ⇒ [] ∣ pulse k ∷ wave_from pulse (k + 1) n

unfoldable pub symbol_pulse : List ℕ → ℕ → ℕ → ℕ → ℕ → ℕ
symbol_pulse s place n i k = le_at s (place + i * (1 + n * 2) + 1 + k * 2) 2

unfoldable pub wave_of : List ℕ → ℕ → ℕ → ℕ → List ℕ
wave_of s place n i = wave_from (symbol_pulse s place n i) 0 n

-- a pilot entry plays its symbol 'repetitions' times
unfoldable pub pilot_symbol : List ℕ → GeneralizedData → ℕ → ℕ
pilot_symbol s g i = get_or s (g.entries + i * 3) 0

unfoldable pub repetitions : List ℕ → GeneralizedData → ℕ → ℕ
repetitions s g i = le_at s (g.entries + i * 3 + 1) 2

unfoldable pub pilot_pulses : List ℕ → GeneralizedData → ℕ → List ℕ
pilot_pulses s g i = again (repetitions s g i) (wave_of s g.pilot g.npp (pilot_symbol s g i))

-- data symbols are groups of NB bits, taken from the top
unfoldable pub bit_at : List ℕ → ℕ → ℕ → ℕ
bit_at s from bit = bit_of (get_or s (from + bit / 8) 0) (bit % 8)

unfoldable pub group_at : List ℕ → ℕ → ℕ → ℕ → ℕ
group_at s from bit zero = 0
group_at s from bit (suc n) = bit_at s from bit * 2 ^ n + group_at s from (bit + 1) n

unfoldable pub data_number : List ℕ → GeneralizedData → ℕ → ℕ
data_number s g i = group_at s g.from (i * g.nb) g.nb

unfoldable pub symbol_pulses : List ℕ → GeneralizedData → ℕ → List ℕ
symbol_pulses s g i = wave_of s g.symbols g.npd (data_number s g i)

-- a test of n items from item p on
unfoldable pub every : (ℕ → Bool) → ℕ → ℕ → Bool
every test p zero = true
every test p (suc n) = test p && every test (p + 1) n

-- symbols are numbers below their alphabet's size
unfoldable pub symbols_said : List ℕ → GeneralizedData → Bool
symbols_said s g =
    every (λ i. ltb (pilot_symbol s g i) g.asp) 0 g.totp && every (λ i. ltb (data_number s g i) g.asd) 0 g.totd

unfoldable pub format19 : List ℕ → GeneralizedData → Said
format19 s g =
    symbols_said s g ⇒ said_pulses (each (pilot_pulses s g) 0 g.totp ++ each (symbol_pulses s g) 0 g.totd) (pause_ms g.pause)
    ∣ unsaid

-- 20: silence; 0 means: stop the tape
unfoldable pub format20 : ℕ → Said
format20 n = eqb n 0 ⇒ said_pulses [] forever ∣ said_pulses [] (pause_ms n)

-- 24: repetitions, above 1; how often the pieces up to the 25 are played is no matter of one piece
abbrev pub format24 : ℕ → Said
format24 n = ltb 1 n ⇒ silent ∣ unsaid

-- 2A: length 0; stop the tape, only in 48K mode
unfoldable pub format_2a : Bool → ℕ → Said
format_2a on48 length = eqb length 0 ⇒ (on48 ⇒ said_pulses [] forever ∣ silent) ∣ unsaid

-- WHAT THE FORMAT GIVES A PIECE that it cut (specs/Cut)
unfoldable pub format_of : Bool → List ℕ → Piece → Said
format_of on48 s (Standard pause from size) = format10 s pause from size
format_of on48 s (Turbo d) = format11 s d
format_of on48 s (Tone half count) = format12 half count
format_of on48 s (Pulses count from) = format13 s count from
format_of on48 s (Pure nil one last pause from size) = format14 s nil one last pause from size
format_of on48 s (Generalized g) = format19 s g
format_of on48 s (Pause n) = format20 n
format_of on48 s (GroupStart from size) = silent
format_of on48 s GroupEnd = silent
format_of on48 s (LoopStart times) = format24 times
format_of on48 s LoopEnd = silent
format_of on48 s (Stop48 length) = format_2a on48 length
format_of on48 s (Text from size) = silent
format_of on48 s Message = silent
format_of on48 s Archive = silent
format_of on48 s Hardware = silent
format_of on48 s Custom = silent
format_of on48 s Glue = silent

-- the alphabet size that 0 means
abbrev pub format_full : ℕ
format_full = 256

-- the lengths, one after the other
unfoldable pub lengths_of : PulseTrain → List PulseLength
lengths_of x = map lasts x.pulses ++ x.pause ∷ []

-- those above 0
unfoldable pub lasting : List PulseLength → List PulseLength
lasting [] = []
lasting (forever ∷ ls) = forever ∷ lasting ls
lasting (lasts zero ∷ ls) = lasting ls
lasting (lasts (suc n) ∷ ls) = lasts (suc n) ∷ lasting ls
