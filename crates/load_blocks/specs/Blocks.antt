-- The blocks that the source reading makes of pieces: the Rust's constructors of `Block`, each as the sound that its row is born of.
-- Assumes nothing.
use Rattle.std.specs.Prelude.{ℕ, zero, suc, ◌+◌, ◌*◌, ◌/◌, ◌%◌, Bool, ◌||◌, List, [], ◌∷◌, get_or, ltb, eqb}
use Rattle.law_base.specs.Rules.{◌⇒◌, ◌∣◌}
use Rattle.cut_fields.specs.Field.{le_at}
use Rattle.rows.specs.declared.Tone.{Tone}
use Rattle.cut_grammar.specs.declared.TurboData.{TurboData}
use Rattle.load_blocks.specs.declared.Bits.{Bits}
use Rattle.load_general.specs.General.{plain_tone}
use Rattle.load_blocks.specs.Sounds.{Sound, ms, data_bits, no_bits, ends_after, ends_in_stop}

-- selectable at birth: a block with data or of a 19
abbrev pub data_sound : List Tone → Bits → ℕ → Sound
data_sound ts bits pause = record { tones = ts; bits = bits; ending = ends_after pause; selectable = 1 }

-- tones alone, without a pause
abbrev pub tone_sound : List Tone → Sound
tone_sound ts = record { tones = ts; bits = no_bits; ending = ends_after 0; selectable = 0 }

-- a standard block is a header if the first byte is below 128 or data is empty
unfoldable pub standard_header : List ℕ → ℕ → ℕ → Bool
standard_header s start size = eqb size 0 || ltb (get_or s start 0) 128

-- tones: 4,032 cycles of 2168/2168 for a header, otherwise 1,612; then one of 667/735
unfoldable pub standard_cycles : Bool → ℕ
standard_cycles header = header ⇒ 4032 ∣ 1612

unfoldable pub standard_tones : Bool → List Tone
standard_tones header = plain_tone (standard_cycles header) 2168 2168 ∷ plain_tone 1 667 735 ∷ []

-- pause 3,500,000 or, not a header, 7,000,000
unfoldable pub standard_pause : Bool → ℕ
standard_pause header = header ⇒ 3500000 ∣ 7000000

-- 10, and a block of a TAP: zero 855, one 1710, last bits 8
unfoldable pub standard_sound : Bool → ℕ → ℕ → ℕ → Sound
standard_sound header from size pause = data_sound (standard_tones header) (data_bits from size 855 1710 8) pause

-- 11: pilot cycles are half the count, rounded up; then one of sync1/sync2
unfoldable pub turbo_tones : TurboData → List Tone
turbo_tones d = plain_tone ((d.pilots + 1) / 2) d.pilot d.pilot ∷ plain_tone 1 d.sync1 d.sync2 ∷ []

unfoldable pub turbo_sound : TurboData → Sound
turbo_sound d = data_sound (turbo_tones d) (data_bits d.from d.size d.zero d.one d.last) (ms d.pause)

-- 12: an odd count first gives one tone 0/length; then count/2 cycles
unfoldable pub pure_tone_tones : ℕ → ℕ → List Tone
pure_tone_tones half count =
    eqb (count % 2) 0 ⇒ plain_tone (count / 2) half half ∷ [] ∣ plain_tone 1 0 half ∷ plain_tone (count / 2) half half ∷ []

-- 13: pulse i of the pulses at `from`; a pair from pulse i on; one block for each of n pairs
unfoldable pub pulse_at : List ℕ → ℕ → ℕ → ℕ
pulse_at s from i = le_at s (from + i * 2) 2

abbrev pub pair_sound : List ℕ → ℕ → ℕ → Sound
pair_sound s from i = tone_sound (plain_tone 1 (pulse_at s from i) (pulse_at s from (i + 1)) ∷ [])

unfoldable pub pair_sounds : List ℕ → ℕ → ℕ → ℕ → List Sound
pair_sounds s from i zero = []
pair_sounds s from i (suc n) = pair_sound s from i ∷ pair_sounds s from (i + 2) n

-- 14: two tones of length 0, with counts 0 and 1
unfoldable pub pure_tones : List Tone
pure_tones = plain_tone 0 0 0 ∷ plain_tone 1 0 0 ∷ []

unfoldable pub pure_sound : Bits → ℕ → Sound
pure_sound bits pause = data_sound pure_tones bits pause

-- a stop
abbrev pub stop_sound : Sound
stop_sound = record { tones = []; bits = no_bits; ending = ends_in_stop; selectable = 1 }

-- 20: a pause; 0 gives a stop
abbrev pub silent_sound : ℕ → Sound
silent_sound pause = record { tones = []; bits = no_bits; ending = ends_after pause; selectable = 0 }

unfoldable pub pause_sound : ℕ → Sound
pause_sound n = eqb n 0 ⇒ stop_sound ∣ silent_sound (ms n)
