-- How a walk goes on inside a block: to the entry behind, or behind a whole run. Definitions alone; assumes nothing.
use Rattle.std.specs.Prelude.{ℕ, zero, suc, ◌+◌, ◌-◌, ◌*◌, ◌/◌, min, Bool, true, false, List, None, Some, ltb, eqb}
use Rattle.law_base.specs.Rules.{◌⇒◌, ◌∣◌}
use Rattle.law_pulses.specs.Play.{low, time}
use Rattle.rows.specs.declared.Tone.{Tone}
use Rattle.rows.specs.declared.Block.{Block}
use Rattle.play_entries.specs.declared.Phase.{Phase}
use Rattle.play_entries.specs.declared.Phase.TheVariants.{Start, Tones, Data, Edge, Pause}
use Rattle.play_entries.specs.Entries.{tone_at, cycles_of, is_single, edged, cycle_pulses, cycle_time, bits_at, byte_at, byte_of}
use Rattle.play_steps.specs.declared.Step.{Step}

-- the phase of the first entry behind the data; from data byte pos on; from bit k of it
unfoldable pub end_from : Block → Phase
end_from r = edged r ⇒ Edge ∣ Pause

unfoldable pub data_from : Block → ℕ → Phase
data_from r pos = ltb pos r.size ⇒ Data pos 0 false ∣ end_from r

unfoldable pub bit_from : Block → ℕ → ℕ → Phase
bit_from r pos k = ltb k (bits_at r pos) ⇒ Data pos k false ∣ data_from r (pos + 1)

-- of n tone rows from row i on, the first that has a pulse; else the data
unfoldable pub pulse_from : List ℕ → Block → ℕ → ℕ → Phase
pulse_from tones r i zero = data_from r 0
pulse_from tones r i (suc n) = ltb 0 (cycles_of r (tone_at tones r i)) ⇒ Tones i 0 false ∣ pulse_from tones r (i + 1) n

-- from tone row i on; from repetition p of it; from behind the first pulse of that
unfoldable pub tone_from : List ℕ → Block → ℕ → Phase
tone_from tones r i = pulse_from tones r i (r.tones - i)

unfoldable pub cycle_from : List ℕ → Tone → Block → ℕ → ℕ → Phase
cycle_from tones t r i p = ltb p (cycles_of r t) ⇒ Tones i p false ∣ tone_from tones r (i + 1)

unfoldable pub second_from : List ℕ → Tone → Block → ℕ → ℕ → Phase
second_from tones t r i p = is_single r t ⇒ cycle_from tones t r i (p + 1) ∣ Tones i p true

-- behind n entries of t T-states
abbrev pub step_to : Phase → ℕ → ℕ → Step
step_to f t n = record { phase = Some f; time = t; passed = n }

-- behind the block
abbrev pub step_out : ℕ → Step
step_out t = record { phase = None; time = t; passed = 1 }

-- behind k cycles from cycle p on; behind data byte pos
unfoldable pub cycles_step : List ℕ → Tone → Block → ℕ → ℕ → ℕ → Step
cycles_step tones t r i p k = step_to (cycle_from tones t r i (p + k)) (k * cycle_time r t) (k * cycle_pulses r t)

unfoldable pub byte_time : List ℕ → Block → ℕ → ℕ
byte_time tape r pos = time (byte_of 0 r low pos (byte_at tape r pos))

unfoldable pub byte_step : List ℕ → Block → ℕ → Step
byte_step tape r pos = step_to (data_from r (pos + 1)) (byte_time tape r pos) (bits_at r pos * 2)

-- behind the one entry of phase f, of which t T-states are left
unfoldable pub one_step : List ℕ → Block → Phase → ℕ → Step
one_step tones r Start t = step_to (tone_from tones r 0) 0 1
one_step tones r (Tones i p false) t = step_to (second_from tones (tone_at tones r i) r i p) t 1
one_step tones r (Tones i p true) t = step_to (cycle_from tones (tone_at tones r i) r i (p + 1)) t 1
one_step tones r (Data pos k false) t = step_to (Data pos k true) t 1
one_step tones r (Data pos k true) t = step_to (bit_from r pos (k + 1)) t 1
one_step tones r Edge t = step_to Pause t 1
one_step tones r Pause t = step_out t

-- of m cycles of c T-states each, those that last less than d
unfoldable pub cycles_fitting : ℕ → ℕ → ℕ → ℕ
cycles_fitting c m d = eqb c 0 ⇒ m ∣ min m ((d - 1) / c)

-- from the first half of a cycle, full: the cycles that last less than d; or this half
unfoldable pub take_cycles : List ℕ → Block → ℕ → ℕ → ℕ → ℕ → Step
take_cycles tones r i p t d =
    let x = tone_at tones r i in
    let k = cycles_fitting (cycle_time r x) (cycles_of r x - p) d in
    ltb 0 k ⇒ cycles_step tones x r i p k ∣ one_step tones r (Tones i p false) t

-- from the first half of a byte's first bit, full: the byte if it lasts less than d; or this half
unfoldable pub take_byte : List ℕ → List ℕ → Block → ℕ → ℕ → ℕ → Step
take_byte tape tones r pos t d = ltb (byte_time tape r pos) d ⇒ byte_step tape r pos ∣ one_step tones r (Data pos 0 false) t

-- ONE TURN of the measured walk: a run where the entry is full and the run lasts less than d, else the entry
unfoldable pub take_of : List ℕ → List ℕ → Block → Phase → Bool → ℕ → ℕ → Step
take_of tape tones r f false t d = one_step tones r f t
take_of tape tones r Start true t d = one_step tones r Start t
take_of tape tones r (Tones i p true) true t d = one_step tones r (Tones i p true) t
take_of tape tones r (Tones i p false) true t d = take_cycles tones r i p t d
take_of tape tones r (Data pos k true) true t d = one_step tones r (Data pos k true) t
take_of tape tones r (Data pos k false) true t d = eqb k 0 ⇒ take_byte tape tones r pos t d ∣ one_step tones r (Data pos k false) t
take_of tape tones r Edge true t d = one_step tones r Edge t
take_of tape tones r Pause true t d = one_step tones r Pause t
