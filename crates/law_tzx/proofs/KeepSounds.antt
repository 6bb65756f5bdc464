-- KEEPS, 11, 12, 14, 20 and 2A: one block over its tone rows sounds as the format says. Assumes nothing.
use Prim.Native.Nat.{ℕ, zero, suc, ◌+◌, ◌*◌, ◌/◌, ◌%◌, max}
use native.Mathlib.Omega.{arith}
use mathlib.Core.Path.{◌≡◌, refl, sym, ap, ap₂, ◌∙◌}
use mathlib.Core.Bool.{Bool, true, false, ◌||◌, not}
use mathlib.Core.List.{List, [], ◌∷◌, ◌++◌, map, append_assoc, append-nil}
use lib.ListN.{length}
use lib.Dec.{eqb}
use borrow.Author.Tests.{ltb-true, eqb-true, eqb-false, ne_eqb}
use Rattle.law_base.specs.Rules.{◌⇒◌, ◌∣◌}
use Rattle.law_base.proofs.Tests.{first, second, other}
use Rattle.rows.specs.declared.Tone.{Tone}
use Rattle.cut_grammar.specs.declared.TurboData.{TurboData}
use Rattle.load_state.specs.Parser.{Parsed, on}
use Rattle.load_state.proofs.Kept.{sure_also}
use Rattle.load_state.specs.Kept.{Sure, sure}
use Rattle.load_blocks.specs.declared.Origin.{Origin}
use Rattle.load_general.specs.General.{plain_tone}
use Rattle.load_blocks.specs.Sounds.{ms, Sound, data_bits, row_of, add_sounds}
use Rattle.load_blocks.specs.Blocks.{turbo_tones, pure_tones, pure_tone_tones, turbo_sound, tone_sound, pure_sound, stop_sound}
use Rattle.load_blocks.specs.Blocks.{silent_sound, pause_sound}
use Rattle.load_blocks.specs.Adds.{Lent}
use Rattle.load_blocks.specs.Deeds.{stop48_deed, does}
use Rattle.load_blocks.proofs.Laws.{one_sound}
use Rattle.law_tzx.specs.Format.{PulseLength, lasts, forever, PulseTrain, sounds, pause_ms, each, again, data_pulses, bits_said}
use Rattle.law_tzx.specs.Format.{format11, format12, format14, format20, format_2a, lengths_of, lasting}
use Rattle.law_tzx.specs.Kept.{even_count, kept11, kept12, Keeps, as_said}
use Rattle.law_tzx.proofs.Lengths.{long, long_append, lasting_append, waves_of, data_in, pause_in, block_lengths}
use Rattle.law_tzx.proofs.Adds.{plays-none, sound_plays}
use Rattle.law_tzx.proofs.Waves.{once, again_more, cycles-pulses, pilot_same, zero-none, zeros-none, data_same}

abbrev pub sound_with : List ℕ → PulseLength → PulseTrain
sound_with pulses pause = record { pulses = pulses; pause = pause }

-- a block which sounds as the format says
pub keep_one : (lent : Lent) (origin : Origin) (s : List ℕ) (t : Parsed) (d : Sound) (x : PulseTrain)
    → ((n : ℕ) → long (waves_of d.tones ++ data_in s (row_of s origin d n)) ≡ long x.pulses)
    → ((n : ℕ) → pause_in (row_of s origin d n) ≡ x.pause)
    → Sure (λ u. Keeps s t u (sounds x)) (add_sounds lent s origin (d ∷ []) t)
unfolding lengths_of block_lengths
keep_one lent origin s t d x p q =
    rw (one_sound lent s origin d t) (sure_also (λ u h. as_said h)
    (sound_plays s origin d (lengths_of x)
    (λ n.
    ap₂ (λ (a b : List PulseLength). a ++ b) (sym (long_append (waves_of d.tones) (data_in s (row_of s origin d n))) ∙ p n)
    (ap (λ (l : PulseLength). lasting (l ∷ [])) (q n))
    ∙ sym (lasting_append (map lasts x.pulses) (x.pause ∷ [])))
    lent t))

-- 11
turbo_same : (origin : Origin) (s : List ℕ) (d : TurboData) (n : ℕ) → (eqb d.pilot 0 || even_count d.pilots) ≡ true
    → bits_said d.last d.size ≡ true
    → long (waves_of (turbo_tones d) ++ data_in s (row_of s origin (turbo_sound d) n))
    ≡ long (again d.pilots (d.pilot ∷ [])
    ++ d.sync1 ∷ d.sync2 ∷ data_pulses s d.zero d.one d.last d.from d.size)
unfolding turbo_tones turbo_sound row_of waves_of
turbo_same origin s d n p q =
    let wave = again (max 1 ((d.pilots + 1) / 2)) (d.pilot ∷ d.pilot ∷ []) in
    let bits = data_pulses s d.zero d.one d.last d.from d.size in
    ap (λ (l : List ℕ). long ((wave ++ syncs) ++ l)) (data_same s d.zero d.one d.last d.from d.size q)
    ∙ ap long (append_assoc wave syncs bits)
    ∙ long_append wave (syncs ++ bits)
    ∙ ap₂ (λ (a b : List PulseLength). a ++ b) (pilot_same d.pilot d.pilots p) (ap (λ (l : List ℕ). long (l ++ bits)) two)
    ∙ sym (long_append (again d.pilots (d.pilot ∷ [])) (d.sync1 ∷ d.sync2 ∷ bits))
  where
    syncs : List ℕ
    syncs = again (max 1 1) (d.sync1 ∷ d.sync2 ∷ []) ++ []

    two : syncs ≡ d.sync1 ∷ d.sync2 ∷ []
    two = append-nil (again (max 1 1) (d.sync1 ∷ d.sync2 ∷ [])) ∙ once (d.sync1 ∷ d.sync2 ∷ [])

pub turbo_pause : (origin : Origin) (s : List ℕ) (d : TurboData) (n : ℕ) → pause_in (row_of s origin (turbo_sound d) n) ≡ pause_ms d.pause
unfolding turbo_sound row_of pause_in
turbo_pause origin s d n = refl

pub keep11 : (lent : Lent) (origin : Origin) (s : List ℕ) (t : Parsed) (d : TurboData) → kept11 d ≡ true
    → Sure (λ u. Keeps s t u (format11 s d)) (add_sounds lent s origin (turbo_sound d ∷ []) t)
unfolding kept11 format11 turbo_sound
keep11 lent origin s t d e =
    let p = first (eqb d.pilot 0 || even_count d.pilots) (bits_said d.last d.size) e in
    let q = second (eqb d.pilot 0 || even_count d.pilots) (bits_said d.last d.size) e in
    rw q (keep_one lent origin s t (turbo_sound d)
    (sound_with (again d.pilots (d.pilot ∷ [])
    ++ d.sync1 ∷ d.sync2 ∷ data_pulses s d.zero d.one d.last d.from d.size) (pause_ms d.pause))
    (λ n. turbo_same origin s d n p q) (λ n. turbo_pause origin s d n))

-- 12: pulses of 0, or more than one
cycles-same : (half count : ℕ) → kept12 half count ≡ true → count % 2 ≡ 0
    → long (again (max 1 (count / 2)) (half ∷ half ∷ [])) ≡ long (again count (half ∷ []))
unfolding kept12
cycles-same zero count e q = zeros-none (max 1 (count / 2)) ∙ sym (zero-none count)
cycles-same (suc x) count e q =
    let l = ltb-true _ count (other (eqb (suc x) 0) _ e (ne_eqb (suc x) 0 (omega arith))) in
    let m : max 1 (count / 2) * 2 ≡ count = omega arith in
    ap long (cycles-pulses (suc x) (max 1 (count / 2)) ∙ ap (λ (k : ℕ). again k (suc x ∷ [])) m)

-- the odd pulse first
odd_same : (half count : ℕ) → kept12 half count ≡ true → (count % 2 ≡ 0 → ⊥)
    → long (0 ∷ half ∷ again (max 1 (count / 2)) (half ∷ half ∷ [])) ≡ long (again count (half ∷ []))
unfolding kept12 lasting
odd_same zero count e q = zeros-none (max 1 (count / 2)) ∙ sym (zero-none count)
odd_same (suc x) count e q =
    let l = ltb-true _ count (other (eqb (suc x) 0) _ e (ne_eqb (suc x) 0 (omega arith))) in
    let m : suc (max 1 (count / 2) * 2) ≡ count = omega arith in
    ap (λ (r : List ℕ). long (suc x ∷ r)) (cycles-pulses (suc x) (max 1 (count / 2)))
    ∙ ap long (sym (again_more (suc x ∷ []) (max 1 (count / 2) * 2)) ∙ ap (λ (k : ℕ). again k (suc x ∷ [])) m)

tone-same : (origin : Origin) (s : List ℕ) (half count n : ℕ) → kept12 half count ≡ true
    → long (waves_of (pure_tone_tones half count) ++ data_in s (row_of s origin (tone_sound (pure_tone_tones half count)) n))
    ≡ long (again count (half ∷ []))
unfolding pure_tone_tones waves_of row_of data_pulses each
tone-same origin s half count n e = by_cases (eqb (count % 2) 0) refl
  where
    wave : List ℕ
    wave = again (max 1 (count / 2)) (half ∷ half ∷ [])

    by_cases : (b : Bool) → eqb (count % 2) 0 ≡ b
        → long (waves_of (b ⇒ plain_tone (count / 2) half half ∷ [] ∣ plain_tone 1 0 half ∷ plain_tone (count / 2) half half ∷ [])
        ++ [])
        ≡ long (again count (half ∷ []))
    by_cases true q = ap long (append-nil (wave ++ []) ∙ append-nil wave) ∙ cycles-same half count e (eqb-true (count % 2) 0 q)
    by_cases false q = ap (λ (r : List ℕ). long (0 ∷ half ∷ r)) (append-nil (wave ++ []) ∙ append-nil wave)
        ∙ odd_same half count e (eqb-false (count % 2) 0 q)

tone_pause : (origin : Origin) (s : List ℕ) (ts : List Tone) (n : ℕ) → pause_in (row_of s origin (tone_sound ts) n) ≡ lasts 0
unfolding row_of pause_in
tone_pause origin s ts n = refl

pub keep12 : (lent : Lent) (origin : Origin) (s : List ℕ) (t : Parsed) (half count : ℕ) → kept12 half count ≡ true
    → Sure (λ u. Keeps s t u (format12 half count)) (add_sounds lent s origin (tone_sound (pure_tone_tones half count) ∷ []) t)
unfolding format12
keep12 lent origin s t half count e =
    keep_one lent origin s t (tone_sound (pure_tone_tones half count)) (sound_with (again count (half ∷ [])) (lasts 0))
    (λ n. tone-same origin s half count n e) (λ n. tone_pause origin s (pure_tone_tones half count) n)

-- 14
pure_same : (origin : Origin) (s : List ℕ) (off one last pause from size n : ℕ) → bits_said last size ≡ true
    → long (waves_of pure_tones ++ data_in s (row_of s origin (pure_sound (data_bits from size off one last) (ms pause)) n))
    ≡ long (data_pulses s off one last from size)
unfolding pure_tones waves_of each pure_sound row_of lasting
pure_same origin s off one last pause from size n e = ap long (data_same s off one last from size e)

pure_pause : (origin : Origin) (s : List ℕ) (off one last pause from size n : ℕ)
    → pause_in (row_of s origin (pure_sound (data_bits from size off one last) (ms pause)) n) ≡ pause_ms pause
unfolding pure_sound row_of pause_in
pure_pause origin s off one last pause from size n = refl

pub keep14 : (lent : Lent) (origin : Origin) (s : List ℕ) (t : Parsed) (off one last pause from size : ℕ)
    → bits_said last size ≡ true
    → Sure (λ u. Keeps s t u (format14 s off one last pause from size))
    (add_sounds lent s origin (pure_sound (data_bits from size off one last) (ms pause) ∷ []) t)
unfolding format14 pure_sound
keep14 lent origin s t off one last pause from size e =
    rw e (keep_one lent origin s t (pure_sound (data_bits from size off one last) (ms pause))
    (sound_with (data_pulses s off one last from size) (pause_ms pause))
    (λ n. pure_same origin s off one last pause from size n e) (λ n. pure_pause origin s off one last pause from size n))

-- 20, 2A: a pause alone, or a stop
stop-same : (origin : Origin) (s : List ℕ) (n : ℕ) → long (waves_of [] ++ data_in s (row_of s origin stop_sound n)) ≡ long []
unfolding row_of waves_of data_pulses each
stop-same origin s n = refl

stop_pause : (origin : Origin) (s : List ℕ) (n : ℕ) → pause_in (row_of s origin stop_sound n) ≡ forever
unfolding row_of pause_in
stop_pause origin s n = refl

keep_stop : (lent : Lent) (origin : Origin) (s : List ℕ) (t : Parsed)
    → Sure (λ u. Keeps s t u (sounds (sound_with [] forever))) (add_sounds lent s origin (stop_sound ∷ []) t)
keep_stop lent origin s t = keep_one lent origin s t stop_sound (sound_with [] forever) (stop-same origin s) (stop_pause origin s)

silence-same : (origin : Origin) (s : List ℕ) (p n : ℕ) → long (waves_of [] ++ data_in s (row_of s origin (silent_sound p) n)) ≡ long []
unfolding row_of waves_of data_pulses each
silence-same origin s p n = refl

silence_pause : (origin : Origin) (s : List ℕ) (p n : ℕ) → pause_in (row_of s origin (silent_sound p) n) ≡ lasts p
unfolding row_of pause_in
silence_pause origin s p n = refl

pub keep20 : (lent : Lent) (origin : Origin) (s : List ℕ) (t : Parsed) (n : ℕ)
    → Sure (λ u. Keeps s t u (format20 n)) (add_sounds lent s origin (pause_sound n ∷ []) t)
unfolding format20 pause_sound
keep20 lent origin s t n = by_cases (eqb n 0)
  where
    by_cases : (b : Bool)
        → Sure (λ u. Keeps s t u (b ⇒ sounds (sound_with [] forever) ∣ sounds (sound_with [] (pause_ms n))))
        (add_sounds lent s origin ((b ⇒ stop_sound ∣ silent_sound (ms n)) ∷ []) t)
    by_cases true = keep_stop lent origin s t
    by_cases false = keep_one lent origin s t (silent_sound (ms n)) (sound_with [] (pause_ms n)) (silence-same origin s (ms n))
        (silence_pause origin s (ms n))

-- no sound of its own
pub keep_none : {s : List ℕ} {t u : Parsed} → u.blocks ≡ t.blocks → u.tones ≡ t.tones
    → Keeps s t u (sounds (sound_with [] (lasts 0)))
unfolding lengths_of lasting
keep_none p q = as_said (plays-none p q refl)

pub keep_2a : (lent : Lent) (origin : Origin) (s : List ℕ) (t : Parsed) (model length : ℕ) → eqb length 0 ≡ true
    → Sure (λ u. Keeps s t u (format_2a (eqb model 0) length)) (does lent s model origin (stop48_deed length) t)
unfolding format_2a does stop48_deed
keep_2a lent origin s t model length e = rw e (by_cases (eqb model 0))
  where
    by_cases : (b : Bool)
        → Sure (λ u. Keeps s t u (b ⇒ sounds (sound_with [] forever) ∣ sounds (sound_with [] (lasts 0))))
        (not b ⇒ on t ∣ add_sounds lent s origin (stop_sound ∷ []) t)
    by_cases true = keep_stop lent origin s t
    by_cases false = sure (keep_none refl refl)
