-- A 10 plays the format's pulses with one pilot pulse more in front, whatever its flag. Assumes nothing.
use Prim.Native.Nat.{ℕ, suc, ◌*◌, max}
use native.Mathlib.Omega.{arith}
use mathlib.Core.Path.{◌≡◌, refl, ap, subst, ◌∙◌}
use mathlib.Core.Bool.{Bool, true, false, ◌||◌}
use mathlib.Core.List.{List, [], ◌∷◌, ◌++◌}
use lib.ListN.{get_or}
use lib.Dec.{ltb, eqb}
use Rattle.law_base.specs.Rules.{◌⇒◌, ◌∣◌}
use Rattle.cut_grammar.specs.declared.Piece.TheVariants.{Standard}
use Rattle.load_state.specs.Parser.{Parsed}
use Rattle.load_state.specs.Kept.{Sure}
use Rattle.load_state.proofs.Kept.{sure_also}
use Rattle.load_blocks.specs.declared.Origin.{Origin}
use Rattle.load_blocks.specs.Sounds.{ms, add_sounds}
use Rattle.load_blocks.specs.Blocks.{standard_header, standard_cycles, standard_tones, standard_sound}
use Rattle.load_blocks.specs.Adds.{Lent}
use Rattle.load_blocks.specs.Deeds.{does}
use Rattle.load_source.specs.Meaning.{deed_of}
use Rattle.load_source.specs.Source.{act}
use Rattle.law_tzx.specs.Format.{PulseTrain, sounds, unsaid, pause_ms, each, again, data_pulses, pilot_count, format10}
use Rattle.law_tzx.specs.Format.{format_of, lengths_of}
use Rattle.law_tzx.specs.Kept.{Plays, Keeps, as_said}
use Rattle.law_tzx.specs.Departs.{pulse_more}
use Rattle.law_tzx.proofs.Lengths.{long, waves_of}
use Rattle.law_tzx.proofs.Waves.{again_more, cycles-pulses}
use Rattle.law_tzx.proofs.KeepSounds.{sound_with, keep_one}
use Rattle.law_tzx.proofs.Exact.{said_of, two_rows, standard_bits, standard_pause_lem}

-- its cycles have one pulse more than the format's pilot, and are some
record More (v : ℕ) : Type 0 where
  pulses : max 1 (standard_cycles (ltb v 128)) * 2 ≡ suc (pilot_count v)

one_more : (v : ℕ) → More v
unfolding standard_cycles pilot_count
one_more v = by_flag (ltb v 128) refl
  where
    by_flag : (b : Bool) → ltb v 128 ≡ b → More v
    by_flag true e = record { pulses = rw e (omega arith) }
    by_flag false e = record { pulses = rw e (omega arith) }

standard_wave : (v : ℕ) (bits : List ℕ)
    → waves_of (standard_tones (ltb v 128)) ++ bits ≡ 2168 ∷ again (pilot_count v) (2168 ∷ []) ++ 667 ∷ 735 ∷ bits
unfolding standard_tones
standard_wave v bits =
    let n = standard_cycles (ltb v 128) in
    two_rows n 2168 667 735 bits
    ∙ ap (λ (l : List ℕ). l ++ 667 ∷ 735 ∷ bits)
    (cycles-pulses 2168 (max 1 n) ∙ ap (λ (k : ℕ). again k (2168 ∷ [])) (one_more v).pulses
    ∙ again_more (2168 ∷ []) (pilot_count v))

no_bits : (s : List ℕ) (from : ℕ) → data_pulses s 855 1710 8 from 0 ≡ []
unfolding data_pulses each
no_bits s from = refl

never_said : {x : PulseTrain} → unsaid ≡ sounds x → ⊥
never_said e = let z : ◌≡◌ {A = ℕ} 0 1 = cc in omega arith

more_said : {s : List ℕ} {t u : Parsed} (x : PulseTrain)
    → Keeps s t u (sounds (sound_with (2168 ∷ x.pulses) x.pause)) → Plays s (pulse_more x) t u
unfolding pulse_more lengths_of
more_said x (as_said {x = y} p) = p

-- ONE PULSE MORE, for every 10 of which the format says what is played: one with a flag
pub pilot_more : (lent : Lent) (origin : Origin) (s : List ℕ) (model : ℕ) (t : Parsed) (pause from size : ℕ) {x : PulseTrain}
    → format_of (eqb model 0) s (Standard pause from size) ≡ sounds x
    → Sure (Plays s (pulse_more x) t) (act lent s model origin (Standard pause from size) t)
unfolding format_of format10 act deed_of does standard_header standard_sound
pilot_more lent origin s model t pause from size {x} e = by_size (eqb size 0) e
  where
    flag : Bool
    flag = ltb (get_or s from 0) 128

    bits : List ℕ
    bits = data_pulses s 855 1710 8 from size

    said : PulseTrain
    said = sound_with (again (pilot_count (get_or s from 0)) (2168 ∷ []) ++ 667 ∷ 735 ∷ bits) (pause_ms pause)

    by_size : (b : Bool) → (b ⇒ unsaid ∣ sounds said) ≡ sounds x
        → Sure (Plays s (pulse_more x) t) (add_sounds lent s origin (standard_sound (b || flag) from size (ms pause) ∷ []) t)
    by_size true q = absurd (never_said q)
    by_size false q =
        let d = standard_sound flag from size (ms pause) in
        subst (λ (y : PulseTrain). Sure (Plays s (pulse_more y) t) (add_sounds lent s origin (d ∷ []) t)) (said_of q)
        (sure_also (λ u k. more_said said k)
        (keep_one lent origin s t d (sound_with (2168 ∷ said.pulses) (pause_ms pause)) (λ n.
        ap (λ (l : List ℕ). long (waves_of (standard_tones flag) ++ l)) (standard_bits origin s flag from size (ms pause) n)
        ∙ ap long (standard_wave (get_or s from 0) bits))
        (standard_pause_lem origin s flag from size (ms pause))))

-- A 10 WITHOUT DATA, of which nothing is said for want of a flag: a header's pilot, so one pulse more than a flag of 0 would have
pub pilot_alone : (lent : Lent) (origin : Origin) (s : List ℕ) (model : ℕ) (t : Parsed) (pause from : ℕ)
    → Sure (Plays s (pulse_more (sound_with (again (pilot_count 0) (2168 ∷ []) ++ 667 ∷ 735 ∷ []) (pause_ms pause))) t)
    (act lent s model origin (Standard pause from 0) t)
unfolding act deed_of does standard_header standard_sound
pilot_alone lent origin s model t pause from =
    let d = standard_sound true from 0 (ms pause) in
    let said = sound_with (again (pilot_count 0) (2168 ∷ []) ++ 667 ∷ 735 ∷ []) (pause_ms pause) in
    sure_also (λ u k. more_said said k)
    (keep_one lent origin s t d (sound_with (2168 ∷ said.pulses) (pause_ms pause)) (λ n.
    ap (λ (l : List ℕ). long (waves_of (standard_tones true) ++ l)) (standard_bits origin s true from 0 (ms pause) n ∙ no_bits s from)
    ∙ ap long (standard_wave 0 []))
    (standard_pause_lem origin s true from 0 (ms pause)))
