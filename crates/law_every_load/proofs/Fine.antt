-- WHAT THE SOURCE READING'S TABLE GIVES: every sound of a whole piece has its data in the tape and small numbers,
-- and every name lies in the tape.
-- Assumes nothing but that bytes are below 256.
use Prim.Native.Nat.{ℕ, zero, suc, ◌+◌, ◌*◌, ◌/◌, ◌%◌, ◌≤◌, ◌<◌}
use native.Mathlib.Omega.{arith}
use mathlib.Core.Path.{refl}
use mathlib.Core.Bool.{Bool, true, false}
use mathlib.Core.List.Memᴰ
use mathlib.Core.List.{List, [], ◌∷◌}
use lib.ListN.{length}
use lib.Dec.{eqb}
use Rattle.law_base.specs.Rules.{◌⇒◌, ◌∣◌}
use Rattle.cut_fields.proofs.Le.{le_small}
use Rattle.rows.specs.Well.{Halves}
use Rattle.cut_grammar.specs.declared.GeneralizedData.{GeneralizedData}
use Rattle.cut_grammar.specs.declared.Piece.{Piece}
use Rattle.cut_grammar.specs.declared.Piece.TheVariants.{Standard, Turbo, Tone as PureTone, Pulses, Pure, Generalized, Pause, GroupStart}
use Rattle.cut_grammar.specs.declared.Piece.TheVariants.{GroupEnd, LoopStart, LoopEnd, Stop48, Text, Message, Archive, Hardware}
use Rattle.cut_grammar.specs.declared.Piece.TheVariants.{Custom, Glue}
use Rattle.load_general.specs.General as general
use Rattle.load_state.specs.declared.Pending.{Pending}
use Rattle.load_state.specs.declared.Pending.TheVariants as pending
use Rattle.load_state.specs.Kept.{All, nil, cons}
use Rattle.load_blocks.specs.declared.Origin.{Origin}
use Rattle.load_general.specs.General.{plain_tone}
use Rattle.load_blocks.specs.Sounds.{Sound, ms}
use Rattle.load_blocks.specs.Blocks.{standard_cycles, standard_tones, standard_pause, standard_sound, turbo_tones, turbo_sound}
use Rattle.load_blocks.specs.Blocks.{pure_tone_tones, pulse_at, pair_sound, pair_sounds, pure_tones, pure_sound, stop_sound}
use Rattle.load_blocks.specs.Blocks.{silent_sound, pause_sound}
use Rattle.load_blocks.specs.Deeds.{Deed, adds, adds48, errs, general_deed, stop48_deed, sounds_of, brings}
use Rattle.load_source.specs.Meaning.{deed_of}
use Rattle.law_every_load.specs.Sizes.{Bytes, Range, Sized}
use Rattle.law_every_load.specs.Made.{OfPiece, of}
use Rattle.law_every_load.specs.OfSource.{tap_table}
use Rattle.law_every_load.proofs.Tones.{Fine as Small, general_fine}

pub record FineSound (s : List ℕ) (d : Sound) : Type 0 where
  pub bytes : d.bits.start + d.bits.size ≤ length s
  pub zero : d.bits.zero ≤ 65535
  pub one : d.bits.one ≤ 65535
  pub pause : d.ending.pause ≤ 229372500
  pub endless : d.ending.endless ≤ 1
  pub named : d.ending.named ≤ 4
  pub mark : d.selectable ≤ 1
  pub tones : All Halves d.tones

abbrev pub FineName : List ℕ → Pending → Type 0
FineName s pending.Nothing = Unit {0}
FineName s (pending.First from size) = Range (length s) 256 from size
FineName s (pending.Later from size) = Range (length s) 256 from size
FineName s (pending.Text from size) = Range (length s) 256 from size

pub record Fine (s : List ℕ) (d : Deed) : Type 0 where
  pub sounds : All (FineSound s) (sounds_of d)
  pub name : FineName s (brings d)

small : (num len1 len2 : ℕ) → num ≤ 65535 → len1 ≤ 65535 → len2 ≤ 65535 → Halves (plain_tone num len1 len2)
small num len1 len2 n a b = record { num = n; len1 = a; len2 = b; wave = omega arith }

standard_small : (header : Bool) → All Halves (standard_tones header)
unfolding standard_tones standard_cycles
standard_small true = cons (small 4032 2168 2168 (omega arith) (omega arith) (omega arith))
    (cons (small 1 667 735 (omega arith) (omega arith) (omega arith)) nil)
standard_small false = cons (small 1612 2168 2168 (omega arith) (omega arith) (omega arith))
    (cons (small 1 667 735 (omega arith) (omega arith) (omega arith)) nil)

pause_small : (header : Bool) → standard_pause header ≤ 229372500
unfolding standard_pause
pause_small true = omega arith
pause_small false = omega arith

pure_small : (half count : ℕ) → half < 65536 → count < 65536 → All Halves (pure_tone_tones half count)
unfolding pure_tone_tones
pure_small half count h k = by_cases (eqb (count % 2) 0)
  where
    by_cases : (b : Bool)
        → All Halves (b ⇒ plain_tone (count / 2) half half ∷ [] ∣ plain_tone 1 0 half ∷ plain_tone (count / 2) half half ∷ [])
    by_cases true = cons (small (count / 2) half half (omega arith) (omega arith) (omega arith)) nil
    by_cases false = cons (small 1 0 half (omega arith) (omega arith) (omega arith))
        (cons (small (count / 2) half half (omega arith) (omega arith) (omega arith)) nil)

one_fine : {s : List ℕ} (d : Sound) → FineSound s d → Fine s (adds (d ∷ []))
unfolding sounds_of brings
one_fine d h = record { sounds = cons h nil; name = tt }

pub standard_fine : {s : List ℕ} (header : Bool) (from size pause : ℕ) → from + size ≤ length s → pause ≤ 229372500
    → FineSound s (standard_sound header from size pause)
unfolding standard_sound
standard_fine header from size pause i p = record {
  bytes = i;
  zero = omega arith;
  one = omega arith;
  pause = p;
  endless = omega arith;
  named = omega arith;
  mark = omega arith;
  tones = standard_small header;
}

stop_fine : (s : List ℕ) → FineSound s stop_sound
stop_fine s = record {
  bytes = omega arith;
  zero = omega arith;
  one = omega arith;
  pause = omega arith;
  endless = omega arith;
  named = omega arith;
  mark = omega arith;
  tones = nil;
}

pause_fine : (s : List ℕ) (n : ℕ) → n < 65536 → FineSound s (pause_sound n)
unfolding pause_sound
pause_fine s n h = by_cases (eqb n 0)
  where
    by_cases : (b : Bool) → FineSound s (b ⇒ stop_sound ∣ silent_sound (ms n))
    by_cases true = stop_fine s
    by_cases false = record {
      bytes = omega arith;
      zero = omega arith;
      one = omega arith;
      pause = omega arith;
      endless = omega arith;
      named = omega arith;
      mark = omega arith;
      tones = nil;
    }

module _ (s : List ℕ) (b : Bytes s) where
  pulse_small : (from i : ℕ) → pulse_at s from i ≤ 65535
  unfolding pulse_at
  pulse_small from i = omega (arith, le_small s b (from + i * 2) 2)

  pair_fine : (from i : ℕ) → FineSound s (pair_sound s from i)
  pair_fine from i = record {
    bytes = omega arith;
    zero = omega arith;
    one = omega arith;
    pause = omega arith;
    endless = omega arith;
    named = omega arith;
    mark = omega arith;
    tones = cons (small 1 (pulse_at s from i) (pulse_at s from (i + 1)) (omega arith) (pulse_small from i) (pulse_small from (i + 1))) nil;
  }

  pairs_fine : (from i n : ℕ) → All (FineSound s) (pair_sounds s from i n)
  unfolding pair_sounds
  pairs_fine from i zero = nil
  pairs_fine from i (suc n) = cons (pair_fine from i) (pairs_fine from (i + 2) n)

  general_deed_lem : (g : GeneralizedData) → Sized s (Generalized g) → {x : general.Given} → Small x → Fine s (general_deed g x)
  unfolding general_deed sounds_of brings
  general_deed_lem g f Small.refused4 = record { sounds = nil; name = tt }
  general_deed_lem g f Small.stop = one_fine _ (stop_fine s)
  general_deed_lem g f (Small.plain h n o) =
      let p = f.numbers.pause in
      one_fine _ (record {
        bytes = (f.fit.general g refl).places.inside;
        zero = n;
        one = o;
        pause = omega arith;
        endless = omega arith;
        named = omega arith;
        mark = omega arith;
        tones = h;
      })
  general_deed_lem g f (Small.toned h) =
      let p = f.numbers.pause in
      one_fine _ (record {
        bytes = omega arith;
        zero = omega arith;
        one = omega arith;
        pause = omega arith;
        endless = omega arith;
        named = omega arith;
        mark = omega arith;
        tones = h;
      })

  -- THE TABLE, row by row
  pub deed_fine : (piece : Piece) → Sized s piece → Fine s (deed_of s piece)
  unfolding deed_of sounds_of brings stop48_deed turbo_sound turbo_tones pure_sound pure_tones
  deed_fine (Standard pause from size) f =
      let n = f.numbers in
      one_fine _ (standard_fine _ from size (ms pause) n.1.inside (omega (arith, n.0)))
  deed_fine (Turbo d) f =
      let n = f.numbers in
      one_fine _
      (record {
        bytes = n.bytes.inside;
        zero = omega arith;
        one = omega arith;
        pause = omega arith;
        endless = omega arith;
        named = omega arith;
        mark = omega arith;
        tones = cons (small ((d.pilots + 1) / 2) d.pilot d.pilot (omega arith) (omega arith) (omega arith))
            (cons (small 1 d.sync1 d.sync2 (omega arith) (omega arith) (omega arith)) nil);
      })
  deed_fine (PureTone half count) f =
      let n = f.numbers in
      one_fine _ (record {
        bytes = omega arith;
        zero = omega arith;
        one = omega arith;
        pause = omega arith;
        endless = omega arith;
        named = omega arith;
        mark = omega arith;
        tones = pure_small half count n.0 n.1;
      })
  deed_fine (Pulses count from) f = record { sounds = pairs_fine from 0 (count / 2); name = tt }
  deed_fine (Pure off one last pause from size) f =
      let n = f.numbers in
      one_fine _
      (record {
        bytes = n.bytes.inside;
        zero = omega arith;
        one = omega arith;
        pause = omega arith;
        endless = omega arith;
        named = omega arith;
        mark = omega arith;
        tones = cons (small 0 0 0 (omega arith) (omega arith) (omega arith))
            (cons (small 1 0 0 (omega arith) (omega arith) (omega arith)) nil);
      })
  deed_fine (Generalized g) f = general_deed_lem g f (general_fine s b g)
  deed_fine (Pause n) f = one_fine _ (pause_fine s n f.numbers)
  deed_fine (GroupStart from size) f = record { sounds = nil; name = f.numbers }
  deed_fine GroupEnd f = record { sounds = nil; name = tt }
  deed_fine (LoopStart times) f = record { sounds = nil; name = tt }
  deed_fine LoopEnd f = record { sounds = nil; name = tt }
  deed_fine (Stop48 n) f = stop48_fine (eqb n 0)
    where
      stop48_fine : (z : Bool) → Fine s (z ⇒ adds48 (stop_sound ∷ []) ∣ errs n)
      stop48_fine true = record { sounds = cons (stop_fine s) nil; name = tt }
      stop48_fine false = record { sounds = nil; name = tt }
  deed_fine (Text from size) f = record { sounds = nil; name = f.numbers }
  deed_fine Message f = record { sounds = nil; name = tt }
  deed_fine Archive f = record { sounds = nil; name = tt }
  deed_fine Hardware f = record { sounds = nil; name = tt }
  deed_fine Custom f = record { sounds = nil; name = tt }
  deed_fine Glue f = record { sounds = nil; name = tt }

  pub tap_fine : {origin : Origin} (d : Sound) → OfPiece (tap_table s) d origin → FineSound s d
  tap_fine d (of f (Memᴰ.head e)) = rw e (standard_fine _ _ _ _ f.range.inside (pause_small _))
  tap_fine d (of {at = at} {piece = piece} f (Memᴰ.tail x6)) = elim x6 [ ]
