-- The lengths of a source row's entries, as lists of numbers: its tone rows' waves, its data's bits, its pause. Assumes nothing.
use Prim.Native.Nat.{ℕ, zero, suc, ◌+◌, ◌<◌, max}
use native.Mathlib.Omega.{arith}
use mathlib.Core.Path.{◌≡◌, refl, sym, ap, ap₂, ◌∙◌}
use mathlib.Core.Bool.{Bool, true, false}
use mathlib.Core.List.{List, [], ◌∷◌, ◌++◌, map, map-append}
use lib.ListN.{length, get_or}
use lib.Dec.{eqb}
use Rattle.law_base.specs.Rules.{◌⇒◌, ◌∣◌}
use Rattle.law_pulses.specs.Play.{Entry, pulse, low}
use Rattle.law_pulses.specs.Runs.{run}
use Rattle.rows.specs.Table.{get}
use Rattle.rows.specs.Rows.{tone}
use Rattle.rows.specs.declared.Block.{Block}
use Rattle.rows.specs.declared.Tone.{Tone}
use Rattle.play_entries.specs.declared.Duration.TheVariants.{T, Endless}
use Rattle.play_entries.specs.declared.Phase.TheVariants.{Start, Pause}
use Rattle.play_entries.specs.Entries.{Label, label_at, entry_of, tone_at, is_source, bits_at, bit_of, half_of, byte_at, whole_pause, entries_of}
use Rattle.play_entries.specs.Source.{source_cycle, source_tone, source_bit, source_byte, source_entries}
use Rattle.play_entries.proofs.Sourced.{source_entries_lem}
use Rattle.law_tzx.specs.Format.{PulseLength, lasts, forever, each, again, bit_pulses, bits_in, byte_pulses, data_pulses, lasting}
use Rattle.law_tzx.specs.Kept.{length_of, lengths}

pub lasting_append : (ls ms : List PulseLength) → lasting (ls ++ ms) ≡ lasting ls ++ lasting ms
unfolding lasting
lasting_append [] ms = refl
lasting_append (forever ∷ ls) ms = ap (λ (x : List PulseLength). forever ∷ x) (lasting_append ls ms)
lasting_append (lasts zero ∷ ls) ms = lasting_append ls ms
lasting_append (lasts (suc n) ∷ ls) ms = ap (λ (x : List PulseLength). lasts (suc n) ∷ x) (lasting_append ls ms)

-- numbers as lengths, those above 0
abbrev pub long : List ℕ → List PulseLength
long xs = lasting (map lasts xs)

pub long_append : (xs ys : List ℕ) → long (xs ++ ys) ≡ long xs ++ long ys
long_append xs ys = ap lasting (map-append lasts xs ys) ∙ lasting_append (map lasts xs) (map lasts ys)

-- a run of entries and the items' lengths
pub run-each : {A : Type 0} (item : ℕ → List (Entry A)) (f : ℕ → List ℕ) → ((i : ℕ) → lengths (item i) ≡ map lasts (f i))
    → (p n : ℕ) → lengths (run item p n) ≡ map lasts (each f p n)
unfolding run each
run-each item f h p zero = refl
run-each item f h p (suc n) =
    map-append length_of (item p) (run item (p + 1) n)
    ∙ ap₂ (λ (x y : List PulseLength). x ++ y) (h p) (run-each item f h (p + 1) n)
    ∙ sym (map-append lasts (f p) (each f (p + 1) n))

-- a tone row's wave: a count of 0 is one cycle
abbrev pub wave_in : Tone → List ℕ
wave_in t = again (max 1 t.num) (t.len1 ∷ t.len2 ∷ [])

tone-lengths : (tt : List ℕ) (b : ℕ) (r : Block) (i : ℕ) → lengths (source_tone tt b r i) ≡ map lasts (wave_in (tone_at tt r i))
unfolding source_tone length_of
tone-lengths tt b r i =
    let t = tone_at tt r i in
    run-each (source_cycle b i t) (λ p. t.len1 ∷ t.len2 ∷ []) (λ p. refl) 0 (max 1 t.num)

-- the waves of tone rows
unfoldable pub waves_of : List Tone → List ℕ
waves_of [] = []
waves_of (t ∷ ts) = wave_in t ++ waves_of ts

each-tone : (g : ℕ → Tone) (d : Tone) (ts : List Tone) (p : ℕ) → ((i : ℕ) → i < length ts → g (p + i) ≡ get_or ts i d)
    → each (λ i. wave_in (g i)) p (length ts) ≡ waves_of ts
unfolding each waves_of
each-tone g d [] p h = refl
each-tone g d (t ∷ ts) p h =
    let z : p + 0 ≡ p = omega arith in
    let e : g p ≡ t = ap g (sym z) ∙ h 0 (omega arith) in
    ap₂ (λ (x y : List ℕ). x ++ y) (ap wave_in e)
    (each-tone g d ts (p + 1) (λ i k. let q : p + 1 + i ≡ p + suc i = omega arith in ap g q ∙ h (suc i) (omega arith)))

bit_lengths : (b : ℕ) (r : Block) (pos v k : ℕ)
    → lengths (source_bit b r pos v k) ≡ map lasts (bit_pulses r.zero r.one (bit_of v k))
unfolding half_of bit_pulses length_of
bit_lengths b r pos v k = by_cases (eqb (bit_of v k) 0)
  where
    by_cases : (t : Bool)
        → lasts (t ⇒ r.zero ∣ r.one) ∷ lasts (t ⇒ r.zero ∣ r.one) ∷ []
        ≡ map lasts (t ⇒ r.zero ∷ r.zero ∷ [] ∣ r.one ∷ r.one ∷ [])
    by_cases true = refl
    by_cases false = refl

-- a block's data: one bit at the least of the last byte
abbrev pub data_in : List ℕ → Block → List ℕ
data_in s r = data_pulses s r.zero r.one (max 1 r.last) r.start r.size

byte_lengths : (s : List ℕ) (b : ℕ) (r : Block) (pos : ℕ)
    → lengths (source_byte s b r pos)
    ≡ map lasts (byte_pulses r.zero r.one (byte_at s r pos) (bits_in (max 1 r.last) r.size pos))
unfolding source_byte byte_pulses bits_at bits_in
byte_lengths s b r pos =
    let v = byte_at s r pos in
    run-each (source_bit b r pos v) (λ k. bit_pulses r.zero r.one (bit_of v k)) (bit_lengths b r pos v) 0 (bits_at r pos)

-- its data's entries, and its tone rows'
abbrev bytes_of : List ℕ → ℕ → Block → List (Entry Label)
bytes_of s b r = run (source_byte s b r) 0 r.size

abbrev tones_of : List ℕ → ℕ → Block → List (Entry Label)
tones_of tt b r = run (source_tone tt b r) 0 r.tones

data_lengths : (s : List ℕ) (b : ℕ) (r : Block) → lengths (bytes_of s b r) ≡ map lasts (data_in s r)
unfolding data_pulses
data_lengths s b r =
    run-each (source_byte s b r) (λ pos. byte_pulses r.zero r.one (byte_at s r pos) (bits_in (max 1 r.last) r.size pos))
    (byte_lengths s b r) 0 r.size

-- its pause
unfoldable pub pause_in : Block → PulseLength
pause_in r = eqb r.endless 1 ⇒ forever ∣ lasts r.pause

-- WHAT A BLOCK OVER THESE TONE ROWS PLAYS
unfoldable pub block_lengths : List ℕ → List Tone → Block → List PulseLength
block_lengths s ts r = long (waves_of ts) ++ long (data_in s r) ++ lasting (pause_in r ∷ [])

abbrev pause_entry : ℕ → Block → Entry Label
pause_entry b r = entry_of (label_at b Pause) low (whole_pause r)

pause_lengths : (b : ℕ) (r : Block) → lengths (pause_entry b r ∷ []) ≡ pause_in r ∷ []
unfolding whole_pause entry_of pause_in length_of
pause_lengths b r = by_cases (eqb r.endless 1)
  where
    by_cases : (t : Bool)
        → length_of (entry_of (label_at b Pause) low (t ⇒ Endless ∣ T r.pause)) ∷ [] ≡ (t ⇒ forever ∣ lasts r.pause) ∷ []
    by_cases true = refl
    by_cases false = refl

-- a start has no length
abbrev start_of : ℕ → Entry Label
start_of b = pulse (label_at b Start) low 0

start_none : (b : ℕ) (es : List (Entry Label)) → lasting (lengths (start_of b ∷ es)) ≡ lasting (lengths es)
unfolding lasting length_of
start_none b es = refl

module _ (s tt : List ℕ) (b : ℕ) (r : Block) (source : is_source r ≡ true) (ts : List Tone) (d : Tone) (n : r.tones ≡ length ts)
    (own : (i : ℕ) → i < length ts → get tone tt (r.tone + i) ≡ get_or ts i d) where
  tones-lengths : lengths (tones_of tt b r) ≡ map lasts (waves_of ts)
  tones-lengths =
      run-each (source_tone tt b r) (λ i. wave_in (tone_at tt r i)) (tone-lengths tt b r) 0 r.tones
      ∙ ap (λ (k : ℕ). map lasts (each (λ i. wave_in (tone_at tt r i)) 0 k)) n
      ∙ ap (map lasts) (each-tone (tone_at tt r) d ts 0 (λ i k. let z : 0 + i ≡ i = omega arith in ap (tone_at tt r) z ∙ own i k))

  sound_lengths : lasting (lengths (start_of b ∷ tones_of tt b r ++ bytes_of s b r)) ≡ long (waves_of ts) ++ long (data_in s r)
  sound_lengths =
      start_none b (tones_of tt b r ++ bytes_of s b r)
      ∙ ap lasting (map-append length_of (tones_of tt b r) (bytes_of s b r)
      ∙ ap₂ (λ (x y : List PulseLength). x ++ y) tones-lengths (data_lengths s b r))
      ∙ lasting_append (map lasts (waves_of ts)) (map lasts (data_in s r))

  pub block-lengths : lasting (lengths (entries_of s tt b r)) ≡ block_lengths s ts r
  unfolding source_entries block_lengths
  block-lengths =
      let sound = start_of b ∷ tones_of tt b r ++ bytes_of s b r in
      ap (λ (es : List (Entry Label)). lasting (lengths es)) (source_entries_lem tt b r source s)
      ∙ ap lasting (map-append length_of sound (pause_entry b r ∷ []))
      ∙ lasting_append (lengths sound) (lengths (pause_entry b r ∷ []))
      ∙ ap₂ (λ (x y : List PulseLength). x ++ y) sound_lengths (ap lasting (pause_lengths b r))
