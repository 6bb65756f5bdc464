-- A DOCUMENT ROW'S ENTRIES ARE ITS SIGNALS VOICED ONE BY ONE, and the line behind it is the stepwise line. Assumes nothing.
use Prim.Native.Nat.{ℕ, ◌+◌, ◌-◌, min}
use native.Mathlib.Omega.{arith}
use native.Mathlib.Numerals.{add-one}
use borrow.Author.Tests.{ne_eqb, eqb-true}
use mathlib.Core.Path.{◌≡◌, refl, sym, ap, subst, ◌∙◌}
use mathlib.Core.Bool.{Bool, true, false, not, ◌||◌, not-not}
use mathlib.Core.List.{List, [], ◌∷◌, ◌++◌, append_assoc}
use lib.Dec.{eqb}
use Rattle.law_base.specs.Rules.{◌⇒◌, ◌∣◌}
use Rattle.law_pulses.specs.Play.{Level, low, Entry, pulse}
use Rattle.law_pulses.specs.Runs.{run}
use Rattle.rows.specs.declared.Block.{Block}
use Rattle.play_levels.specs.declared.Line.{Line}
use Rattle.play_levels.specs.Voiced.{silence, halt, Bare, lined, quiet, sounded, line_by, voiced, line_past, lots}
use Rattle.play_levels.specs.Voiced.{bare, Voices}
use Rattle.play_levels.specs.Closed.{times_of, first_level, tone_signals, wave_entries}
use Rattle.play_levels.proofs.Voices.{run-same, voices_as, voices_by, voices_join, voices_run, voices_steady}
use Rattle.play_levels.proofs.Tone.{tone_voices}
use Rattle.play_entries.specs.declared.Phase.TheVariants.{Start, Tones, Edge, Pause}
use Rattle.play_entries.specs.declared.Duration.TheVariants.{T, Endless}
use Rattle.play_entries.specs.Entries.{Label, label_at, entry_of, tone_at, is_source, cycles_of, is_single, line_start, line_at, start_level}
use Rattle.play_entries.specs.Entries.{cycle_level, bit_level, edged, cycle_of, tone_of, row_entries, tones_of, bits_at}
use Rattle.play_entries.specs.Entries.{bit_entries, byte_of, byte_at, byte_entries, data_of, pause_of, pause_level}
use Rattle.play_entries.specs.Entries.{sound_of, entries_of}
use Rattle.play_entries.specs.Signals.{bit_signals, byte_signals, end_signal, signals_of, steady, line_data, line_behind}
use Rattle.play_entries.proofs.Bounds.{bits_some}
use Rattle.play_entries.proofs.Ends.{end_of}

module _ (tones : List ℕ) (b : ℕ) (r : Block) (d : is_source r ≡ false) where
  -- a tone row
  cycle_same : (i p : ℕ)
      → cycle_of b i r (tone_at tones r i) (cycle_level tones r i) p
      ≡ wave_entries (tone_at tones r i) (label_at b (Tones i p false)) (label_at b (Tones i p true))
      (first_level (tone_at tones r i) (line_at tones r i) p)
  unfolding is_single cycle_level
  cycle_same i p = rw d

  cycles-same : (i : ℕ) → cycles_of r (tone_at tones r i) ≡ times_of (tone_at tones r i)
  unfolding cycles_of
  cycles-same i = rw d

  row_voices : (i : ℕ) → Voices (line_at tones r i) (tone_signals (tone_at tones r i)) (line_at tones r (i + 1)) (row_entries tones b r i)
  unfolding tone_of line_at
  row_voices i =
      let t = tone_at tones r i in
      rw (cycles-same i, add-one i)
      (voices_as (run-same _ _ (cycle_same i) 0 (times_of t))
      (tone_voices t (line_at tones r i) (λ p. label_at b (Tones i p false)) (λ p. label_at b (Tones i p true))))

  -- before the first
  line_first : line_at tones r 0 ≡ line_start r
  unfolding line_at
  line_first = refl

  -- all tone rows
  tones_voices : Voices (line_start r) (lots (λ i. tone_signals (tone_at tones r i)) 0 r.tones) (line_at tones r r.tones)
      (tones_of tones b r)
  unfolding tones_of
  tones_voices =
      let z : 0 + r.tones ≡ r.tones = omega arith in
      subst (λ (k : Line). Voices k (lots (λ i. tone_signals (tone_at tones r i)) 0 r.tones) (line_at tones r r.tones)
      (run (row_entries tones b r) 0 r.tones)) line_first
      (voices_by (ap (line_at tones r) z)
      (voices_run (λ i. tone_signals (tone_at tones r i)) (row_entries tones b r) (line_at tones r) 0 r.tones (λ i l g. row_voices i)))

-- a bit, from any line with this current level
bit_voices : (b : ℕ) (r : Block) (pos v k : ℕ) (c : Level) (l : Line) → l.current ≡ c
    → Voices l (bit_signals r v k) (lined c (not c)) (bit_entries b r c pos v k)
unfolding voiced line_past sounded line_by bare
bit_voices b r pos v k c l e = rw e (record { heard = refl; line = rw (not-not c) })

-- a byte
byte_voices : (tape : List ℕ) (b : ℕ) (r : Block) (pos : ℕ) (c : Level) (l : Line) → l.current ≡ c
    → Voices l (byte_signals tape r pos) (lined c (not c)) (byte_entries tape b r c pos)
unfolding byte_signals byte_of
byte_voices tape b r pos c l e =
    let v = byte_at tape r pos in
    let n : bits_at r pos ≡ 0 → ⊥ = λ z. omega (arith, bits_some r pos) in
    let x = voices_steady (bit_signals r v) (bit_entries b r c pos v) l (lined c (not c)) e (λ k m f. bit_voices b r pos v k c m f)
    (bits_at r pos) in
    rw (ne_eqb (bits_at r pos) 0 n) at x

-- a pause or a stop, from any line: with x for a stop, y for a pause of 0
end_by : (x y : Bool) (n : ℕ) (a d : Label) (l : Line) → (y ≡ true → n ≡ 0) → eqb n 0 ≡ y
    → Voices l ((x ⇒ halt ∣ silence n) ∷ []) (x ⇒ quiet ∣ y ⇒ l ∣ quiet)
    ((not (x || y) ⇒ pulse a l.current (min 3500 n) ∷ [] ∣ [])
    ++ entry_of d (x ⇒ low ∣ y ⇒ l.current ∣ low) (x ⇒ Endless ∣ T (not (x || y) ⇒ n - 3500 ∣ n)) ∷ [])
unfolding voiced line_past sounded line_by bare entry_of
end_by true y n a d l z e = record { heard = refl; line = refl }
end_by false true n a d l z e = rw (z refl) (record { heard = refl; line = refl })
end_by false false n a d l z e = record { heard = rw e; line = rw e }

module _ (tape tones : List ℕ) (b : ℕ) (r : Block) (d : is_source r ≡ false) where
  level_same : bit_level tones r ≡ (line_at tones r r.tones).current
  unfolding bit_level
  level_same = rw d

  data_voices : Voices (line_at tones r r.tones) (lots (byte_signals tape r) 0 r.size) (line_data tones r)
      (data_of tape b r (bit_level tones r))
  unfolding data_of line_data
  data_voices =
      let l = line_at tones r r.tones in
      rw level_same
      (voices_steady (byte_signals tape r) (byte_entries tape b r l.current) l (steady l) refl
      (λ pos m f. byte_voices tape b r pos l.current m f) r.size)

  -- data leave the current level
  data_current : (line_data tones r).current ≡ bit_level tones r
  unfolding line_data
  data_current = by_size (eqb r.size 0)
    where
      by_size : (x : Bool) → (x ⇒ line_at tones r r.tones ∣ steady (line_at tones r r.tones)).current ≡ bit_level tones r
      by_size true = sym level_same
      by_size false = sym level_same

  end_voices : Voices (line_data tones r) (end_signal r ∷ []) (line_behind tones r) (end_of tones b r)
  unfolding line_behind edged pause_of pause_level
  end_voices =
      rw (← data_current, d)
      (end_by (eqb r.endless 1) (eqb r.pause 0) r.pause (label_at b Edge) (label_at b Pause) (line_data tones r)
      (λ e. eqb-true r.pause 0 e) refl)

  -- what stands behind a document row's start
  abbrev behind_start : List (Entry Label)
  behind_start = tones_of tones b r ++ (data_of tape b r (bit_level tones r) ++ end_of tones b r)

  -- A DOCUMENT ROW: its start, and its signals voiced one by one from the line of its words; behind it is the line of `line_behind`
  pub row_voiced : Voices (line_start r) (signals_of tape tones r) (line_behind tones r) behind_start
  unfolding signals_of
  row_voiced = voices_join (tones_voices tones b r d) (voices_join data_voices end_voices)

  pub row_entries_lem : entries_of tape tones b r ≡ pulse (label_at b Start) (line_start r).current 0 ∷ behind_start
  unfolding entries_of sound_of start_level
  row_entries_lem = rw d (ap (λ (x : List (Entry Label)). pulse (label_at b Start) (line_start r).current 0 ∷ x)
      (append_assoc (tones_of tones b r) (data_of tape b r (bit_level tones r)) (end_of tones b r)))

  pub row_heard : bare (entries_of tape tones b r) ≡ pulse tt (line_start r).current 0 ∷ voiced (line_start r) (signals_of tape tones r)
  unfolding bare
  row_heard = ap bare row_entries_lem ∙ ap (λ (x : List Bare). pulse tt (line_start r).current 0 ∷ x) row_voiced.heard

  pub row_line : line_past (line_start r) (signals_of tape tones r) ≡ line_behind tones r
  row_line = row_voiced.line
