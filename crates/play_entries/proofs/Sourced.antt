-- A SOURCE ROW: what `entries_of` and `level_at` are where the sort is 0. Assumes nothing.
use Prim.Native.Nat.{ℕ}
use mathlib.Core.Path.{◌≡◌, refl}
use mathlib.Core.Bool.{Bool, true, false}
use mathlib.Core.List.{List, [], ◌∷◌, ◌++◌}
use lib.Dec.{eqb}
use Rattle.law_base.specs.Rules.{◌⇒◌, ◌∣◌}
use Rattle.law_pulses.specs.Play.{low}
use Rattle.rows.specs.declared.Block.{Block}
use Rattle.play_levels.specs.Closed.{flipped}
use Rattle.play_levels.proofs.Voices.{run-same}
use Rattle.play_entries.specs.declared.Phase.{Phase}
use Rattle.play_entries.specs.declared.Phase.TheVariants.{Start, Tones, Data, Edge, Pause}
use Rattle.play_entries.specs.Entries.{label_at, entry_of, tone_at, is_source, cycles_of, is_single, start_level, cycle_level, bit_level}
use Rattle.play_entries.specs.Entries.{edged, cycle_of, tone_of, row_entries, tones_of, byte_of, data_of, edge_of, whole_pause, pause_of}
use Rattle.play_entries.specs.Entries.{pause_level, pause_entry, sound_of, entries_of}
use Rattle.play_entries.specs.Places.{level_at}
use Rattle.play_entries.specs.Source.{source_cycle, source_tone, source_byte, source_entries, level_of}

flipped-low : (h : Bool) → flipped h low ≡ h
flipped-low true = refl
flipped-low false = refl

all_low : (x y : Bool) → (x ⇒ low ∣ y ⇒ low ∣ low) ≡ low
all_low true y = refl
all_low false true = refl
all_low false false = refl

module _ (tones : List ℕ) (b : ℕ) (r : Block) (s : is_source r ≡ true) where
  pub no_edge : edged r ≡ false
  unfolding edged
  no_edge = rw s

  pub bits_low : bit_level tones r ≡ low
  unfolding bit_level
  bits_low = rw s

  pub pause_low : pause_level tones r ≡ low
  unfolding pause_level
  pause_low = rw bits_low (all_low (eqb r.endless 1) (eqb r.pause 0))

  cycle_same : (i p : ℕ) → cycle_of b i r (tone_at tones r i) (cycle_level tones r i) p ≡ source_cycle b i (tone_at tones r i) p
  unfolding is_single cycle_level
  cycle_same i p = rw s

  row_same : (i : ℕ) → row_entries tones b r i ≡ source_tone tones b r i
  unfolding tone_of source_tone cycles_of
  row_same i = rw s (run-same _ _ (cycle_same i) 0 _)

  end_same : edge_of tones b r ++ pause_entry tones b r ∷ [] ≡ entry_of (label_at b Pause) low (whole_pause r) ∷ []
  unfolding pause_of whole_pause
  end_same = rw (no_edge, pause_low)

  pub source_levels : (f : Phase) → level_at tones r f ≡ level_of f
  unfolding level_at level_of start_level cycle_level
  source_levels Start = rw s
  source_levels (Tones i p h) = rw s (flipped-low h)
  source_levels (Data pos k h) = rw bits_low (flipped-low h)
  source_levels Edge = bits_low
  source_levels Pause = pause_low

  -- A SOURCE ROW has the entries of rules 89 to 92
  pub source_entries_lem : (tape : List ℕ) → entries_of tape tones b r ≡ source_entries tape tones b r
  unfolding entries_of source_entries sound_of tones_of data_of byte_of source_byte start_level
  source_entries_lem tape =
      rw (end_same, bits_low, s, run-same _ _ row_same 0 r.tones)
