-- A row's name and selectable mark are not heard: in a row of either sort. Assumes nothing.
use Prim.Native.Nat.{ℕ, zero, suc}
use mathlib.Core.Path.{◌≡◌, refl, ap, ap₂}
use mathlib.Core.Bool.{false}
use mathlib.Core.List.{List, [], ◌∷◌, ◌++◌}
use lib.Dec.{eqb}
use Rattle.law_base.specs.Rules.{◌⇒◌, ◌∣◌}
use Rattle.law_pulses.specs.Play.{Level, low, Entry, pulse}
use Rattle.rows.specs.declared.Block.{Block}
use Rattle.rows.specs.Rows.{changed, with_mark}
use Rattle.play_levels.specs.declared.Line.{Line}
use Rattle.play_levels.specs.Closed.{first_level, line_after}
use Rattle.play_levels.proofs.Voices.{run-same}
use Rattle.play_entries.specs.declared.Phase.TheVariants.{Tones, Edge, Pause}
use Rattle.play_entries.specs.Entries.{Label, label_at, entry_of, tone_at, is_source, cycles_of, is_single, line_at, start_level}
use Rattle.play_entries.specs.Entries.{cycle_level, bit_level}
use Rattle.play_entries.specs.Entries.{edged, start_of, second_of, tone_of, row_entries, tones_of, bits_at, half_of, byte_of, data_of, edge_time}
use Rattle.play_entries.specs.Entries.{pause_of, pause_level, sound_of, entries_of}
use Rattle.load_state.specs.declared.Pending.{Pending}
use Rattle.load_state.specs.declared.Pending.TheVariants.{Nothing, First, Later, Text}
use Rattle.load_state.specs.Parser.{named, nameless}

module _ (s tt : List ℕ) (b mark case text chars : ℕ) (r : Block) where
  abbrev other : Block
  other = changed r.sound r.pause mark case text chars r

  line_same : (i : ℕ) → line_at tt other i ≡ line_at tt r i
  unfolding line_at
  line_same zero = refl
  line_same (suc i) = ap (line_after (tone_at tt r i)) (line_same i)

  level_same : (i p : ℕ) → cycle_level tt other i p ≡ cycle_level tt r i p
  unfolding cycle_level
  level_same i p = ap (λ (l : Line). is_source r ⇒ low ∣ first_level (tone_at tt r i) l p) (line_same i)

  bit_same : bit_level tt other ≡ bit_level tt r
  unfolding bit_level
  bit_same = ap (λ (l : Line). is_source r ⇒ low ∣ l.current) (line_same r.tones)

  row_same : (i : ℕ) → row_entries tt b other i ≡ row_entries tt b r i
  unfolding tone_of cycles_of is_single
  row_same i =
      let t = tone_at tt r i in
      run-same _ _
      (λ p. ap (λ (v : Level). pulse (label_at b (Tones i p false)) v t.len1 ∷ second_of b i r t v p) (level_same i p)) 0 _

  -- a row's entries, by its tones' entries and the level behind them
  abbrev entries_by : List (Entry Label) → Level → List (Entry Label)
  entries_by es v =
      (start_of b r ∷ es ++ data_of s b r v)
      ++ ((edged r ⇒ pulse (label_at b Edge) v (edge_time r) ∷ [] ∣ [])
      ++ entry_of (label_at b Pause) (eqb r.endless 1 ⇒ low ∣ eqb r.pause 0 ⇒ v ∣ low) (pause_of r) ∷ [])

  pub changed-same : entries_of s tt b other ≡ entries_of s tt b r
  unfolding entries_of sound_of tones_of start_level edged pause_of pause_level data_of byte_of bits_at half_of
  changed-same = ap₂ entries_by (run-same _ _ row_same 0 r.tones) bit_same

pub marked_same : (s tt : List ℕ) (b mark : ℕ) (r : Block) → entries_of s tt b (with_mark mark r) ≡ entries_of s tt b r
marked_same s tt b mark r = changed-same s tt b mark r.named r.text r.chars r

pub copy_same : (s tt : List ℕ) (b : ℕ) (p : Pending) (r : Block) → entries_of s tt b (named p (nameless r)) ≡ entries_of s tt b r
copy_same s tt b Nothing r = changed-same s tt b 0 0 0 0 r
copy_same s tt b (First text chars) r = changed-same s tt b 1 3 text chars r
copy_same s tt b (Later text chars) r = changed-same s tt b 0 4 text chars r
copy_same s tt b (Text text chars) r = changed-same s tt b 1 2 text chars r
