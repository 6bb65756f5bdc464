-- EVERY ENTRY has the level of its block and phase, and so has each that is left to play. Assumes nothing.
use Prim.Native.Nat.{ℕ, zero, suc, ◌+◌, ◌-◌, ◌<◌}
use mathlib.Core.Path.{◌≡◌, refl, subst}
use mathlib.Core.Bool.{Bool, true, false, not}
use Rattle.law_base.specs.Rules.{◌⇒◌, ◌∣◌}
use mathlib.Core.List.{List, [], ◌∷◌, ◌++◌}
use Rattle.law_pulses.specs.Play.{Entry, pulse, endless, rest}
use Rattle.law_pulses.proofs.Steps.{rest-nil, rest-stop, rest_ways}
use Rattle.law_pulses.specs.Runs.{run}
use Rattle.play_entries.specs.declared.Phase.{Phase}
use Rattle.play_entries.specs.declared.Phase.TheVariants.{Start, Tones, Data, Edge, Pause}
use Rattle.play_entries.specs.declared.Duration.{Duration}
use Rattle.play_entries.specs.declared.Duration.TheVariants.{T, Endless}
use Rattle.play_entries.specs.Entries.{Label, label_at, entry_of, is_single, edged, edge_time, edge_of, tone_of, row_entries, tones_of}
use Rattle.play_entries.specs.Entries.{bits_at, bit_entries, byte_of, byte_entries, data_of, pause_of, sound_of, entries_of}
use Rattle.play_entries.specs.Places.{Tape, block_in, tone_in, byte_in, bit_in, cycle_in, cycles_in, cycle_item, level_at, level_in}
use Rattle.play_entries.specs.Places.{list_from, left_at, valid}
use Rattle.play_entries.specs.Tails.{Levels}
use Rattle.play_entries.proofs.Valid.{valid-stands}
use Rattle.play_entries.proofs.Parts.{left_part}

module _ (w : Tape) where
  levels_append : (xs ys : List (Entry Label)) → Levels w xs → Levels w ys → Levels w (xs ++ ys)
  unfolding Levels
  levels_append [] ys p q = q
  levels_append (pulse a v t ∷ xs) ys p q = (p.0, levels_append xs ys p.1 q)
  levels_append (endless a v ∷ xs) ys p q = (p.0, levels_append xs ys p.1 q)

  levels_after : (xs ys : List (Entry Label)) → Levels w (xs ++ ys) → Levels w ys
  unfolding Levels
  levels_after [] ys l = l
  levels_after (pulse a v t ∷ xs) ys l = levels_after xs ys l.1
  levels_after (endless a v ∷ xs) ys l = levels_after xs ys l.1

  levels_run : (item : ℕ → List (Entry Label)) → ((i : ℕ) → Levels w (item i)) → (p m : ℕ) → Levels w (run item p m)
  unfolding Levels run
  levels_run item l p zero = tt
  levels_run item l p (suc m) = levels_append (item p) (run item (p + 1) m) (l p) (levels_run item l (p + 1) m)

  levels_entry : (b : ℕ) (f : Phase) (d : Duration) (es : List (Entry Label)) → Levels w es
      → Levels w (entry_of (label_at b f) (level_in w b f) d ∷ es)
  unfolding Levels entry_of
  levels_entry b f (T t) es l = (refl, l)
  levels_entry b f Endless es l = (refl, l)

  module _ (b : ℕ) where
    levels_second : (o : Bool) (i p n : ℕ) → Levels w (o ⇒ [] ∣ pulse (label_at b (Tones i p true)) (not (cycle_in w b i p)) n ∷ [])
    unfolding Levels level_at
    levels_second true i p n = tt
    levels_second false i p n = (refl, tt)

    levels_row : (i : ℕ) → Levels w (row_entries w.tones b (block_in w b) i)
    unfolding tone_of Levels level_at
    levels_row i =
        levels_run (cycle_item w b i) (λ p. (refl, levels_second (is_single (block_in w b) (tone_in w b i)) i p (tone_in w b i).len2)) 0
        (cycles_in w b i)

    levels_byte : (pos : ℕ) → Levels w (byte_entries w.bytes b (block_in w b) (bit_in w b) pos)
    unfolding byte_of Levels level_at
    levels_byte pos =
        levels_run (bit_entries b (block_in w b) (bit_in w b) pos (byte_in w b pos)) (λ k. (refl, (refl, tt))) 0 (bits_at (block_in w b) pos)

    levels_edge : Levels w (edge_of w.tones b (block_in w b))
    unfolding Levels level_at
    levels_edge = by_edge (edged (block_in w b))
      where
        by_edge : (x : Bool) → Levels w (x ⇒ pulse (label_at b Edge) (bit_in w b) (edge_time (block_in w b)) ∷ [] ∣ [])
        by_edge true = (refl, tt)
        by_edge false = tt

    -- a block's
    pub levels_block : Levels w (entries_of w.bytes w.tones b (block_in w b))
    unfolding entries_of sound_of tones_of data_of level_at Levels
    levels_block =
        let r = block_in w b in
        levels_append (sound_of w.bytes w.tones b r) _ (
          refl,
          levels_append (tones_of w.tones b r) (data_of w.bytes b r (bit_in w b))
              (levels_run (row_entries w.tones b r) levels_row 0 r.tones)
              (levels_run (byte_entries w.bytes b r (bit_in w b)) levels_byte 0 r.size),
        )
        (levels_append (edge_of w.tones b r) _ levels_edge (levels_entry b Pause (pause_of r) [] tt))

  -- the tape's
  pub levels_list : (b : ℕ) → Levels w (list_from w b)
  unfolding list_from
  levels_list b = levels_run (λ i. entries_of w.bytes w.tones i (block_in w i)) levels_block b _

  levels_below : (b : ℕ) (f : Phase) (left : Duration) → b < w.count → valid w b f left ≡ true → Levels w (left_at w b f left)
  levels_below b f left h e =
      let x = left_part w b h f left e in
      let y = x.entry in
      let l = subst (Levels w) y.whole (levels_list b) in
      rw x.rest (levels_entry b f left x.next (levels_after (_ ∷ []) x.next (levels_after y.gone _ l)))

  -- what is left from a valid position
  pub levels_left : (b : ℕ) (f : Phase) (left : Duration) → valid w b f left ≡ true → Levels w (left_at w b f left)
  unfolding left_at
  levels_left b Start left e = levels_list b
  levels_left b (Tones i p l) left e = levels_below b (Tones i p l) left (valid-stands w b (Tones i p l) left refl e).below e
  levels_left b (Data pos k l) left e = levels_below b (Data pos k l) left (valid-stands w b (Data pos k l) left refl e).below e
  levels_left b Edge left e = levels_below b Edge left (valid-stands w b Edge left refl e).below e
  levels_left b Pause left e = levels_below b Pause left (valid-stands w b Pause left refl e).below e

  -- and after playing
  pub levels_rest : (es : List (Entry Label)) (n : ℕ) → Levels w es → Levels w (rest es n)
  unfolding Levels
  levels_rest [] n l = rw (rest-nil n) tt
  levels_rest (endless a v ∷ es) n l = rw (rest-stop a v es n) l
  levels_rest (pulse a v t ∷ es) n l =
      rest_ways (Levels w) a v t es n (λ z. l) (λ p. l) (λ p g. levels_rest es (n - t) l.1)
