-- WHAT IS LEFT AT A VALID POSITION is the tape's list from its own entry on, of which `left` remains. Assumes nothing.
use Prim.Native.Nat.{ℕ, ◌+◌, ◌≤◌, ◌<◌}
use native.Mathlib.Omega.{arith}
use mathlib.Core.Path.{◌≡◌, refl, sym, ap, ◌∙◌}
use mathlib.Core.Bool.{Bool, true, false}
use Rattle.law_base.specs.Rules.{◌⇒◌, ◌∣◌}
use mathlib.Core.List.{List, [], ◌∷◌, ◌++◌, append_assoc}
use Rattle.law_pulses.specs.Play.{Level, Entry, pulse, Finite}
use Rattle.law_pulses.proofs.Joined.{finite_append}
use Rattle.law_pulses.specs.Runs.{run}
use Rattle.law_pulses.proofs.Runs.{run_finite}
use Rattle.play_entries.specs.declared.Phase.{Phase}
use Rattle.play_entries.specs.declared.Phase.TheVariants.{Start, Tones, Data, Edge, Pause}
use Rattle.play_entries.specs.declared.Duration.{Duration}
use Rattle.play_entries.specs.declared.Duration.TheVariants.{T, Endless}
use Rattle.play_entries.specs.Entries.{Label, label_at, entry_of, start_of, edged, edge_time, edge_of, row_entries, bits_at}
use Rattle.play_entries.specs.Entries.{bit_entries, byte_entries}
use Rattle.play_entries.specs.Places.{Tape, block_in, tone_in, byte_in, bit_in, cycle_in, cycles_in, cycle_item, level_at, level_in}
use Rattle.play_entries.specs.Places.{list_from, from_pause, from_edge, from_byte, from_bit, from_tone, from_cycle, left_at, has_entry}
use Rattle.play_entries.specs.Places.{length_at, valid, head_of, left_of}
use Rattle.play_entries.specs.Tails.{LeadsInto, PartAt}
use Rattle.play_entries.proofs.Runs.{cycle_finite, bit_finite, row_finite, bytes_finite}
use Rattle.play_entries.proofs.Follows.{list_in, tone_in_lem, tone_out, tone_reach, cycle_in_lem, second_in, edge_in, cycle_reach, byte_in_lem}
use Rattle.play_entries.proofs.Follows.{byte_out, byte_reach, bit_in_lem, bit_reach}
use Rattle.play_entries.proofs.Valid.{tone-entry, tone_second, data_entry, Stands, stands-valid, valid_start, below_stands}

into_by : {es xs ys : List (Entry Label)} → xs ≡ ys → LeadsInto es xs → LeadsInto es ys
into_by e x = record { gone = x.gone; finite = x.finite; whole = x.whole ∙ ap (λ (r : List (Entry Label)). x.gone ++ r) e }

into_past : {es : List (Entry Label)} (xs ys : List (Entry Label)) → Finite xs → LeadsInto es (xs ++ ys) → LeadsInto es ys
into_past xs ys f x =
    record {
      gone = x.gone ++ xs;
      finite = finite_append x.gone xs x.finite f;
      whole = x.whole ∙ sym (append_assoc x.gone xs ys);
    }

module _ (w : Tape) (b : ℕ) (h : b < w.count) where
  into_start : LeadsInto (list_from w b) (start_of b (block_in w b) ∷ from_tone w b 0)
  unfolding Finite
  into_start = record { gone = []; finite = tt; whole = list_in w b h }

  pub into_tone : (i : ℕ) → i ≤ (block_in w b).tones → LeadsInto (list_from w b) (from_tone w b i)
  unfolding Finite
  into_tone i l =
      let item = row_entries w.tones b (block_in w b) in
      into_past (run item 0 i) (from_tone w b i) (run_finite item (row_finite w.tones b (block_in w b)) 0 i)
      (into_by (tone_reach w b i l) (into_past (start_of b (block_in w b) ∷ []) (from_tone w b 0) tt into_start))

  pub into_cycle : (i p : ℕ) → i < (block_in w b).tones → p ≤ cycles_in w b i → LeadsInto (list_from w b) (from_cycle w b i p)
  into_cycle i p l g =
      let item = cycle_item w b i in
      into_past (run item 0 p) (from_cycle w b i p) (run_finite item (cycle_finite b i (block_in w b) (tone_in w b i) (cycle_in w b i)) 0 p)
      (into_by (tone_in_lem w b i l ∙ cycle_reach w b i p g) (into_tone i (omega arith)))

  pub into_byte : (pos : ℕ) → pos ≤ (block_in w b).size → LeadsInto (list_from w b) (from_byte w b pos)
  into_byte pos l =
      let item = byte_entries w.bytes b (block_in w b) (bit_in w b) in
      let n = (block_in w b).tones in
      into_past (run item 0 pos) (from_byte w b pos) (run_finite item (bytes_finite w.bytes b (block_in w b) (bit_in w b)) 0 pos)
      (into_by (tone_out w b n (omega arith) ∙ byte_reach w b pos l) (into_tone n (omega arith)))

  pub into_bit : (pos k : ℕ) → pos < (block_in w b).size → k ≤ bits_at (block_in w b) pos
      → LeadsInto (list_from w b) (from_bit w b pos k)
  into_bit pos k l g =
      let item = bit_entries b (block_in w b) (bit_in w b) pos (byte_in w b pos) in
      into_past (run item 0 k) (from_bit w b pos k) (run_finite item (bit_finite b (block_in w b) (bit_in w b) pos (byte_in w b pos)) 0 k)
      (into_by (byte_in_lem w b pos l ∙ bit_reach w b pos k g) (into_byte pos (omega arith)))

  pub into_edge : LeadsInto (list_from w b) (from_edge w b)
  into_edge = let n = (block_in w b).size in into_by (byte_out w b n (omega arith)) (into_byte n (omega arith))

  edge_finite : Finite (edge_of w.tones b (block_in w b))
  unfolding Finite
  edge_finite = by_edge (edged (block_in w b))
    where
      by_edge : (x : Bool) → Finite (x ⇒ pulse (label_at b Edge) (bit_in w b) (edge_time (block_in w b)) ∷ [] ∣ [])
      by_edge true = tt
      by_edge false = tt

  pub into_pause : LeadsInto (list_from w b) (from_pause w b)
  unfolding from_edge
  into_pause = into_past (edge_of w.tones b (block_in w b)) (from_pause w b) edge_finite into_edge

  left_of_lem : (f : Phase) (left : Duration) → Stands w b f left → PartAt w b f left
  unfolding left_at length_at level_at entry_of from_pause Finite has_entry
  left_of_lem Start left s =
      let z = valid_start w b left (stands-valid w b Start left s) in
      record {
        next = from_tone w b 0;
        entry = into_start;
        rest = list_in w b h ∙ ap (λ (d : Duration). entry_of (label_at b Start) (level_in w b Start) d ∷ from_tone w b 0) (sym z);
      }
  left_of_lem (Tones i p false) left s =
      let k = tone-entry w.tones (block_in w b) i p false s.entry in
      record { next = _; entry = into_by (cycle_in_lem w b i p k.1) (into_cycle i p k.0 (omega arith)); rest = refl }
  left_of_lem (Tones i p true) left s =
      let k = tone-entry w.tones (block_in w b) i p true s.entry in
      let o = tone_second w.tones (block_in w b) i p s.entry in
      let into = into_by (cycle_in_lem w b i p k.1) (into_cycle i p k.0 (omega arith)) in
      record {
        next = _;
        entry = into_by (second_in w b i p o)
            (into_past (pulse (label_at b (Tones i p false)) (cycle_in w b i p) (tone_in w b i).len1 ∷ []) _ tt into);
        rest = refl;
      }
  left_of_lem (Data pos k false) left s =
      let l = data_entry w.tones (block_in w b) pos k false s.entry in
      record { next = _; entry = into_by (bit_in_lem w b pos k l.1) (into_bit pos k l.0 (omega arith)); rest = refl }
  left_of_lem (Data pos k true) left s =
      let l = data_entry w.tones (block_in w b) pos k true s.entry in
      record {
        next = _;
        entry = into_past (pulse (label_at b (Data pos k false)) (bit_in w b) _ ∷ []) _ tt
            (into_by (bit_in_lem w b pos k l.1) (into_bit pos k l.0 (omega arith)));
        rest = refl;
      }
  left_of_lem Edge left s = record { next = from_pause w b; entry = into_by (edge_in w b s.entry) into_edge; rest = refl }
  left_of_lem Pause left s = record { next = list_from w (b + 1); entry = into_pause; rest = refl }

  -- THE PART of the list that a valid position leaves
  pub left_part : (f : Phase) (left : Duration) → valid w b f left ≡ true → PartAt w b f left
  left_part f left e = left_of_lem f left (below_stands w b f left h e)

  head_of_lem : (f : Phase) (v : Level) (left : Duration) (es : List (Entry Label))
      → (head_of w (entry_of (label_at b f) v left ∷ es) ≡ label_at b f) × (left_of (entry_of (label_at b f) v left ∷ es) ≡ left)
  unfolding head_of left_of entry_of
  head_of_lem f v (T t) es = (refl, refl)
  head_of_lem f v Endless es = (refl, refl)

  -- the position at its head is that position
  pub left_head : (f : Phase) (left : Duration) → valid w b f left ≡ true
      → (head_of w (left_at w b f left) ≡ label_at b f) × (left_of (left_at w b f left) ≡ left)
  left_head f left e = let x = left_part f left e in rw x.rest (head_of_lem f (level_in w b f) left x.next)
