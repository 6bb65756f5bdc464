-- WHERE A HEAD CAN STAND: what a valid position leaves to play is what is left at its own head, and playing leads to such places only.
-- Assumes nothing.
use Prim.Native.Nat.{ℕ, zero, suc, ◌+◌, ◌-◌, ◌≤◌, ◌<◌}
use native.Mathlib.Omega.{arith}
use mathlib.Core.Path.{◌≡◌, refl, sym, subst, ◌∙◌}
use mathlib.Core.Bool.{Bool, true, false, not}
use mathlib.Core.Logic.{⊎_elim}
use mathlib.Core.List.{List, [], ◌∷◌}
use Rattle.law_base.proofs.Numbers.{lt_or_ge}
use Rattle.law_pulses.specs.Play.{Level, Entry, pulse, endless, rest}
use Rattle.law_pulses.proofs.Steps.{rest-nil, rest-stop, rest_ways}
use Rattle.play_entries.specs.declared.Phase.{Phase}
use Rattle.play_entries.specs.declared.Phase.TheVariants.{Start, Tones, Data, Edge, Pause}
use Rattle.play_entries.specs.declared.Duration.{Duration}
use Rattle.play_entries.specs.declared.Duration.TheVariants.{T, Endless}
use Rattle.play_entries.specs.Entries.{Label, label_at, entry_of, is_single, start_level, edged, bits_at, bit_of, half_of, pause_of}
use Rattle.play_entries.specs.Places.{Tape, block_in, tone_in, byte_in, bit_in, cycle_in, cycles_in, level_at, level_in, list_from}
use Rattle.play_entries.specs.Places.{from_pause, from_edge, from_byte, from_bit, from_tone, from_cycle, from_second, left_at, has_entry}
use Rattle.play_entries.specs.Places.{length_at, is_start, valid, head_of, left_of, length_in}
use Rattle.play_entries.specs.Tails.{Tail}
use Rattle.play_entries.proofs.Bounds.{bits_some}
use Rattle.play_entries.proofs.Follows.{list_in, list_out, tone_in_lem, tone_out, cycle_in_lem, cycle_out, second_in, second_out, byte_in_lem}
use Rattle.play_entries.proofs.Follows.{byte_out, bit_in_lem, bit_out, edge_in, edge_out}
use Rattle.play_entries.proofs.Valid.{remains-full, remains_less, tone-entry, has_tone, has_second, data_entry, has_data}
use Rattle.play_entries.proofs.Valid.{stands-valid, valid-stands, start_valid, valid_start}

module _ (w : Tape) where
  tail_by : {es fs : List (Entry Label)} → es ≡ fs → Tail w fs → Tail w es
  tail_by e t = subst (Tail w) (sym e) t

  -- from an entry whose position is valid
  tail_at : (b : ℕ) (f : Phase) (v : Level) (left : Duration) (es : List (Entry Label))
      → left_at w b f left ≡ entry_of (label_at b f) v left ∷ es → valid w b f left ≡ true
      → Tail w (entry_of (label_at b f) v left ∷ es)
  unfolding head_of left_of entry_of
  tail_at b f v (T t) es e s = record { ahead = e; stands = s }
  tail_at b f v Endless es e s = record { ahead = e; stands = s }

  tail_nil : Tail w []
  unfolding head_of left_of left_at
  tail_nil = record { ahead = list_out w w.count (omega arith); stands = start_valid w w.count }

  pub tail_list : (b : ℕ) → Tail w (list_from w b)
  unfolding left_at entry_of
  tail_list b =
      ⊎_elim
      (λ l. tail_by (list_in w b l) (tail_at b Start (start_level (block_in w b)) (T 0) (from_tone w b 0) (list_in w b l) (start_valid w b)))
      (λ g. tail_by (list_out w b g) tail_nil)
      (lt_or_ge b w.count)

  module _ (b : ℕ) (h : b < w.count) where
    tail_pause : Tail w (from_pause w b)
    unfolding left_at from_pause has_entry length_at level_at
    tail_pause =
        tail_at b Pause (level_in w b Pause) (pause_of (block_in w b)) (list_from w (b + 1)) refl
        (stands-valid w b Pause _ (record { below = h; entry = refl; some = remains-full (pause_of (block_in w b)) }))

    -- from the edge on
    pub tail_edge : Tail w (from_edge w b)
    unfolding left_at has_entry length_at entry_of
    tail_edge = by_edge (edged (block_in w b)) refl
      where
        by_edge : (x : Bool) → edged (block_in w b) ≡ x → Tail w (from_edge w b)
        by_edge true e =
            tail_by (edge_in w b e)
            (tail_at b Edge (bit_in w b) (T _) (from_pause w b) refl
            (stands-valid w b Edge _ (record { below = h; entry = e; some = remains-full (T _) })))
        by_edge false e = tail_by (edge_out w b e) tail_pause

    -- from a pulse of a tone row or of a bit, full
    tail_first : (i p : ℕ) → i < (block_in w b).tones → p < cycles_in w b i
        → Tail w (left_at w b (Tones i p false) (T (tone_in w b i).len1))
    unfolding left_at length_at
    tail_first i p l g =
        tail_at b (Tones i p false) (cycle_in w b i p) _ _ refl (stands-valid w b (Tones i p false) _
        (record { below = h; entry = has_tone w.tones (block_in w b) i p l g; some = remains-full (T _) }))

    tail_second : (i p : ℕ) → i < (block_in w b).tones → p < cycles_in w b i → is_single (block_in w b) (tone_in w b i) ≡ false
        → Tail w (left_at w b (Tones i p true) (T (tone_in w b i).len2))
    unfolding left_at length_at
    tail_second i p l g e =
        tail_at b (Tones i p true) (not (cycle_in w b i p)) _ _ refl (stands-valid w b (Tones i p true) _
        (record { below = h; entry = has_second w.tones (block_in w b) i p l g e; some = remains-full (T _) }))

    tail_bit_half : (pos k : ℕ) → pos < (block_in w b).size → k < bits_at (block_in w b) pos
        → Tail w (left_at w b (Data pos k false) (T (half_of (block_in w b) (bit_of (byte_in w b pos) k))))
        × Tail w (left_at w b (Data pos k true) (T (half_of (block_in w b) (bit_of (byte_in w b pos) k))))
    unfolding left_at length_at
    tail_bit_half pos k l g = (
      tail_at b (Data pos k false) (bit_in w b) _ _ refl (stands-valid w b (Data pos k false) _
          (record { below = h; entry = has_data w.tones (block_in w b) pos k false l g; some = remains-full (T _) })),
      tail_at b (Data pos k true) (not (bit_in w b)) _ _ refl (stands-valid w b (Data pos k true) _
          (record { below = h; entry = has_data w.tones (block_in w b) pos k true l g; some = remains-full (T _) })),
    )

    tail_bit_in : (pos k : ℕ) → pos < (block_in w b).size → k < bits_at (block_in w b) pos → Tail w (from_bit w b pos k)
    unfolding left_at entry_of
    tail_bit_in pos k l g = tail_by (bit_in_lem w b pos k g) (tail_bit_half pos k l g).0

    pub tail_byte : (pos : ℕ) → Tail w (from_byte w b pos)
    tail_byte pos =
        ⊎_elim
        (λ l. tail_by (byte_in_lem w b pos l) (tail_bit_in pos 0 l (bits_some (block_in w b) pos)))
        (λ g. tail_by (byte_out w b pos g) tail_edge)
        (lt_or_ge pos (block_in w b).size)

    pub tail_bit : (pos k : ℕ) → pos < (block_in w b).size → Tail w (from_bit w b pos k)
    tail_bit pos k l =
        ⊎_elim (λ g. tail_bit_in pos k l g) (λ g. tail_by (bit_out w b pos k g) (tail_byte (pos + 1)))
        (lt_or_ge k (bits_at (block_in w b) pos))

    tail_cycle_in : (i p : ℕ) → i < (block_in w b).tones → p < cycles_in w b i → Tail w (from_cycle w b i p)
    unfolding left_at entry_of
    tail_cycle_in i p l g = tail_by (cycle_in_lem w b i p g) (tail_first i p l g)

    -- from tone row i on: rows without a pulse are passed over
    tail_rows : (m i : ℕ) → (block_in w b).tones ≤ i + m → Tail w (from_tone w b i)
    tail_rows zero i x = tail_by (tone_out w b i (omega arith)) (tail_byte 0)
    tail_rows (suc m) i x =
        ⊎_elim
        (λ l.
        ⊎_elim
        (λ g. tail_by (tone_in_lem w b i l) (tail_cycle_in i 0 l g))
        (λ g. tail_by (tone_in_lem w b i l ∙ cycle_out w b i 0 g) (tail_rows m (i + 1) (omega arith)))
        (lt_or_ge 0 (cycles_in w b i)))
        (λ g. tail_by (tone_out w b i g) (tail_byte 0))
        (lt_or_ge i (block_in w b).tones)

    pub tail_tone : (i : ℕ) → Tail w (from_tone w b i)
    tail_tone i = tail_rows (block_in w b).tones i (omega arith)

    pub tail_cycle : (i p : ℕ) → i < (block_in w b).tones → Tail w (from_cycle w b i p)
    tail_cycle i p l =
        ⊎_elim (λ g. tail_cycle_in i p l g) (λ g. tail_by (cycle_out w b i p g) (tail_tone (i + 1))) (lt_or_ge p (cycles_in w b i))

    pub tail_behind : (i p : ℕ) → i < (block_in w b).tones → p < cycles_in w b i → Tail w (from_second w b i p)
    unfolding left_at entry_of
    tail_behind i p l g = by-single (is_single (block_in w b) (tone_in w b i)) refl
      where
        by-single : (o : Bool) → is_single (block_in w b) (tone_in w b i) ≡ o → Tail w (from_second w b i p)
        by-single true e = tail_by (second_out w b i p e) (tail_cycle i (p + 1) l)
        by-single false e = tail_by (second_in w b i p e) (tail_second i p l g e)

  -- an entry spent
  next_of : (b : ℕ) (f : Phase) (v : Level) (t : ℕ) (es : List (Entry Label)) → left_at w b f (T t) ≡ pulse (label_at b f) v t ∷ es
      → valid w b f (T t) ≡ true → Tail w es
  unfolding left_at entry_of
  next_of b Start v t es e s =
      ⊎_elim
      (λ l. let x = list_in w b l in let y : es ≡ from_tone w b 0 = cc in tail_by y (tail_tone b l 0))
      (λ g. let x = list_out w b g in let z : ◌≡◌ {A = ℕ} 0 1 = cc in absurd (omega arith))
      (lt_or_ge b w.count)
  next_of b (Tones i p false) v t es e s =
      let a = valid-stands w b (Tones i p false) (T t) refl s in
      let k = tone-entry w.tones (block_in w b) i p false a.entry in
      let y : es ≡ from_second w b i p = cc in
      tail_by y (tail_behind b a.below i p k.0 k.1)
  next_of b (Tones i p true) v t es e s =
      let a = valid-stands w b (Tones i p true) (T t) refl s in
      let y : es ≡ from_cycle w b i (p + 1) = cc in
      tail_by y (tail_cycle b a.below i (p + 1) (tone-entry w.tones (block_in w b) i p true a.entry).0)
  next_of b (Data pos k false) v t es e s =
      let a = valid-stands w b (Data pos k false) (T t) refl s in
      let l = data_entry w.tones (block_in w b) pos k false a.entry in
      let y : es
      ≡ pulse (label_at b (Data pos k true)) (not (bit_in w b)) (half_of (block_in w b) (bit_of (byte_in w b pos) k)) ∷
      from_bit w b pos (k + 1) = cc in
      tail_by y (tail_bit_half b a.below pos k l.0 l.1).1
  next_of b (Data pos k true) v t es e s =
      let a = valid-stands w b (Data pos k true) (T t) refl s in
      let y : es ≡ from_bit w b pos (k + 1) = cc in
      tail_by y (tail_bit b a.below pos (k + 1) (data_entry w.tones (block_in w b) pos k true a.entry).0)
  next_of b Edge v t es e s =
      let a = valid-stands w b Edge (T t) refl s in
      let y : es ≡ from_pause w b = cc in
      tail_by y (tail_pause b a.below)
  next_of b Pause v t es e s = let y : es ≡ list_from w (b + 1) = cc in tail_by y (tail_list (b + 1))

  pub tail_next : (a : Label) (v : Level) (t : ℕ) (es : List (Entry Label)) → Tail w (pulse a v t ∷ es) → Tail w es
  unfolding head_of left_of
  tail_next a v t es x = next_of a.block a.phase v t es x.ahead x.stands

  -- less of an entry left
  shorter : (b : ℕ) (f : Phase) (v : Level) (t u : ℕ) (es : List (Entry Label)) → is_start f ≡ false
      → left_at w b f (T t) ≡ pulse (label_at b f) v t ∷ es → left_at w b f (T u) ≡ pulse (label_at b f) v u ∷ es
  unfolding left_at entry_of
  shorter b Start v t u es n e = let z : ◌≡◌ {A = ℕ} 0 1 = cc in absurd (omega arith)
  shorter b (Tones i p false) v t u es n e = cc
  shorter b (Tones i p true) v t u es n e = cc
  shorter b (Data pos k false) v t u es n e = cc
  shorter b (Data pos k true) v t u es n e = cc
  shorter b Edge v t u es n e = cc
  shorter b Pause v t u es n e = cc

  less_entry : (b : ℕ) (f : Phase) (v : Level) (t u : ℕ) (es : List (Entry Label)) → is_start f ≡ false
      → left_at w b f (T t) ≡ pulse (label_at b f) v t ∷ es → valid w b f (T t) ≡ true → 0 < u → u ≤ t
      → Tail w (pulse (label_at b f) v u ∷ es)
  unfolding head_of left_of
  less_entry b f v t u es n e d p h =
      let a = valid-stands w b f (T t) n d in
      record {
        ahead = shorter b f v t u es n e;
        stands = stands-valid w b f (T u)
            (record { below = a.below; entry = a.entry; some = remains_less t u (length_in w b f) p h a.some });
      }

  less_of : (b : ℕ) (f : Phase) (v : Level) (t u : ℕ) (es : List (Entry Label))
      → left_at w b f (T t) ≡ pulse (label_at b f) v t ∷ es → valid w b f (T t) ≡ true → 0 < u → u ≤ t
      → Tail w (pulse (label_at b f) v u ∷ es)
  less_of b Start v t u es e d p h = let z = valid_start w b (T t) d in let y : t ≡ 0 = cc in absurd (omega arith)
  less_of b (Tones i q l) v t u es e d p h = less_entry b (Tones i q l) v t u es refl e d p h
  less_of b (Data pos k l) v t u es e d p h = less_entry b (Data pos k l) v t u es refl e d p h
  less_of b Edge v t u es e d p h = less_entry b Edge v t u es refl e d p h
  less_of b Pause v t u es e d p h = less_entry b Pause v t u es refl e d p h

  pub tail_less : (a : Label) (v : Level) (t u : ℕ) (es : List (Entry Label)) → Tail w (pulse a v t ∷ es) → 0 < u → u ≤ t
      → Tail w (pulse a v u ∷ es)
  unfolding head_of left_of
  tail_less a v t u es x p h = less_of a.block a.phase v t u es x.ahead x.stands p h

  -- PLAYING leads from such a place to such a place
  pub tail_rest : (es : List (Entry Label)) (n : ℕ) → Tail w es → Tail w (rest es n)
  tail_rest [] n x = tail_by (rest-nil n) x
  tail_rest (endless a v ∷ es) n x = tail_by (rest-stop a v es n) x
  tail_rest (pulse a v t ∷ es) n x =
      rest_ways (Tail w) a v t es n
      (λ z. x)
      (λ l. tail_less a v t (t - n) es x (omega arith) (omega arith))
      (λ p g. tail_rest es (n - t) (tail_next a v t es x))

  -- EVERY VALID POSITION is such a place
  pub tail_left : (b : ℕ) (f : Phase) (left : Duration) → valid w b f left ≡ true → Tail w (left_at w b f left)
  unfolding left_at
  tail_left b Start left s = tail_list b
  tail_left b (Tones i p false) left s = tail_at b (Tones i p false) _ left _ refl s
  tail_left b (Tones i p true) left s = tail_at b (Tones i p true) _ left _ refl s
  tail_left b (Data pos k false) left s = tail_at b (Data pos k false) _ left _ refl s
  tail_left b (Data pos k true) left s = tail_at b (Data pos k true) _ left _ refl s
  tail_left b Edge left s = tail_at b Edge _ left _ refl s
  tail_left b Pause left s = tail_at b Pause _ left _ refl s
