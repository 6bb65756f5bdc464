-- What follows what in the tape's list: block, tone row, cycle, data byte, bit, pause; and how far in a place is. Assumes nothing.
use Prim.Native.Nat.{ℕ, ◌+◌, ◌-◌, ◌≤◌, ◌<◌}
use native.Mathlib.Nat.{sub-zero}
use native.Mathlib.Omega.{arith}
use mathlib.Core.Path.{◌≡◌, sym, ap, ap₂, ◌∙◌}
use mathlib.Core.List.{List, [], ◌∷◌, ◌++◌, append_assoc}
use mathlib.Core.Bool.{true, false, not}
use Rattle.law_pulses.specs.Play.{Entry, pulse}
use Rattle.law_pulses.specs.Runs.{run}
use Rattle.law_pulses.proofs.Runs.{run_split, run_next, run_none}
use Rattle.play_entries.specs.declared.Phase.TheVariants.{Tones, Edge}
use Rattle.play_entries.specs.Entries.{Label, label_at, is_single, edged, edge_time, start_of, tone_of, row_entries, tones_of, bits_at}
use Rattle.play_entries.specs.Entries.{bit_entries, byte_of, byte_entries, data_of, edge_of, pause_entry, sound_of, entries_of}
use Rattle.play_entries.specs.Places.{Tape, block_in, tone_in, byte_in, bit_in, cycle_in, cycles_in, cycle_item, list_from, from_pause}
use Rattle.play_entries.specs.Places.{from_edge, from_byte, from_bit, from_tone, from_cycle, from_second}

-- n items are those below p, and those from p on
reach : (item : ℕ → List (Entry Label)) (p n : ℕ) (ys : List (Entry Label)) → p ≤ n
    → run item 0 (n - 0) ++ ys ≡ run item 0 p ++ (run item p (n - p) ++ ys)
reach item p n ys h =
    let e : n - 0 ≡ p + (n - p) = omega arith in
    let z : 0 + p ≡ p = omega arith in
    ap (λ (m : ℕ). run item 0 m ++ ys) e
    ∙ ap (λ (r : List (Entry Label)). r ++ ys) (run_split item 0 p (n - p) ∙ ap (λ (x : ℕ). run item 0 p ++ run item x (n - p)) z)
    ∙ append_assoc (run item 0 p) (run item p (n - p)) ys

-- those from p on: item p, and those after it
next : (item : ℕ → List (Entry Label)) (p n : ℕ) (ys : List (Entry Label)) → p < n
    → run item p (n - p) ++ ys ≡ item p ++ (run item (p + 1) (n - (p + 1)) ++ ys)
next item p n ys h =
    ap (λ (r : List (Entry Label)). r ++ ys) (run_next item p n h) ∙ append_assoc (item p) (run item (p + 1) (n - (p + 1))) ys

none : (item : ℕ → List (Entry Label)) (p n : ℕ) (ys : List (Entry Label)) → n ≤ p → run item p (n - p) ++ ys ≡ ys
none item p n ys h = ap (λ (r : List (Entry Label)). r ++ ys) (run_none item p n h)

joined : (s p : Entry Label) (xs ys es zs : List (Entry Label))
    → ((s ∷ xs ++ ys) ++ (es ++ p ∷ [])) ++ zs ≡ s ∷ xs ++ (ys ++ (es ++ p ∷ zs))
joined s p xs ys es zs =
    ap (λ (x : List (Entry Label)). s ∷ x)
    (append_assoc (xs ++ ys) (es ++ p ∷ []) zs
    ∙ append_assoc xs ys ((es ++ p ∷ []) ++ zs)
    ∙ ap (λ (x : List (Entry Label)). xs ++ (ys ++ x)) (append_assoc es (p ∷ []) zs))

module _ (w : Tape) where
  pub list_in : (b : ℕ) → b < w.count → list_from w b ≡ start_of b (block_in w b) ∷ from_tone w b 0
  unfolding list_from from_tone from_byte from_edge from_pause entries_of sound_of tones_of data_of
  list_in b h =
      let r = block_in w b in
      let behind = list_from w (b + 1) in
      run_next (λ i. entries_of w.bytes w.tones i (block_in w i)) b w.count h
      ∙ joined (start_of b r) (pause_entry w.tones b r) (tones_of w.tones b r) (data_of w.bytes b r (bit_in w b))
      (edge_of w.tones b r) behind
      ∙ ap₂ (λ (x y : ℕ). start_of b r ∷ run (row_entries w.tones b r) 0 x
      ++ (run (byte_entries w.bytes b r (bit_in w b)) 0 y ++ (edge_of w.tones b r ++ pause_entry w.tones b r ∷ behind)))
      (sym (sub-zero r.tones)) (sym (sub-zero r.size))

  pub list_out : (b : ℕ) → w.count ≤ b → list_from w b ≡ []
  unfolding list_from
  list_out b h = run_none (λ i. entries_of w.bytes w.tones i (block_in w i)) b w.count h

  module _ (b : ℕ) where
    pub tone_in_lem : (i : ℕ) → i < (block_in w b).tones → from_tone w b i ≡ from_cycle w b i 0
    unfolding from_tone from_cycle tone_of
    tone_in_lem i h =
        let r = block_in w b in
        next (row_entries w.tones b r) i r.tones (from_byte w b 0) h
        ∙ ap (λ (n : ℕ). run (cycle_item w b i) 0 n ++ from_tone w b (i + 1)) (sym (sub-zero _))

    pub tone_out : (i : ℕ) → (block_in w b).tones ≤ i → from_tone w b i ≡ from_byte w b 0
    unfolding from_tone
    tone_out i h = none (row_entries w.tones b (block_in w b)) i (block_in w b).tones (from_byte w b 0) h

    pub tone_reach : (i : ℕ) → i ≤ (block_in w b).tones
        → from_tone w b 0 ≡ run (row_entries w.tones b (block_in w b)) 0 i ++ from_tone w b i
    unfolding from_tone
    tone_reach i h = reach (row_entries w.tones b (block_in w b)) i (block_in w b).tones (from_byte w b 0) h

    pub cycle_in_lem : (i p : ℕ) → p < cycles_in w b i
        → from_cycle w b i p ≡ pulse (label_at b (Tones i p false)) (cycle_in w b i p) (tone_in w b i).len1 ∷ from_second w b i p
    unfolding from_cycle from_second
    cycle_in_lem i p h = next (cycle_item w b i) p _ (from_tone w b (i + 1)) h

    -- behind a repetition's first pulse: its second, or the next repetition
    pub second_in : (i p : ℕ) → is_single (block_in w b) (tone_in w b i) ≡ false
        → from_second w b i p
        ≡ pulse (label_at b (Tones i p true)) (not (cycle_in w b i p)) (tone_in w b i).len2 ∷ from_cycle w b i (p + 1)
    unfolding from_second
    second_in i p e = rw e

    pub second_out : (i p : ℕ) → is_single (block_in w b) (tone_in w b i) ≡ true → from_second w b i p ≡ from_cycle w b i (p + 1)
    unfolding from_second
    second_out i p e = rw e

    pub cycle_out : (i p : ℕ) → cycles_in w b i ≤ p → from_cycle w b i p ≡ from_tone w b (i + 1)
    unfolding from_cycle
    cycle_out i p h = none (cycle_item w b i) p _ (from_tone w b (i + 1)) h

    pub cycle_reach : (i p : ℕ) → p ≤ cycles_in w b i
        → from_cycle w b i 0 ≡ run (cycle_item w b i) 0 p ++ from_cycle w b i p
    unfolding from_cycle
    cycle_reach i p h = reach (cycle_item w b i) p _ (from_tone w b (i + 1)) h

    pub byte_in_lem : (pos : ℕ) → pos < (block_in w b).size → from_byte w b pos ≡ from_bit w b pos 0
    unfolding from_byte from_bit byte_of
    byte_in_lem pos h =
        let r = block_in w b in
        next (byte_entries w.bytes b r (bit_in w b)) pos r.size (from_edge w b) h
        ∙ ap (λ (n : ℕ). run (bit_entries b r (bit_in w b) pos (byte_in w b pos)) 0 n ++ from_byte w b (pos + 1)) (sym (sub-zero _))

    pub byte_out : (pos : ℕ) → (block_in w b).size ≤ pos → from_byte w b pos ≡ from_edge w b
    unfolding from_byte
    byte_out pos h = none (byte_entries w.bytes b (block_in w b) (bit_in w b)) pos (block_in w b).size (from_edge w b) h

    pub byte_reach : (pos : ℕ) → pos ≤ (block_in w b).size
        → from_byte w b 0 ≡ run (byte_entries w.bytes b (block_in w b) (bit_in w b)) 0 pos ++ from_byte w b pos
    unfolding from_byte
    byte_reach pos h = reach (byte_entries w.bytes b (block_in w b) (bit_in w b)) pos (block_in w b).size (from_edge w b) h

    pub bit_in_lem : (pos k : ℕ) → k < bits_at (block_in w b) pos
        → from_bit w b pos k ≡ bit_entries b (block_in w b) (bit_in w b) pos (byte_in w b pos) k ++ from_bit w b pos (k + 1)
    unfolding from_bit
    bit_in_lem pos k h = next (bit_entries b (block_in w b) (bit_in w b) pos (byte_in w b pos)) k _ (from_byte w b (pos + 1)) h

    pub bit_out : (pos k : ℕ) → bits_at (block_in w b) pos ≤ k → from_bit w b pos k ≡ from_byte w b (pos + 1)
    unfolding from_bit
    bit_out pos k h = none (bit_entries b (block_in w b) (bit_in w b) pos (byte_in w b pos)) k _ (from_byte w b (pos + 1)) h

    pub bit_reach : (pos k : ℕ) → k ≤ bits_at (block_in w b) pos
        → from_bit w b pos 0 ≡ run (bit_entries b (block_in w b) (bit_in w b) pos (byte_in w b pos)) 0 k ++ from_bit w b pos k
    unfolding from_bit
    bit_reach pos k h = reach (bit_entries b (block_in w b) (bit_in w b) pos (byte_in w b pos)) k _ (from_byte w b (pos + 1)) h

    -- the edge, if there is one
    pub edge_in : edged (block_in w b) ≡ true
        → from_edge w b ≡ pulse (label_at b Edge) (bit_in w b) (edge_time (block_in w b)) ∷ from_pause w b
    unfolding from_edge
    edge_in e = rw e

    pub edge_out : edged (block_in w b) ≡ false → from_edge w b ≡ from_pause w b
    unfolding from_edge
    edge_out e = rw e
