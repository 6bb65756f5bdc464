-- A BAD ROW THAT IS NOT REACHED alters nothing: the answer is that of the tape's whole list. Assumes nothing.
use Rattle.std.specs.Prelude.{Result}
use Rattle.play_walk.specs.declared.Fault.{Fault}
use Prim.Native.Nat.{ℕ, ◌+◌, ◌-◌, ◌≤◌, ◌<◌}
use native.Mathlib.Omega.{arith}
use mathlib.Core.Path.{◌≡◌, refl, sym, ap, ◌∙◌}
use borrow.Author.Tests.{lt-ltb}
use mathlib.Core.Bool.{Bool, true, false, not, ◌&&◌}
use mathlib.Core.Logic.{⊎_elim}
use mathlib.Core.List.{List, [], ◌∷◌, ◌++◌, append_assoc}
use lib.Dec.{ltb}
use lib.ListN.{length, length-append}
use Rattle.law_base.proofs.Numbers.{lt_or_ge}
use Rattle.law_pulses.specs.Play.{Entry, pulse, endless, Status, rest, over, status_here, answer}
use Rattle.law_pulses.proofs.Steps.{rest-nil, rest-stop, rest-zero, rest-here, rest-past, rest_ways, over_zero, length_rest}
use Rattle.law_pulses.proofs.Demand.{status_left}
use Rattle.law_pulses.specs.Runs.{run}
use Rattle.law_pulses.proofs.Runs.{run_split}
use Rattle.law_pulses.specs.Source.{is_ended}
use Rattle.play_entries.specs.declared.Phase.{Phase}
use Rattle.play_entries.specs.declared.Phase.TheVariants.{Start, Tones, Data, Edge, Pause}
use Rattle.play_entries.specs.declared.Duration.{Duration}
use Rattle.play_entries.specs.Entries.{Label, label_at, entry_of, second_of, edge_of, row_entries, bits_at, bit_of, half_of, bit_entries}
use Rattle.play_entries.specs.Entries.{byte_entries, pause_entry, entries_of}
use Rattle.play_entries.specs.Places.{Tape, block_in, tone_in, byte_in, bit_in, cycle_in, cycles_in, cycle_item, level_in, list_from, from_pause}
use Rattle.play_entries.specs.Places.{from_edge, from_byte, from_bit, from_tone, from_cycle, from_second, left_at, head_of, left_of}
use Rattle.play_entries.proofs.Follows.{list_in, list_out}
use Rattle.play_walk.specs.declared.Position.{Position}
use Rattle.play_walk.specs.declared.Reached.{Reached}
use Rattle.play_entries.specs.Mounted.{first_bad, cut_to, formed}
use Rattle.play_walk.specs.Heads.{stand, position_of, ahead, level_here, rest_level, told_as, told_reached, walked, walk_from, Walkable}
use Rattle.play_walk.proofs.Needed.{needed, well_before}

module _ {A : Type 0} where
  rest_keeps : (xs ys : List (Entry A)) (n : ℕ) → over xs n ≡ 0 → rest (xs ++ ys) n ≡ rest xs n ++ ys
  unfolding over
  rest_keeps [] ys n z = ap (rest ys) z ∙ rest-zero ys ∙ ap (λ (r : List (Entry A)). r ++ ys) (sym (rest-nil n))
  rest_keeps (endless a v ∷ xs) ys n z = rest-stop a v (xs ++ ys) n ∙ ap (λ (r : List (Entry A)). r ++ ys) (sym (rest-stop a v xs n))
  rest_keeps (pulse a v t ∷ xs) ys n z =
      rest_ways (λ r. rest (pulse a v t ∷ xs ++ ys) n ≡ r ++ ys) a v t xs n
      (λ e. ap (rest (pulse a v t ∷ xs ++ ys)) e ∙ rest-zero _)
      (λ l. rest-here a v t (xs ++ ys) n l)
      (λ p g. rest-past a v t (xs ++ ys) n p g ∙ rest_keeps xs ys (n - t) z)

  over_keeps : (xs ys : List (Entry A)) (n : ℕ) → over xs n ≡ 0 → over (xs ++ ys) n ≡ 0
  unfolding over
  over_keeps [] ys n z = ap (over ys) z ∙ over_zero ys
  over_keeps (endless a v ∷ xs) ys n z = refl
  over_keeps (pulse a v t ∷ xs) ys n z = over_keeps xs ys (n - t) z

never_ended : (rs : List (Entry Label)) (t : Bool) → (is_ended (status_here rs) && t) ≡ false
unfolding status_here
never_ended [] t = refl
never_ended (pulse a v x ∷ es) t = refl
never_ended (endless a v ∷ es) t = refl

abbrev entries_in : Tape → ℕ → List (Entry Label)
entries_in w i = entries_of w.bytes w.tones i (block_in w i)

-- the tape cut to k, and the list from there on
module _ (w : Tape) (k : ℕ) (most : k ≤ w.count) where
  pub list_cut : (b : ℕ) → b ≤ k → list_from w b ≡ list_from (cut_to w k) b ++ list_from w k
  unfolding list_from
  list_cut b h =
      let item = entries_in w in
      let e : w.count - b ≡ k - b + (w.count - k) = omega arith in
      let z : b + (k - b) ≡ k = omega arith in
      ap (run item b) e ∙ run_split item b (k - b) (w.count - k) ∙ ap (λ (x : ℕ). run item b (k - b) ++ run item x (w.count - k)) z

  module _ (b : ℕ) (h : b < k) where
    pause_cut : from_pause w b ≡ from_pause (cut_to w k) b ++ list_from w k
    unfolding from_pause
    pause_cut = ap (λ (r : List (Entry Label)). pause_entry w.tones b (block_in w b) ∷ r) (list_cut (b + 1) (omega arith))

    edge_cut : from_edge w b ≡ from_edge (cut_to w k) b ++ list_from w k
    unfolding from_edge
    edge_cut =
        let xs = edge_of w.tones b (block_in w b) in
        ap (λ (r : List (Entry Label)). xs ++ r) pause_cut ∙ sym (append_assoc xs (from_pause (cut_to w k) b) (list_from w k))

    byte_cut : (pos : ℕ) → from_byte w b pos ≡ from_byte (cut_to w k) b pos ++ list_from w k
    unfolding from_byte
    byte_cut pos =
        let xs = run (byte_entries w.bytes b (block_in w b) (bit_in w b)) pos ((block_in w b).size - pos) in
        ap (λ (r : List (Entry Label)). xs ++ r) edge_cut ∙ sym (append_assoc xs (from_edge (cut_to w k) b) (list_from w k))

    bit_cut : (pos j : ℕ) → from_bit w b pos j ≡ from_bit (cut_to w k) b pos j ++ list_from w k
    unfolding from_bit
    bit_cut pos j =
        let xs = run (bit_entries b (block_in w b) (bit_in w b) pos (byte_in w b pos)) j (bits_at (block_in w b) pos - j) in
        ap (λ (r : List (Entry Label)). xs ++ r) (byte_cut (pos + 1))
        ∙ sym (append_assoc xs (from_byte (cut_to w k) b (pos + 1)) (list_from w k))

    tone_cut : (i : ℕ) → from_tone w b i ≡ from_tone (cut_to w k) b i ++ list_from w k
    unfolding from_tone
    tone_cut i =
        let xs = run (row_entries w.tones b (block_in w b)) i ((block_in w b).tones - i) in
        ap (λ (r : List (Entry Label)). xs ++ r) (byte_cut 0) ∙ sym (append_assoc xs (from_byte (cut_to w k) b 0) (list_from w k))

    cycle_cut : (i p : ℕ) → from_cycle w b i p ≡ from_cycle (cut_to w k) b i p ++ list_from w k
    unfolding from_cycle
    cycle_cut i p =
        let xs = run (cycle_item w b i) p (cycles_in w b i - p) in
        ap (λ (r : List (Entry Label)). xs ++ r) (tone_cut (i + 1))
        ∙ sym (append_assoc xs (from_tone (cut_to w k) b (i + 1)) (list_from w k))

    second_cut : (i p : ℕ) → from_second w b i p ≡ from_second (cut_to w k) b i p ++ list_from w k
    unfolding from_second
    second_cut i p =
        let xs = second_of b i (block_in w b) (tone_in w b i) (cycle_in w b i p) p in
        ap (λ (r : List (Entry Label)). xs ++ r) (cycle_cut i (p + 1))
        ∙ sym (append_assoc xs (from_cycle (cut_to w k) b i (p + 1)) (list_from w k))

    pub left_cut : (f : Phase) (left : Duration) → left_at w b f left ≡ left_at (cut_to w k) b f left ++ list_from w k
    unfolding left_at
    left_cut Start left = list_cut b (omega arith)
    left_cut (Tones i p false) left =
        ap (λ (r : List (Entry Label)). entry_of (label_at b (Tones i p false)) (cycle_in w b i p) left ∷ r) (second_cut i p)
    left_cut (Tones i p true) left =
        ap (λ (r : List (Entry Label)). entry_of (label_at b (Tones i p true)) (not (cycle_in w b i p)) left ∷ r) (cycle_cut i (p + 1))
    left_cut (Data pos j false) left =
        ap (λ (r : List (Entry Label)). entry_of (label_at b (Data pos j false)) (bit_in w b) left ∷
        pulse (label_at b (Data pos j true)) (not (bit_in w b)) (half_of (block_in w b) (bit_of (byte_in w b pos) j)) ∷ r) (bit_cut pos (j + 1))
    left_cut (Data pos j true) left =
        ap (λ (r : List (Entry Label)). entry_of (label_at b (Data pos j true)) (not (bit_in w b)) left ∷ r) (bit_cut pos (j + 1))
    left_cut Edge left = ap (λ (r : List (Entry Label)). entry_of (label_at b Edge) (bit_in w b) left ∷ r) pause_cut
    left_cut Pause left =
        ap (λ (r : List (Entry Label)). entry_of (label_at b Pause) (level_in w b Pause) left ∷ r) (list_cut (b + 1) (omega arith))

  -- what is told of a list's head
  abbrev Said : Tape → List (Entry Label) → ℕ → Result Reached Fault
  Said v rs p = told_as (status_here rs) (stand (position_of v rs) p (level_here (rest_level w v.count) rs))

  said_start : (p : ℕ) → Said w (list_from w k) p ≡ Said (cut_to w k) [] p
  unfolding status_here head_of left_of level_here rest_level told_as
  said_start p =
      ⊎_elim
      (λ l. ap (λ (r : List (Entry Label)). Said w r p) (list_in w k l) ∙ rw (lt-ltb k w.count l))
      (λ g. let e : w.count ≡ k = omega arith in
      ap (λ (r : List (Entry Label)). Said w r p) (list_out w k g) ∙ ap (λ (x : ℕ). Said (cut_to w x) [] p) e)
      (lt_or_ge k w.count)

  said_cut : (rs : List (Entry Label)) (p : ℕ) → Said w (rs ++ list_from w k) p ≡ Said (cut_to w k) rs p
  unfolding status_here head_of left_of level_here
  said_cut [] p = said_start p
  said_cut (pulse a v t ∷ rs) p = refl
  said_cut (endless a v ∷ rs) p = refl

  told_said : (v : Tape) (es : List (Entry Label)) (n : ℕ) → over es n ≡ 0
      → told_reached w v (answer es n) ≡ Said v (rest es n) (length es - length (rest es n))
  unfolding told_reached answer
  told_said v es n z = ap (λ (s : Status).
      told_as s (stand (position_of v (rest es n)) (length es - length (rest es n)) (level_here (rest_level w v.count) (rest es n))))
      (status_left (rest es n) (over es n) z)

  told_cut : (xs : List (Entry Label)) (n : ℕ) → over xs n ≡ 0
      → told_reached w (cut_to w k) (answer xs n) ≡ told_reached w w (answer (xs ++ list_from w k) n)
  told_cut xs n z =
      let ys = list_from w k in
      let r = rest_keeps xs ys n z in
      let e : length (xs ++ ys) - length (rest (xs ++ ys) n) ≡ length xs - length (rest xs n) =
      omega (arith, length-append xs ys, ap length r, length-append (rest xs n) ys, length_rest xs n) in
      told_said (cut_to w k) xs n z
      ∙ sym (said_cut (rest xs n) (length xs - length (rest xs n)))
      ∙ ap (λ (x : List (Entry Label)). Said w x (length xs - length (rest xs n))) (sym r)
      ∙ ap (Said w (rest (xs ++ ys) n)) (sym e)
      ∙ sym (told_said w (xs ++ ys) n (over_keeps xs ys n z))

  walked-told : (xs : List (Entry Label)) (n : ℕ) → over xs n ≡ 0
      → walked w (cut_to w k) (answer xs n) ≡ told_reached w (cut_to w k) (answer xs n)
  unfolding walked answer
  walked-told xs n z = rw (status_left (rest xs n) (over xs n) z, never_ended (rest xs n) (ltb k w.count))

-- THE ANSWER where no bad row is reached with T-states left
pub unreached : (w : Tape) (q : Position) (n : ℕ) → Walkable w q → over (ahead (formed w q.block) q) n ≡ 0
    → walk_from w q n ≡ told_reached w w (answer (ahead w q) n)
unfolding walk_from formed
unreached w q n a z =
    let k = first_bad w q.block (w.count - q.block) in
    let x = needed w q.block (omega (arith, a.below)) in
    let h = well_before x q.block x.from a.below a.row in
    walked-told w k x.most (ahead (cut_to w k) q) n z
    ∙ told_cut w k x.most (ahead (cut_to w k) q) n z
    ∙ ap (λ (r : List (Entry Label)). told_reached w w (answer r n)) (sym (left_cut w k x.most q.block h q.phase q.left))
