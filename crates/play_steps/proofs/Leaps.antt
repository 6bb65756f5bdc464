-- EACH STEP of a walk leads to what is left behind it: an entry, whole cycles, a byte. Assumes nothing.
use Prim.Native.Nat.{ℕ, zero, suc, ◌+◌, ◌-◌, ◌*◌, ◌≤◌, ◌<◌}
use native.Mathlib.Omega.{arith}
use borrow.Author.Tests.{lt-ltb, le-ltb, ne_eqb}
use mathlib.Core.Path.{◌≡◌, refl, sym, ap, ap₂, subst, ◌∙◌}
use mathlib.Core.Bool.{Bool, true, false, not}
use mathlib.Core.Logic.{⊎_elim}
use Rattle.std.specs.Prelude.{Option, None, Some}
use mathlib.Core.List.{List, ◌∷◌, ◌++◌, append_assoc}
use lib.ListN.{length}
use Rattle.law_base.proofs.Numbers.{lt_or_ge}
use Rattle.law_base.specs.Rules.{◌⇒◌, ◌∣◌}
use Rattle.law_pulses.specs.Play.{Level, low, Entry, pulse, time, Finite}
use Rattle.law_pulses.proofs.Joined.{time_append}
use Rattle.law_pulses.proofs.Lead.{Leads, lead_pulse, lead_run, lead_as}
use Rattle.law_pulses.specs.Runs.{run}
use Rattle.law_pulses.proofs.Runs.{run_split, run_next, run_length, run_finite, run-time}
use Rattle.rows.specs.declared.Block.{Block}
use Rattle.play_entries.specs.declared.Phase.{Phase}
use Rattle.play_entries.specs.declared.Phase.TheVariants.{Start, Tones, Data, Edge, Pause}
use Rattle.play_entries.specs.declared.Duration.{Duration}
use Rattle.play_entries.specs.declared.Duration.TheVariants.{T}
use Rattle.play_entries.specs.Entries.{Label, label_at, entry_of, is_single, edged, start_of, cycle_pulses, cycle_time, bits_at, bit_entries}
use Rattle.play_entries.specs.Entries.{byte_of, byte_entries}
use Rattle.play_entries.specs.Places.{Tape, block_in, tone_in, byte_in, bit_in, cycle_in, cycles_in, cycle_item, level_at, list_from, from_pause}
use Rattle.play_entries.specs.Places.{from_edge, from_byte, from_bit, from_tone, from_cycle, from_second, left_at, has_entry, length_at}
use Rattle.play_entries.specs.Places.{has_in, length_in}
use Rattle.play_entries.proofs.Runs.{cycle_finite, cycle_time_lem, cycle_length, bit_finite, byte_finite, byte_length, bit_time}
use Rattle.play_entries.proofs.Bounds.{bits_some}
use Rattle.play_entries.proofs.Follows.{list_in, tone_in_lem, tone_out, cycle_in_lem, cycle_out, second_in, second_out, byte_in_lem, byte_out, bit_in_lem}
use Rattle.play_entries.proofs.Follows.{bit_out, edge_in, edge_out}
use Rattle.play_entries.proofs.Valid.{tone-entry, has_tone, has_second, data_entry, has_data}
use Rattle.play_steps.specs.declared.Step.{Step}
use Rattle.play_steps.specs.Steps.{end_from, data_from, bit_from, pulse_from, tone_from, cycle_from, second_from, cycles_step, byte_time}
use Rattle.play_steps.specs.Steps.{byte_step, one_step, cycles_fitting, take_cycles, take_byte, take_of}
use Rattle.play_steps.proofs.Facts.{fit}

-- what is left from an entry, full
abbrev pub full_at : Tape → ℕ → Phase → List (Entry Label)
full_at w b f = left_at w b f (length_in w b f)

-- what is left from the entry that comes next, full; over the block, from the next one
abbrev pub left_from : Tape → ℕ → Option Phase → List (Entry Label)
left_from w b None = list_from w (b + 1)
left_from w b (Some f) = full_at w b f

-- the block has it
abbrev pub HasNext : Tape → ℕ → Option Phase → Type 0
HasNext w b None = Unit
HasNext w b (Some f) = has_in w b f ≡ true

-- what is left behind a step
abbrev pub left_behind : Tape → ℕ → Step → List (Entry Label)
left_behind w b s = left_from w b s.phase

-- es is what is left from the entry of phase f, full, and the block has it
pub record Lands (w : Tape) (b : ℕ) (f : Phase) (es : List (Entry Label)) : Type 0 where
  pub to : es ≡ full_at w b f
  pub has : has_in w b f ≡ true

module _ (w : Tape) (b : ℕ) where
  lands_by : {f : Phase} {es fs : List (Entry Label)} → es ≡ fs → Lands w b f fs → Lands w b f es
  lands_by e l = record { to = e ∙ l.to; has = l.has }

  lands_pause : Lands w b Pause (from_pause w b)
  unfolding left_at length_at from_pause has_entry level_at
  lands_pause = record { to = refl; has = refl }

  lands_bit_in : (pos k : ℕ) → pos < (block_in w b).size → k < bits_at (block_in w b) pos
      → Lands w b (Data pos k false) (from_bit w b pos k)
  unfolding left_at length_at entry_of
  lands_bit_in pos k l g = record { to = bit_in_lem w b pos k g; has = has_data w.tones (block_in w b) pos k false l g }

  lands_edge_by : (x : Bool) → edged (block_in w b) ≡ x → Lands w b (x ⇒ Edge ∣ Pause) (from_edge w b)
  unfolding left_at length_at entry_of has_entry
  lands_edge_by true e = record { to = edge_in w b e; has = e }
  lands_edge_by false e = lands_by (edge_out w b e) lands_pause

  lands_edge : Lands w b (end_from (block_in w b)) (from_edge w b)
  unfolding end_from
  lands_edge = lands_edge_by (edged (block_in w b)) refl

  pub lands_byte : (pos : ℕ) → Lands w b (data_from (block_in w b) pos) (from_byte w b pos)
  unfolding data_from
  lands_byte pos =
      ⊎_elim
      (λ l. rw (lt-ltb pos (block_in w b).size l) (lands_by (byte_in_lem w b pos l) (lands_bit_in pos 0 l (bits_some (block_in w b) pos))))
      (λ g. rw (le-ltb pos (block_in w b).size g) (lands_by (byte_out w b pos g) lands_edge))
      (lt_or_ge pos (block_in w b).size)

  pub lands_bit : (pos k : ℕ) → pos < (block_in w b).size → Lands w b (bit_from (block_in w b) pos k) (from_bit w b pos k)
  unfolding bit_from
  lands_bit pos k l =
      ⊎_elim
      (λ g. rw (lt-ltb k (bits_at (block_in w b) pos) g) (lands_bit_in pos k l g))
      (λ g. rw (le-ltb k (bits_at (block_in w b) pos) g) (lands_by (bit_out w b pos k g) (lands_byte (pos + 1))))
      (lt_or_ge k (bits_at (block_in w b) pos))

  lands_cycle_in : (i p : ℕ) → i < (block_in w b).tones → p < cycles_in w b i → Lands w b (Tones i p false) (from_cycle w b i p)
  unfolding left_at length_at entry_of
  lands_cycle_in i p l g = record { to = cycle_in_lem w b i p g; has = has_tone w.tones (block_in w b) i p l g }

  lands_rows : (n i : ℕ) → i + n ≡ (block_in w b).tones → Lands w b (pulse_from w.tones (block_in w b) i n) (from_tone w b i)
  unfolding pulse_from
  lands_rows zero i e = lands_by (tone_out w b i (omega arith)) (lands_byte 0)
  lands_rows (suc n) i e =
      let l : i < (block_in w b).tones = omega arith in
      ⊎_elim
      (λ g. rw (lt-ltb 0 (cycles_in w b i) g) (lands_by (tone_in_lem w b i l) (lands_cycle_in i 0 l g)))
      (λ g. rw (le-ltb 0 (cycles_in w b i) g) (lands_by (tone_in_lem w b i l ∙ cycle_out w b i 0 g) (lands_rows n (i + 1) (omega arith))))
      (lt_or_ge 0 (cycles_in w b i))

  pub lands_tone : (i : ℕ) → i ≤ (block_in w b).tones → Lands w b (tone_from w.tones (block_in w b) i) (from_tone w b i)
  unfolding tone_from
  lands_tone i l = lands_rows ((block_in w b).tones - i) i (omega arith)

  pub lands_cycle : (i p : ℕ) → i < (block_in w b).tones
      → Lands w b (cycle_from w.tones (tone_in w b i) (block_in w b) i p) (from_cycle w b i p)
  unfolding cycle_from
  lands_cycle i p l =
      ⊎_elim
      (λ g. rw (lt-ltb p (cycles_in w b i) g) (lands_cycle_in i p l g))
      (λ g. rw (le-ltb p (cycles_in w b i) g) (lands_by (cycle_out w b i p g) (lands_tone (i + 1) (omega arith))))
      (lt_or_ge p (cycles_in w b i))

  lands_second_by : (o : Bool) (i p : ℕ) → i < (block_in w b).tones → p < cycles_in w b i → is_single (block_in w b) (tone_in w b i) ≡ o
      → Lands w b (o ⇒ cycle_from w.tones (tone_in w b i) (block_in w b) i (p + 1) ∣ Tones i p true) (from_second w b i p)
  unfolding left_at length_at entry_of
  lands_second_by true i p l g e = lands_by (second_out w b i p e) (lands_cycle i (p + 1) l)
  lands_second_by false i p l g e = record { to = second_in w b i p e; has = has_second w.tones (block_in w b) i p l g e }

  pub lands_second : (i p : ℕ) → i < (block_in w b).tones → p < cycles_in w b i
      → Lands w b (second_from w.tones (tone_in w b i) (block_in w b) i p) (from_second w b i p)
  unfolding second_from
  lands_second i p l g = lands_second_by (is_single (block_in w b) (tone_in w b i)) i p l g refl

-- a step over one entry
pub record One (w : Tape) (b : ℕ) (es : List (Entry Label)) (s : Step) : Type 0 where
  pub label : Label
  pub level : Level
  pub split : es ≡ pulse label level s.time ∷ left_behind w b s
  pub many : s.passed ≡ 1
  pub has : HasNext w b s.phase

-- a step over a run
pub record Leap (w : Tape) (b : ℕ) (es : List (Entry Label)) (s : Step) (gone : List (Entry Label)) : Type 0 where
  pub finite : Finite gone
  pub split : es ≡ gone ++ left_behind w b s
  pub lasts : time gone ≡ s.time
  pub many : length gone ≡ s.passed
  pub has : HasNext w b s.phase

-- runs of items that last the same, whatever their labels
same-time : {A : Type 0} (x y : ℕ → List (Entry A)) → ((i : ℕ) → Finite (x i)) → ((i : ℕ) → Finite (y i))
    → ((i : ℕ) → time (x i) ≡ time (y i))
    → (p m : ℕ) → time (run x p m) ≡ time (run y p m)
unfolding run
same-time x y f g e p zero = refl
same-time x y f g e p (suc m) =
    time_append (x p) (run x (p + 1) m) (f p) ∙ ap₂ (λ (a b : ℕ). a + b) (e p) (same-time x y f g e (p + 1) m)
    ∙ sym (time_append (y p) (run y (p + 1) m) (g p))

byte_same : (b : ℕ) (r : Block) (c : Level) (pos v : ℕ) → time (byte_of b r c pos v) ≡ time (byte_of 0 r low pos v)
unfolding byte_of
byte_same b r c pos v =
    same-time (bit_entries b r c pos v) (bit_entries 0 r low pos v) (bit_finite b r c pos v) (bit_finite 0 r low pos v)
    (λ k. bit_time b r c pos v k ∙ sym (bit_time 0 r low pos v k)) 0 (bits_at r pos)

module _ (w : Tape) (b : ℕ) (below : b < w.count) where
  -- ONE ENTRY
  pub leap_one : (f : Phase) (t : ℕ) → has_in w b f ≡ true → One w b (left_at w b f (T t)) (one_step w.tones (block_in w b) f t)
  unfolding one_step left_at entry_of length_at level_at
  leap_one Start t h =
      let l = lands_tone w b 0 (omega arith) in
      record {
        label = label_at b Start;
        level = _;
        split = list_in w b below ∙ ap (λ (x : List (Entry Label)). start_of b (block_in w b) ∷ x) l.to;
        many = refl;
        has = l.has;
      }
  leap_one (Tones i p false) t h =
      let e = tone-entry w.tones (block_in w b) i p false h in
      let l = lands_second w b i p e.0 e.1 in
      record {
        label = label_at b (Tones i p false);
        level = cycle_in w b i p;
        split = ap (λ (x : List (Entry Label)). pulse (label_at b (Tones i p false)) (cycle_in w b i p) t ∷ x) l.to;
        many = refl;
        has = l.has;
      }
  leap_one (Tones i p true) t h =
      let l = lands_cycle w b i (p + 1) (tone-entry w.tones (block_in w b) i p true h).0 in
      record {
        label = label_at b (Tones i p true);
        level = not (cycle_in w b i p);
        split = ap (λ (x : List (Entry Label)). pulse (label_at b (Tones i p true)) (not (cycle_in w b i p)) t ∷ x) l.to;
        many = refl;
        has = l.has;
      }
  leap_one (Data pos k false) t h =
      let e = data_entry w.tones (block_in w b) pos k false h in
      record {
        label = label_at b (Data pos k false);
        level = bit_in w b;
        split = refl;
        many = refl;
        has = has_data w.tones (block_in w b) pos k true e.0 e.1;
      }
  leap_one (Data pos k true) t h =
      let l = lands_bit w b pos (k + 1) (data_entry w.tones (block_in w b) pos k true h).0 in
      record {
        label = label_at b (Data pos k true);
        level = not (bit_in w b);
        split = ap (λ (x : List (Entry Label)). pulse (label_at b (Data pos k true)) (not (bit_in w b)) t ∷ x) l.to;
        many = refl;
        has = l.has;
      }
  leap_one Edge t h =
      let l = lands_pause w b in
      record {
        label = label_at b Edge;
        level = bit_in w b;
        split = ap (λ (x : List (Entry Label)). pulse (label_at b Edge) (bit_in w b) t ∷ x) l.to;
        many = refl;
        has = l.has;
      }
  leap_one Pause t h = record { label = label_at b Pause; level = _; split = refl; many = refl; has = tt }

  -- WHOLE CYCLES
  pub leap_cycles : (i p k : ℕ) → i < (block_in w b).tones → p < cycles_in w b i → p + k ≤ cycles_in w b i
      → Leap w b (full_at w b (Tones i p false)) (cycles_step w.tones (tone_in w b i) (block_in w b) i p k) (run (cycle_item w b i) p k)
  unfolding cycles_step from_cycle
  leap_cycles i p k h l g =
      let r = block_in w b in
      let t = tone_in w b i in
      let v = cycle_in w b i in
      let n = cycles_in w b i in
      let item = cycle_item w b i in
      let to = lands_cycle w b i (p + k) h in
      let e : n - p ≡ k + (n - (p + k)) = omega arith in
      record {
        finite = run_finite item (cycle_finite b i r t v) p k;
        split =
            sym (lands_cycle_in w b i p h l).to
            ∙ ap (λ (m : ℕ). run item p m ++ from_tone w b (i + 1)) e
            ∙ ap (λ (x : List (Entry Label)). x ++ from_tone w b (i + 1)) (run_split item p k (n - (p + k)))
            ∙ append_assoc (run item p k) (run item (p + k) (n - (p + k))) (from_tone w b (i + 1))
            ∙ ap (λ (x : List (Entry Label)). run item p k ++ x) to.to;
        lasts = run-time item (cycle_finite b i r t v) (cycle_time r t) p k (λ q x y. cycle_time_lem b i r t v q);
        many = run_length item (cycle_pulses r t) p k (λ q x y. cycle_length b i r t v q);
        has = to.has;
      }

  -- A BYTE
  pub leap_byte : (pos : ℕ) → pos < (block_in w b).size
      → Leap w b (full_at w b (Data pos 0 false)) (byte_step w.bytes (block_in w b) pos)
      (byte_of b (block_in w b) (bit_in w b) pos (byte_in w b pos))
  unfolding byte_step byte_time from_byte
  leap_byte pos h =
      let r = block_in w b in
      let v = byte_in w b pos in
      let c = bit_in w b in
      let item = byte_entries w.bytes b r c in
      let to = lands_byte w b (pos + 1) in
      record {
        finite = byte_finite b r c pos v;
        split =
            sym (byte_in_lem w b pos h ∙ (lands_bit_in w b pos 0 h (bits_some r pos)).to)
            ∙ ap (λ (x : List (Entry Label)). x ++ from_edge w b) (run_next item pos r.size h)
            ∙ append_assoc (item pos) (run item (pos + 1) (r.size - (pos + 1))) (from_edge w b)
            ∙ ap (λ (x : List (Entry Label)). item pos ++ x) to.to;
        lasts = byte_same b r c pos v;
        many = byte_length b r c pos v;
        has = to.has;
      }

-- a run of repetitions passes some entries
pub runs_some : (o : Bool) (k : ℕ) → 0 < k → 0 < k * (o ⇒ 1 ∣ 2)
runs_some true k h = omega arith
runs_some false k h = omega arith

-- a step that n T-states pay for, from es with j entries counted before
pub record Took (w : Tape) (b : ℕ) (es : List (Entry Label)) (d j : ℕ) (s : Step) : Type 0 where
  pub lead : Leads es d j (left_behind w b s) (d - s.time) (j + s.passed)
  pub most : s.time ≤ d
  pub some : 0 < s.passed
  pub has : HasNext w b s.phase

one_took : (w : Tape) (b : ℕ) (es : List (Entry Label)) (s : Step) (d j : ℕ) → One w b es s → 0 < d → s.time ≤ d
    → Took w b es d j s
one_took w b es s d j o p h =
    let e : j + 1 ≡ j + s.passed = omega (arith, o.many) in
    record {
      lead =
          subst (λ (x : List (Entry Label)). Leads x d j (left_behind w b s) (d - s.time) (j + s.passed)) (sym o.split)
          (lead_as (d - s.time) (j + s.passed) refl e (lead_pulse o.label o.level s.time (left_behind w b s) d j p h));
      most = h;
      some = omega (arith, o.many);
      has = o.has;
    }

leap_took : (w : Tape) (b : ℕ) (es : List (Entry Label)) (s : Step) {gone : List (Entry Label)} (d j : ℕ) → Leap w b es s gone
    → s.time < d → 0 < s.passed → Took w b es d j s
leap_took w b es s {gone} d j l h k =
    let x : d - time gone ≡ d - s.time = omega (arith, l.lasts) in
    let y : j + length gone ≡ j + s.passed = omega (arith, l.many) in
    record {
      lead =
          subst (λ (x : List (Entry Label)). Leads x d j (left_behind w b s) (d - s.time) (j + s.passed)) (sym l.split)
          (lead_as (d - s.time) (j + s.passed) x y (lead_run gone (left_behind w b s) d j l.finite (omega (arith, l.lasts))));
      most = omega arith;
      some = k;
      has = l.has;
    }

pub one_time : (tones : List ℕ) (r : Block) (f : Phase) (t d : ℕ) → t ≤ d → (one_step tones r f t).time ≤ d
unfolding one_step
one_time tones r Start t d h = omega arith
one_time tones r (Tones i p false) t d h = h
one_time tones r (Tones i p true) t d h = h
one_time tones r (Data pos k false) t d h = h
one_time tones r (Data pos k true) t d h = h
one_time tones r Edge t d h = h
one_time tones r Pause t d h = h

module _ (w : Tape) (b : ℕ) (below : b < w.count) (d j : ℕ) (p : 0 < d) where
  took_one : (f : Phase) (t : ℕ) → has_in w b f ≡ true → t ≤ d
      → Took w b (left_at w b f (T t)) d j (one_step w.tones (block_in w b) f t)
  took_one f t h l = one_took w b _ _ d j (leap_one w b below f t h) p (one_time w.tones (block_in w b) f t d l)

  took_cycles : (i q t : ℕ) → has_in w b (Tones i q false) ≡ true → T t ≡ length_in w b (Tones i q false) → t ≤ d
      → Took w b (left_at w b (Tones i q false) (T t)) d j (take_cycles w.tones (block_in w b) i q t d)
  unfolding take_cycles cycles_step
  took_cycles i q t h e l =
      let x = tone_in w b i in
      let n = tone-entry w.tones (block_in w b) i q false h in
      let c = cycle_time (block_in w b) x in
      let m = cycles_in w b i in
      let k = cycles_fitting c (m - q) d in
      let z = fit c (m - q) d p in
      ⊎_elim
      (λ g.
      rw (lt-ltb 0 k g)
      (subst (λ (y : Duration). Took w b (left_at w b (Tones i q false) y) d j (cycles_step w.tones x (block_in w b) i q k)) (sym e)
      (leap_took w b _ _ d j (leap_cycles w b below i q k n.0 n.1 (omega (arith, z.most, n.1))) z.before
      (runs_some (is_single (block_in w b) x) k g))))
      (λ g. rw (le-ltb 0 k g) (took_one (Tones i q false) t h l))
      (lt_or_ge 0 k)

  took_byte : (pos t : ℕ) → has_in w b (Data pos 0 false) ≡ true → T t ≡ length_in w b (Data pos 0 false) → t ≤ d
      → Took w b (left_at w b (Data pos 0 false) (T t)) d j (take_byte w.bytes w.tones (block_in w b) pos t d)
  unfolding take_byte byte_step
  took_byte pos t h e l =
      let r = block_in w b in
      let n = data_entry w.tones (block_in w b) pos 0 false h in
      ⊎_elim
      (λ g.
      rw (lt-ltb (byte_time w.bytes r pos) d g)
      (subst (λ (y : Duration). Took w b (left_at w b (Data pos 0 false) y) d j (byte_step w.bytes r pos)) (sym e)
      (leap_took w b _ _ d j (leap_byte w b below pos n.0) g (omega (arith, bits_some r pos)))))
      (λ g. rw (le-ltb (byte_time w.bytes r pos) d g) (took_one (Data pos 0 false) t h l))
      (lt_or_ge (byte_time w.bytes r pos) d)

  -- ONE TURN of the measured walk
  pub took : (f : Phase) (full : Bool) (t : ℕ) → has_in w b f ≡ true → (full ≡ true → T t ≡ length_in w b f) → t ≤ d
      → Took w b (left_at w b f (T t)) d j (take_of w.bytes w.tones (block_in w b) f full t d)
  unfolding take_of
  took f false t h e l = took_one f t h l
  took Start true t h e l = took_one Start t h l
  took (Tones i q true) true t h e l = took_one (Tones i q true) t h l
  took (Tones i q false) true t h e l = took_cycles i q t h (e refl) l
  took (Data pos k true) true t h e l = took_one (Data pos k true) t h l
  took (Data pos zero false) true t h e l = took_byte pos t h (e refl) l
  took (Data pos (suc k) false) true t h e l = rw (ne_eqb (suc k) 0 (omega arith)) (took_one (Data pos (suc k) false) t h l)
  took Edge true t h e l = took_one Edge t h l
  took Pause true t h e l = took_one Pause t h l
