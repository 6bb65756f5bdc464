-- DEMAND 3 ON EVERY TAPE THAT A LOAD LEAVES, and no 11: of `Leaves`, what the contract of `load` says of its answer and the tables at exit.
-- Assumes nothing but that bytes are below 256.
use Prim.Native.Nat.{ℕ, ◌+◌, ◌≤◌, ◌<◌}
use mathlib.Core.Path.{◌≡◌, refl, sym, subst}
use mathlib.Core.Bool.{true}
use mathlib.Core.Logic.{◌↔◌, ◌⊎◌}
use mathlib.Core.List.{List, [], ◌∷◌}
use Rattle.std.specs.Prelude.{Ok}
use Rattle.law_pulses.specs.Play.{Entry, calls, time, sum, Positive, Demanded}
use Rattle.law_pulses.specs.Sounding.{sounding_time, Silent}
use Rattle.law_pulses.proofs.Sounding.{silent_left}
use Rattle.law_pulses.specs.Source.{Agrees}
use Rattle.load_blocks.specs.Does.{lent_of}
use Rattle.load_tape.specs.declared.Format.{Format}
use Rattle.load_tape.specs.Load.{load_named, Leaves, loaded_as}
use Rattle.play_entries.specs.Entries.{Label}
use Rattle.play_entries.specs.Places.{Tape, left_at, valid, sounds, load_time}
use Rattle.play_entries.specs.Mounted.{tape_of}
use Rattle.play_entries.specs.Mounted.{WholeTape}
use Rattle.play_walk.specs.declared.Position.{Position}
use Rattle.play_walk.specs.Heads.{reached_no, ahead, start_at, told_reached}
use Rattle.play_deck.specs.declared.Head.{Head}
use Rattle.play_deck.specs.Deck.{valid_at, play_measured, play_source, number_for, block_at, play_mounted}
use Rattle.play_deck.specs.Calls.{position_in, run_calls, run_sources, outcome_in}
use Rattle.play_deck.proofs.Plays.{play_place, cut_at_will, demand_3, time-kept}
use Rattle.law_every_load.specs.Sizes.{Bytes}
use Rattle.law_every_load.proofs.Left.{left_whole}
use Rattle.law_promises.specs.Playing.{Under, play_heads, told_heads, PlayNumbered}
use Rattle.law_promises.proofs.Wholes as wholes

-- tables of B and N words, the tape s, the model; the load's answer is a tape of `count` blocks, and the tables at exit are bt and tt
module _ (B N : ℕ) (s : List ℕ) (model : ℕ) {f : Format} {count k : ℕ} {bt tt : List ℕ} (b : Bytes s)
    (l : Leaves B N (load_named (lent_of B N) s model) (Ok (loaded_as f count k)) bt tt) where
  abbrev w : Tape
  w = tape_of s tt bt count

  whole : WholeTape w
  whole = left_whole B N s model b l

  module _ (q : Position) (n : ℕ) (ms : List ℕ) (v : valid_at w q ≡ true) where
    -- DEMAND 3: from a valid position, however N is cut into calls of 1 or more
    pub loaded_demand_3 : 0 < n → Positive ms
        → (run_calls w q n ms ≡ told_reached w w (calls (ahead w q) n ms)) × Demanded (ahead w q) (n + sum ms) (calls (ahead w q) n ms)
    loaded_demand_3 p h = demand_3 w whole q n ms v p h

    pub loaded_cut : 0 < n → Positive ms → run_calls w q n ms ≡ play_measured w q (n + sum ms)
    loaded_cut p h = cut_at_will w whole q n ms v p h

    -- time gone and listed time left are conserved
    pub loaded_time_kept : 0 < n → n ≤ time (ahead w q) → n + time (ahead w (position_in q (play_measured w q n))) ≡ time (ahead w q)
    loaded_time_kept p h = time-kept w whole q n v p h

    -- from where it leaves the head nothing more sounds exactly where it was no shorter than the time up to the last sound
    pub loaded_silent : 0 < n → Silent sounds (ahead w (position_in q (play_measured w q n))) ↔ (sounding_time sounds (ahead w q) ≤ n)
    loaded_silent p =
        subst (λ (es : List (Entry Label)). Silent sounds es ↔ (sounding_time sounds (ahead w q) ≤ n))
        (sym (play_place w whole q n v p).0) (silent_left sounds (ahead w q) n)

    -- the source's own play agrees, whenever its counts are below every nonzero finite duration on the tape
    pub loaded_agree : Under w (n ∷ ms) → Agrees (outcome_in w q (run_sources w q n ms)) (outcome_in w q (run_calls w q n ms))
    loaded_agree u = wholes.under_agree w whole q n ms v u

  -- THE LOADING TIME IS WHEN A LOAD IS OVER: played so long from the tape's start, or longer, nothing more sounds; before, something does
  pub loaded_over : (n : ℕ) → 0 < n → Silent sounds (ahead w (position_in (start_at 0) (play_measured w (start_at 0) n))) ↔ (load_time w ≤ n)
  unfolding valid left_at
  loaded_over n p = loaded_silent (start_at 0) n [] refl p

  -- any calls of the mounted head, in order
  pub loaded_heads : (h : Head) (ns : List ℕ) → valid_at w h.position ≡ true → (h.position.block ≤ count) ⊎ Positive ns
      → play_heads w h ns ≡ told_heads w (ahead w h.position) ns
  loaded_heads h ns v o = wholes.heads_told w whole h ns v o

  -- NO PLAYER ANSWERS 11, and 9 only where the position is not valid: the measured one, the source's, a position's block, the mounted head
  pub loaded_no_11 : (q : Position) (n : ℕ)
      → PlayNumbered w q (reached_no (play_measured w q n))
      × (PlayNumbered w q (reached_no (play_source w q n))
      × (PlayNumbered w q (number_for (block_at w q))
      × ((h : Head) → PlayNumbered w h.position (reached_no (play_mounted w h n).answer))))
  loaded_no_11 q n = (
    wholes.measured_numbered w whole q n,
    (wholes.source_numbered w whole q n, (wholes.block_numbered w whole q, λ h. wholes.mounted_numbered w whole h n)),
  )
