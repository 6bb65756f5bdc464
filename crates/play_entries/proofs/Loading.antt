-- THE LOADING TIME BY BLOCKS: how far it is from a block's start, by its row and by how far it is from the next; and to which of the two
-- the tape's list comes, a stop or the end. Assumes nothing.
use Prim.Native.Nat.{ℕ, ◌+◌, ◌≤◌, ◌<◌}
use native.Mathlib.Omega.{arith}
use borrow.Author.Tests.{eqb-true, eqb-false, ltb-true, ltb-false}
use mathlib.Core.Path.{◌≡◌, refl, ap, ◌∙◌}
use mathlib.Core.Bool.{Bool, true, false, not}
use mathlib.Core.List.{List, [], ◌∷◌, ◌++◌, append_assoc}
use lib.Dec.{eqb, ltb}
use Rattle.law_base.specs.Rules.{◌⇒◌, ◌∣◌}
use Rattle.law_pulses.specs.Play.{Level, Entry, pulse, stopped, ended, time, comes_to}
use Rattle.law_pulses.specs.Sounding.{sounding_time, Silent}
use Rattle.law_pulses.proofs.Joined.{comes_append}
use Rattle.law_pulses.proofs.Runs.{run_next}
use Rattle.law_pulses.proofs.Sounding.{sounding-behind, sounding-before, sounding_all, silent_append, run-silent}
use Rattle.rows.specs.declared.Tone.{Tone}
use Rattle.rows.specs.declared.Block.{Block}
use Rattle.play_entries.specs.Entries.{Label, label_at, bit_level, is_single, cycle_of, tone_of, row_entries, tones_of, byte_of}
use Rattle.play_entries.specs.Entries.{byte_entries, data_of, edge_of, pause_entry, sound_of, entries_of}
use Rattle.play_entries.specs.declared.Phase.TheVariants.{Tones}
use Rattle.play_entries.specs.Places.{Tape, block_in, list_from, from_pause, from_edge, sounds, load_from, by_row}
use Rattle.play_entries.proofs.Runs.{sound_finite}
use Rattle.play_entries.proofs.Follows.{list_out}
use Rattle.play_entries.proofs.Ends.{end_of, end_on, end_comes, end_stop, end_silent, end_passed}

-- OF A BLOCK'S SOUND no entry with length is another than of a tone or of data
abbrev others : Label → Bool
others a = not (sounds a)

module _ (tape tones : List ℕ) (b : ℕ) (r : Block) where
  cycle_all : (i : ℕ) (t : Tone) (v : ℕ → Level) (p : ℕ) → Silent others (cycle_of b i r t v p)
  unfolding Silent
  cycle_all i t v p = (λ e. cc, of (is_single r t) (not (v p)) t.len2)
    where
      of : (x : Bool) (u : Level) (n : ℕ) → Silent others (x ⇒ [] ∣ pulse (label_at b (Tones i p true)) u n ∷ [])
      of true u n = tt
      of false u n = (λ e. cc, tt)

  tones_all : Silent others (tones_of tones b r)
  unfolding tones_of tone_of
  tones_all = run-silent others (row_entries tones b r) (λ i. run-silent others _ (cycle_all i _ _) 0 _) 0 r.tones

  data_all : (c : Level) → Silent others (data_of tape b r c)
  unfolding data_of byte_of Silent
  data_all c =
      run-silent others (byte_entries tape b r c) (λ pos. run-silent others _ (λ k. ((λ e. cc), ((λ e. cc), tt))) 0 _) 0 r.size

  sound_all : Silent others (sound_of tape tones b r)
  unfolding sound_of Silent
  sound_all =
      (λ e. refl, silent_append others (tones_of tones b r) (data_of tape b r (bit_level tones r)) tones_all (data_all (bit_level tones r)))

  -- so entries behind it, if they sound, stand behind all of it; if not, its own time is it
  sound_behind : (es : List (Entry Label)) → 0 < sounding_time sounds es
      → sounding_time sounds (sound_of tape tones b r ++ es) ≡ time (sound_of tape tones b r) + sounding_time sounds es
  sound_behind es h = sounding-behind sounds (sound_of tape tones b r) es (sound_finite tape tones b r) h

  sound_last : (es : List (Entry Label)) → sounding_time sounds es ≡ 0
      → sounding_time sounds (sound_of tape tones b r ++ es) ≡ time (sound_of tape tones b r)
  sound_last es z =
      sounding-before sounds (sound_of tape tones b r) es (sound_finite tape tones b r) z ∙ sounding_all sounds _ sound_all

module _ (w : Tape) (b : ℕ) where
  -- past the last block
  pub loading_out : w.count ≤ b → load_from w b ≡ 0
  unfolding sounding_time
  loading_out h = ap (sounding_time sounds) (list_out w b h)

  pub comes_out : w.count ≤ b → comes_to (list_from w b) ≡ ended
  unfolding comes_to
  comes_out h = ap comes_to (list_out w b h)

  module _ (h : b < w.count) where
    abbrev row : Block
    row = block_in w b

    abbrev sound : List (Entry Label)
    sound = sound_of w.bytes w.tones b row

    abbrev later : List (Entry Label)
    later = list_from w (b + 1)

    block_list_lem : list_from w b ≡ sound ++ from_edge w b
    unfolding list_from entries_of from_edge from_pause
    block_list_lem =
        run_next (λ i. entries_of w.bytes w.tones i (block_in w i)) b w.count h
        ∙ append_assoc sound (end_of w.tones b row) later
        ∙ ap (λ (x : List (Entry Label)). sound ++ x) (append_assoc (edge_of w.tones b row) (pause_entry w.tones b row ∷ []) later)

    block_comes : comes_to (list_from w b) ≡ comes_to (from_edge w b)
    block_comes = ap comes_to block_list_lem ∙ comes_append _ _ (sound_finite w.bytes w.tones b row)

    pub comes_stop : (block_in w b).endless ≡ 1 → comes_to (list_from w b) ≡ stopped
    unfolding from_edge from_pause
    comes_stop e = block_comes ∙ end_comes w.tones b row later e

    pub comes_on : ((block_in w b).endless ≡ 1 → ⊥) → comes_to (list_from w b) ≡ comes_to (list_from w (b + 1))
    unfolding from_edge from_pause
    comes_on e = block_comes ∙ end_on w.tones b row later e

    -- A BLOCK'S STEP
    pub loading_by_blocks : load_from w b
        ≡ by_row (block_in w b) (time (sound_of w.bytes w.tones b (block_in w b))) (load_from w (b + 1))
    unfolding from_edge from_pause
    loading_by_blocks =
        ap (sounding_time sounds) block_list_lem ∙ of (eqb row.endless 1) refl (ltb 0 (sounding_time sounds later)) refl
      where
        passed : (row.endless ≡ 1 → ⊥) → 0 < sounding_time sounds later
            → sounding_time sounds (sound ++ from_edge w b) ≡ time sound + row.pause + sounding_time sounds later
        passed e l =
            let z = end_passed w.tones b row later e l in
            omega (arith, z, sound_behind w.bytes w.tones b row (from_edge w b) (omega (arith, z, l)))

        silent : (row.endless ≡ 1 → ⊥) → sounding_time sounds later ≤ 0 → sounding_time sounds (sound ++ from_edge w b) ≡ time sound
        silent e z =
            sound_last w.bytes w.tones b row (from_edge w b) (end_silent w.tones b row later e (omega arith))

        of : (x : Bool) → eqb row.endless 1 ≡ x → (y : Bool) → ltb 0 (sounding_time sounds later) ≡ y
            → sounding_time sounds (sound ++ from_edge w b)
            ≡ (x ⇒ time sound ∣ y ⇒ time sound + row.pause + sounding_time sounds later ∣ time sound)
        of true e y f =
            sound_last w.bytes w.tones b row (from_edge w b) (end_stop w.tones b row later (eqb-true _ _ e))
        of false e true f = passed (eqb-false _ _ e) (ltb-true _ _ f)
        of false e false f = silent (eqb-false _ _ e) (ltb-false _ _ f)
