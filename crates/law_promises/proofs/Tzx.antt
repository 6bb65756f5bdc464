-- DEMAND 2 AGAINST TZX 1.20: the tables that a load leaves for a TZX of kept pieces, and what is left to play of them from the tape's
-- start, have the lengths above 0 that the format gives the pieces, in order; and such a tape is not refused 4. Assumes nothing.
use Prim.Native.Nat.{ℕ}
use mathlib.Core.Path.{◌≡◌}
use mathlib.Core.Bool.{true}
use mathlib.Core.List.{List}
use lib.Dec.{eqb}
use Rattle.std.specs.Prelude.{Ok, Err}
use Rattle.refusals.specs.Refusals.{generalised}
use Rattle.cut_grammar.specs.declared.Heading.TheVariants.{Version}
use Rattle.cut_grammar.specs.Cut.{head_at}
use Rattle.load_blocks.specs.Adds.{Lent}
use Rattle.load_blocks.specs.Does.{lent_of}
use Rattle.load_source.specs.Source.{load_of}
use Rattle.load_tape.specs.declared.Format.TheVariants.{Tzx}
use Rattle.load_tape.specs.declared.NotLoaded.TheVariants.{Refused}
use Rattle.load_tape.specs.Load.{load_named, answer_of, Leaves, loaded_as}
use Rattle.play_entries.specs.declared.Phase.TheVariants.{Start}
use Rattle.play_entries.specs.declared.Duration.TheVariants.{T}
use Rattle.play_entries.specs.Places.{list_from, left_at}
use Rattle.play_entries.specs.Mounted.{tape_of}
use Rattle.law_tzx.specs.Format.{lasting}
use Rattle.law_tzx.specs.Kept.{lengths}
use Rattle.law_tzx.specs.Tapes.{kept_tape, format_tape}
use Rattle.law_tzx.proofs.Loads.{load_keeps}
use Rattle.law_tzx.proofs.Room.{tape_not_4}
use Rattle.law_promises.proofs.Loads.{answers-no}

module _ (B N : ℕ) (s : List ℕ) (model : ℕ) {n k : ℕ} {bt tt : List ℕ}
    (l : Leaves B N (load_named (lent_of B N) s model) (Ok (loaded_as Tzx n k)) bt tt) (e : kept_tape s ≡ true) where
  -- the tape's list
  pub demand_2_tzx : lasting (lengths (list_from (tape_of s tt bt n) 0)) ≡ lasting (format_tape (eqb model 0) s)
  demand_2_tzx = load_keeps B N s model l e

  -- demand 3's list, from the start of block 0
  pub left_tzx : lasting (lengths (left_at (tape_of s tt bt n) 0 Start (T 0))) ≡ lasting (format_tape (eqb model 0) s)
  unfolding left_at
  left_tzx = demand_2_tzx

-- 4 is not given
pub tzx_not_4 : (lent : Lent) (s : List ℕ) (model : ℕ) {major minor : ℕ} → head_at s ≡ Version major minor → kept_tape s ≡ true
    → answer_of (load_named lent s model) ≡ Err (Refused generalised) → ⊥
unfolding load_named
tzx_not_4 lent s model h e q = tape_not_4 lent s model h e ((answers-no s generalised (load_of lent s model)).0 q)
