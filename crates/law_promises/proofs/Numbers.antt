-- NUMBERS FOR NO, 1 TO 7: rules 21 to 27, number by number, 'given exactly when'. Assumes nothing.
use Prim.Native.Nat.{ℕ, ◌≤◌, ◌<◌}
use native.Mathlib.Omega.{arith}
use mathlib.Core.Path.{◌≡◌, refl, ap}
use mathlib.Core.Logic.Iff
use mathlib.Core.Logic.{◌↔◌, inl, inr, ⊎_elim}
use mathlib.Core.List.{List}
use lib.ListN.{length}
use Rattle.std.specs.Prelude.{Result}
use Rattle.refusals.specs.Refusals.{bad_model, tape_long, tape_bad, generalised, tones_full, blocks_full, last_bits}
use Rattle.rows.specs.Table.{zeros}
use Rattle.load_state.specs.Parser.{Parsed, empty}
use Rattle.load_blocks.specs.Adds.{Lent}
use Rattle.load_source.specs.Source.{done, refused, read_tzx, read_tap, fold_from, tzx_see, Load, tzx, tapped, both_err, no}
use Rattle.load_tape.specs.declared.Loaded.{Loaded}
use Rattle.load_tape.specs.declared.NotLoaded.{NotLoaded}
use Rattle.load_tape.specs.Load.{answer_of, refusal_no, block_table, tone_table, Leaves}
use Rattle.law_every_load.proofs.Room.{Within}
use Rattle.law_promises.specs.Numbers.{Admitted, load_no, Errs, Comes, ByTzx, ByTap, Due, OverlongAt}
use Rattle.law_promises.specs.Four.{Four}
use Rattle.law_promises.specs.Needs.{NeedsPiece, NeedsBlock, Lacking}
use Rattle.law_promises.proofs.Runs.{comes_under, run_due}
use Rattle.law_promises.proofs.Loads.{LoadRefused, model_no, size_no, both-no, tzx-no, tap_no, refused_when, tzx_piece, tzx_last}
use Rattle.law_promises.proofs.Dues.{tzx_bounded, tzx-within, panics_due, piece_due, tap_bounded, tap_within, block_due, end_due}
use Rattle.law_promises.proofs.Four.{four_exactly}

module _ (lent : Lent) (s : List ℕ) (model : ℕ) where
  -- 1: model is not 0 (48K), 1 (128K), 2 (Plus3)
  pub given_1 : (load_no lent s model ≡ bad_model) ↔ (3 ≤ model)
  given_1 = (λ e. of ((refused_when lent s model bad_model (omega arith)).0 e), λ h. (refused_when lent s model bad_model (omega arith)).1 (model_no h refl))
    where
      of : LoadRefused lent s model bad_model → 3 ≤ model
      of (model_no h q) = h
      of (size_no h l q) = absurd (omega arith)
      of (both-no a x y q) = absurd (omega arith)
      of (tzx-no a x b) = absurd (omega (arith, b.low))
      of (tap_no a x y b) = absurd (omega (arith, b.low))

  -- 2: tape over 1,048,576 bytes; 1 is checked first
  pub given_2 : (load_no lent s model ≡ tape_long) ↔ ((model < 3) × (1048576 < length s))
  given_2 = (λ e. of ((refused_when lent s model tape_long (omega arith)).0 e), λ h. (refused_when lent s model tape_long (omega arith)).1 (size_no h.0 h.1 refl))
    where
      of : LoadRefused lent s model tape_long → (model < 3) × (1048576 < length s)
      of (model_no h q) = absurd (omega arith)
      of (size_no h l q) = (h, l)
      of (both-no a x y q) = absurd (omega arith)
      of (tzx-no a x b) = absurd (omega (arith, b.low))
      of (tap_no a x y b) = absurd (omega (arith, b.low))

  -- 3: TZX and TAP reading both err
  pub given_3 : (load_no lent s model ≡ tape_bad)
      ↔ (Admitted 1048576 s model × (Errs (read_tzx lent s model) × Errs (read_tap lent s)))
  given_3 = (
    λ e. of ((refused_when lent s model tape_bad (omega arith)).0 e),
    λ h. (refused_when lent s model tape_bad (omega arith)).1 (both-no h.0 h.1.0 h.1.1 refl),
  )
    where
      of : LoadRefused lent s model tape_bad → Admitted 1048576 s model × (Errs (read_tzx lent s model) × Errs (read_tap lent s))
      of (model_no h q) = absurd (omega arith)
      of (size_no h l q) = absurd (omega arith)
      of (both-no a x y q) = (a, (x, y))
      of (tzx-no a x b) = absurd (omega (arith, b.low))
      of (tap_no a x y b) = absurd (omega (arith, b.low))

  within-empty : Within lent empty
  unfolding empty
  within-empty = record { blocks = omega arith; tones = omega arith }

  -- a number of the TZX's pieces, of the whole TZX, and of the TAP: where the reading comes to
  tzx_comes : (k : ℕ) → k ≤ blocks_full → {P : ℕ → Parsed → Type 0}
      → ((at : ℕ) (t : Parsed) → Within lent t → Due (tzx_see lent s model) (refused k) at t ↔ P at t)
      → (read_tzx lent s model ≡ refused k) ↔ ByTzx lent s model P
  tzx_comes k l p =
      let x = tzx_piece lent s model k l in
      let y = run_due (tzx_bounded lent s model) (length s) 10 empty (refused k) (omega arith) in (
        λ e. let z = x.0 e in (z.0, comes_under (tzx-within lent s model) (λ at t w. (p at t w).0) within-empty (y.0 z.1)),
        λ c. x.1 (c.0, y.1 (comes_under (tzx-within lent s model) (λ at t w. (p at t w).1) within-empty c.1)),
      )

  tzx-ends : (read_tzx lent s model ≡ refused last_bits) ↔ ByTzx lent s model (OverlongAt lent s model)
  tzx-ends =
      let x = tzx_last lent s model in
      let w = end_due lent s model 10 empty in (
        λ e. let z = x.0 e in (z.0, w.0 (z.1.0, z.1.2, (run z.1.0).0 z.1.1)),
        λ c. let z = w.1 c.1 in x.1 (c.0, (z.0, (run z.0).1 z.2, z.1)),
      )
    where
      run : (u : Parsed)
          → (fold_from (tzx_see lent s model) (length s) 10 empty ≡ done u)
          ↔ Comes (tzx_see lent s model) (Due (tzx_see lent s model) (done u)) 10 empty
      run u = run_due (tzx_bounded lent s model) (length s) 10 empty (done u) (omega arith)

  tap_comes : (k : ℕ) → tones_full ≤ k → (read_tap lent s ≡ refused k) ↔ ByTap lent s (NeedsBlock lent s k)
  unfolding read_tap
  tap_comes k l =
      let y = run_due (tap_bounded lent s) (length s) 0 empty (refused k) (omega arith) in (
        λ e. comes_under (tap_within lent s) (λ at t w. (block_due lent s k l at t w).0) within-empty (y.0 e),
        λ c. y.1 (comes_under (tap_within lent s) (λ at t w. (block_due lent s k l at t w).1) within-empty c),
      )

  -- 4: a generalised piece on which the Rust panics
  pub given_4 : (load_no lent s model ≡ generalised)
      ↔ (Admitted 1048576 s model × ByTzx lent s model (λ at t. Four s at))
  given_4 = (
    λ e. of ((refused_when lent s model generalised (omega arith)).0 e),
    λ h. (refused_when lent s model generalised (omega arith)).1 (tzx-no h.0 (comes.1 h.1) (record { low = omega arith; high = omega arith })),
  )
    where
      comes : (read_tzx lent s model ≡ refused generalised) ↔ ByTzx lent s model (λ at t. Four s at)
      comes = tzx_comes generalised (omega arith) (λ at t w. Iff.trans (panics_due lent s model at t) (four_exactly s at t))

      of : LoadRefused lent s model generalised → Admitted 1048576 s model × ByTzx lent s model (λ at t. Four s at)
      of (model_no h q) = absurd (omega arith)
      of (size_no h l q) = absurd (omega arith)
      of (both-no a x y q) = absurd (omega arith)
      of (tzx-no a x b) = (a, comes.0 x)
      of (tap_no a x y b) = absurd (omega (arith, b.low))

  -- 5, 6: by the TZX's pieces, or, where TZX errs, by the TAP's blocks
  lacking : (k : ℕ) → tones_full ≤ k → k ≤ blocks_full
      → (load_no lent s model ≡ k) ↔ (Admitted 1048576 s model × Lacking lent s model k)
  lacking k l m = (
    λ e. of ((refused_when lent s model k (omega arith)).0 e),
    λ h. ⊎_elim
        (λ x. (refused_when lent s model k (omega arith)).1 (tzx-no h.0 (comes.1 x) (record { low = omega arith; high = omega arith })))
        (λ x. (refused_when lent s model k (omega arith)).1 (tap_no h.0 x.0 ((tap_comes k l).1 x.1) (record { low = l; high = m })))
        h.1,
  )
    where
      comes : (read_tzx lent s model ≡ refused k) ↔ ByTzx lent s model (NeedsPiece lent s model k)
      comes = tzx_comes k m (piece_due lent s model k l)

      of : LoadRefused lent s model k → Admitted 1048576 s model × Lacking lent s model k
      of (model_no h q) = absurd (omega arith)
      of (size_no h o q) = absurd (omega arith)
      of (both-no a x y q) = absurd (omega arith)
      of (tzx-no a x b) = (a, inl (comes.0 x))
      of (tap_no a x y b) = (a, inr (x, (tap_comes k l).0 y))

  -- 5: a block needs more tone rows than remain
  pub given_5 : (load_no lent s model ≡ tones_full) ↔ (Admitted 1048576 s model × Lacking lent s model tones_full)
  given_5 = lacking tones_full (omega arith) (omega arith)

  -- 6: more block rows than remain
  pub given_6 : (load_no lent s model ≡ blocks_full) ↔ (Admitted 1048576 s model × Lacking lent s model blocks_full)
  given_6 = lacking blocks_full (omega arith) (omega arith)

  -- 7: TZX was read whole, but a block with data has last bits above 8
  pub given_7 : (load_no lent s model ≡ last_bits)
      ↔ (Admitted 1048576 s model × ByTzx lent s model (OverlongAt lent s model))
  given_7 = (
    λ e. of ((refused_when lent s model last_bits (omega arith)).0 e),
    λ h. (refused_when lent s model last_bits (omega arith)).1 (tzx-no h.0 (tzx-ends.1 h.1) (record { low = omega arith; high = omega arith })),
  )
    where
      of : LoadRefused lent s model last_bits → Admitted 1048576 s model × ByTzx lent s model (OverlongAt lent s model)
      of (model_no h q) = absurd (omega arith)
      of (size_no h l q) = absurd (omega arith)
      of (both-no a x y q) = absurd (omega arith)
      of (tzx-no a x b) = (a, tzx-ends.0 x)
      of (tap_no a x y b) = absurd (omega (arith, b.high))

-- 1 to 7 leave both tables all zero
pub refused_blank : (B N : ℕ) (l : Load) (a : Result Loaded NotLoaded) (bt tt : List ℕ) → Leaves B N l a bt tt → 0 < refusal_no a
    → (bt ≡ zeros B) × (tt ≡ zeros N)
unfolding answer_of refusal_no block_table tone_table
refused_blank B N (tzx t) a bt tt h p = absurd (omega (arith, p, ap refusal_no h.answer))
refused_blank B N (tapped t) a bt tt h p = absurd (omega (arith, p, ap refusal_no h.answer))
refused_blank B N (both_err f g) a bt tt h p = (h.blocks, h.tones)
refused_blank B N (no k) a bt tt h p = (h.blocks, h.tones)
