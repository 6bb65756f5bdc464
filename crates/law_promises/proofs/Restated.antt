-- A kind that is described and read as nothing; the cycles that one turn drops; what is of blocks and count alone. Assumes nothing.
use Prim.Native.Nat.{ℕ, ◌+◌, ◌-◌, ◌*◌, ◌≤◌}
use borrow.Author.Rules.{rules}
use borrow.Author.Tests.{le-leb}
use native.Mathlib.Omega.{arith}
use mathlib.Core.Path.{◌≡◌, refl, sym, subst}
use mathlib.Core.Bool.{◌||◌, true, false}
use mathlib.Core.List.{List}
use Rattle.std.specs.Prelude.{Ok, Err, Some}
use Rattle.law_base.specs.Arms.{between}
use Rattle.law_base.proofs.Arms.{None, lookup-none, between_in, between_above}
use Rattle.cut_grammar.specs.declared.NotCut.TheVariants.{Unknown}
use Rattle.cut_grammar.specs.Grammar.{Layout, read_at, unknown}
use Rattle.cut_grammar.specs.Kinds.{kinds, kind_of}
use Rattle.rows.specs.declared.Tone.{Tone}
use Rattle.rows.specs.declared.Block.{Block}
use Rattle.play_entries.specs.declared.Phase.TheVariants.{Tones}
use Rattle.play_entries.specs.Mounted.{tape_of, overfull}
use Rattle.play_entries.specs.Entries.{tone_at, cycles_of, cycle_pulses, cycle_time}
use Rattle.play_steps.specs.Steps.{step_to, cycle_from, cycles_step}
use Rattle.play_walk.specs.Heads.{rest_level}
use Rattle.play_ahead.specs.Drops.{second_time, drop_of}

-- a kind that no key has
abbrev described : ℕ → Layout
described k = unknown (between 0x15 0x18 k || between 0x26 0x28 k)

no_key : (full k : ℕ) → 0x26 ≤ k → k ≤ 0x28 → None (kinds full) k
unfolding kinds
no_key full k h h' = search (rules, arith)

-- 26 to 28
pub read_described : (full k : ℕ) (tape : List ℕ) (from : ℕ) → 0x26 ≤ k → k ≤ 0x28
    → read_at (kind_of full k) tape (Ok from) ≡ Err (Unknown true)
unfolding kind_of read_at
read_described full k tape from h h' =
    rw (
      lookup-none (kinds full) k (described k) (no_key full k h h'),
      between_above 0x15 0x18 k (omega arith),
      between_in 0x26 0x28 k h (omega arith),
    )

-- cycles none of whose pulses is longer than d are dropped at once, from cycle p to the tone row's last
module _ (tape tones : List ℕ) (r : Block) (i p d : ℕ) (x : Tone) (e : x ≡ tone_at tones r i) where
  pub drops_cycles : (n c m : ℕ) → n ≡ cycles_of r x → c ≡ cycle_time r x → m ≡ cycle_pulses r x → x.len1 ≤ d
      → second_time r x ≤ d
      → Some (step_to (cycle_from tones x r i (p + (n - p))) ((n - p) * c) ((n - p) * m)) ≡ drop_of tape tones r (Tones i p false) d
  unfolding drop_of cycles_step
  drops_cycles n c m f a b l h =
      subst
      (λ (y : Tone). n ≡ cycles_of r y → c ≡ cycle_time r y → m ≡ cycle_pulses r y → y.len1 ≤ d → second_time r y ≤ d
      → Some (step_to (cycle_from tones y r i (p + (n - p))) ((n - p) * c) ((n - p) * m)) ≡ drop_of tape tones r (Tones i p false) d)
      (sym e) (λ u o q v w. rw (← u, o, q, le-leb (tone_at tones r i).len1 d v, le-leb (second_time r (tone_at tones r i)) d w)) f a b l h

-- whatever tape and tones are lent beside them
module _ (bytes tones bytes' tones' blocks : List ℕ) (count : ℕ) where
  pub rest_level_alone : (b : ℕ) → rest_level (tape_of bytes tones blocks count) b ≡ rest_level (tape_of bytes' tones' blocks count) b
  unfolding rest_level
  rest_level_alone b = refl

  pub overfull_alone : overfull (tape_of bytes tones blocks count) ≡ overfull (tape_of bytes' tones' blocks count)
  overfull_alone = refl
