-- The numbers for no, 'given exactly when' (rules 20 to 31), where no definition has the words yet. Definitions alone; assumes nothing.
use Rattle.std.specs.Prelude.{ℕ, suc, ◌+◌, ◌≤◌, ◌<◌, ◌≡◌, true, false, ◌⊎◌, List, ◌∷◌, ◌++◌, length, eqb}
use Rattle.law_pulses.specs.Play.{Entry, time, Finite}
use Rattle.law_pulses.specs.Source.{dropped}
use Rattle.rows.specs.declared.Block.{Block}
use Rattle.cut_grammar.specs.declared.Heading.TheVariants.{Version}
use Rattle.cut_grammar.specs.Cut.{head_at}
use Rattle.load_state.specs.declared.Halt.{Halt}
use Rattle.load_state.specs.declared.Halt.TheVariants.{Length}
use Rattle.load_state.specs.Parser.{Parsed, Out, on, no, empty}
use Rattle.load_blocks.specs.Adds.{Lent}
use Rattle.load_source.specs.declared.Failure.{Failure}
use Rattle.load_source.specs.Source.{See, the_end, bad, refuses, thing, Verdict, done, failed, refused, halted, tzx_see, tap_see}
use Rattle.load_tape.specs.Load.{load_named, answer_of, refusal_no}
use Rattle.play_entries.specs.Entries.{Label}
use Rattle.play_entries.specs.Places.{Tape, block_in, list_from}
use Rattle.play_entries.specs.Mounted.{overfull, well_row}
use Rattle.play_walk.specs.declared.Position.{Position}
use Rattle.play_walk.specs.Heads.{ahead}
use Rattle.play_deck.specs.Deck.{valid_at}

-- neither 1 nor 2: the model is 0, 1 or 2, and the tape is not over `most` bytes
pub record Admitted (most : ℕ) (s : List ℕ) (model : ℕ) : Type 0 where
  pub known : model < 3
  pub short : length s ≤ most

-- the number of a load, 0 for none
abbrev pub load_no : Lent → List ℕ → ℕ → ℕ
load_no lent s model = refusal_no (answer_of (load_named lent s model))

-- a reading errs
abbrev pub Errs : Verdict → Type 0
Errs r = (f : Failure) × (r ≡ failed f)

-- the first 10 bytes are a TZX's; version ignored
abbrev pub Headed : List ℕ → Type 0
Headed s = (major : ℕ) × (minor : ℕ) × (head_at s ≡ Version major minor)

-- A READING COMES to a place and a tape read so far of which P holds:
-- it stands there, or what stands here is done and from past it the reading comes there
pub data Comes (see : ℕ → See) (P : ℕ → Parsed → Type 0) : ℕ → Parsed → Type 0 where
  here : {at : ℕ} {t : Parsed} → P at t → Comes see P at t
  past : {at next : ℕ} {does : Parsed → Out} {t u : Parsed} → see at ≡ thing next does → does t ≡ on u → Comes see P next u
      → Comes see P at t

-- a reading's answer is due at a place: the end; an error or a refusal, by what stands there or by what it does
pub data Due (see : ℕ → See) : Verdict → ℕ → Parsed → Type 0 where
  ends : {at : ℕ} {t : Parsed} → see at ≡ the_end → Due see (done t) at t
  errs : {at : ℕ} {t : Parsed} {f : Failure} → see at ≡ bad f → Due see (failed f) at t
  stands : {at k : ℕ} {t : Parsed} → see at ≡ refuses k → Due see (refused k) at t
  answers : {at next : ℕ} {k : Halt} {does : Parsed → Out} {t : Parsed} → see at ≡ thing next does → does t ≡ no k
      → Due see (halted k) at t

-- a TZX is read from 10 on, a TAP from 0 on, both with nothing read so far
abbrev pub ByTzx : Lent → List ℕ → ℕ → (ℕ → Parsed → Type 0) → Type 0
ByTzx lent s model P = Headed s × Comes (tzx_see lent s model) P 10 empty

abbrev pub ByTap : Lent → List ℕ → (ℕ → Parsed → Type 0) → Type 0
ByTap lent s P = Comes (tap_see lent s) P 0 empty

-- 3: what stands here errs: a short read, or a 2A of another length than 0
pub data Bad (see : ℕ → See) (at : ℕ) (t : Parsed) : Type 0 where
  short : {f : Failure} → see at ≡ bad f → Bad see at t
  length48 : {next kind from n : ℕ} {does : Parsed → Out} → see at ≡ thing next does → does t ≡ no (Length kind from n) → Bad see at t

-- 7: a block with data has last bits above 8
pub data Overlong : List Block → Type 0 where
  this : {r : Block} {rs : List Block} → 0 < r.size → 8 < r.last → Overlong (r ∷ rs)
  later : {r : Block} {rs : List Block} → Overlong rs → Overlong (r ∷ rs)

-- .. where TZX was read whole
pub record OverlongAt (lent : Lent) (s : List ℕ) (model at : ℕ) (t : Parsed) : Type 0 where
  pub whole : tzx_see lent s model at ≡ the_end
  pub bits : Overlong t.blocks

-- from block b back to a selectable block, or 0: a row on the way is not well formed
pub data BadBack (w : Tape) : ℕ → Type 0 where
  this : {b : ℕ} → well_row w b ≡ false → BadBack w b
  back : {b : ℕ} → well_row w (suc b) ≡ true → eqb (block_in w (suc b)).selectable 1 ≡ false → BadBack w b → BadBack w (suc b)

-- 8: block number not below the count; 11 for the count comes first
abbrev pub PastCount : Tape → ℕ → Type 0
PastCount w i = (overfull w ≡ false) × (w.count ≤ i)

-- 11: the count exceeds capacity, or the row of block i, below the count, is not well formed
abbrev pub Unformed : Tape → ℕ → Type 0
Unformed w i = (overfull w ≡ true) ⊎ ((i < w.count) × (well_row w i ≡ false))

-- neither 8 nor 11
pub record Asked (w : Tape) (i : ℕ) : Type 0 where
  pub few : overfull w ≡ false
  pub there : i < w.count
  pub well : well_row w i ≡ true

-- 9: position not valid on this tape; 11 for the count and 11 for its row, if it has one, come first
pub record Invalid (w : Tape) (q : Position) : Type 0 where
  pub few : overfull w ≡ false
  pub well : q.block < w.count → well_row w q.block ≡ true
  pub bad : valid_at w q ≡ false

-- 11 BY A WALK from a position, which reaches row k: a row below the count, at or behind the position's block, that is not well formed,
-- behind rows that are. What is left to play from the position are the entries `before` block k's start, then the tape's list from block k
-- on. Each of `before` ends: no stop stands there. And T-states are left behind them: what the walk spends is more than they last
pub record Reaches (w : Tape) (q : Position) (spends : List (Entry Label) → ℕ) (k : ℕ) : Type 0 where
  pub there : (q.block ≤ k) × (k < w.count)
  pub well : (i : ℕ) → q.block ≤ i → i < k → well_row w i ≡ true
  pub bad : well_row w k ≡ false
  pub before : List (Entry Label)
  pub split : ahead w q ≡ before ++ list_from w k
  pub finite : Finite before
  pub left : time before < spends before

-- what a walk spends: the call's T-states; in the source's play also those that it drops on the way; in the loading time enough
abbrev pub called : ℕ → List (Entry Label) → ℕ
called n es = n

abbrev pub and_dropped : ℕ → List (Entry Label) → ℕ
and_dropped n es = n + dropped es n

abbrev pub enough : List (Entry Label) → ℕ
enough es = time es + 1

-- 11 of a player: the count exceeds capacity; or the position's row is not well formed; or the position is valid, and the walk from it
-- reaches a bad row
abbrev pub Unplayable : Tape → Position → (List (Entry Label) → ℕ) → Type 0
Unplayable w q spends = Unformed w q.block ⊎ ((valid_at w q ≡ true) × ((k : ℕ) × Reaches w q spends k))

-- things move forward, and at the size all is over: so as many turns as there are bytes are enough
pub record Bounded (size : ℕ) (see : ℕ → See) : Type 0 where
  pub stops : (p : ℕ) → size ≤ p → see p ≡ the_end
  pub moves : (at next : ℕ) (does : Parsed → Out) → see at ≡ thing next does → at < next
