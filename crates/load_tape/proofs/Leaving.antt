-- What each outcome of the two readings leaves of a load, and that a load leaves one thing. Assumes nothing.
use Prim.Native.Nat.{ℕ, ◌<◌, ◌≤◌}
use borrow.Author.Tests.{le-leb, lt-leb, lt-ltb}
use mathlib.Core.Path.{◌≡◌, refl, sym, ap, subst, ◌∙◌}
use mathlib.Core.Bool.{false}
use mathlib.Core.List.{List}
use lib.ListN.{length, length-replicate}
use lib.Dec.{leb, ltb}
use Rattle.std.specs.Prelude.{Result, Ok, Err}
use Rattle.refusals.specs.Refusals.{bad_model, tape_long}
use Rattle.rows.specs.Table.{zeros}
use Rattle.load_state.specs.declared.State.{State}
use Rattle.load_source.specs.declared.Failure.{Failure}
use Rattle.load_source.specs.declared.NotRead.{NotRead}
use Rattle.load_source.specs.declared.NotRead.TheVariants.{Failed, Refused}
use Rattle.load_blocks.specs.Adds.{Lent}
use Rattle.load_source.specs.Source.{Verdict, Load, both_err, no, or_tap, or_else, read_tzx, read_tap, load_of}
use Rattle.load_blocks.specs.Does.{lent_of}
use Rattle.load_source.specs.Does.{Blank, Finds}
use Rattle.load_source.proofs.Judged.{found_done, found_failed, found_refused}
use Rattle.load_tape.specs.declared.Format.TheVariants.{Tap, Tzx}
use Rattle.load_tape.specs.declared.Loaded.{Loaded}
use Rattle.load_tape.specs.declared.NotLoaded.{NotLoaded}
use Rattle.load_tape.specs.declared.NotLoaded.TheVariants.{Unread, Refused as No}
use Rattle.load_tape.specs.Load.{loaded_as, not_loaded, answer_of, block_table, tone_table, Leaves}

-- any two outcomes that the contract permits are equal
pub one_outcome : {B N : ℕ} {l : Load} {a a' : Result Loaded NotLoaded} {bt bt' tt tt' : List ℕ} → Leaves B N l a bt tt
    → Leaves B N l a' bt' tt' → (a ≡ a') × (bt ≡ bt') × (tt ≡ tt')
one_outcome x y = (x.answer ∙ sym y.answer, x.blocks ∙ sym y.blocks, x.tones ∙ sym y.tones)

pub blanked : {t : List ℕ} (n : ℕ) → t ≡ zeros n → Blank t
blanked n e = e ∙ ap zeros (sym (ap length e ∙ length-replicate n 0))

pub refusal_leaves : {B N : ℕ} (why : NotLoaded) {bt tt : List ℕ} → bt ≡ zeros B → tt ≡ zeros N
    → Leaves B N (not_loaded why) (Err why) bt tt
unfolding answer_of block_table tone_table
refusal_leaves (Unread f g) b t = record { answer = refl; blocks = b; tones = t }
refusal_leaves (No k) b t = record { answer = refl; blocks = b; tones = t }

module _ {B N : ℕ} {r : Result State NotRead} {bt tt : List ℕ} {o : Verdict} (f : Finds B N r bt tt o) where
  pub tap_leaves : (x : Failure) {s : State} → r ≡ Ok s → Leaves B N (or_tap x o) (Ok (loaded_as Tap s.blocks s.tones)) bt tt
  unfolding or_tap answer_of block_table tone_table
  tap_leaves x {s} e =
      let d = found_done f e in
      rw d.1 (record { answer = rw (← d.2.nb, ← d.2.nt); blocks = d.2.is_b; tones = d.2.is_t })

  pub tap_fails : (x : Failure) {y : Failure} → r ≡ Err (Failed y) → or_tap x o ≡ both_err x y
  unfolding or_tap
  tap_fails x e = rw (found_failed f e)

  pub tap_refuses : (x : Failure) {k : ℕ} → r ≡ Err (Refused k) → or_tap x o ≡ no k
  unfolding or_tap
  tap_refuses x e = rw (found_refused f e)

  pub tzx-leaves : (other : Verdict) {s : State} → r ≡ Ok s → Leaves B N (or_else o other) (Ok (loaded_as Tzx s.blocks s.tones)) bt tt
  unfolding or_else answer_of block_table tone_table
  tzx-leaves other {s} e =
      let d = found_done f e in
      rw d.1 (record { answer = rw (← d.2.nb, ← d.2.nt); blocks = d.2.is_b; tones = d.2.is_t })

  pub tzx-fails : (other : Verdict) {x : Failure} → r ≡ Err (Failed x) → or_else o other ≡ or_tap x other
  unfolding or_else
  tzx-fails other e = rw (found_failed f e)

  pub tzx-refuses : (other : Verdict) {k : ℕ} → r ≡ Err (Refused k) → or_else o other ≡ no k
  unfolding or_else
  tzx-refuses other e = rw (found_refused f e)

-- a check that fails
pub load_of_model : (lent : Lent) (s : List ℕ) (model : ℕ) → 3 ≤ model → load_of lent s model ≡ no bad_model
unfolding load_of
load_of_model lent s model h = rw (le-leb 3 model h)

pub load_of_long : (lent : Lent) (s : List ℕ) (model : ℕ) → model < 3 → 1048576 < length s → load_of lent s model ≡ no tape_long
unfolding load_of
load_of_long lent s model h h' = rw (lt-leb 3 model h, lt-ltb 1048576 (length s) h')

-- both checks passed
pub load_reads : (lent : Lent) (s : List ℕ) (model : ℕ) → leb 3 model ≡ false → ltb 1048576 (length s) ≡ false
    → load_of lent s model ≡ or_else (read_tzx lent s model) (read_tap lent s)
unfolding load_of
load_reads lent s model a b = rw (a, b)

-- lengths that calls in between kept
module _ {B N B' N' : ℕ} (b : B ≡ B') (n : N ≡ N') where
  moved : (P : ℕ → ℕ → Type 0) → P B N → P B' N'
  moved P x = subst (λ (i : ℕ). P i N') b (subst (λ (i : ℕ). P B i) n x)

  pub finds_tap : (s : List ℕ) {r : Result State NotRead} {bt tt : List ℕ} → Finds B N r bt tt (read_tap (lent_of B N) s)
      → Finds B' N' r bt tt (read_tap (lent_of B' N') s)
  finds_tap s {r} {bt} {tt} f = moved (λ x y. Finds x y r bt tt (read_tap (lent_of x y) s)) f

  pub finds_tzx : (s : List ℕ) (model : ℕ) {r : Result State NotRead} {bt tt : List ℕ} → Finds B N r bt tt (read_tzx (lent_of B N) s model)
      → Finds B' N' r bt tt (read_tzx (lent_of B' N') s model)
  finds_tzx s model {r} {bt} {tt} f = moved (λ x y. Finds x y r bt tt (read_tzx (lent_of x y) s model)) f

  pub leaves-same : {l : Load} {a : Result Loaded NotLoaded} {bt tt : List ℕ} → Leaves B N l a bt tt → Leaves B' N' l a bt tt
  leaves-same {l} {a} {bt} {tt} h = moved (λ x y. Leaves x y l a bt tt) h

  pub leaves_tap : (s : List ℕ) (f : Failure) {a : Result Loaded NotLoaded} {bt tt : List ℕ} → Leaves B N (or_tap f (read_tap (lent_of B N) s)) a bt tt
      → Leaves B' N' (or_tap f (read_tap (lent_of B' N') s)) a bt tt
  leaves_tap s f {a} {bt} {tt} l = moved (λ x y. Leaves x y (or_tap f (read_tap (lent_of x y) s)) a bt tt) l
