-- A BLOCK'S NAME IN LENT BYTES: what a well-formed row gives its writer, and each answer with the bytes it leaves. Assumes nothing.
use Prim.Native.Nat.{ℕ, ◌+◌, ◌≤◌, ◌<◌}
use native.Mathlib.Omega.{arith}
use mathlib.Core.Path.{◌≡◌, refl, sym, subst, ap}
use mathlib.Core.Bool.{false}
use mathlib.Core.List.{List}
use lib.Dec.{eqb}
use lib.ListN.{length}
use Rattle.std.specs.Prelude.{Result, Ok, Err}
use Rattle.refusals.specs.declared.Refusal.{Refusal}
use Rattle.refusals.specs.declared.Refusal.TheVariants.{BadModel, TapeLong, TapeBad, Generalised, TonesFull, BlocksFull, LastBits, NoBlock, NoPosition, NoRoom, BadRow}
use Rattle.refusals.specs.Refusals.{number}
use Rattle.rows.specs.declared.Block.{Block}
use Rattle.text_out.specs.Out.{Wrote}
use Rattle.text_out.proofs.Writing.{dry_told, dry_short}
use Rattle.play_entries.specs.Places.{Tape, block_in}
use Rattle.play_entries.specs.Mounted.{tape_size, well_row}
use Rattle.text_name.specs.Names.{name_of}
use Rattle.text_name.proofs.Naming.{inside_tape}
use Rattle.ask.specs.Queries.{asked, length_or_no_room, name_in, named_or, name_answer, name_bytes}
use Rattle.ask.proofs.Refusals.{answerable}

-- what `put_name` asks of a row
pub record Inside (bytes : List ℕ) (r : Block) : Type 0 where
  pub body : r.start + r.size ≤ length bytes
  pub name : r.text + r.chars ≤ length bytes
  pub short : r.chars ≤ 1048576

pub name_asks : (w : Tape) (i : ℕ) (r : Block) → Ok r ≡ asked w i → Inside w.bytes r
unfolding well_row
name_asks w i r e =
    let a = answerable w i r e in
    let h = inside_tape (tape_size w.bytes) w.tones (block_in w i) a.well in
    let at = subst (λ (y : Block). (y.start + y.size ≤ tape_size w.bytes) × (y.text + y.chars ≤ tape_size w.bytes)) a.row h in
    record { body = omega (arith, at.0); name = omega (arith, at.1); short = omega (arith, at.1) }

-- an answer and the bytes it leaves are what the contract says
abbrev pub NameAnswered : Tape → ℕ → List ℕ → Result ℕ Refusal → List ℕ → Type 0
NameAnswered w i out n out' = (n ≡ name_answer w i out) × (out' ≡ name_bytes w i out)

-- no refusal has the number 0
some_number : (k : Refusal) → eqb (number k) 0 ≡ false
some_number BadModel = refl
some_number TapeLong = refl
some_number TapeBad = refl
some_number Generalised = refl
some_number TonesFull = refl
some_number BlocksFull = refl
some_number LastBits = refl
some_number NoBlock = refl
some_number NoPosition = refl
some_number NoRoom = refl
some_number BadRow = refl

pub no_answer : (w : Tape) (i : ℕ) (k : Refusal) (out : List ℕ) → Err k ≡ asked w i → name_answer w i out ≡ Err k
unfolding name_answer named_or
no_answer w i k out e = rw (← e)

pub no_bytes : (w : Tape) (i : ℕ) (k : Refusal) (out : List ℕ) → Err k ≡ asked w i → name_bytes w i out ≡ out
unfolding name_bytes
no_bytes w i k out e = rw (← e, some_number k)

pub name_refused : (w : Tape) (i : ℕ) (k : Refusal) (out : List ℕ) → Err k ≡ asked w i → NameAnswered w i out (Err k) out
name_refused w i k out e = (sym (no_answer w i k out e), sym (no_bytes w i k out e))

module _ (w : Tape) (i : ℕ) (r : Block) (e : Ok r ≡ asked w i) where
  same : name_of w.bytes r ≡ name_in w i
  same = ap (name_of w.bytes) (sym (answerable w i r e).row)

  pub name_short : {dry dry' : List ℕ} {n : ℕ} (out : List ℕ) → Wrote dry 0 (name_of w.bytes r) dry' n → length out < n
      → NameAnswered w i out (Err NoRoom) out
  unfolding name_answer name_bytes named_or length_or_no_room
  name_short out p h =
      let d = dry_short out p h in
      let d' = dry_short out (rw same at p) h in
      (rw (← e, d.0), rw (← e) (sym d'.1))

  pub name_told : {dry dry' out out' : List ℕ} {n n' : ℕ} → Wrote dry 0 (name_of w.bytes r) dry' n
      → Wrote out 0 (name_of w.bytes r) out' n' → n ≤ length out
      → NameAnswered w i out (Ok n) out'
  unfolding name_answer name_bytes named_or length_or_no_room
  name_told p p' h =
      let d = dry_told p p' h in
      let d' = dry_told (rw same at p) (rw same at p') h in
      (rw (← e, d.room) (ap Ok d.count), rw (← e) d'.bytes)
