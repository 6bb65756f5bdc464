-- What is loaded of an input by its first byte and its length, and its lines; more than 65,537 bytes need not be read.
-- Assumes nothing but that bytes are below 256.
use Prim.Native.Nat.{ℕ, suc, ◌-◌, ◌≤◌, ◌<◌}
use native.Mathlib.Omega.{arith}
use mathlib.Core.Path.{◌≡◌, refl, sym, ap, subst, ◌∙◌}
use mathlib.Core.Bool.{Bool, true, false}
use mathlib.Core.Logic.{⊎_elim}
use mathlib.Core.List.{List, [], ◌∷◌}
use lib.Dec.{leb, ltb}
use lib.ListN.{length, length-drop, get_or, take, drop}
use lib.Seq.{length-take-le, take_all}
use borrow.Author.Tests.{le-leb, lt-leb, lt-ltb, le-ltb, ltb-false}
use Rattle.law_base.specs.Rules.{◌⇒◌, ◌∣◌}
use Rattle.law_base.proofs.Numbers.{lt_or_ge}
use Rattle.refusals.specs.Refusals.{bad_model, tape_long}
use Rattle.rows.specs.Table.{get}
use Rattle.rows.specs.Rows.{block}
use Rattle.text_out.specs.Out.{Fitted}
use Rattle.load_blocks.specs.Does.{lent_of}
use Rattle.load_source.specs.Source.{Load, no}
use Rattle.std.specs.Prelude.{Err}
use Rattle.load_tape.specs.declared.NotLoaded.TheVariants.{Refused}
use Rattle.load_tape.specs.Load.{load_named, answer_of, block_table, tone_table}
use Rattle.law_every_load.specs.Sizes.{Bytes}
use Rattle.prog_tape.specs.Inner.{ReadyLine}
use Rattle.text_view.specs.View.{row_view}
use Rattle.text_view.specs.Dump.{view_line}
use Rattle.listing.specs.Listing.{block_words, tone_words, loaded_of}
use Rattle.prog_model.specs.Models.{model_of}
use Rattle.prog_tape.specs.declared.Opening.{Opening}
use Rattle.prog_tape.specs.Lines.{first_line, lines_after, block_lines, load_lines, Opens}
use Rattle.prog_tape.proofs.Lines.{opens, LineAt, line_left}
use Rattle.dump.specs.Dumped.{load_heard, dump_lines, FirstHeard, FirstRefused, Dumping}

-- A REFUSAL: zeros, and its line
pub opens-no : {B N k : ℕ} {o : Opening} {bt tt out out' : List ℕ} (s : List ℕ) → bt ≡ block_table B (no k) → tt ≡ tone_table N (no k)
    → Fitted (first_line (Err (Refused k))) out out' o.size → o.more ≡ lines_after (Err (Refused k)) → Opens B N s (no k) o bt tt out out'
unfolding answer_of
opens-no s p q f e = opens s (record { answer = refl; blocks = p; tones = q }) f e

-- an input without a byte; and one with a model's, m: the rest is the tape
heard-none : (input : List ℕ) → length input ≤ 0 → load_heard input ≡ no bad_model
unfolding load_heard
heard-none [] h = refl
heard-none (b ∷ tape) h = absurd (omega arith)

heard : (input : List ℕ) → 0 < length input
    → load_heard input
    ≡ (leb 3 (model_of (get_or input 0 0)) ⇒ no bad_model
    ∣ ltb 65535 (length (drop 1 input)) ⇒ no tape_long
    ∣ loaded_of (drop 1 input) (model_of (get_or input 0 0)))
unfolding load_heard
heard [] h = absurd (omega arith)
heard (b ∷ tape) h = refl

module _ {m : ℕ} (input : List ℕ) (h : 0 < length input) (e : m ≡ model_of (get_or input 0 0)) where
  heard-bad : 3 ≤ m → load_heard input ≡ no bad_model
  heard-bad k = heard input h ∙ rw (← e, le-leb 3 m k)

  heard_long : m < 3 → 65535 < length (drop 1 input) → load_heard input ≡ no tape_long
  heard_long k l = heard input h ∙ rw (← e, lt-leb 3 m k, lt-ltb 65535 (length (drop 1 input)) l)

  heard_tape : m < 3 → length (drop 1 input) ≤ 65535 → load_heard input ≡ loaded_of (drop 1 input) m
  heard_tape k l = heard input h ∙ rw (← e, lt-leb 3 m k, le-ltb 65535 (length (drop 1 input)) l)

-- all from byte 1 on is the tape
behind : (input : List ℕ) → take (length input - 1) (drop 1 input) ≡ drop 1 input
behind input = take_all (length input - 1) (drop 1 input) (rw length-drop (omega arith))

-- THE FIRST LINE, by what is loaded
abbrev pub OpensHeard : List ℕ → Opening → List ℕ → List ℕ → List ℕ → List ℕ → Type 0
OpensHeard input o bt tt out out' = Opens block_words tone_words (drop 1 input) (load_heard input) o bt tt out out'

module _ {B N : ℕ} {o : Opening} {bt tt out out' : List ℕ} (input : List ℕ) (p : B ≡ block_words) (q : N ≡ tone_words) where
  same_tables : {s : List ℕ} {l : Load} → Opens B N s l o bt tt out out' → Opens block_words tone_words s l o bt tt out out'
  same_tables {s} {l} g =
      subst (λ (x : ℕ). Opens x tone_words s l o bt tt out out') p (subst (λ (x : ℕ). Opens B x s l o bt tt out out') q g)

  first-no : {k : ℕ} → load_heard input ≡ no k → ((s : List ℕ) → Opens B N s (no k) o bt tt out out') → OpensHeard input o bt tt out out'
  first-no e g =
      subst (λ (l : Load). Opens block_words tone_words (drop 1 input) l o bt tt out out') (sym e) (same_tables (g (drop 1 input)))

  pub first-none : length input ≤ 0 → ((s : List ℕ) → Opens B N s (no bad_model) o bt tt out out') → OpensHeard input o bt tt out out'
  first-none h g = first-no (heard-none input h) g

  module _ {m : ℕ} (h : 0 < length input) (e : m ≡ model_of (get_or input 0 0)) where
    pub first-bad : 3 ≤ m → ((s : List ℕ) → Opens B N s (no bad_model) o bt tt out out') → OpensHeard input o bt tt out out'
    first-bad k g = first-no (heard-bad input h e k) g

    pub first_long : m < 3 → 65535 < length input - 1 → ((s : List ℕ) → Opens B N s (no tape_long) o bt tt out out')
        → OpensHeard input o bt tt out out'
    first_long k l g = first-no (heard_long input h e k (rw length-drop l)) g

    pub first_tape : m < 3 → length input - 1 ≤ 65535
        → Opens B N (take (length input - 1) (drop 1 input)) (load_named (lent_of B N) (take (length input - 1) (drop 1 input)) m) o bt tt
        out out'
        → OpensHeard input o bt tt out out'
    unfolding loaded_of
    first_tape k l g =
        let s = drop 1 input in
        let x : load_heard input ≡ load_named (lent_of B N) s m =
        heard_tape input h e k (rw length-drop l)
        ∙ sym (ap (λ (z : ℕ). load_named (lent_of z N) s m) p ∙ ap (λ (z : ℕ). load_named (lent_of block_words z) s m) q) in
        subst (λ (y : Load). Opens block_words tone_words s y o bt tt out out') (sym x)
        (same_tables (subst (λ (y : List ℕ). Opens B N y (load_named (lent_of B N) y m) o bt tt out out') (behind input) g))

-- a byte that names no model
pub model_refused : (input : List ℕ) (o : Opening) (bt tt out out' : List ℕ) → 0 < length input → 3 ≤ model_of (get_or input 0 0)
    → FirstRefused block_words tone_words bad_model o bt tt out out' → FirstHeard input o bt tt out out'
unfolding FirstHeard FirstRefused
model_refused input o bt tt out out' h k g = first-bad input refl refl h refl k g

-- A LINE BEHIND IT: the input has a tape, no longer than it may be, and its row's line is the dump's
pub record LineHeard (input bt tt : List ℕ) (i : ℕ) : Type 0 where
  pub some : 1 ≤ length input
  pub short : length (drop 1 input) ≤ 65535
  pub row : LineAt (drop 1 input) (load_heard input) bt tt i

pub line_heard : (input : List ℕ) {bt tt : List ℕ} (i : ℕ) → Bytes input → Dumping input bt tt → suc i < length (dump_lines input)
    → LineHeard input bt tt i
unfolding load_heard load_lines block_lines loaded_of
line_heard [] i b d h = absurd (omega arith)
line_heard (c ∷ tape) {bt} {tt} i b d h =
    let f = by_cases (leb 3 (model_of c)) (ltb 65535 (length tape)) refl d.blocks d.tones h in
    record { some = omega arith; short = f.0; row = f.1 }
  where
    by_cases : (x y : Bool) → ltb 65535 (length tape) ≡ y
        → bt ≡ block_table block_words (x ⇒ no bad_model ∣ y ⇒ no tape_long ∣ loaded_of tape (model_of c))
        → tt ≡ tone_table tone_words (x ⇒ no bad_model ∣ y ⇒ no tape_long ∣ loaded_of tape (model_of c))
        → suc i < length (load_lines tape (x ⇒ no bad_model ∣ y ⇒ no tape_long ∣ loaded_of tape (model_of c)))
        → (length tape ≤ 65535) × LineAt tape (x ⇒ no bad_model ∣ y ⇒ no tape_long ∣ loaded_of tape (model_of c)) bt tt i
    by_cases true y e p q k = absurd (omega arith)
    by_cases false true e p q k = absurd (omega arith)
    by_cases false false e p q k =
        (ltb-false 65535 (length tape) e, line_left block_words tone_words tape (model_of c) (λ j. b (suc j)) p q i k)

-- the tape as a part of the input
module _ (input : List ℕ) {bt tt : List ℕ} (i : ℕ) (f : LineHeard input bt tt i) where
  pub part_short : length (take (length input - 1) (drop 1 input)) ≤ 65535
  part_short = rw (behind input) f.short

  pub part_ready : ReadyLine (take (length input - 1) (drop 1 input)) tt bt i
  part_ready = subst (λ (s : List ℕ). ReadyLine s tt bt i) (sym (behind input)) f.row.ready

  pub part_told : {out out' : List ℕ} {n : ℕ}
      → Fitted (view_line i (row_view (take (length input - 1) (drop 1 input)) tt (get block bt i))) out out' n
      → Fitted (get_or (dump_lines input) (suc i) []) out out' n
  part_told {out} {out'} {n} g =
      subst (λ (t : List ℕ). Fitted t out out' n)
      (ap (λ (s : List ℕ). view_line i (row_view s tt (get block bt i))) (behind input) ∙ sym f.row.text) g

-- how many there are
pub more_lines : {o : Opening} {bt tt out out' : List ℕ} {i : ℕ} (input : List ℕ) → OpensHeard input o bt tt out out' → i < o.more
    → suc i < length (dump_lines input)
more_lines input g h = omega (arith, g.more)

-- MORE THAN 65,537 BYTES need not be read: the lines of an input are those of so many
long : (b : ℕ) (tape : List ℕ) → 65536 ≤ length tape
    → dump_lines (b ∷ tape) ≡ load_lines [] (leb 3 (model_of b) ⇒ no bad_model ∣ no tape_long)
unfolding load_heard load_lines block_lines
long b tape h = rw (lt-ltb 65535 (length tape) (omega arith)) (by_cases (leb 3 (model_of b)))
  where
    by_cases : (x : Bool) → load_lines tape (x ⇒ no bad_model ∣ no tape_long) ≡ load_lines [] (x ⇒ no bad_model ∣ no tape_long)
    by_cases true = refl
    by_cases false = refl

pub read_enough : (b : ℕ) (tape : List ℕ) → dump_lines (b ∷ take 65536 tape) ≡ dump_lines (b ∷ tape)
read_enough b tape =
    ⊎_elim
    (λ l. ap (λ (t : List ℕ). dump_lines (b ∷ t)) (take_all 65536 tape (omega arith)))
    (λ g.
    let n : length (take 65536 tape) ≡ 65536 = length-take-le 65536 tape g in
    long b (take 65536 tape) (omega arith) ∙ sym (long b tape g))
    (lt_or_ge (length tape) 65536)
