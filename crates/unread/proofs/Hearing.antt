-- What is heard of an input by its first byte; more than 1,048,578 bytes need not be read. Assumes nothing.
use Prim.Native.Nat.{ℕ, ◌-◌, ◌≤◌, ◌<◌}
use native.Mathlib.Omega.{arith}
use mathlib.Core.Path.{◌≡◌, refl, sym, ap, subst, ◌∙◌}
use mathlib.Core.Bool.{Bool, true, false}
use mathlib.Core.Logic.{⊎_elim}
use mathlib.Core.List.{List, [], ◌∷◌}
use lib.Dec.{leb}
use lib.ListN.{length, length-drop, get_or, take, drop}
use lib.Seq.{length-take-le, take_all}
use borrow.Author.Tests.{lt-ltb}
use Rattle.law_base.specs.Rules.{◌⇒◌, ◌∣◌}
use Rattle.law_base.proofs.Numbers.{lt_or_ge}
use Rattle.refusals.specs.Refusals.{bad_model, tape_long}
use Rattle.load_blocks.specs.Does.{lent_of}
use Rattle.load_source.specs.Source.{no, load_of}
use Rattle.std.specs.Prelude.{Err}
use Rattle.load_tape.specs.declared.NotLoaded.TheVariants.{Refused}
use Rattle.load_tape.specs.Load.{named_load, load_named, answer_of}
use Rattle.text_out.specs.Out.{Fitted}
use Rattle.prog_model.specs.Models.{model_of}
use Rattle.prog_unread.specs.Report.{report_text, full_blocks, full_tones}
use Rattle.unread.specs.Heard.{unread_heard}

-- what is said of a tape for a model
unfoldable tape_said : List ℕ → ℕ → List ℕ
tape_said tape m = report_text (answer_of (load_named (lent_of full_blocks full_tones) tape m))

heard-none : (input : List ℕ) → length input ≤ 0 → unread_heard input ≡ report_text (Err (Refused bad_model))
unfolding unread_heard
heard-none [] h = refl
heard-none (b ∷ tape) h = absurd (omega arith)

heard_tape : (input : List ℕ) → 0 < length input → unread_heard input ≡ tape_said (drop 1 input) (model_of (get_or input 0 0))
unfolding unread_heard tape_said
heard_tape [] h = absurd (omega arith)
heard_tape (b ∷ tape) h = refl

-- all from byte 1 on is the tape
behind : (input : List ℕ) → take (length input - 1) (drop 1 input) ≡ drop 1 input
behind input = take_all (length input - 1) (drop 1 input) (rw length-drop (omega arith))

module _ {out out' : List ℕ} {n : ℕ} (input : List ℕ) where
  pub says_none : length input ≤ 0 → Fitted (report_text (Err (Refused bad_model))) out out' n → Fitted (unread_heard input) out out' n
  says_none h f = subst (λ (t : List ℕ). Fitted t out out' n) (sym (heard-none input h)) f

  pub says_tape : {B N m : ℕ} → 0 < length input → B ≡ full_blocks → N ≡ full_tones → m ≡ model_of (get_or input 0 0)
      → Fitted (report_text (answer_of (load_named (lent_of B N) (take (length input - 1) (drop 1 input)) m))) out out' n
      → Fitted (unread_heard input) out out' n
  unfolding tape_said
  says_tape {B} {N} {m} h p q e f =
      let s = take (length input - 1) (drop 1 input) in
      let t : report_text (answer_of (load_named (lent_of B N) s m)) ≡ unread_heard input =
      ap (λ (x : ℕ). report_text (answer_of (load_named (lent_of x N) s m))) p
      ∙ ap (λ (x : ℕ). report_text (answer_of (load_named (lent_of full_blocks x) s m))) q
      ∙ ap (λ (x : List ℕ). tape_said x m) (behind input)
      ∙ ap (tape_said (drop 1 input)) e
      ∙ sym (heard_tape input h) in
      subst (λ (x : List ℕ). Fitted x out out' n) t f

-- a tape over 1,048,576 bytes
either_no : (bad : Bool) (s : List ℕ)
    → answer_of (named_load s (bad ⇒ no bad_model ∣ no tape_long)) ≡ (bad ⇒ Err (Refused bad_model) ∣ Err (Refused tape_long))
unfolding named_load answer_of
either_no true s = refl
either_no false s = refl

long : (tape : List ℕ) (m : ℕ) → 1048577 ≤ length tape → tape_said tape m ≡ report_text (leb 3 m ⇒ Err (Refused bad_model) ∣ Err (Refused tape_long))
unfolding tape_said load_named load_of
long tape m h = rw (lt-ltb 1048576 (length tape) (omega arith)) (ap report_text (either_no (leb 3 m) tape))

-- MORE THAN 1,048,578 BYTES need not be read: what is heard of an input is heard of so many
pub read_enough : (b : ℕ) (tape : List ℕ) → unread_heard (b ∷ take 1048577 tape) ≡ unread_heard (b ∷ tape)
read_enough b tape =
    heard_tape (b ∷ take 1048577 tape) (omega arith) ∙ by_length ∙ sym (heard_tape (b ∷ tape) (omega arith))
  where
    by_length : tape_said (take 1048577 tape) (model_of b) ≡ tape_said tape (model_of b)
    by_length =
        ⊎_elim
        (λ l. ap (λ (t : List ℕ). tape_said t (model_of b)) (take_all 1048577 tape (omega arith)))
        (λ g.
        let n : length (take 1048577 tape) ≡ 1048577 = length-take-le 1048577 tape g in
        long (take 1048577 tape) (model_of b) (omega arith) ∙ sym (long tape (model_of b) g))
        (lt_or_ge (length tape) 1048577)
