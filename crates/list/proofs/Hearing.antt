-- What is heard of an input by its first byte, and what is printed of it; more than 65,537 bytes need not be read. Assumes nothing.
use Prim.Native.Nat.{ℕ, ◌-◌, ◌≤◌, ◌<◌}
use native.Mathlib.Omega.{arith}
use mathlib.Core.Path.{◌≡◌, refl, sym, ap, ◌∙◌}
use mathlib.Core.Logic.{⊎_elim}
use mathlib.Core.List.{List, [], ◌∷◌}
use lib.Dec.{leb}
use lib.ListN.{length, length-drop, get_or, take, drop}
use lib.Seq.{length-take-le, take_all}
use borrow.Author.Tests.{lt-ltb}
use Rattle.text_out.specs.Out.{refused_line}
use Rattle.law_base.specs.Rules.{◌⇒◌, ◌∣◌}
use Rattle.law_base.proofs.Numbers.{lt_or_ge}
use Rattle.refusals.specs.Refusals.{bad_model, tape_long}
use Rattle.io.specs.Counts.{IsPrefixLen}
use Rattle.listing.specs.Listing.{refused, listing_of, listing_by}
use Rattle.listing.specs.Printed.{printed_of, Says}
use Rattle.prog_model.specs.Models.{model_of}
use Rattle.list.specs.Heard.{listing_heard}

heard-none : (input : List ℕ) → length input ≤ 0 → listing_heard input ≡ refused bad_model
unfolding listing_heard
heard-none [] h = refl
heard-none (b ∷ tape) h = absurd (omega arith)

heard_tape : (input : List ℕ) → 0 < length input → listing_heard input ≡ listing_of (drop 1 input) (model_of (get_or input 0 0))
unfolding listing_heard
heard_tape [] h = absurd (omega arith)
heard_tape (b ∷ tape) h = refl

-- bytes that say what is heard
abbrev pub Answers : List ℕ → ℕ → List ℕ → Type 0
Answers input r out = IsPrefixLen r out × (take r out ≡ printed_of (listing_heard input))

answers : {t : List ℕ} {r : ℕ} {out : List ℕ} (input : List ℕ) → t ≡ printed_of (listing_heard input) → Says t r out
    → Answers input r out
answers {r = r} {out} input e s = ((s.count, sym (length-take-le r out s.count)), s.front ∙ e)

pub says_none : {r : ℕ} {out : List ℕ} (input : List ℕ) → length input ≤ 0 → Says (refused_line bad_model) r out
    → Answers input r out
unfolding printed_of
says_none input h s = answers input (sym (ap printed_of (heard-none input h))) s

-- all from byte 1 on is the tape
behind : (input : List ℕ) → take (length input - 1) (drop 1 input) ≡ drop 1 input
behind input = take_all (length input - 1) (drop 1 input) (rw length-drop (omega arith))

pub says_tape : {r m : ℕ} {out : List ℕ} (input : List ℕ) → 0 < length input → m ≡ model_of (get_or input 0 0)
    → Says (printed_of (listing_of (take (length input - 1) (drop 1 input)) m)) r out → Answers input r out
says_tape {m = m} input h e s =
    answers input
    (ap (λ (l : List ℕ). printed_of (listing_of l m)) (behind input)
    ∙ ap (λ (n : ℕ). printed_of (listing_of (drop 1 input) n)) e
    ∙ sym (ap printed_of (heard_tape input h)))
    s

-- a tape over 65,535 bytes
long : (tape : List ℕ) (m : ℕ) → 65536 ≤ length tape → listing_of tape m ≡ (leb 3 m ⇒ refused bad_model ∣ refused tape_long)
unfolding listing_by
long tape m h = rw (lt-ltb 65535 (length tape) (omega arith))

-- MORE THAN 65,537 BYTES need not be read: what is heard of an input is heard of so many
pub read_enough : (b : ℕ) (tape : List ℕ) → listing_heard (b ∷ take 65536 tape) ≡ listing_heard (b ∷ tape)
unfolding listing_heard
read_enough b tape =
    ⊎_elim
    (λ l. ap (λ (t : List ℕ). listing_of t (model_of b)) (take_all 65536 tape (omega arith)))
    (λ g.
    let n : length (take 65536 tape) ≡ 65536 = length-take-le 65536 tape g in
    long (take 65536 tape) (model_of b) (omega arith) ∙ sym (long tape (model_of b) g))
    (lt_or_ge (length tape) 65536)
