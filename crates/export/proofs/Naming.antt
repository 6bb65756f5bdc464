-- A name as a host gets it: where there is no word for its length no byte is written, and the refusals are the data size's.
-- Assumes nothing.
use Rattle.std.specs.Prelude.{Result, Ok, Err}
use Rattle.std.proofs.Common.{◌≡◌, ℕ, ◌<◌, ◌≤◌, Bool, true, false, List, length, refl, sym, ◌∙◌}
use borrow.Author.Tests.{le-ltb, lt-ltb, lt-leb}
use Rattle.law_base.specs.Rules.{◌⇒◌, ◌∣◌}
use Rattle.refusals.specs.declared.Refusal.{Refusal}
use Rattle.refusals.specs.declared.Refusal.TheVariants.{NoRoom}
use Rattle.refusals.specs.Refusals.{no_room, number}
use Rattle.rows.specs.declared.Block.{Block}
use Rattle.text_out.specs.Out.{fits, told}
use Rattle.text_name.specs.Names.{name_of}
use Rattle.play_entries.specs.Places.{Tape}
use Rattle.ask.specs.Queries.{asked, told_of, named_or, size_of, length_or_no_room, name_answer, name_bytes}
use Rattle.host_answers.specs.Answers.{number_of, values_of, of_number}
use Rattle.export.specs.Export.{name_left}
use Rattle.host_answers.proofs.Telling.{tell_refused}

-- a number for which there is no word
no_word : (n : ℕ) (row : List ℕ) → length row < 1
    → (number_of (of_number (Ok n)) row ≡ no_room) × (values_of (of_number (Ok n)) row ≡ row)
unfolding number_of values_of told
no_word n row h = (rw (lt-leb 1 (length row) h), rw (lt-leb 1 (length row) h))

no_number : (k : Refusal) (row : List ℕ)
    → (number_of (of_number (Err k)) row ≡ number k) × (values_of (of_number (Err k)) row ≡ row)
no_number k row = (sym (tell_refused (number k) row).0, sym (tell_refused (number k) row).1)

-- a length, or 10 since the bytes don't hold the name: 10 either way
no_length : (t : Bool) (n : ℕ) (row : List ℕ) → length row < 1
    → (number_of (of_number (t ⇒ Ok n ∣ Err NoRoom)) row ≡ no_room) × (values_of (of_number (t ⇒ Ok n ∣ Err NoRoom)) row ≡ row)
no_length true n row h = no_word n row h
no_length false n row h = no_number NoRoom row

-- so the size and the name are told alike
alike : (w : Tape) (r : Result Block Refusal) (out row : List ℕ) → length row < 1
    → (number_of (of_number (told_of (λ x. x.size) r)) row ≡ number_of (of_number (named_or w out r)) row)
    × (values_of (of_number (told_of (λ x. x.size) r)) row ≡ values_of (of_number (named_or w out r)) row)
unfolding told_of named_or length_or_no_room
alike w (Ok b) out row h =
    let t = fits (name_of w.bytes b) out in
    let n = length (name_of w.bytes b) in
    ((no_word b.size row h).0 ∙ sym (no_length t n row h).0, (no_word b.size row h).1 ∙ sym (no_length t n row h).1)
alike w (Err k) out row h = (refl, refl)

pub name_unwritten : (w : Tape) (i : ℕ) (out row : List ℕ) {a : Result ℕ Refusal} {k : ℕ} {row' : List ℕ} → length row < 1
    → a ≡ size_of w i
    → (k ≡ number_of (of_number a) row) × (row' ≡ values_of (of_number a) row)
    → (k ≡ number_of (of_number (name_answer w i out)) row)
    × ((out ≡ name_left w i row out) × (row' ≡ values_of (of_number (name_answer w i out)) row))
unfolding size_of name_answer name_left
name_unwritten w i out row h q e =
    let both = alike w (asked w i) out row h in
    let f = rw q at e in
    (f.0 ∙ both.0, (rw (lt-ltb (length row) 1 h), f.1 ∙ both.1))

pub name_written : (w : Tape) (i : ℕ) (out row : List ℕ) {a : Result ℕ Refusal} {k : ℕ} {out' row' : List ℕ} → 1 ≤ length row
    → (a ≡ name_answer w i out) × (out' ≡ name_bytes w i out)
    → (k ≡ number_of (of_number a) row) × (row' ≡ values_of (of_number a) row)
    → (k ≡ number_of (of_number (name_answer w i out)) row)
    × ((out' ≡ name_left w i row out) × (row' ≡ values_of (of_number (name_answer w i out)) row))
unfolding name_left
name_written w i out row h q e =
    let f = rw q.0 at e in
    (f.0, (rw (le-ltb (length row) 1 h) q.1, f.1))
