-- How long each part of a listing's text is: a tape of 512 rows has at most 300,000 bytes, and none has fewer than 37;
-- and what was written of it. Assumes nothing.
use Prim.Native.Nat.{ℕ, ◌+◌, ◌*◌, ◌≤◌}
use native.Mathlib.Omega.{arith}
use mathlib.Core.Path.{◌≡◌, subst}
use mathlib.Core.List.{List}
use lib.ListN.{length, length-append}
use lib.Dec.{eqb}
use Rattle.text_out.specs.declared.Writer.{Writer}
use Rattle.text_out.specs.Out.{ascii}
use Rattle.text_out.specs.Writes.{Writes}
use Rattle.text_out.proofs.Writing.{then}
use Rattle.play_entries.specs.Places.{Tape}
use Rattle.play_entries.specs.Stored.{rows_time}
use Rattle.play_entries.specs.Mounted.{tape_of}
use Rattle.load_tape.specs.declared.Format.{Format}
use Rattle.load_tape.specs.declared.Format.TheVariants.{Tap, Tzx}
use Rattle.text_listing.specs.Inner.{Ready}
use Rattle.text_listing.specs.Lines.{rows_text}
use Rattle.text_listing.proofs.Texts.{Long, either, decimal_long, rows-most}
use Rattle.text_listing.specs.Page.{model_text, format_text, count_text, loading_text, rest_text, listing_text}

pub model_long : (m : ℕ) → Long 3 5 (model_text m)
unfolding model_text
model_long m =
    either (eqb m 0) (record { low = omega arith; high = omega arith })
    (either (eqb m 1) (record { low = omega arith; high = omega arith }) (record { low = omega arith; high = omega arith }))

pub format_long : (f : Format) → Long 3 3 (format_text f)
unfolding format_text
format_long Tap = record { low = omega arith; high = omega arith }
format_long Tzx = record { low = omega arith; high = omega arith }

pub format_most : (f : Format) → length (format_text f) ≤ 3
format_most f = (format_long f).high

pub count_long : (f : Format) (n : ℕ) → Long 21 40 (count_text f n)
unfolding count_text
count_long f n =
    let a = format_long f in
    let b = decimal_long n in
    record { low = simp length-append (omega arith); high = simp length-append (omega arith) }

pub loading_long : (n : ℕ) → Long 7 26 (loading_text n)
unfolding loading_text
loading_long n =
    let a = decimal_long n in
    record { low = simp length-append (omega arith); high = simp length-append (omega arith) }

pub model_most : (m : ℕ) → length (model_text m) ≤ 5
model_most m = (model_long m).high

pub count_most : (f : Format) (n : ℕ) → length (count_text f n) ≤ 40
count_most f n = (count_long f n).high

-- by which the first line's parts stay below a bound
pub ruleset parts_most = (model_most, count_most)

-- THE WHOLE TEXT, by its rows; there are at most 512
pub text-rows : {s blocks : List ℕ} {n : ℕ} (m : ℕ) (f : Format) → Ready s blocks n → (tones : List ℕ)
    → length (listing_text m f (tape_of s tones blocks n)) ≤ 77 + 576 * n
unfolding listing_text rest_text
text-rows {s} {blocks} {n} m f r tones =
    let a = model_long m in
    let b = count_long f n in
    let c = rows-most r tones n (omega arith) in
    let d = loading_long (rows_time (tape_of s tones blocks n)) in
    simp length-append (omega arith)

pub text-most : {s blocks : List ℕ} {n : ℕ} (m : ℕ) (f : Format) → Ready s blocks n → (tones : List ℕ)
    → length (listing_text m f (tape_of s tones blocks n)) ≤ 300000
text-most m f r tones = omega (arith, text-rows m f r tones, r.few)

pub text_least : (m : ℕ) (f : Format) (w : Tape) → 37 ≤ length (listing_text m f w)
unfolding listing_text rest_text
text_least m f w =
    let a = model_long m in
    let b = count_long f w.count in
    let d = loading_long (rows_time w) in
    simp length-append (omega arith)

-- what was written of the parts of the whole text
pub listing_written : {w w1 w2 w3 w4 w5 : Writer} (m : ℕ) (f : Format) (t : Tape) (total : ℕ)
    → total ≡ rows_time t → Writes w (ascii "model ") w1 → Writes w1 (model_text m) w2 → Writes w2 (count_text f t.count) w3
    → Writes w3 (rows_text t t.count) w4 → Writes w4 (loading_text total) w5 → Writes w (listing_text m f t) w5
unfolding listing_text rest_text loading_text
listing_written {w4 = w4} {w5} m f t total e p q r u v =
    then (then p q) (then (then r u) (subst (λ (n : ℕ). Writes w4 (loading_text n) w5) e v))
