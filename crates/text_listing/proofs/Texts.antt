-- How long each part of a row's text is: a row has at most 576 bytes; and what was written of the rows. Assumes nothing.
use Prim.Native.Nat.{ℕ, zero, suc, ◌+◌, ◌*◌, ◌/◌, ◌%◌, ◌≤◌}
use native.Mathlib.Numerals.{add-one}
use native.Mathlib.Omega.{arith}
use mathlib.Core.Path.{◌≡◌, refl, ap, subst, ◌∙◌}
use mathlib.Core.Bool.{Bool, true, false}
use mathlib.Core.List.{List, [], ◌∷◌, ◌++◌, append_assoc}
use lib.ListN.{length, length-append}
use lib.Dec.{eqb, ltb}
use Rattle.law_base.specs.Rules.{◌⇒◌, ◌∣◌}
use Rattle.text_out.specs.declared.Writer.{Writer}
use Rattle.text_out.specs.Out.{ascii, digits, decimal}
use Rattle.text_out.specs.Writes.{Writes}
use Rattle.text_out.proofs.Writing.{then, decimal-length}
use Rattle.rows.specs.declared.Block.{Block}
use Rattle.rows.specs.Table.{get}
use Rattle.rows.specs.Rows.{block}
use Rattle.text_name.specs.Names.{name_of}
use Rattle.play_entries.specs.declared.Duration.{Duration}
use Rattle.play_entries.specs.declared.Duration.TheVariants.{T, Endless}
use Rattle.play_entries.specs.Stored.{row_lasts}
use Rattle.play_entries.specs.Places.{Tape, block_in}
use Rattle.play_entries.specs.Mounted.{tape_of}
use Rattle.text_listing.specs.Inner.{row_head_text, row_tail_text, Ready}
use Rattle.text_listing.specs.Shown.{shown}
use Rattle.text_listing.specs.Lines.{time_text, mark_text, row_text_by, rows_text_by, row_text, rows_text}
use Rattle.text_value.specs.Values.{lasts_text}
use Rattle.text_listing.proofs.Showing.{shown-length}

-- at least so long, and at most
pub record Long (from to : ℕ) (t : List ℕ) : Type 0 where
  pub low : from ≤ length t
  pub high : length t ≤ to

-- a rule's text is as long as either
pub either : {a b : ℕ} (t : Bool) {x y : List ℕ} → Long a b x → Long a b y → Long a b (t ⇒ x ∣ y)
either true h k = h
either false h k = k

pub decimal_long : (n : ℕ) → Long 1 20 (decimal n)
unfolding decimal digits
decimal_long n = record { low = some (ltb n 10); high = decimal-length n }
  where
    some : (t : Bool) → 1 ≤ length (t ⇒ ((48 + n) ∷ []) ∣ digits 19 (n / 10) ++ ((48 + n % 10) ∷ []))
    some true = omega arith
    some false = simp length-append (omega arith)

pub time_long : (d : Duration) → Long 1 20 (time_text d)
unfolding time_text
time_long (T n) = decimal_long n
time_long Endless = record { low = omega arith; high = omega arith }

pub stop_most : (d : Duration) → length (lasts_text (ascii "stop") d) ≤ 20
stop_most (T n) = decimal-length n
stop_most Endless = omega arith

pub mark_long : (t : Bool) → Long 1 1 (mark_text t)
unfolding mark_text
mark_long t = either t (record { low = omega arith; high = omega arith }) (record { low = omega arith; high = omega arith })

pub mark_most : (t : Bool) → length (mark_text t) ≤ 1
mark_most t = (mark_long t).high

pub head_most : (i : ℕ) (r : Block) → length (row_head_text i r) ≤ 44
head_most i r =
    let a = decimal_long i in
    let b = mark_long (eqb r.selectable 1) in
    let c = decimal_long r.size in
    simp length-append (omega arith)

pub tail_most : (d : Duration) (name : List ℕ) → length name ≤ 510 → length (row_tail_text d name) ≤ 532
tail_most d name h =
    let a = time_long d in
    let e = shown-length name in
    simp length-append (omega arith)

-- a row's line is its two parts
joined : (h t a n b : List ℕ) → h ++ (t ++ a ++ n ++ b) ≡ h ++ t ++ a ++ n ++ b
joined h t a n b = simp append_assoc refl

pub row_joins : (s tones blocks : List ℕ) (n i : ℕ) (r : Block) → r ≡ get block blocks i
    → row_head_text i r ++ row_tail_text (row_lasts r) (name_of s r) ≡ row_text (tape_of s tones blocks n) i
unfolding row_text_by
row_joins s tones blocks n i r e =
    let q = get block blocks i in
    ap (λ (y : Block). row_head_text i y ++ row_tail_text (row_lasts y) (name_of s y)) e
    ∙ joined (row_head_text i q) (time_text (row_lasts q)) (0x20 ∷ []) (shown (name_of s q)) (0x0A ∷ [])

pub row_most : (w : Tape) (i : ℕ) → length (name_of w.bytes (block_in w i)) ≤ 510 → length (row_text w i) ≤ 576
row_most w i h =
    let r = block_in w i in
    let e = row_joins w.bytes w.tones w.blocks w.count i r refl in
    let a = head_most i r in
    let b = tail_most (row_lasts r) (name_of w.bytes r) h in
    let l = length-append (row_head_text i r) (row_tail_text (row_lasts r) (name_of w.bytes r)) in
    omega (arith, ap length e)

-- the first i rows of a tape whose rows are ready
pub rows-most : {s blocks : List ℕ} {n : ℕ} → Ready s blocks n → (tones : List ℕ) (i : ℕ) → i ≤ n
    → length (rows_text (tape_of s tones blocks n) i) ≤ 576 * i
unfolding rows_text_by
rows-most r tones zero h = omega arith
rows-most {s} {blocks} {n} r tones (suc i) h =
    let a = rows-most r tones i (omega arith) in
    let b = row_most (tape_of s tones blocks n) i (r.rows i (omega arith)).short in
    simp length-append (omega arith)

-- one row more
pub rows_next : {w₀ w v : Writer} (t : Tape) (i : ℕ) → Writes w₀ (rows_text t i) w → Writes w (row_text t i) v
    → Writes w₀ (rows_text t (i + 1)) v
unfolding rows_text_by
rows_next t i p q = rw add-one (then p q)

-- what was written of a row's two parts
pub row_written : {w₀ w v : Writer} (s tones blocks : List ℕ) (n i : ℕ) (r : Block) (d : Duration)
    → r ≡ get block blocks i → d ≡ row_lasts r → Writes w₀ (row_head_text i r) w → Writes w (row_tail_text d (name_of s r)) v
    → Writes w₀ (row_text (tape_of s tones blocks n) i) v
row_written {w₀} {v = v} s tones blocks n i r d e f p q =
    let parts = ap (λ (x : Duration). row_head_text i r ++ row_tail_text x (name_of s r)) f in
    subst (λ (t : List ℕ). Writes w₀ t v) (parts ∙ row_joins s tones blocks n i r e) (then p q)

-- by which a row's parts stay below a bound
pub ruleset parts_most = (mark_most, stop_most, shown-length)
