-- HOW LONG A LINE IS: a well-formed tone row has at most 18 bytes, and a ready row's line fits what it is lent. Assumes nothing.
use Prim.Native.Nat.{ℕ, zero, suc, ◌+◌, ◌*◌, ◌^◌, ◌/◌, ◌%◌, ◌≤◌, ◌<◌}
use native.Mathlib.Nat.{mul-suc, div-lt_iff_lt-mul, pow-suc}
use native.Mathlib.Omega.{arith}
use mathlib.Core.Path.{◌≡◌, refl, sym, subst}
use mathlib.Core.Bool.{Bool, true, false}
use mathlib.Core.List.{List, [], ◌∷◌, ◌++◌, append_assoc}
use lib.ListN.{length, take, drop, length-append, length-take}
use lib.Dec.{ltb}
use borrow.Author.Tests.{lt-ltb}
use Rattle.law_base.specs.Rules.{◌⇒◌, ◌∣◌}
use Rattle.law_base.proofs.Tests.{first, second}
use Rattle.rows.specs.Table.{get}
use Rattle.rows.specs.Rows.{block, tone}
use Rattle.rows.specs.Well.{well_tone, well_tones, well_block}
use Rattle.rows.specs.declared.Tone.{Tone}
use Rattle.rows.specs.declared.Block.{Block}
use Rattle.rows.proofs.WellLaws.{block_clauses, ranges_inside, tones_lent, tone-most}
use Rattle.play_entries.specs.declared.Duration.{Duration}
use Rattle.play_entries.specs.Mounted.{tape_size}
use Rattle.std.specs.Prelude.{Result, Ok, Err}
use Rattle.load_tape.specs.declared.Format.{Format}
use Rattle.load_tape.specs.declared.Format.TheVariants.{Tap, Tzx}
use Rattle.load_tape.specs.declared.Loaded.{Loaded}
use Rattle.load_tape.specs.declared.NotLoaded.{NotLoaded}
use Rattle.load_tape.specs.Load.{not_loaded_no}
use Rattle.text_out.specs.declared.Writer.{Writer}
use Rattle.text_out.specs.Out.{ascii, digits, decimal, Wrote, Fitted}
use Rattle.text_out.specs.Writes.{Writes}
use Rattle.text_out.proofs.Writing.{then, each-length, decimal-length, refused_line_length, wrote_fitted}
use Rattle.text_listing.specs.Page.{format_text}
use Rattle.prog_tape.specs.Lines.{first_line}
use Rattle.text_name.specs.Names.{name_of}
use Rattle.text_listing.proofs.Lines.{row_short}
use Rattle.text_view.specs.View.{View, tones_from, row_view}
use Rattle.text_view.specs.Dump.{hex, hex_all, tone_text, tones_text, head_text, view_line}
use Rattle.text_view.proofs.Parts.{hex-length, head_length}
use Rattle.prog_tape.specs.Inner.{data_text, pulses_text, ReadyLine}

-- a number below 10 ^ k has at most k digits
digits_few : (f k n : ℕ) → n < 10 ^ suc k → length (digits f n) ≤ suc k
unfolding digits
digits_few zero k n h = omega arith
digits_few (suc f) zero n h =
    let l : n < 10 = h in
    rw (lt-ltb n 10 l) (omega arith)
digits_few (suc f) (suc k) n h =
    by_cases (ltb n 10) (digits_few f k (n / 10) ((div-lt_iff_lt-mul (omega arith)).1 (rw (← pow-suc 10 (suc k)) h)))
  where
    by_cases : (b : Bool) → length (digits f (n / 10)) ≤ suc k
        → length (b ⇒ ((48 + n) ∷ []) ∣ digits f (n / 10) ++ ((48 + n % 10) ∷ [])) ≤ suc (suc k)
    by_cases true l = omega arith
    by_cases false l = simp length-append (omega arith)

decimal_five : (n : ℕ) → n ≤ 65535 → length (decimal n) ≤ 5
unfolding decimal
decimal_five n h = let l : n < 10 ^ 5 = omega arith in digits_few 20 4 n l

tone-short : (t : Tone) → well_tone t ≡ true → length (tone_text t) ≤ 18
unfolding tone_text
tone-short t e =
    let h = tone-most t e in
    simp length-append (omega (
      arith,
      decimal_five t.num h.num,
      decimal_five t.len1 h.len1,
      decimal_five t.len2 h.len2,
    ))

tones-short : (tones : List ℕ) (from n : ℕ) → well_tones tones from n ≡ true → length (tones_text (tones_from tones from n)) ≤ 18 * n
unfolding well_tones tones_text tones_from
tones-short tones from zero e = omega arith
tones-short tones from (suc n) e =
    let a = tone-short (get tone tones from) (first (well_tone (get tone tones from)) (well_tones tones (from + 1) n) e) in
    let b = tones-short tones (from + 1) n (second (well_tone (get tone tones from)) (well_tones tones (from + 1) n) e) in
    simp (length-append, mul-suc) (omega arith)

-- bytes in hexadecimal, and a part of n bytes, which has no more
hex-most : (s : List ℕ) → length (hex_all s) ≤ 2 * length s
hex-most s = each-length hex 2 hex-length s

part_most : (n from : ℕ) (s : List ℕ) → length (take n (drop from s)) ≤ n
part_most n from s = omega (arith, length-take n (drop from s))

-- the first line, and that it fits 32 bytes
format_length : (f : Format) → length (format_text f) ≤ 3
unfolding format_text
format_length Tap = omega arith
format_length Tzx = omega arith

first_most : (a : Result Loaded NotLoaded) → length (first_line a) ≤ 32
unfolding first_line
first_most (Ok l) = simp length-append (omega (arith, format_length l.format, decimal-length l.blocks))
first_most (Err e) = omega (arith, refused_line_length (not_loaded_no e))

pub first_fits : {out out' : List ℕ} {n : ℕ} (a : Result Loaded NotLoaded) → Wrote out 0 (first_line a) out' n → 32 ≤ length out
    → Fitted (first_line a) out out' n
first_fits a w h = wrote_fitted w (omega (arith, first_most a))

-- how far a line's numbers reach, its name, and its data
module _ {w v : Writer} where
  pub head_next : (i : ℕ) (b : Bool) (nil one last : ℕ) (p : Duration) → Writes w (head_text i b nil one last p) v → v.at ≤ w.at + 136
  head_next i b nil one last p q = omega (arith, q.wrote.count, head_length i b nil one last p)

  pub name_next : (s : List ℕ) → Writes w (hex_all s) v → v.at ≤ w.at + 2 * length s
  name_next s q = omega (arith, q.wrote.count, hex-most s)

  pub data_next : (n from : ℕ) (s : List ℕ) → Writes w (data_text (take n (drop from s))) v → v.at ≤ w.at + 2 * n + 6
  data_next n from s q = omega (arith, q.wrote.count, hex-most (take n (drop from s)), part_most n from s)

-- what a well-formed row's ranges are inside of
pub record Inside (tape : List ℕ) (tones : List ℕ) (r : Block) : Type 0 where
  pub bytes : r.start + r.size ≤ length tape
  pub name : r.text + r.chars ≤ length tape
  pub few : r.start + r.size ≤ 1048576
  pub chars : r.text + r.chars ≤ 1048576
  pub rows : (r.tone + r.tones) * tone.width ≤ length tones
  pub most : r.tones ≤ 65536

pub row_inside : (tape tones : List ℕ) (r : Block) → well_block (tape_size tape) tones r ≡ true → Inside tape tones r
row_inside tape tones r e =
    let h = (block_clauses (tape_size tape) tones r e).ranges in
    let i = ranges_inside (tape_size tape) tones r h in
    record {
      bytes = omega (arith, i.bytes);
      name = omega (arith, i.name);
      few = omega (arith, i.bytes);
      chars = omega (arith, i.name);
      rows = tones_lent (tape_size tape) tones r h;
      most = omega (arith, i.rows);
    }

-- A LINE IS ITS PARTS
joined : (h n a x b y c : List ℕ) → h ++ n ++ (a ++ x) ++ (b ++ y ++ c) ≡ h ++ n ++ a ++ x ++ b ++ y ++ c
joined h n a x b y c = simp append_assoc refl

pub line_joins : (i : ℕ) (v : View)
    → head_text i v.selectable v.zero v.one v.last v.pause ++ hex_all v.name ++ data_text v.bytes ++ pulses_text v.tones
    ≡ view_line i v
unfolding view_line
line_joins i v =
    joined (head_text i v.selectable v.zero v.one v.last v.pause) (hex_all v.name) (ascii " data=") (hex_all v.bytes)
    (ascii " tones=") (tones_text v.tones) (ascii "\n")

-- what was written of a line's parts
pub line_written : {w w1 w2 w3 w4 : Writer} (i : ℕ) (v : View)
    → Writes w (head_text i v.selectable v.zero v.one v.last v.pause) w1 → Writes w1 (hex_all v.name) w2
    → Writes w2 (data_text v.bytes) w3 → Writes w3 (pulses_text v.tones) w4 → Writes w (view_line i v) w4
line_written {w} {w4 = w4} i v h n b t =
    subst (λ (l : List ℕ). Writes w l w4) (line_joins i v) (then (then (then h n) b) t)

-- EVERY LINE FITS
pub line_most : (tape tones : List ℕ) (i : ℕ) (r : Block) → well_block (tape_size tape) tones r ≡ true → length (name_of tape r) ≤ 510
    → length (view_line i (row_view tape tones r)) ≤ 1200 + 2 * length tape + 5 * length tones
line_most tape tones i r e h =
    let v = row_view tape tones r in
    let q = row_inside tape tones r e in
    let a = head_length i v.selectable v.zero v.one v.last v.pause in
    let b = hex-most (name_of tape r) in
    let c = hex-most v.bytes in
    let d = part_most r.size r.start tape in
    let g = tones-short tones r.tone r.tones (block_clauses (tape_size tape) tones r e).rows in
    rw (← line_joins i v) (simp length-append (omega arith))

-- a row that was read from the table is well formed
pub line_well : {tape tones blocks : List ℕ} {i : ℕ} {r : Block} → ReadyLine tape tones blocks i → r ≡ get block blocks i
    → well_block (tape_size tape) tones r ≡ true
line_well {tape} {tones} ready e = subst (λ (q : Block). well_block (tape_size tape) tones q ≡ true) (sym e) ready.well

-- and its line fits
pub line_fits : {out out' : List ℕ} {n : ℕ} (tape tones blocks : List ℕ) (i : ℕ) (r : Block) → ReadyLine tape tones blocks i
    → r ≡ get block blocks i → 1200 + 2 * length tape + 5 * length tones ≤ length out
    → Wrote out 0 (view_line i (row_view tape tones r)) out' n
    → Fitted (view_line i (row_view tape tones (get block blocks i))) out out' n
line_fits {out} {out'} {n} tape tones blocks i r ready e room w =
    subst (λ (q : Block). Fitted (view_line i (row_view tape tones q)) out out' n) e
    (wrote_fitted w (omega (arith, line_most tape tones i r (line_well ready e) (row_short ready.row e))))
