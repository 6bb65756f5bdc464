-- THE TABLES THAT A LOAD LEAVES for a TZX of kept pieces play what the format says of its pieces, one after the other. Assumes nothing.
use Prim.Native.Nat.{ℕ, suc, ◌+◌, ◌-◌, ◌<◌}
use native.Mathlib.Omega.{arith}
use mathlib.Core.Path.{◌≡◌, refl, sym, ap, ap₂, ◌∙◌}
use mathlib.Core.Bool.{Bool, true, false}
use mathlib.Core.List.{List, [], ◌∷◌, ◌++◌, append-nil}
use lib.ListN.{length, get_or}
use lib.Dec.{eqb}
use Rattle.std.specs.Prelude.{Result, Ok}
use Rattle.law_base.specs.Rules.{◌⇒◌, ◌∣◌}
use Rattle.law_pulses.specs.Play.{Entry}
use Rattle.law_pulses.specs.Runs.{run}
use Rattle.rows.specs.Table.{get, table_of, zeros}
use Rattle.rows.specs.Rows.{block, tone, decode_block, with_mark}
use Rattle.rows.specs.declared.Block.{Block}
use Rattle.rows.specs.declared.Tone.{Tone}
use Rattle.rows.proofs.Tables.{get_row}
use Rattle.play_entries.specs.Entries.{Label, entries_of}
use Rattle.play_entries.specs.Places.{list_from}
use Rattle.play_entries.specs.Mounted.{tape_of}
use Rattle.text_name.specs.Names.{is_header, unselected, name_one, name_all}
use Rattle.load_state.specs.Parser.{Parsed, empty}
use Rattle.load_blocks.specs.Does.{lent_of}
use Rattle.load_source.specs.Source.{Load, tzx, tapped, both_err, no, load_of}
use Rattle.load_tape.specs.declared.Format.{Format}
use Rattle.load_tape.specs.declared.Format.TheVariants.{Tap, Tzx}
use Rattle.load_tape.specs.declared.Loaded.{Loaded}
use Rattle.load_tape.specs.declared.NotLoaded.{NotLoaded}
use Rattle.load_tape.specs.Load.{named_tape, named_load, load_named, answer_of, block_table, tone_table, Leaves, loaded_as}
use Rattle.law_tzx.specs.Format.{PulseLength, lasting}
use Rattle.law_tzx.specs.Kept.{lengths, entries_from, Plays}
use Rattle.law_tzx.specs.Tapes.{kept_tape, format_tape}
use Rattle.law_tzx.proofs.Unheard.{marked_same}
use Rattle.law_tzx.proofs.Tapes.{tape_keeps}

-- the rows of a table, from row b on
list_rows : (s tt bt : List ℕ) (d : Block) (rs : List Block) (b : ℕ)
    → ((i : ℕ) → i < length rs → get block bt (b + i) ≡ get_or rs i d)
    → run (λ i. entries_of s tt i (get block bt i)) b (length rs) ≡ entries_from s tt b rs
unfolding run entries_from
list_rows s tt bt d [] b h = refl
list_rows s tt bt d (r ∷ rs) b h =
    let z : b + 0 ≡ b = omega arith in
    let e : get block bt b ≡ r = ap (get block bt) (sym z) ∙ h 0 (omega arith) in
    ap₂ (λ (x y : List (Entry Label)). x ++ y) (ap (entries_of s tt b) e)
    (list_rows s tt bt d rs (b + 1)
    (λ i k. let q : b + 1 + i ≡ b + suc i = omega arith in ap (get block bt) q ∙ h (suc i) (omega arith)))

-- the naming pass is not heard
list_named : (s tt : List ℕ) (b : ℕ) (p : Bool) (rs : List Block) → entries_from s tt b (name_all s p rs) ≡ entries_from s tt b rs
unfolding name_all name_one unselected entries_from
list_named s tt b p [] = refl
list_named s tt b p (r ∷ rs) =
    ap₂ (λ (x y : List (Entry Label)). x ++ y) (by_header (is_header s r) p) (list_named s tt (b + 1) (is_header s r) rs)
  where
    by_header : (h q : Bool) → entries_of s tt b (h ⇒ r ∣ q ⇒ with_mark 0 r ∣ r) ≡ entries_of s tt b r
    by_header true q = refl
    by_header false true = marked_same s tt b 0 r
    by_header false false = refl

-- a load whose answer is a TZX: the tape that was read, and its tables
record Left (B N : ℕ) (s : List ℕ) (a : Load) (n : ℕ) (bt tt : List ℕ) : Type 0 where
  tape : Parsed
  read : a ≡ tzx tape
  count : n ≡ length (name_all s false tape.blocks)
  blocks : bt ≡ table_of block (name_all s false tape.blocks) B
  tones : tt ≡ table_of tone tape.tones N

-- answers that are one tell one format and one count
answered : (f g : Format) (n m k j : ℕ)
    → ◌≡◌ {A = Result Loaded NotLoaded} (Ok (loaded_as f n k)) (Ok (loaded_as g m j)) → (f ≡ g) × (n ≡ m)
answered f g n m k j e =
    let r : loaded_as f n k ≡ loaded_as g m j = cc in
    (ap (λ (d : Loaded). d.format) r, ap (λ (d : Loaded). d.blocks) r)

left_tzx : {B N : ℕ} (s : List ℕ) (a : Load) {n k : ℕ} {bt tt : List ℕ} → Leaves B N (named_load s a) (Ok (loaded_as Tzx n k)) bt tt
    → Left B N s a n bt tt
unfolding named_load named_tape answer_of block_table tone_table
left_tzx s (tzx t) {n} {k} l =
    let c = answered Tzx Tzx n (length (name_all s false t.blocks)) k (length t.tones) l.answer in
    record { tape = t; read = refl; count = c.1; blocks = l.blocks; tones = l.tones }
left_tzx s (tapped t) {n} {k} l =
    let e = (answered Tzx Tap n (length (name_all s false t.blocks)) k (length t.tones) l.answer).0 in
    absurd (let z : ◌≡◌ {A = ℕ} 0 1 = cc in omega arith)
left_tzx s (both_err f g) l = let e = l.answer in absurd (let z : ◌≡◌ {A = ℕ} 0 1 = cc in omega arith)
left_tzx s (no j) l = let e = l.answer in absurd (let z : ◌≡◌ {A = ℕ} 0 1 = cc in omega arith)

-- a tape's list over tables of rows
list_mounted : (s tt : List ℕ) (rs : List Block) (B : ℕ) {n : ℕ} {bt : List ℕ} → n ≡ length rs → bt ≡ table_of block rs B
    → list_from (tape_of s tt bt n) 0 ≡ entries_from s tt 0 rs
unfolding list_from
list_mounted s tt rs B {n} {bt} e q =
    let m : n - 0 ≡ length rs = omega arith in
    ap₂ (λ (x : List ℕ) (k : ℕ). run (λ i. entries_of s tt i (get block x i)) 0 k) q m
    ∙ list_rows s tt (table_of block rs B) (decode_block []) rs 0 (λ i h.
    let z : 0 + i ≡ i = omega arith in
    ap (get block (table_of block rs B)) z ∙ get_row block rs (zeros B) i (decode_block []) h)

-- what was played from an empty tape on is the whole tape's list
whole-plays : {s : List ℕ} {ls : List PulseLength} {t : Parsed} → Plays s ls empty t → (N : ℕ)
    → lasting (lengths (entries_from s (table_of tone t.tones N) 0 t.blocks)) ≡ lasting ls
unfolding empty
whole-plays {s} {ls} {t} p N =
    ap₂ (λ (ts : List Tone) (rs : List Block). lasting (lengths (entries_from s (table_of tone ts N) 0 rs)))
    (sym (append-nil t.tones)) p.added
    ∙ p.plays [] N 0

-- WHAT A LOAD LEAVES: the list of the mounted tape, in lengths, is what the format plays
pub load_keeps : (B N : ℕ) (s : List ℕ) (model : ℕ) {n k : ℕ} {bt tt : List ℕ}
    → Leaves B N (load_named (lent_of B N) s model) (Ok (loaded_as Tzx n k)) bt tt → kept_tape s ≡ true
    → lasting (lengths (list_from (tape_of s tt bt n) 0)) ≡ lasting (format_tape (eqb model 0) s)
unfolding load_named
load_keeps B N s model {n} {k} {bt} {tt} l e =
    let q = left_tzx s (load_of (lent_of B N) s model) l in
    let t = q.tape in
    let rs = name_all s false t.blocks in
    ap (λ (x : List ℕ). lasting (lengths (list_from (tape_of s x bt n) 0))) q.tones
    ∙ ap (λ es. lasting (lengths es)) (list_mounted s (table_of tone t.tones N) rs B q.count q.blocks)
    ∙ ap (λ es. lasting (lengths es)) (list_named s (table_of tone t.tones N) 0 false t.blocks)
    ∙ whole-plays (tape_keeps (lent_of B N) s model q.read e) N
