-- EVERY NAME OF EVERY LOAD IS AT MOST 510 BYTES LONG: a given one has at most 255 characters, and no other has more than 117 bytes.
-- Assumes nothing but that bytes are below 256.
use Prim.Native.Nat.{ℕ, ◌≤◌, ◌<◌}
use native.Mathlib.Omega.{arith}
use mathlib.Core.Path.{◌≡◌, refl, sym, subst}
use mathlib.Core.Bool.{false}
use mathlib.Core.List.{List}
use lib.ListN.{length, get_or, take, drop, length-append, length-take}
use lib.Dec.{eqb}
use Rattle.text_out.specs.Out.{latin1}
use Rattle.text_out.proofs.Writing.{decimal-length, latin1-length, each-length}
use Rattle.rows.specs.declared.Block.{Block}
use Rattle.rows.specs.declared.Tone.{Tone}
use Rattle.rows.specs.Table.{get, table_of, zeros}
use Rattle.rows.specs.Rows.{block}
use Rattle.rows.proofs.Tables.{get_row}
use Rattle.load_state.specs.Parser.{Parsed}
use Rattle.load_state.proofs.Kept.{all_get}
use Rattle.load_blocks.specs.Sounds.{row_of}
use Rattle.load_blocks.specs.Does.{lent_of}
use Rattle.load_source.specs.Source.{load_of}
use Rattle.text_name.specs.Names.{is_header, size_shown, size_name, guessed, name_of, unselected, name_all}
use Rattle.text_name.proofs.Headers.{either, header_length}
use Rattle.text_name.proofs.Selecting.{name_all-length}
use Rattle.law_every_load.specs.Sizes.{Bytes}
use Rattle.law_every_load.specs.OfSource.{Everywhere, Reads}
use Rattle.law_every_load.proofs.Rows.{paused-same}
use Rattle.law_every_load.proofs.Every.{every_row}
use Rattle.law_every_load.proofs.Formed.{given_small}

-- a given name's characters, whatever the row's tones
abbrev pub Few : List Tone → Block → Type 0
Few ts r = r.chars ≤ 255

pub few : (s : List ℕ) → Bytes s → Everywhere s Few
unfolding unselected row_of
few s b =
    record {
      pieces = λ origin d tone m. omega arith;
      taps = λ origin d tone m. omega arith;
      lasts = record {
        naming = λ mark case text chars ts r g h. let n = (given_small b g).name.small in omega arith;
        pausing = λ ts r h. let e = paused-same (λ q. q.chars) r refl in omega arith;
        passing = λ ts r h. h;
      };
    }

-- how long a name is, of any tape: 510 bytes where a given one has at most 255 characters
guess_length : (s : List ℕ) (r : Block) → length (guessed s r) ≤ 510
unfolding guessed size_name
guess_length s r =
    let c = decimal-length (size_shown r) in
    either 510 (is_header s r) _ _ (omega (arith, header_length s r.start)) (simp length-append (omega arith))

pub name_most : (s : List ℕ) (r : Block) → r.chars ≤ 255 → length (name_of s r) ≤ 510
unfolding name_of
name_most s r h =
    let t = take r.chars (drop r.text s) in
    let l : length t ≤ 255 = rw length-take (omega arith) in
    either 510 (eqb r.named 0) _ _ (guess_length s r)
    (either 510 (eqb r.named 1) _ _ (omega arith) (omega (arith, each-length latin1 2 latin1-length t)))

-- EVERY NAME OF THE TABLE
pub loaded_names : (B N : ℕ) (s : List ℕ) (model : ℕ) {t : Parsed} → Bytes s → Reads (load_of (lent_of B N) s model) t → (i : ℕ)
    → i < length t.blocks
    → length (name_of s (get block (table_of block (name_all s false t.blocks) B) i)) ≤ 510
loaded_names B N s model {t} b r i h =
    let rows = name_all s false t.blocks in
    let d = get block (table_of block rows B) i in
    let l : i < length rows = rw (name_all-length s false t.blocks) h in
    let g : d ≡ get_or rows i d = get_row block rows (zeros B) i d l in
    let k : (get_or rows i d).chars ≤ 255 = (all_get (every_row (lent_of B N) s model (few s b) b r) i d l).has in
    name_most s d (subst (λ (q : Block). q.chars ≤ 255) (sym g) k)
