-- What the naming pass makes of what a reading left. Assumes nothing.
use Prim.Native.Nat.{ℕ, ◌*◌, ◌≤◌}
use native.Mathlib.Omega.{arith}
use mathlib.Core.Path.{◌≡◌, sym, ap, ◌∙◌}
use mathlib.Core.Bool.{Bool, true, false, false≢true}
use mathlib.Core.List.{List}
use lib.ListN.{length, length-append}
use Rattle.rows.specs.declared.Block.{Block}
use Rattle.rows.specs.Table.{step, table_over, table_of}
use Rattle.rows.specs.Rows.{block}
use Rattle.rows.proofs.Tables.{flat-length}
use Rattle.text_name.specs.Names.{name_all}
use Rattle.text_name.proofs.Selecting.{name_all-length, named_table}
use Rattle.load_source.specs.Source.{Load, tzx, tapped, both_err, no}
use Rattle.load_tape.specs.declared.Format.TheVariants.{Tap, Tzx}
use Rattle.std.specs.Prelude.{Result, Ok, Err}
use Rattle.load_tape.specs.declared.Loaded.{Loaded}
use Rattle.load_tape.specs.declared.NotLoaded.{NotLoaded}
use Rattle.load_tape.specs.Load.{loaded_as, answer_of, block_table, tone_table, named_tape, named_load, Leaves}

-- a table of rows has the words of its rows at the least
over_room : (rs : List Block) (N : ℕ) → length rs * block.width ≤ length (table_of block rs N)
unfolding table_over
over_room rs N = rw (length-append, flat-length block rs) (omega arith)

room : {t : List ℕ} (rs : List Block) (N n : ℕ) → t ≡ table_of block rs N → n ≡ length rs → n * block.width ≤ length t
room rs N n e k = rw (e, k) (over_room rs N)

-- what an answer says of its blocks
abbrev pub count_of : Result Loaded NotLoaded → ℕ
count_of (Ok l) = l.blocks
count_of (Err e) = 0

abbrev pub is_tape : Result Loaded NotLoaded → Bool
is_tape (Ok l) = true
is_tape (Err e) = false

module _ {B N : ℕ} where
  -- the pass has room for its rows
  pub named_room : (l : Load) {a : Result Loaded NotLoaded} {bt tt : List ℕ} {d : Loaded} → Leaves B N l a bt tt → a ≡ Ok d
      → d.blocks * block.width ≤ length bt
  unfolding answer_of block_table
  named_room (tzx t) {d = d} x e = room t.blocks B d.blocks x.blocks (ap count_of (sym e ∙ x.answer))
  named_room (tapped t) {d = d} x e = room t.blocks B d.blocks x.blocks (ap count_of (sym e ∙ x.answer))
  named_room (both_err f g) x e = absurd (false≢true (ap is_tape (sym x.answer ∙ e)))
  named_room (no k) x e = absurd (false≢true (ap is_tape (sym x.answer ∙ e)))

  -- and leaves the tape with its blocks named
  pub named-leaves : (s : List ℕ) (l : Load) {a : Result Loaded NotLoaded} {bt bt' tt : List ℕ} {d : Loaded}
      → Leaves B N l a bt tt → a ≡ Ok d → bt' ≡ step block d.blocks (name_all s false) bt
      → Leaves B N (named_load s l) (Ok d) bt' tt
  unfolding answer_of block_table tone_table named_load named_tape
  named-leaves s (tzx t) {d = d} x e p =
      let k : length t.blocks ≡ length (name_all s false t.blocks) = sym (name_all-length s false t.blocks) in
      record {
        answer = sym e ∙ x.answer ∙ ap (λ (i : ℕ). Ok (loaded_as Tzx i (length t.tones))) k;
        blocks = named_table s t.blocks B d.blocks x.blocks (ap count_of (sym e ∙ x.answer)) p;
        tones = x.tones;
      }
  named-leaves s (tapped t) {d = d} x e p =
      let k : length t.blocks ≡ length (name_all s false t.blocks) = sym (name_all-length s false t.blocks) in
      record {
        answer = sym e ∙ x.answer ∙ ap (λ (i : ℕ). Ok (loaded_as Tap i (length t.tones))) k;
        blocks = named_table s t.blocks B d.blocks x.blocks (ap count_of (sym e ∙ x.answer)) p;
        tones = x.tones;
      }
  named-leaves s (both_err f g) x e p = absurd (false≢true (ap is_tape (sym x.answer ∙ e)))
  named-leaves s (no k) x e p = absurd (false≢true (ap is_tape (sym x.answer ∙ e)))

  -- a refusal is left as it is
  pub named_refusal : (s : List ℕ) (l : Load) {a : Result Loaded NotLoaded} {bt tt : List ℕ} → Leaves B N l a bt tt → is_tape a ≡ false
      → Leaves B N (named_load s l) a bt tt
  unfolding answer_of named_load
  named_refusal s (tzx t) x e = absurd (false≢true (sym e ∙ ap is_tape x.answer))
  named_refusal s (tapped t) x e = absurd (false≢true (sym e ∙ ap is_tape x.answer))
  named_refusal s (both_err f g) x e = x
  named_refusal s (no k) x e = x
