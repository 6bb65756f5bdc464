-- A held tape with a row more, and with its last block paused, as the calls on its tables tell it. Assumes nothing.
use Prim.Native.Nat.{ℕ, zero, suc, ◌+◌, ◌/◌, ◌≤◌, ◌<◌, min}
use native.Mathlib.Omega.{arith}
use mathlib.Core.Path.{◌≡◌, refl, sym, ap, ◌∙◌}
use mathlib.Core.Bool.{Bool, true, false}
use mathlib.Core.List.{List, [], ◌∷◌, ◌++◌}
use lib.ListN.{length, get_or, set, length-append}
use lib.Dec.{ltb}
use borrow.Author.Tests.{ltb-true, ltb-false}
use Rattle.rows.specs.declared.Block.{Block}
use Rattle.rows.specs.declared.Tone.{Tone}
use Rattle.rows.specs.Table.{Codec, zeros, get, put, table_of, capacity_of, appended}
use Rattle.rows.specs.Rows.{block, tone}
use Rattle.rows.proofs.Tables.{append_next, put-set, get_row}
use Rattle.load_state.specs.declared.State.{State}
use Rattle.load_state.specs.declared.Pending.{Pending}
use Rattle.load_state.specs.Parser.{Parsed, parsed_of, with_tones, used, paused, last_paused}
use Rattle.load_state.specs.Holds.{Holds, block_room, tone_room}

-- what an append that minds the capacity tells, for any codec
module _ {R : Type 0} (C : Codec R) (most : ℕ) (t : List ℕ) {b : Bool} (rs : List R) (N n : ℕ) (len : length t ≡ N)
    (k : n ≡ length rs) (q : b ≡ ltb n (capacity_of C most t)) where
  room : ltb (length rs) (min most (N / C.width)) ≡ b
  room =
      ap (λ (l : ℕ). ltb l (min most (N / C.width))) (sym k) ∙ ap (λ (l : ℕ). ltb n (min most (l / C.width))) (sym len) ∙ sym q

  pub row_full : b ≡ false → min most (N / C.width) ≤ length rs
  row_full e = ltb-false (length rs) (min most (N / C.width)) (room ∙ e)

  pub row_fits : b ≡ true → length rs < min most (N / C.width)
  row_fits e = ltb-true (length rs) (min most (N / C.width)) (room ∙ e)

  pub row_adds : {t' : List ℕ} (r : R) → t ≡ table_of C rs N → t' ≡ appended C most t n r → b ≡ true
      → t' ≡ table_of C (rs ++ r ∷ []) N
  row_adds r is p e = p ∙ append_next C most rs N n r is k ∙ rw (← q, e)

pub paused-length : (rs : List Block) → length (last_paused rs) ≡ length rs
unfolding last_paused
paused-length [] = refl
paused-length (r ∷ []) = refl
paused-length (r ∷ q ∷ rs) = ap suc (paused-length (q ∷ rs))

module _ {B N : ℕ} {s : State} {bt tt : List ℕ} {t : Parsed} (h : Holds B N s bt tt t) where
  pub holds_block : {bt' : List ℕ} {p : Pending} (r : Block) → length t.blocks < block_room B → length bt' ≡ B
      → bt' ≡ table_of block (t.blocks ++ r ∷ []) B → p ≡ used t.pending
      → Holds B N (record { blocks = s.blocks + 1; tones = s.tones; pending = p; body = s.body }) bt' tt
      (parsed_of (t.blocks ++ r ∷ []) t.tones (used t.pending) t.body)
  holds_block r k len is e =
      record {
        nb = rw length-append (omega (arith, h.nb));
        nt = h.nt;
        pends = e;
        loops = h.loops;
        room_b = rw length-append (omega arith);
        room_t = h.room_t;
        len_b = len;
        len_t = h.len_t;
        is_b = is;
        is_t = h.is_t;
      }

  pub holds_tone : {tt' : List ℕ} (r : Tone) → length t.tones < tone_room N → length tt' ≡ N
      → tt' ≡ table_of tone (t.tones ++ r ∷ []) N
      → Holds B N (record { blocks = s.blocks; tones = s.tones + 1; pending = s.pending; body = s.body }) bt tt'
      (with_tones (r ∷ []) t)
  holds_tone r k len is =
      record {
        nb = h.nb;
        nt = rw length-append (omega (arith, h.nt));
        pends = h.pends;
        loops = h.loops;
        room_b = h.room_b;
        room_t = rw length-append (omega arith);
        len_b = h.len_b;
        len_t = len;
        is_b = h.is_b;
        is_t = is;
      }

  pub holds_paused : {bt' : List ℕ} → length bt' ≡ B → bt' ≡ table_of block (last_paused t.blocks) B
      → Holds B N s bt' tt (parsed_of (last_paused t.blocks) t.tones t.pending t.body)
  holds_paused len is =
      let l = paused-length t.blocks in
      record {
        nb = h.nb ∙ sym l;
        nt = h.nt;
        pends = h.pends;
        loops = h.loops;
        room_b = rw l h.room_b;
        room_t = h.room_t;
        len_b = len;
        len_t = h.len_t;
        is_b = is;
        is_t = h.is_t;
      }

-- the last block paused is a row replaced
last_set : (d : Block) (rs : List Block) (i : ℕ) → length rs ≡ suc i → last_paused rs ≡ set rs i (paused (get_or rs i d))
unfolding last_paused
last_set d [] i e = absurd (omega arith)
last_set d (r ∷ []) zero e = refl
last_set d (r ∷ []) (suc i) e = absurd (omega arith)
last_set d (r ∷ q ∷ rs) zero e = absurd (omega arith)
last_set d (r ∷ q ∷ rs) (suc i) e = ap (λ (l : List Block). r ∷ l) (last_set d (q ∷ rs) i (omega arith))

pub last_none : (rs : List Block) → 0 ≡ length rs → last_paused rs ≡ rs
unfolding last_paused
last_none [] e = refl
last_none (r ∷ rs) e = absurd (omega arith)

pub table-paused : {bt bt' : List ℕ} (d : Block) (rs : List Block) (B i : ℕ) → length rs ≡ suc i → bt ≡ table_of block rs B
    → bt' ≡ put block bt i (paused (get block bt i)) → bt' ≡ table_of block (last_paused rs) B
table-paused d rs B i k e p =
    p
    ∙ ap (λ (l : List ℕ). put block l i (paused (get block l i))) e
    ∙ ap (λ (r : Block). put block (table_of block rs B) i (paused r)) (get_row block rs (zeros B) i d (omega arith))
    ∙ put-set block rs (zeros B) i (paused (get_or rs i d)) (omega arith)
    ∙ ap (λ (l : List Block). table_of block l B) (sym (last_set d rs i k))
