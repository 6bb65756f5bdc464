-- Tone rows and a block, call by call. Assumes nothing.
use Prim.Native.Nat.{ℕ, suc, ◌+◌, ◌-◌, ◌*◌, ◌≤◌, ◌<◌}
use mathlib.Core.Path.{◌≡◌, refl, ap, ◌∙◌}
use mathlib.Core.List.{List, [], ◌∷◌, append-nil}
use native.Mathlib.Omega.{arith}
use lib.ListN.{length, get_or, drop, drop_of_length-le}
use lib.Seq.{drop-cons}
use native.Mathlib.Numerals.{add-one}
use Rattle.std.specs.Prelude.{Result}
use borrow.Author.Tests.{le-leb}
use Rattle.rows.specs.declared.Block.{Block}
use Rattle.rows.specs.declared.Tone.{Tone}
use Rattle.rows.specs.Rows.{with_sound}
use Rattle.play_entries.specs.Figures.{tone_figure, data_figure, sounding}
use Rattle.play_entries.proofs.Figures.{data_empty, sound_none, sound_one, sound_two}
use Rattle.load_state.specs.declared.State.{State}
use Rattle.load_state.specs.declared.Halt.{Halt}
use Rattle.load_state.specs.Parser.{Parsed, Out, on, no, ◌⟫◌, add_tones, add_block}
use Rattle.load_state.specs.Holds.{Holds, tone_room, block_room}
use Rattle.load_state.proofs.Laws.{chain_assoc, tones_append}
use Rattle.load_blocks.specs.Adds.{Lent, add_rows}
use Rattle.load_blocks.specs.declared.Origin.{Origin}
use Rattle.load_blocks.specs.declared.Ending.{Ending}
use Rattle.load_blocks.specs.Sounds.{Sound, no_bits, row_for, row_of, add_sound, add_sounds}
use Rattle.load_blocks.specs.Blocks.{pair_sound, pair_sounds}
use Rattle.load_blocks.specs.Deeds.{adds, does}
use Rattle.load_blocks.specs.Does.{lent_of, Does}

-- what a loop that keeps nothing more knows of its tape
abbrev pub Any : Parsed → Type 0
Any t = Unit {0}

-- no tone rows: the block alone
pub rows_none : {B N : ℕ} {s : State} {bt tt : List ℕ} (r : Block) (t : Parsed) → Holds B N s bt tt t
    → add_rows (lent_of B N) [] r t ≡ add_block (block_room B) r t
unfolding add_rows add_tones ◌⟫◌
rows_none {N = N} r t h =
    let k : length t.tones + 0 ≤ tone_room N = omega (arith, h.room_t) in
    rw (le-leb (length t.tones + 0) (tone_room N) k, append-nil t.tones)

-- one tone row, then the others
pub rows_more : (lent : Lent) (a : Tone) (ts : List Tone) (r : Block) (t : Parsed)
    → add_rows lent (a ∷ ts) r t ≡ add_tones lent.tones (a ∷ []) t ⟫ add_rows lent ts r
unfolding add_rows
rows_more lent a ts r t =
    ap (λ (o : Out). o ⟫ add_block lent.blocks r) (tones_append lent.tones (a ∷ []) ts t)
    ∙ chain_assoc (add_tones lent.tones (a ∷ []) t) (add_tones lent.tones ts) (add_block lent.blocks r)

-- of some tone rows row i, then the others; and none
module _ (ts : List Tone) (i : ℕ) (r : Block) (t : Parsed) where
  pub rows_turn : (lent : Lent) (d : Tone) → i < length ts
      → add_rows lent (drop i ts) r t ≡ add_tones lent.tones (get_or ts i d ∷ []) t ⟫ add_rows lent (drop (i + 1) ts) r
  rows_turn lent d h = rw (drop-cons ts i d h, add-one i) (rows_more lent (get_or ts i d) (drop (suc i) ts) r t)

  pub rows_end : {B N : ℕ} {s : State} {bt tt : List ℕ} → Holds B N s bt tt t → length ts ≤ i
      → add_rows (lent_of B N) (drop i ts) r t ≡ add_block (block_room B) r t
  rows_end {B} {N} h k = ap (λ (xs : List Tone). add_rows (lent_of B N) xs r t) (drop_of_length-le ts k) ∙ rows_none r t h

-- a row made of the state's count of tones is the row over the tape's tones
does_sound : {s : State} {x : Result State Halt} {bt tt bt' tt' : List ℕ} {r : Block} (tape : List ℕ) (origin : Origin) (d : Sound)
    → r ≡ row_of tape origin d s.tones
    → Does (λ lent. add_rows lent d.tones r) s x bt tt bt' tt' → Does (λ lent. add_sound lent tape origin d) s x bt tt bt' tt'
unfolding add_sound
does_sound tape origin d e f B N t h = rw (← h.nt, ← e) (f B N t h)

-- a row at birth, with what it sounds
pub does_born : {s : State} {x : Result State Halt} {bt tt bt' tt' : List ℕ} {r q : Block} (tape : List ℕ) (origin : Origin) (d : Sound)
    → r ≡ row_for origin s.tones (length d.tones) d.bits d.ending d.selectable → q ≡ sounding tape d.tones r
    → Does (λ lent. add_rows lent d.tones q) s x bt tt bt' tt'
    → Does (λ lent. add_sound lent tape origin d) s x bt tt bt' tt'
unfolding row_of
does_born tape origin d e h = does_sound tape origin d (h ∙ ap (sounding tape d.tones) e)

-- what it sounds, added up: a tone row without data; two tone rows with data, and without
pub one_alone : (tape : List ℕ) (a : Tone) (r : Block) {m : ℕ} {q : Block} → r.size ≡ 0 → m ≡ tone_figure r a
    → q ≡ with_sound m r → q ≡ sounding tape (a ∷ []) r
one_alone tape a r h x e = e ∙ ap (λ (i : ℕ). with_sound i r) (omega (arith, x, data_empty tape r h, sound_one tape a r))

module _ (tape : List ℕ) (a b : Tone) (r : Block) where
  pub two_and_data : {m n k : ℕ} {q : Block} → m ≡ tone_figure r a → n ≡ tone_figure r b → k ≡ data_figure tape r
      → q ≡ with_sound (m + n + k) r → q ≡ sounding tape (a ∷ b ∷ []) r
  two_and_data x y z e = e ∙ ap (λ (i : ℕ). with_sound i r) (omega (arith, x, y, z, sound_two tape a b r))

  pub two_alone : {m n : ℕ} {q : Block} → r.size ≡ 0 → m ≡ tone_figure r a → n ≡ tone_figure r b
      → q ≡ with_sound (m + n) r → q ≡ sounding tape (a ∷ b ∷ []) r
  two_alone h x y e = e ∙ ap (λ (i : ℕ). with_sound i r) (omega (arith, x, y, data_empty tape r h, sound_two tape a b r))

-- a row of no tones and no data sounds nothing
silent_row : (tape : List ℕ) (origin : Origin) (n mark : ℕ) (ending : Ending)
    → row_for origin n 0 no_bits ending mark
    ≡ row_of tape origin (record { tones = []; bits = no_bits; ending = ending; selectable = mark }) n
unfolding row_of
silent_row tape origin n mark ending = rw (sound_none tape (row_for origin n 0 no_bits ending mark) refl)

pub does-silent : {s : State} {x : Result State Halt} {bt tt bt' tt' : List ℕ} {r : Block} (tape : List ℕ) (origin : Origin) (ending : Ending) (mark : ℕ)
    → r ≡ row_for origin s.tones 0 no_bits ending mark → Does (λ lent. add_rows lent [] r) s x bt tt bt' tt'
    → Does (λ lent. add_sound lent tape origin (record { tones = []; bits = no_bits; ending = ending; selectable = mark })) s x bt tt bt' tt'
does-silent {s = s} tape origin ending mark e =
    does_sound tape origin (record { tones = []; bits = no_bits; ending = ending; selectable = mark })
    (e ∙ silent_row tape origin s.tones mark ending)

-- a step and nothing behind it is the step
then_nothing : (o : Out) → o ⟫ on ≡ o
unfolding ◌⟫◌
then_nothing (on t) = refl
then_nothing (no k) = refl

-- one block
pub one_sound : (lent : Lent) (s : List ℕ) (origin : Origin) (d : Sound) (t : Parsed)
    → add_sounds lent s origin (d ∷ []) t ≡ add_sound lent s origin d t
unfolding add_sounds
one_sound lent s origin d t = then_nothing (add_sound lent s origin d t)

-- a deed of one block
pub does_one : (tape : List ℕ) (model : ℕ) (origin : Origin) (d : Sound) {s : State} {x : Result State Halt} {bt tt bt' tt' : List ℕ}
    → Does (λ lent. add_sound lent tape origin d) s x bt tt bt' tt'
    → Does (λ lent. does lent tape model origin (adds (d ∷ []))) s x bt tt bt' tt'
unfolding does
does_one tape model origin d f B N t h = rw (one_sound (lent_of B N) tape origin d t) (f B N t h)

-- of n pairs pair i, then the others
pub pairs_more : (lent : Lent) (origin : Origin) (s : List ℕ) (from n i : ℕ) (t : Parsed) → i < n
    → add_sounds lent s origin (pair_sounds s from (2 * i) (n - i)) t
    ≡ add_sound lent s origin (pair_sound s from (2 * i)) t ⟫ add_sounds lent s origin (pair_sounds s from (2 * (i + 1)) (n - (i + 1)))
unfolding add_sounds pair_sounds
pairs_more lent origin s from n i t h =
    let e : n - i ≡ suc (n - (i + 1)) = omega arith in
    let k : 2 * (i + 1) ≡ 2 * i + 2 = omega arith in
    rw (e, k)
