-- What an answer of `general` says of the 19, and what the block over its rows then gives. Assumes nothing.
use Prim.Native.Nat.{ℕ, ◌+◌, ◌-◌, ◌≤◌, ◌<◌}
use mathlib.Core.Path.{◌≡◌, refl, sym, ap, ◌∙◌}
use mathlib.Core.Bool.{Bool, true, false}
use mathlib.Core.List.{List, ◌++◌}
use native.Mathlib.Omega.{arith}
use lib.ListN.{length, length-append}
use lib.Dec.{leb}
use Rattle.std.specs.Prelude.{Result, Ok, Err}
use lib.Seq.{get_or-append-add}
use borrow.Author.Tests.{le-leb, lt-leb, leb-true, leb-false}
use Rattle.refusals.specs.Refusals.{generalised, tones_full}
use Rattle.law_base.specs.Rules.{◌⇒◌, ◌∣◌}
use Rattle.rows.specs.declared.Block.{Block}
use Rattle.rows.specs.declared.Tone.{Tone}
use Rattle.rows.specs.Table.{zeros, table_of, capacity_of, put_all}
use Rattle.rows.specs.Rows.{tone, tone_most}
use Rattle.rows.proofs.Tables.{put_all_next, get_row}
use Rattle.play_entries.specs.Figures.{Owns}
use Rattle.cut_grammar.specs.declared.GeneralizedData.{GeneralizedData}
use Rattle.load_general.specs.declared.Made.{Made}
use Rattle.load_general.specs.declared.Made.TheVariants.{Data, Tones}
use Rattle.load_general.specs.declared.NoRows.{NoRows}
use Rattle.load_general.specs.declared.NoRows.TheVariants.{Refused, Full, Stop}
use Rattle.load_general.specs.General.{Given, refused4, stop, plain, toned}
use Rattle.load_general.specs.Made.{made_of, leaves, MadeDone}
use Rattle.load_state.specs.declared.State.{State}
use Rattle.load_state.specs.declared.Halt.TheVariants.{Refusal}
use Rattle.load_state.specs.declared.Halt.{Halt}
use Rattle.load_state.specs.Parser.{Parsed, no, ◌⟫◌, with_tones, add_tones, add_block}
use Rattle.load_state.specs.Holds.{Holds, GivesOut, refuses, tone_room, block_room}
use Rattle.load_blocks.specs.declared.Origin.{Origin}
use Rattle.load_blocks.specs.declared.Bits.{Bits}
use Rattle.load_blocks.specs.Adds.{Lent, add_rows}
use Rattle.load_blocks.specs.Sounds.{Sound, ms, data_bits, no_bits, row_of, add_sound}
use Rattle.load_blocks.specs.Blocks.{data_sound, stop_sound}
use Rattle.load_blocks.specs.Deeds.{general_deed, does}
use Rattle.load_blocks.proofs.Laws.{one_sound}
use Rattle.load_blocks.specs.Does.{lent_of, with_used}

-- which side of a test an answer comes from
left_of_lem : {x y z : Result Made NoRows} (b : Bool) → z ≡ (b ⇒ x ∣ y) → (z ≡ y → ⊥) → (b ≡ true) × (z ≡ x)
left_of_lem true e k = (refl, e)
left_of_lem false e k = absurd (k e)

right_of : {x y z : Result Made NoRows} (b : Bool) → z ≡ (b ⇒ x ∣ y) → (z ≡ x → ⊥) → (b ≡ false) × (z ≡ y)
right_of true e k = absurd (k e)
right_of false e k = (refl, e)

-- refusal 4 and a stop are the 19's own
module _ (room : ℕ) where
  made-refused : (given : Given) → Err Refused ≡ made_of room given → given ≡ refused4
  unfolding made_of
  made-refused refused4 e = refl
  made-refused stop e = absurd (cc)
  made-refused (plain ts nil one last) e =
      let q : Err Refused ≡ Ok (Data (length ts) nil one last) =
      (left_of_lem (leb (length ts) room) e (λ p. cc)).1 in
      absurd (cc)
  made-refused (toned ts) e =
      let q : Err Refused ≡ Ok (Tones (length ts)) = (left_of_lem (leb (length ts) room) e (λ p. cc)).1 in
      absurd (cc)

  made-stop : (given : Given) → Err Stop ≡ made_of room given → given ≡ stop
  unfolding made_of
  made-stop refused4 e = absurd (cc)
  made-stop stop e = refl
  made-stop (plain ts nil one last) e =
      let q : Err Stop ≡ Ok (Data (length ts) nil one last) =
      (left_of_lem (leb (length ts) room) e (λ p. cc)).1 in
      absurd (cc)
  made-stop (toned ts) e =
      let q : Err Stop ≡ Ok (Tones (length ts)) = (left_of_lem (leb (length ts) room) e (λ p. cc)).1 in
      absurd (cc)

  -- so many rows, and they fit
  made_data : (given : Given) {n nil one last : ℕ} → Ok (Data n nil one last) ≡ made_of room given
      → (ts : List Tone) × (given ≡ plain ts nil one last) × (n ≡ length ts) × (leb (length ts) room ≡ true)
  unfolding made_of
  made_data refused4 e = absurd (cc)
  made_data stop e = absurd (cc)
  made_data (plain ts a b d) {n} {nil} {one} {last} e =
      let l = left_of_lem (leb (length ts) room) e (λ p. cc) in
      let q : Ok (Data n nil one last) ≡ Ok (Data (length ts) a b d) = l.1 in
      let i : a ≡ nil = cc in
      let j : b ≡ one = cc in
      let k : d ≡ last = cc in
      let m : n ≡ length ts = cc in
      (ts, rw (i, j, k), m, l.0)
  made_data (toned ts) {n} {nil} {one} {last} e =
      let q : Ok (Data n nil one last) ≡ Ok (Tones (length ts)) =
      (left_of_lem (leb (length ts) room) e (λ p. cc)).1 in
      absurd (cc)

  made-tones : (given : Given) {n : ℕ} → Ok (Tones n) ≡ made_of room given
      → (ts : List Tone) × (given ≡ toned ts) × (n ≡ length ts) × (leb (length ts) room ≡ true)
  unfolding made_of
  made-tones refused4 e = absurd (cc)
  made-tones stop e = absurd (cc)
  made-tones (plain ts a b d) {n} e =
      let q : Ok (Tones n) ≡ Ok (Data (length ts) a b d) =
      (left_of_lem (leb (length ts) room) e (λ p. cc)).1 in
      absurd (cc)
  made-tones (toned ts) {n} e =
      let l = left_of_lem (leb (length ts) room) e (λ p. cc) in
      let q : Ok (Tones n) ≡ Ok (Tones (length ts)) = l.1 in
      (ts, refl, cc, l.0)

-- rows that do not fit
no_room : (lent : Lent) (tape : List ℕ) (origin : Origin) (d : Sound) (t : Parsed)
    → lent.tones < length t.tones + length d.tones
    → add_sound lent tape origin d t ≡ no (Refusal tones_full)
unfolding add_sound add_rows add_tones ◌⟫◌
no_room lent tape origin d t h = rw (lt-leb (length t.tones + length d.tones) lent.tones h)

made-full : (lent : Lent) (tape : List ℕ) (model : ℕ) (origin : Origin) (g : GeneralizedData) (t : Parsed) (given : Given)
    → Err Full ≡ made_of (lent.tones - length t.tones) given
    → does lent tape model origin (general_deed g given) t ≡ no (Refusal tones_full)
unfolding made_of does general_deed
made-full lent tape model origin g t refused4 e = absurd (cc)
made-full lent tape model origin g t stop e = absurd (cc)
made-full lent tape model origin g t (plain ts nil one last) e =
    let b = (right_of (leb (length ts) (lent.tones - length t.tones)) e (λ p. cc)).0 in
    one_sound lent tape origin _ t ∙ no_room lent tape origin _ t (omega (arith, leb-false (length ts) (lent.tones - length t.tones) b))
made-full lent tape model origin g t (toned ts) e =
    let b = (right_of (leb (length ts) (lent.tones - length t.tones)) e (λ p. cc)).0 in
    one_sound lent tape origin _ t ∙ no_room lent tape origin _ t (omega (arith, leb-false (length ts) (lent.tones - length t.tones) b))

-- the rows of an answer fit after those in use
pub data_fits : {given : Given} {used n nil one last : ℕ} {tt tt' : List ℕ} {r : Result Made NoRows} → MadeDone given used tt tt' r
    → r ≡ Ok (Data n nil one last) → n ≤ capacity_of tone tone_most tt - used
data_fits {given} {used} {tt = tt} d e =
    let m = made_data (capacity_of tone tone_most tt - used) given (sym e ∙ d.answer) in
    omega (arith, m.2, leb-true (length m.0) (capacity_of tone tone_most tt - used) m.3)

pub tones_fit : {given : Given} {used n : ℕ} {tt tt' : List ℕ} {r : Result Made NoRows} → MadeDone given used tt tt' r → r ≡ Ok (Tones n)
    → n ≤ capacity_of tone tone_most tt - used
tones_fit {given} {used} {tt = tt} d e =
    let m = made-tones (capacity_of tone tone_most tt - used) given (sym e ∙ d.answer) in
    omega (arith, m.2, leb-true (length m.0) (capacity_of tone tone_most tt - used) m.3)

module _ {B N : ℕ} {s : State} {bt tt : List ℕ} {t : Parsed} (h : Holds B N s bt tt t) where
  room_left : capacity_of tone tone_most tt - s.tones ≡ tone_room N - length t.tones
  room_left = rw (h.len_t, h.nt)

  -- rows put after the tape's own, and the block over them
  rows_then : {x : Result State Halt} {bt' tt' : List ℕ} {n : ℕ} (tape : List ℕ) (origin : Origin) (d : Sound)
      → n ≡ length d.tones → length d.tones ≤ capacity_of tone tone_most tt - s.tones
      → tt' ≡ put_all tone tt s.tones d.tones → length tt' ≡ length tt
      → (Holds B N (with_used (s.tones + n) s) bt tt' (with_tones d.tones t)
      → GivesOut B N x bt' tt' (add_block (block_room B) (row_of tape origin d s.tones) (with_tones d.tones t)))
      → GivesOut B N x bt' tt' (add_sound (lent_of B N) tape origin d t)
  unfolding add_sound add_rows add_tones ◌⟫◌
  rows_then tape origin d i f p l k =
      let ts = d.tones in
      let m : length t.tones + length ts ≤ tone_room N = omega (arith, room_left, f, h.room_t) in
      rw (le-leb (length t.tones + length ts) (tone_room N) m, ← h.nt)
      (k (record {
        nb = h.nb;
        nt = rw length-append (omega (arith, h.nt, i));
        pends = h.pends;
        loops = h.loops;
        room_b = h.room_b;
        room_t = rw length-append m;
        len_b = h.len_b;
        len_t = l ∙ h.len_t;
        is_b = h.is_b;
        is_t = p ∙ put_all_next tone tone_most t.tones ts N s.tones h.is_t h.nt f;
      }))

  module _ (g : GeneralizedData) (tape : List ℕ) (model : ℕ) (origin : Origin) {given : Given} {r : Result Made NoRows} {tt' : List ℕ}
      (d : MadeDone given s.tones tt tt' r) where
    pub general_no4 : {bt' tt'' : List ℕ} → r ≡ Err Refused
        → GivesOut B N (Err (Refusal generalised)) bt' tt'' (does (lent_of B N) tape model origin (general_deed g given) t)
    unfolding does general_deed
    general_no4 e = rw (made-refused (capacity_of tone tone_most tt - s.tones) given (sym e ∙ d.answer)) refuses

    pub general_no5 : {bt' tt'' : List ℕ} → r ≡ Err Full
        → GivesOut B N (Err (Refusal tones_full)) bt' tt'' (does (lent_of B N) tape model origin (general_deed g given) t)
    general_no5 e =
        rw (made-full (lent_of B N) tape model origin g t given (sym e ∙ d.answer ∙ ap (λ (n : ℕ). made_of n given) room_left)) refuses

    pub general_stop : {x : Result State Halt} {bt' : List ℕ} → r ≡ Err Stop → GivesOut B N x bt' tt (add_sound (lent_of B N) tape origin stop_sound t)
        → GivesOut B N x bt' tt' (does (lent_of B N) tape model origin (general_deed g given) t)
    unfolding does general_deed leaves
    general_stop e k =
        let q = made-stop (capacity_of tone tone_most tt - s.tones) given (sym e ∙ d.answer) in
        let w : tt' ≡ tt = rw q at d.table in
        rw (q, w, one_sound (lent_of B N) tape origin stop_sound t) k

    -- what the block over so many rows gives, whatever they are
    abbrev Over : Result State Halt → List ℕ → ℕ → Bits → Type 0
    Over x bt' n bits = (ts : List Tone) → length ts ≡ n → Holds B N (with_used (s.tones + n) s) bt tt' (with_tones ts t)
        → GivesOut B N x bt' tt'
        (add_block (block_room B) (row_of tape origin (data_sound ts bits (ms g.pause)) s.tones) (with_tones ts t))

    pub general_data : {x : Result State Halt} {bt' : List ℕ} {n nil one last : ℕ} → r ≡ Ok (Data n nil one last) → length tt' ≡ length tt
        → Over x bt' n (data_bits g.from g.size nil one last)
        → GivesOut B N x bt' tt' (does (lent_of B N) tape model origin (general_deed g given) t)
    unfolding does general_deed leaves
    general_data {nil = nil} {one} {last} e l k =
        let m = made_data (capacity_of tone tone_most tt - s.tones) given (sym e ∙ d.answer) in
        let ts = m.0 in
        let w : tt' ≡ put_all tone tt s.tones ts = rw (m.1, m.3) at d.table in
        let d = data_sound ts (data_bits g.from g.size nil one last) (ms g.pause) in
        rw (m.1, one_sound (lent_of B N) tape origin d t)
        (rows_then tape origin d m.2 (leb-true (length ts) (capacity_of tone tone_most tt - s.tones) m.3) w l (k ts (sym m.2)))

    pub general_tones : {x : Result State Halt} {bt' : List ℕ} {n : ℕ} → r ≡ Ok (Tones n) → length tt' ≡ length tt → Over x bt' n no_bits
        → GivesOut B N x bt' tt' (does (lent_of B N) tape model origin (general_deed g given) t)
    unfolding does general_deed leaves
    general_tones e l k =
        let m = made-tones (capacity_of tone tone_most tt - s.tones) given (sym e ∙ d.answer) in
        let ts = m.0 in
        let w : tt' ≡ put_all tone tt s.tones ts = rw (m.1, m.3) at d.table in
        let d = data_sound ts no_bits (ms g.pause) in
        rw (m.1, one_sound (lent_of B N) tape origin d t)
        (rows_then tape origin d m.2 (leb-true (length ts) (capacity_of tone tone_most tt - s.tones) m.3) w l (k ts (sym m.2)))

-- the last tone rows of a table are those of a row over them
pub owns : {tt : List ℕ} (before ts : List Tone) (N : ℕ) (r : Block) → tt ≡ table_of tone (before ++ ts) N → length tt ≡ N
    → length (before ++ ts) ≤ tone_room N → r.tone ≡ length before → length ts ≡ r.tones → Owns tt r ts
owns before ts N r e l f n k = record {
  lent = rw l (omega (arith, length-append before ts, f));
  count = k;
  each = λ i b h.
      rw (e, n)
      (get_row tone (before ++ ts) (zeros N) (length before + i) b (rw length-append (omega arith)) ∙ get_or-append-add before ts i b);
}
