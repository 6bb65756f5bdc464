-- A KEPT PIECE IS REFUSED FOR WANT OF ROWS ALONE, by 5 or 6: never by 4, and it does not err. So is a TZX of kept pieces, or by 1, 2 or 7.
-- Assumes nothing but, of a 19, that its tables are where its numbers say.
use Prim.Native.Nat.{ℕ, zero, suc, ◌+◌, ◌/◌}
use native.Mathlib.Omega.{arith}
use mathlib.Core.Path.{◌≡◌, refl, sym, ap, ◌∙◌}
use mathlib.Core.Bool.{Bool, true, false, ◌&&◌, not}
use mathlib.Core.List.{List, [], ◌∷◌}
use lib.ListN.{length}
use lib.Dec.{ltb, leb, eqb}
use borrow.Author.Tests.{lt-ltb}
use Rattle.refusals.specs.Refusals.{bad_model, tape_long, generalised, tones_full, blocks_full, last_bits as bits_long}
use Rattle.law_base.specs.Rules.{◌⇒◌, ◌∣◌}
use Rattle.law_base.proofs.Tests.{first, second}
use Rattle.rows.specs.declared.Block.{Block}
use Rattle.rows.specs.declared.Tone.{Tone}
use Rattle.cut_grammar.specs.declared.GeneralizedData.{GeneralizedData}
use Rattle.cut_grammar.specs.declared.Piece.{Piece}
use Rattle.cut_grammar.specs.declared.Piece.TheVariants.{Standard, Turbo, Tone as PureTone, Pulses, Pure, Generalized, Pause, GroupStart}
use Rattle.cut_grammar.specs.declared.Piece.TheVariants.{GroupEnd, LoopStart, LoopEnd, Stop48, Text, Message, Archive, Hardware}
use Rattle.cut_grammar.specs.declared.Piece.TheVariants.{Custom, Glue}
use Rattle.cut_grammar.specs.declared.Taken.{Taken}
use Rattle.cut_grammar.specs.declared.Taken.TheVariants as taken
use Rattle.cut_grammar.specs.declared.Heading.{Heading}
use Rattle.cut_grammar.specs.declared.Heading.TheVariants.{Version}
use Rattle.cut_grammar.specs.Places.{Places}
use Rattle.cut_grammar.specs.Cut.{cut_at, head_at}
use Rattle.cut_grammar.proofs.Places.{cut_places}
use Rattle.load_general.specs.General.{symbol_at, plain, ordinary, used_bits, data_part, with_pilot, with_data, general_of}
use Rattle.load_state.specs.declared.Halt.TheVariants.{Refusal}
use Rattle.load_state.specs.Parser.{Parsed, Out, on, no, empty, ◌⟫◌, with_tones, with_block, add_tones, add_block, pend, open_loop}
use Rattle.load_blocks.specs.declared.Origin.{Origin}
use Rattle.load_blocks.specs.Adds.{Lent, add_rows}
use Rattle.load_blocks.specs.Sounds.{origin_at, Sound, add_sound, add_sounds}
use Rattle.load_blocks.specs.Blocks.{pair_sounds, stop_sound}
use Rattle.load_blocks.specs.Deeds.{general_deed, stop48_deed, does}
use Rattle.load_source.specs.Meaning.{deed_of}
use Rattle.load_source.specs.Source.{act, Verdict, done, refused, read_on, halted, seeing, fold_from, tzx_of, tzx_see, too_many_bits}
use Rattle.load_source.specs.Source.{bits_judged, headed, read_tzx, read_tap, or_else, load_of}
use Rattle.load_source.specs.Source as source
use Rattle.law_tzx.specs.Kept.{kept_pilot, kept_data, length_right, kept19, kept, Tables, Answers, goes, no-tones, no_blocks}
use Rattle.law_tzx.specs.Tapes.{Open, none_open, loop_opened, nests, kept_then, kept_from, kept_tape}
use Rattle.law_tzx.proofs.Waves.{differ}
use Rattle.law_tzx.proofs.Generals.{pilot_part, DataClauses, data_clauses, data_part_lem}

answers_then : {o : Out} (f : Parsed → Out) → Answers o → ((t : Parsed) → Answers (f t)) → Answers (o ⟫ f)
unfolding ◌⟫◌
answers_then f (goes {t = t}) h = h t
answers_then f no-tones h = no-tones
answers_then f no_blocks h = no_blocks

tones-answer : (most : ℕ) (ts : List Tone) (t : Parsed) → Answers (add_tones most ts t)
unfolding add_tones
tones-answer most ts t = by_room (leb (length t.tones + length ts) most)
  where
    by_room : (b : Bool) → Answers (b ⇒ on (with_tones ts t) ∣ no (Refusal tones_full))
    by_room true = goes
    by_room false = no-tones

block-answers : (most : ℕ) (r : Block) (t : Parsed) → Answers (add_block most r t)
unfolding add_block
block-answers most r t = by_room (ltb (length t.blocks) most)
  where
    by_room : (b : Bool) → Answers (b ⇒ on (with_block r t) ∣ no (Refusal blocks_full))
    by_room true = goes
    by_room false = no_blocks

module _ (lent : Lent) (origin : Origin) (s : List ℕ) where
  sound_answers : (d : Sound) (t : Parsed) → Answers (add_sound lent s origin d t)
  unfolding add_sound add_rows
  sound_answers d t = answers_then (add_block lent.blocks _) (tones-answer lent.tones d.tones t) (block-answers lent.blocks _)

  sounds-answer : (ds : List Sound) (t : Parsed) → Answers (add_sounds lent s origin ds t)
  unfolding add_sounds
  sounds-answer [] t = goes
  sounds-answer (d ∷ ds) t = answers_then (add_sounds lent s origin ds) (sound_answers d t) (sounds-answer ds)

  -- 2A of length 0
  stop-answers : (model n : ℕ) (t : Parsed) → eqb n 0 ≡ true → Answers (does lent s model origin (stop48_deed n) t)
  unfolding stop48_deed does
  stop-answers model n t e = rw e (by_model (eqb model 0))
    where
      by_model : (b : Bool) → Answers (not b ⇒ on t ∣ add_sounds lent s origin (stop_sound ∷ []) t)
      by_model true = sounds-answer (stop_sound ∷ []) t
      by_model false = goes

  -- 19: ordinary data or tones
  general_answers : (model : ℕ) (t : Parsed) (g : GeneralizedData) → Places s g → kept19 s g ≡ true
      → Answers (does lent s model origin (general_deed g (general_of s g)) t)
  unfolding kept19 general_of with_pilot with_data general_deed does
  general_answers model t g places e =
      let k = second (length_right g) (kept_pilot s g && kept_data s g) e in
      let p = pilot_part s g (first (kept_pilot s g) (kept_data s g) k) in
      let d = data_clauses s g places (second (kept_pilot s g) (kept_data s g) k) in
      rw p.given (by_sort p.rows d (ordinary s g) refl)
    where
      by_sort : (ps : List Tone) (d : DataClauses s g) (b : Bool) → ordinary s g ≡ b
          → Answers (does lent s model origin (general_deed g ((ltb 0 g.totd && ordinary s g) ⇒
          plain ps (symbol_at s g.symbols 2 0).first (symbol_at s g.symbols 2 1).first (used_bits g.totd)
          ∣ with_data ps (data_part s g))) t)
      by_sort ps d true q = rw (lt-ltb 0 g.totd d.some, q) (sounds-answer (_ ∷ []) t)
      by_sort ps d false q = rw (lt-ltb 0 g.totd d.some, q, (data_part_lem s g d).given) (sounds-answer (_ ∷ []) t)

-- THE THEOREM: a kept piece goes on, or wants tone rows (5) or block rows (6)
pub kept-answers : (lent : Lent) (origin : Origin) (s : List ℕ) (model : ℕ) (piece : Piece) (t : Parsed) → Tables s piece
    → kept s piece ≡ true → Answers (act lent s model origin piece t)
unfolding kept act deed_of does pend open_loop add_sounds
kept-answers lent origin s model (Standard pause from size) t places e = absurd (differ (sym e))
kept-answers lent origin s model (Turbo d) t places e = sounds-answer lent origin s (_ ∷ []) t
kept-answers lent origin s model (PureTone half count) t places e = sounds-answer lent origin s (_ ∷ []) t
kept-answers lent origin s model (Pulses count from) t places e = sounds-answer lent origin s (pair_sounds s from 0 (count / 2)) t
kept-answers lent origin s model (Pure off one last pause from size) t places e = sounds-answer lent origin s (_ ∷ []) t
kept-answers lent origin s model (Generalized g) t places e = general_answers lent origin s model t g (places g refl) e
kept-answers lent origin s model (Pause n) t places e = sounds-answer lent origin s (_ ∷ []) t
kept-answers lent origin s model (GroupStart from size) t places e = goes
kept-answers lent origin s model GroupEnd t places e = absurd (differ (sym e))
kept-answers lent origin s model (LoopStart times) t places e = goes
kept-answers lent origin s model LoopEnd t places e = absurd (differ (sym e))
kept-answers lent origin s model (Stop48 n) t places e = stop-answers lent origin s model n t e
kept-answers lent origin s model (Text from size) t places e = goes
kept-answers lent origin s model Message t places e = goes
kept-answers lent origin s model Archive t places e = goes
kept-answers lent origin s model Hardware t places e = goes
kept-answers lent origin s model Custom t places e = goes
kept-answers lent origin s model Glue t places e = goes

-- NEVER 4
pub kept_not_4 : (lent : Lent) (origin : Origin) (s : List ℕ) (model : ℕ) (piece : Piece) (t : Parsed) → Tables s piece
    → kept s piece ≡ true → act lent s model origin piece t ≡ no (Refusal generalised) → ⊥
kept_not_4 lent origin s model piece t places e q = by_answer (kept-answers lent origin s model piece t places e) q
  where
    by_answer : {o : Out} → Answers o → o ≡ no (Refusal generalised) → ⊥
    by_answer goes z = let n : ◌≡◌ {A = ℕ} 0 1 = cc in omega arith
    by_answer no-tones z = let n : tones_full ≡ generalised = cc in omega arith
    by_answer no_blocks z = let n : blocks_full ≡ generalised = cc in omega arith

-- a reading that comes to the end, or wants rows
data Ends : Verdict → Type 0 where
  reads : {t : Parsed} → Ends (done t)
  few_tones : Ends (refused tones_full)
  few_blocks : Ends (refused blocks_full)

ends-after : {o : Out} (k : Parsed → Verdict) → Answers o → ((t : Parsed) → Ends (k t)) → Ends (read_on o k)
unfolding read_on halted
ends-after k (goes {t = t}) h = h t
ends-after k no-tones h = few_tones
ends-after k no_blocks h = few_blocks

module _ (lent : Lent) (s : List ℕ) (model : ℕ) where
  piece_ends : (n at : ℕ) (o : Open) (t : Parsed) (x : Taken) → cut_at s at source.full ≡ x → kept_then s o x (kept_from s n) ≡ true
      → ((next : ℕ) (p : Open) (v : Parsed) → kept_from s n next p ≡ true → Ends (fold_from (tzx_see lent s model) n next v))
      → Ends (seeing (tzx_of lent s model at x) t (fold_from (tzx_see lent s model) n))
  unfolding kept_then seeing tzx_of
  piece_ends n at o t taken.End q e later = reads
  piece_ends n at o t (taken.Whole kind from next piece) q e later =
      let p = loop_opened kind o in
      let k = first (kept s piece && not (nests kind o)) (kept_from s n next p) e in
      let tables : Tables s piece =
      λ g i. (cut_places s at source.full (q ∙ ap (λ (x : Piece). taken.Whole kind from next x) i)).places in
      ends-after (fold_from (tzx_see lent s model) n next)
      (kept-answers lent (origin_at kind from) s model piece t tables (first (kept s piece) (not (nests kind o)) k))
      (λ v. later next p v (second (kept s piece && not (nests kind o)) (kept_from s n next p) e))
  piece_ends n at o t (taken.Unknown kind described) q e later = absurd (let z : ◌≡◌ {A = ℕ} 0 1 = cc in omega arith)
  piece_ends n at o t (taken.Short kind p w) q e later = absurd (let z : ◌≡◌ {A = ℕ} 0 1 = cc in omega arith)
  piece_ends n at o t (taken.Overflow kind p) q e later = absurd (let z : ◌≡◌ {A = ℕ} 0 1 = cc in omega arith)

  run_ends : (n at : ℕ) (o : Open) (t : Parsed) → kept_from s n at o ≡ true → Ends (fold_from (tzx_see lent s model) n at t)
  unfolding kept_from fold_from tzx_see
  run_ends zero at o t e = reads
  run_ends (suc n) at o t e = piece_ends n at o t (cut_at s at source.full) refl e (λ next p v. run_ends n next p v)

  judged_not_4 : {r : Verdict} → Ends r → or_else (bits_judged r) (read_tap lent s) ≡ source.no generalised → ⊥
  unfolding bits_judged or_else
  judged_not_4 (reads {t = t}) e = by_bits (too_many_bits t.blocks) e
    where
      by_bits : (b : Bool) → or_else (b ⇒ refused bits_long ∣ done t) (read_tap lent s) ≡ source.no generalised → ⊥
      by_bits true q = let z : bits_long ≡ generalised = cc in omega arith
      by_bits false q = let z : ◌≡◌ {A = ℕ} 0 1 = cc in omega arith
  judged_not_4 few_tones e = let z : tones_full ≡ generalised = cc in omega arith
  judged_not_4 few_blocks e = let z : blocks_full ≡ generalised = cc in omega arith

  -- NOR IS A TZX OF KEPT PIECES refused 4
  pub tape_not_4 : {major minor : ℕ} → head_at s ≡ Version major minor → kept_tape s ≡ true
      → load_of lent s model ≡ source.no generalised → ⊥
  unfolding kept_tape load_of read_tzx headed
  tape_not_4 h k e = by_model (leb 3 model) (ltb 1048576 (length s)) e
    where
      by_model : (b c : Bool)
          → (b ⇒ source.no bad_model ∣ c ⇒ source.no tape_long ∣ or_else (headed lent s model (head_at s)) (read_tap lent s))
          ≡ source.no generalised
          → ⊥
      by_model true c q = let z : bad_model ≡ generalised = cc in omega arith
      by_model false true q = let z : tape_long ≡ generalised = cc in omega arith
      by_model false false q =
          judged_not_4 (run_ends (length s) 10 none_open empty k)
          (ap (λ (x : Heading). or_else (headed lent s model x) (read_tap lent s)) (sym h) ∙ q)
