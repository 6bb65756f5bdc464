-- A LOAD'S REFUSALS ARE 1 TO 7; those of a TZX's pieces 4 to 6, of a TZX 4 to 7, of a TAP 5 and 6. Assumes nothing.
use Prim.Native.Nat.{ℕ, zero, suc, ◌+◌, ◌≤◌}
use native.Mathlib.Omega.{arith}
use mathlib.Core.Bool.{Bool, true, false, ◌&&◌, not}
use mathlib.Core.List.{List, [], ◌∷◌}
use lib.ListN.{length}
use lib.Dec.{ltb, leb, eqb}
use Rattle.refusals.specs.Refusals.{bad_model, tape_long, generalised, tones_full, blocks_full, last_bits}
use Rattle.law_base.specs.Rules.{◌⇒◌, ◌∣◌}
use Rattle.rows.specs.declared.Block.{Block}
use Rattle.rows.specs.declared.Tone.{Tone}
use Rattle.cut_grammar.specs.declared.Piece.{Piece}
use Rattle.cut_grammar.specs.declared.Taken.{Taken}
use Rattle.cut_grammar.specs.declared.Taken.TheVariants as taken
use Rattle.cut_grammar.specs.declared.TakenTap.{TakenTap}
use Rattle.cut_grammar.specs.declared.TakenTap.TheVariants as tap
use Rattle.cut_grammar.specs.declared.Heading.{Heading}
use Rattle.cut_grammar.specs.declared.Heading.TheVariants as heading
use Rattle.cut_grammar.specs.Cut.{cut_at, tap_at, head_at}
use Rattle.std.specs.Prelude.{Option, Some, None}
use Rattle.load_state.specs.declared.Body.{Body}
use Rattle.load_state.specs.declared.Halt.TheVariants.{Refusal, Length}
use Rattle.load_state.specs.Parser.{Parsed, Out, on, no as halt, empty, ◌⟫◌, add_tones, add_block, pend, end_group, open_loop, copy_rows}
use Rattle.load_state.specs.Parser.{copies, closed, close_loop}
use Rattle.load_blocks.specs.Adds.{Lent, add_rows}
use Rattle.load_blocks.specs.declared.Origin.{Origin}
use Rattle.load_blocks.specs.Sounds.{Sound, origin_at, add_sound, add_sounds}
use Rattle.load_blocks.specs.Deeds.{Deed, adding, groups, texts, group_ends, opens, closes, panics, errs, does as enact}
use Rattle.load_source.specs.declared.Failure.{Failure}
use Rattle.load_source.specs.Meaning.{deed_of}
use Rattle.load_source.specs.Source.{See, the_end, bad, refuses, thing, Verdict, done, failed, refused, act, halted, read_on, seeing}
use Rattle.load_source.specs.Source.{fold_from, too_many_bits, bits_judged, tzx_of, tzx_see, headed, read_tzx, tap_of, tap_see, read_tap, full, Load}
use Rattle.load_source.specs.Source.{no, or_tap, or_else, load_of}
use Rattle.load_tape.specs.Load.{named_load}
use Rattle.law_every_load.specs.Numbered.{Numbered, as_tzx, as_tap, both, by}

-- a number from lo to hi
pub record Between (lo hi k : ℕ) : Type 0 where
  pub low : lo ≤ k
  pub high : k ≤ hi

-- a step's answer, what is seen at a place, a reading's answer: each refusal by such a number. A step that adds blocks alone doesn't err
pub data HaltsBy (lo hi : ℕ) : Out → Type 0 where
  goes : {t : Parsed} → HaltsBy lo hi (on t)
  says : {k : ℕ} → Between lo hi k → HaltsBy lo hi (halt (Refusal k))
  fails : {kind at n : ℕ} → lo ≤ generalised → HaltsBy lo hi (halt (Length kind at n))

pub data Sees (lo hi : ℕ) : See → Type 0 where
  ends : Sees lo hi the_end
  bad_seen : {f : Failure} → Sees lo hi (bad f)
  sees : {k : ℕ} → Between lo hi k → Sees lo hi (refuses k)
  does : {next : ℕ} {f : Parsed → Out} → ((t : Parsed) → HaltsBy lo hi (f t)) → Sees lo hi (thing next f)

pub data Tells (lo hi : ℕ) : Verdict → Type 0 where
  whole : {t : Parsed} → Tells lo hi (done t)
  fails : {f : Failure} → Tells lo hi (failed f)
  tells : {k : ℕ} → Between lo hi k → Tells lo hi (refused k)

four : Between generalised blocks_full generalised
four = record { low = omega arith; high = omega arith }

-- a block's refusals are among a piece's
wider : {o : Out} → HaltsBy tones_full blocks_full o → HaltsBy generalised blocks_full o
wider goes = goes
wider (says {k = k} b) = says {k = k} (record { low = omega (arith, b.low); high = b.high })
wider (fails h) = fails (omega arith)

-- a rule's answer has what both answers have
pub either : (P : Out → Type 0) (b : Bool) {x y : Out} → P x → P y → P (b ⇒ x ∣ y)
either P true h k = h
either P false h k = k

then_says : {lo hi : ℕ} {o : Out} {f : Parsed → Out} → HaltsBy lo hi o → ((t : Parsed) → HaltsBy lo hi (f t))
    → HaltsBy lo hi (o ⟫ f)
unfolding ◌⟫◌
then_says (goes {t}) h = h t
then_says (says k) h = says k
then_says (fails l) h = fails l

tones_says : (most : ℕ) (ts : List Tone) (t : Parsed) → HaltsBy tones_full blocks_full (add_tones most ts t)
unfolding add_tones
tones_says most ts t = either (HaltsBy tones_full blocks_full) (leb (length t.tones + length ts) most) goes
    (says (record { low = omega arith; high = omega arith }))

block_says : (most : ℕ) (r : Block) (t : Parsed) → HaltsBy tones_full blocks_full (add_block most r t)
unfolding add_block
block_says most r t =
    either (HaltsBy tones_full blocks_full) (ltb (length t.blocks) most) goes (says (record { low = omega arith; high = omega arith }))

-- copies of a loop
row_says : (most : ℕ) (rs : List Block) (t : Parsed) → HaltsBy tones_full blocks_full (copy_rows most rs t)
unfolding copy_rows
row_says most [] t = goes
row_says most (r ∷ rs) t = then_says (block_says most _ t) (λ u. row_says most rs u)

copies_says : (most n : ℕ) (rs : List Block) (t : Parsed) → HaltsBy tones_full blocks_full (copies most n rs t)
unfolding copies
copies_says most zero rs t = goes
copies_says most (suc n) rs t = then_says (row_says most rs t) (λ u. copies_says most n rs u)

pub closed_says : (most : ℕ) (l : Option Body) (t : Parsed) → HaltsBy tones_full blocks_full (closed most l t)
unfolding closed
closed_says most None t = goes
closed_says most (Some b) t = copies_says most b.times _ _

module _ (lent : Lent) (s : List ℕ) where
  pub sound_says : (origin : Origin) (d : Sound) (t : Parsed) → HaltsBy tones_full blocks_full (add_sound lent s origin d t)
  unfolding add_sound add_rows
  sound_says origin d t = then_says (tones_says lent.tones d.tones t) (λ u. block_says lent.blocks _ u)

  pub sounds_say : (origin : Origin) (ds : List Sound) (t : Parsed) → HaltsBy tones_full blocks_full (add_sounds lent s origin ds t)
  unfolding add_sounds
  sounds_say origin [] t = goes
  sounds_say origin (d ∷ ds) t = then_says (sound_says origin d t) (λ u. sounds_say origin ds u)

  does_says : (model : ℕ) (origin : Origin) (d : Deed) (t : Parsed) → HaltsBy generalised blocks_full (enact lent s model origin d t)
  unfolding enact pend end_group open_loop close_loop
  does_says model origin (adding only48 ds) t =
      either (HaltsBy generalised blocks_full) (only48 && not (eqb model 0)) goes (wider (sounds_say origin ds t))
  does_says model origin (groups from size) t = goes
  does_says model origin (texts from size) t = goes
  does_says model origin group_ends t = goes
  does_says model origin (opens n) t = goes
  does_says model origin closes t = wider (closed_says lent.blocks t.body t)
  does_says model origin panics t = says four
  does_says model origin (errs n) t = fails (omega arith)

  act_says : (model : ℕ) (origin : Origin) (p : Piece) (t : Parsed) → HaltsBy generalised blocks_full (act lent s model origin p t)
  unfolding act
  act_says model origin p t = does_says model origin (deed_of s p) t

  tzx_sees : (model at : ℕ) (c : Taken) → Sees generalised blocks_full (tzx_of lent s model at c)
  unfolding tzx_of
  tzx_sees model at taken.End = ends
  tzx_sees model at (taken.Whole kind from next piece) = does (act_says model (origin_at kind from) piece)
  tzx_sees model at (taken.Unknown kind described) = does (λ t. goes)
  tzx_sees model at (taken.Short kind p w) = bad_seen
  tzx_sees model at (taken.Overflow kind p) = sees four

  tap_sees : (at : ℕ) (c : TakenTap) → Sees tones_full blocks_full (tap_of lent s at c)
  unfolding tap_of
  tap_sees at tap.End = ends
  tap_sees at tap.Lone = ends
  tap_sees at (tap.Block from size next) = does (λ t. sound_says _ _ t)
  tap_sees at (tap.Short p w) = bad_seen

  -- a run of things, and what is judged of it
  after_tells : {lo hi : ℕ} {o : Out} {k : Parsed → Verdict} → HaltsBy lo hi o → ((t : Parsed) → Tells lo hi (k t))
      → Tells lo hi (read_on o k)
  unfolding read_on halted
  after_tells (goes {t}) h = h t
  after_tells (says b) h = tells b
  after_tells (fails l) h = fails

  seeing_tells : {lo hi : ℕ} {x : See} {k : ℕ → Parsed → Verdict} → Sees lo hi x → (t : Parsed)
      → ((n : ℕ) (u : Parsed) → Tells lo hi (k n u)) → Tells lo hi (seeing x t k)
  unfolding seeing
  seeing_tells ends t h = whole
  seeing_tells bad_seen t h = fails
  seeing_tells (sees b) t h = tells b
  seeing_tells (does {next} f) t h = after_tells (f t) (h next)

  run_tells : {lo hi : ℕ} {see : ℕ → See} → ((at : ℕ) → Sees lo hi (see at)) → (n at : ℕ) (t : Parsed)
      → Tells lo hi (fold_from see n at t)
  unfolding fold_from
  run_tells h zero at t = whole
  run_tells h (suc n) at t = seeing_tells (h at) t (λ m u. run_tells h n m u)

  judged_tells : {r : Verdict} → Tells generalised blocks_full r → Tells generalised last_bits (bits_judged r)
  unfolding bits_judged
  judged_tells (whole {t}) = by_cases (too_many_bits t.blocks)
    where
      by_cases : (b : Bool) → Tells generalised last_bits (b ⇒ refused last_bits ∣ done t)
      by_cases true = tells {k = last_bits} (record { low = omega arith; high = omega arith })
      by_cases false = whole
  judged_tells fails = fails
  judged_tells (tells {k = k} b) = tells {k = k} (record { low = b.low; high = omega (arith, b.high) })

  pub pieces_tell : (model : ℕ) → Tells generalised blocks_full (fold_from (tzx_see lent s model) (length s) 10 empty)
  unfolding tzx_see
  pieces_tell model = run_tells (λ at. tzx_sees model at (cut_at s at full)) (length s) 10 empty

  headed_tells : (model : ℕ) (h : Heading) → Tells generalised last_bits (headed lent s model h)
  unfolding headed
  headed_tells model (heading.Version major minor) = judged_tells (pieces_tell model)
  headed_tells model heading.BadSignature = fails
  headed_tells model (heading.Short p w) = fails

  pub tzx_tells : (model : ℕ) → Tells generalised last_bits (read_tzx lent s model)
  unfolding read_tzx
  tzx_tells model = headed_tells model (head_at s)

  pub tap_tells : Tells tones_full blocks_full (read_tap lent s)
  unfolding read_tap tap_see
  tap_tells = run_tells (λ at. tap_sees at (tap_at s at)) (length s) 0 empty

or_tap_lem : (f : Failure) {r : Verdict} → Tells tones_full blocks_full r → Numbered (or_tap f r)
unfolding or_tap
or_tap_lem f whole = as_tap
or_tap_lem f fails = both
or_tap_lem f (tells {k = k} b) = by {k = k} (omega (arith, b.low)) (omega (arith, b.high))

or_else_lem : {r q : Verdict} → Tells generalised last_bits r → Tells tones_full blocks_full q → Numbered (or_else r q)
unfolding or_else
or_else_lem whole q = as_tzx
or_else_lem fails q = or_tap_lem _ q
or_else_lem (tells {k = k} b) q = by {k = k} (omega (arith, b.low)) b.high

pub load_numbered : (lent : Lent) (s : List ℕ) (model : ℕ) → Numbered (load_of lent s model)
unfolding load_of
load_numbered lent s model = by_cases (leb 3 model) (ltb 1048576 (length s))
  where
    by_cases : (a b : Bool) → Numbered (a ⇒ no bad_model ∣ b ⇒ no tape_long ∣ or_else (read_tzx lent s model) (read_tap lent s))
    by_cases true b = by {k = bad_model} (omega arith) (omega arith)
    by_cases false true = by {k = tape_long} (omega arith) (omega arith)
    by_cases false false = or_else_lem (tzx_tells lent s model) (tap_tells lent s)

-- and so after the naming pass
pub named_numbered : (s : List ℕ) {l : Load} → Numbered l → Numbered (named_load s l)
unfolding named_load
named_numbered s as_tzx = as_tzx
named_numbered s as_tap = as_tap
named_numbered s both = both
named_numbered s (by a b) = by a b
