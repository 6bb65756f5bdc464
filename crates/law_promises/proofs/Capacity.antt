-- WHAT IS LENT DECIDES between one answer and refusals 5 and 6, and nothing else: a load that is accepted is the same in larger tables,
-- and in tables that are large enough it is the load without tables. Assumes nothing.
use Prim.Native.Nat.{ℕ, zero, suc, ◌+◌, ◌<◌}
use native.Mathlib.Omega.{arith}
use borrow.Author.Tests.{le-leb, leb-true, lt-ltb, ltb-true}
use mathlib.Core.Path.{◌≡◌, refl, ap, subst}
use mathlib.Core.Bool.{Bool, true, false, ◌&&◌, not}
use mathlib.Core.Logic.{◌⊎◌, inl, inr}
use mathlib.Core.List.{List, [], ◌∷◌}
use lib.ListN.{length, drop}
use lib.Dec.{leb, ltb, eqb}
use Rattle.refusals.specs.Refusals.{bad_model, tape_long, generalised, tones_full, blocks_full, last_bits}
use Rattle.std.specs.Prelude.{Option, None, Some}
use Rattle.law_base.specs.Rules.{◌⇒◌, ◌∣◌}
use Rattle.rows.specs.declared.Block.{Block}
use Rattle.rows.specs.declared.Tone.{Tone}
use Rattle.cut_grammar.specs.declared.Taken.{Taken}
use Rattle.cut_grammar.specs.declared.Taken.TheVariants as taken
use Rattle.cut_grammar.specs.declared.TakenTap.{TakenTap}
use Rattle.cut_grammar.specs.declared.TakenTap.TheVariants as tap
use Rattle.cut_grammar.specs.declared.Heading.{Heading}
use Rattle.cut_grammar.specs.declared.Heading.TheVariants as heading
use Rattle.cut_grammar.specs.Cut.{cut_at, tap_at, head_at}
use Rattle.load_state.specs.declared.Body.{Body}
use Rattle.load_state.specs.declared.Halt.TheVariants.{Refusal, Length}
use Rattle.load_state.specs.Parser.{Parsed, Out, on, no as halt, empty, ◌⟫◌, with_tones, with_block, with_body, nameless}
use Rattle.load_state.specs.Parser.{add_tones, add_block}
use Rattle.load_state.specs.Parser.{pend, end_group, open_loop, copy_rows, copies, closed, close_loop}
use Rattle.load_blocks.specs.Adds.{Lent, add_rows}
use Rattle.load_blocks.specs.declared.Origin.{Origin}
use Rattle.load_blocks.specs.Sounds.{Sound, origin_at, row_of, add_sound, add_sounds}
use Rattle.load_blocks.specs.Deeds.{Deed, adding, groups, texts, group_ends, opens, closes, panics, errs, does}
use Rattle.load_source.specs.declared.Failure.{Failure}
use Rattle.load_source.specs.Meaning.{deed_of}
use Rattle.load_source.specs.Source.{See, Verdict, done, failed, refused, act, halted, read_on, seeing, fold_from, full}
use Rattle.load_source.specs.Source.{too_many_bits, bits_judged}
use Rattle.load_source.specs.Source.{tzx_of, tzx_see, headed, read_tzx, tap_of, tap_see, read_tap, Load, tzx, tapped, both_err, no, or_tap, or_else}
use Rattle.load_source.specs.Source.{load_of}
use Rattle.load_tape.specs.Load.{named_tape, named_load, load_named}
use Rattle.law_every_load.specs.OfSource.{Reads as Accepts, as_tzx, as_tap}
use Rattle.law_promises.specs.Boundless.{with_rows, with_all_rows, with_copy, with_copies, with_looped, boundless_does}
use Rattle.law_promises.specs.Boundless.{boundless_piece, boundless_tzx, boundless_block, boundless_tap, boundless_load}
use Rattle.law_promises.specs.Boundless.{Larger, Enough, Full, tones, blocks}

-- an answer in fewer rows, and one in more: they are the same, or the first is 5 or 6
pub data Near {A : Type 0} (refuse : ℕ → A) : A → A → Type 0 where
  same : {x : A} → Near refuse x x
  short : {k : ℕ} {y : A} → Full k → Near refuse (refuse k) y

-- an answer that rows alone decide, and what it is where they are enough
pub record Tends {A : Type 0} (refuse : ℕ → A) (f : Lent → A) (x : A) : Type 0 where
  pub larger : (l m : Lent) → Larger l m → Near refuse (f l) (f m)
  pub enough : Enough f x

-- rows for both
abbrev both : Lent → Lent → Lent
both l m = record { blocks = l.blocks + m.blocks; tones = l.tones + m.tones }

for_first : (l m n : Lent) → Larger (both l m) n → Larger l n
for_first l m n h = record { blocks = omega (arith, h.blocks); tones = omega (arith, h.tones) }

for_second : (l m n : Lent) → Larger (both l m) n → Larger m n
for_second l m n h = record { blocks = omega (arith, h.blocks); tones = omega (arith, h.tones) }

none : Lent
none = record { blocks = 0; tones = 0 }

tends_as : {A : Type 0} {refuse : ℕ → A} (x : A) → Tends refuse (λ _. x) x
tends_as x = record { larger = λ l m h. same; enough = record { rows = none; settled = λ m h. refl } }

abbrev Steps : (Lent → Out) → Out → Type 0
Steps f o = Tends (λ k. halt (Refusal k)) f o

abbrev Reads : (Lent → Verdict) → Verdict → Type 0
Reads f r = Tends refused f r

-- one step after another
then_near : {x y : Out} {f g : Parsed → Out} → Near (λ k. halt (Refusal k)) x y
    → ((t : Parsed) → Near (λ k. halt (Refusal k)) (f t) (g t))
    → Near (λ k. halt (Refusal k)) (x ⟫ f) (y ⟫ g)
unfolding ◌⟫◌
then_near (same {x = on t}) h = h t
then_near (same {x = halt k}) h = same
then_near (short n) h = short n

then_enough : {f : Lent → Out} {g : Lent → Parsed → Out} {h : Parsed → Out} (o : Out) → Enough f o
    → ((t : Parsed) → Enough (λ l. g l t) (h t))
    → Enough (λ l. f l ⟫ g l) (o ⟫ h)
unfolding ◌⟫◌
then_enough {g = g} (on t) e k =
    record {
      rows = both e.rows (k t).rows;
      settled = λ m a. rw (e.settled m (for_first e.rows (k t).rows m a)) ((k t).settled m (for_second e.rows (k t).rows m a));
    }
then_enough (halt j) e k = record { rows = e.rows; settled = λ m a. rw (e.settled m a) }

tends_then : {f : Lent → Out} {o : Out} {g : Lent → Parsed → Out} {h : Parsed → Out} → Steps f o
    → ((t : Parsed) → Steps (λ l. g l t) (h t))
    → Steps (λ l. f l ⟫ g l) (o ⟫ h)
tends_then {o = o} a b =
    record {
      larger = λ l m h. then_near (a.larger l m h) (λ t. (b t).larger l m h);
      enough = then_enough o a.enough (λ t. (b t).enough);
    }

-- tone rows, a block
tends_tones : (ts : List Tone) (t : Parsed) → Steps (λ l. add_tones l.tones ts t) (on (with_tones ts t))
unfolding add_tones
tends_tones ts t = within (length t.tones + length ts)
  where
    by_room : (n : ℕ) (l m : Lent) → Larger l m → (b : Bool) → leb n l.tones ≡ b
        → Near (λ k. halt (Refusal k)) (b ⇒ on (with_tones ts t) ∣ halt (Refusal tones_full))
        (leb n m.tones ⇒ on (with_tones ts t) ∣ halt (Refusal tones_full))
    by_room n l m h true e = rw (le-leb n m.tones (omega (arith, leb-true n l.tones e, h.tones))) same
    by_room n l m h false e = short tones

    within : (n : ℕ) → Steps (λ l. leb n l.tones ⇒ on (with_tones ts t) ∣ halt (Refusal tones_full)) (on (with_tones ts t))
    within n =
        record {
          larger = λ l m h. by_room n l m h (leb n l.tones) refl;
          enough = record { rows = record { blocks = 0; tones = n }; settled = λ m h. rw (le-leb n m.tones h.tones) };
        }

tends_block : (r : Block) (t : Parsed) → Steps (λ l. add_block l.blocks r t) (on (with_block r t))
unfolding add_block
tends_block r t = within (length t.blocks)
  where
    by_room : (n : ℕ) (l m : Lent) → Larger l m → (b : Bool) → ltb n l.blocks ≡ b
        → Near (λ k. halt (Refusal k)) (b ⇒ on (with_block r t) ∣ halt (Refusal blocks_full))
        (ltb n m.blocks ⇒ on (with_block r t) ∣ halt (Refusal blocks_full))
    by_room n l m h true e = rw (lt-ltb n m.blocks (omega (arith, ltb-true n l.blocks e, h.blocks))) same
    by_room n l m h false e = short blocks

    within : (n : ℕ) → Steps (λ l. ltb n l.blocks ⇒ on (with_block r t) ∣ halt (Refusal blocks_full)) (on (with_block r t))
    within n =
        record {
          larger = λ l m h. by_room n l m h (ltb n l.blocks) refl;
          enough = record {
            rows = record { blocks = n + 1; tones = 0 };
            settled = λ m h. rw (lt-ltb n m.blocks (omega (arith, h.blocks)));
          };
        }

-- sounds, copies of a loop's body
tends_sound : (s : List ℕ) (origin : Origin) (d : Sound) (t : Parsed) → Steps (λ l. add_sound l s origin d t) (on (with_rows s origin d t))
unfolding add_sound add_rows with_rows ◌⟫◌
tends_sound s origin d t = tends_then (tends_tones d.tones t) (λ u. tends_block (row_of s origin d (length t.tones)) u)

tends_sounds : (s : List ℕ) (origin : Origin) (ds : List Sound) (t : Parsed)
    → Steps (λ l. add_sounds l s origin ds t) (on (with_all_rows s origin ds t))
unfolding add_sounds with_all_rows ◌⟫◌
tends_sounds s origin [] t = tends_as (on t)
tends_sounds s origin (d ∷ ds) t = tends_then (tends_sound s origin d t) (λ u. tends_sounds s origin ds u)

tends_copy : (rs : List Block) (t : Parsed) → Steps (λ l. copy_rows l.blocks rs t) (on (with_copy rs t))
unfolding copy_rows with_copy ◌⟫◌
tends_copy [] t = tends_as (on t)
tends_copy (r ∷ rs) t = tends_then (tends_block (nameless r) t) (λ u. tends_copy rs u)

tends_copies : (n : ℕ) (rs : List Block) (t : Parsed) → Steps (λ l. copies l.blocks n rs t) (on (with_copies n rs t))
unfolding copies with_copies ◌⟫◌
tends_copies zero rs t = tends_as (on t)
tends_copies (suc n) rs t = tends_then (tends_copy rs t) (λ u. tends_copies n rs u)

tends_looped : (b : Option Body) (t : Parsed) → Steps (λ l. closed l.blocks b t) (on (with_looped b t))
unfolding closed with_looped
tends_looped None t = tends_as (on t)
tends_looped (Some b) t = tends_copies b.times (drop b.start t.blocks) (with_body None t)

-- what a piece does
tends_does : (s : List ℕ) (model : ℕ) (origin : Origin) (d : Deed) (t : Parsed)
    → Steps (λ l. does l s model origin d t) (boundless_does s model origin d t)
unfolding does boundless_does close_loop
tends_does s model origin (adding only48 ds) t = by_model (only48 && not (eqb model 0))
  where
    by_model : (b : Bool) → Steps (λ l. b ⇒ on t ∣ add_sounds l s origin ds t) (on (b ⇒ t ∣ with_all_rows s origin ds t))
    by_model true = tends_as (on t)
    by_model false = tends_sounds s origin ds t
tends_does s model origin (groups from size) t = tends_as _
tends_does s model origin (texts from size) t = tends_as _
tends_does s model origin group_ends t = tends_as _
tends_does s model origin (opens n) t = tends_as _
tends_does s model origin closes t = tends_looped t.body t
tends_does s model origin panics t = tends_as _
tends_does s model origin (errs n) t = tends_as _

-- a step in a reading, then the rest of it
after_near : {x y : Out} {f g : Parsed → Verdict} → Near (λ k. halt (Refusal k)) x y → ((t : Parsed) → Near refused (f t) (g t))
    → Near refused (read_on x f) (read_on y g)
unfolding read_on halted
after_near (same {x = on t}) h = h t
after_near (same {x = halt k}) h = same
after_near (short n) h = short n

after-enough : {f : Lent → Out} {g : Lent → Parsed → Verdict} {h : Parsed → Verdict} (o : Out) → Enough f o
    → ((t : Parsed) → Enough (λ l. g l t) (h t))
    → Enough (λ l. read_on (f l) (g l)) (read_on o h)
unfolding read_on
after-enough {g = g} (on t) e k =
    record {
      rows = both e.rows (k t).rows;
      settled = λ m a. rw (e.settled m (for_first e.rows (k t).rows m a)) ((k t).settled m (for_second e.rows (k t).rows m a));
    }
after-enough (halt j) e k = record { rows = e.rows; settled = λ m a. rw (e.settled m a) }

tends_after : {f : Lent → Out} {o : Out} {g : Lent → Parsed → Verdict} {h : Parsed → Verdict} → Steps f o
    → ((t : Parsed) → Reads (λ l. g l t) (h t))
    → Reads (λ l. read_on (f l) (g l)) (read_on o h)
tends_after {o = o} a b =
    record {
      larger = λ l m h. after_near (a.larger l m h) (λ t. (b t).larger l m h);
      enough = after-enough o a.enough (λ t. (b t).enough);
    }

-- a run, by its turns
abbrev Rest : (Lent → ℕ → Parsed → Verdict) → (ℕ → Parsed → Verdict) → Type 0
Rest k h = (next : ℕ) (u : Parsed) → Reads (λ l. k l next u) (h next u)

abbrev Turns : (Lent → ℕ → See) → (ℕ → See) → Type 0
Turns see free = (at : ℕ) (t : Parsed) (k : Lent → ℕ → Parsed → Verdict) (h : ℕ → Parsed → Verdict) → Rest k h
    → Reads (λ l. seeing (see l at) t (k l)) (seeing (free at) t h)

tends_run : (see : Lent → ℕ → See) (free : ℕ → See) → Turns see free → (n at : ℕ) (t : Parsed)
    → Reads (λ l. fold_from (see l) n at t) (fold_from free n at t)
unfolding fold_from
tends_run see free w zero at t = tends_as (done t)
tends_run see free w (suc n) at t = w at t (λ l. fold_from (see l) n) (fold_from free n) (λ next u. tends_run see free w n next u)

module _ (s : List ℕ) where
  tzx-turns : (model : ℕ) → Turns (λ l. tzx_see l s model) (λ at. boundless_piece s model at (cut_at s at full))
  unfolding tzx_see tzx_of boundless_piece seeing read_on act
  tzx-turns model at t k h rest = of (cut_at s at full)
    where
      of : (c : Taken) → Reads (λ l. seeing (tzx_of l s model at c) t (k l)) (seeing (boundless_piece s model at c) t h)
      of taken.End = tends_as (done t)
      of (taken.Whole kind from next piece) = tends_after (tends_does s model (origin_at kind from) (deed_of s piece) t) (λ u. rest next u)
      of (taken.Unknown kind described) = rest (at + 1) t
      of (taken.Short kind p w) = tends_as _
      of (taken.Overflow kind p) = tends_as _

  tap_turns : Turns (λ l. tap_see l s) (λ at. boundless_block s at (tap_at s at))
  unfolding tap_see tap_of boundless_block seeing read_on
  tap_turns at t k h rest = of (tap_at s at)
    where
      of : (c : TakenTap) → Reads (λ l. seeing (tap_of l s at c) t (k l)) (seeing (boundless_block s at c) t h)
      of tap.End = tends_as (done t)
      of tap.Lone = tends_as (done t)
      of (tap.Block from size next) = tends_after (tends_sound s (origin_at _ at) _ t) (λ u. rest next u)
      of (tap.Short p w) = tends_as _

-- 7's test, the two formats, the naming pass: none asks for rows
judged_tends : {f : Lent → Verdict} {r : Verdict} → Reads f r → Reads (λ l. bits_judged (f l)) (bits_judged r)
unfolding bits_judged
judged_tends a =
    record {
      larger = λ l m h. judged_near (a.larger l m h);
      enough = record { rows = a.enough.rows; settled = λ m h. ap bits_judged (a.enough.settled m h) };
    }
  where
    judged_near : {x y : Verdict} → Near refused x y → Near refused (bits_judged x) (bits_judged y)
    judged_near same = same
    judged_near (short n) = short n

else_tends : {f g : Lent → Verdict} {r q : Verdict} → Reads f r → Reads g q → Tends no (λ l. or_else (f l) (g l)) (or_else r q)
unfolding or_else or_tap
else_tends a b =
    record {
      larger = λ l m h. else_near (a.larger l m h) (b.larger l m h);
      enough = record {
        rows = both a.enough.rows b.enough.rows;
        settled = λ m h. rw (
          a.enough.settled m (for_first a.enough.rows b.enough.rows m h),
          b.enough.settled m (for_second a.enough.rows b.enough.rows m h),
        );
      };
    }
  where
    tap_near : (f : Failure) {x y : Verdict} → Near refused x y → Near no (or_tap f x) (or_tap f y)
    tap_near f same = same
    tap_near f (short n) = short n

    else_near : {x y z w : Verdict} → Near refused x y → Near refused z w → Near no (or_else x z) (or_else y w)
    else_near (same {x = done t}) q = same
    else_near (same {x = failed f}) q = tap_near f q
    else_near (same {x = refused k}) q = same
    else_near (short n) q = short n

named_tends : (s : List ℕ) {f : Lent → Load} {x : Load} → Tends no f x → Tends no (λ l. named_load s (f l)) (named_load s x)
unfolding named_load
named_tends s a =
    record {
      larger = λ l m h. named_near (a.larger l m h);
      enough = record { rows = a.enough.rows; settled = λ m h. ap (named_load s) (a.enough.settled m h) };
    }
  where
    named_near : {x y : Load} → Near no x y → Near no (named_load s x) (named_load s y)
    named_near same = same
    named_near (short n) = short n

-- a load that is accepted is so after the naming pass, and not refused
pub named_reads : (s : List ℕ) {x : Load} {t : Parsed} → Accepts x t → Accepts (named_load s x) (named_tape s t)
unfolding named_load
named_reads s as_tzx = as_tzx
named_reads s as_tap = as_tap

refuses : {x : Load} {t : Parsed} {k : ℕ} → Accepts x t → x ≡ no k → ⊥
refuses as_tzx e = let z : ◌≡◌ {A = ℕ} 0 1 = cc in omega arith
refuses as_tap e = let z : ◌≡◌ {A = ℕ} 0 1 = cc in omega arith

module _ (s : List ℕ) (model : ℕ) where
  tzx_tends : Reads (λ l. read_tzx l s model) (boundless_tzx s model (head_at s))
  unfolding read_tzx headed boundless_tzx
  tzx_tends = of (head_at s)
    where
      of : (h : Heading) → Reads (λ l. headed l s model h) (boundless_tzx s model h)
      of (heading.Version major minor) = judged_tends (tends_run _ _ (tzx-turns s model) (length s) 10 empty)
      of heading.BadSignature = tends_as _
      of (heading.Short p w) = tends_as _

  tap_tends : Reads (λ l. read_tap l s) (boundless_tap s)
  unfolding read_tap boundless_tap
  tap_tends = tends_run _ _ (tap_turns s) (length s) 0 empty

  load_tends : Tends no (λ l. load_named l s model) (boundless_load s model)
  unfolding load_named load_of boundless_load
  load_tends = named_tends s (by_tests (leb 3 model) (ltb 1048576 (length s)))
    where
      by_tests : (a b : Bool) → Tends no (λ l. a ⇒ no bad_model ∣ b ⇒ no tape_long ∣ or_else (read_tzx l s model) (read_tap l s))
          (a ⇒ no bad_model ∣ b ⇒ no tape_long ∣ or_else (boundless_tzx s model (head_at s)) (boundless_tap s))
      by_tests true b = tends_as _
      by_tests false true = tends_as _
      by_tests false false = else_tends tzx_tends tap_tends

  -- TABLES LARGE ENOUGH: with so many rows, or more, the load is the one without tables
  pub large_enough : Enough (λ l. load_named l s model) (boundless_load s model)
  large_enough = load_tends.enough

  -- WHATEVER IS LENT, a load is the one without tables, or refused by 5 or 6
  pub lent_decides : (l : Lent)
      → (load_named l s model ≡ boundless_load s model) ⊎ ((k : ℕ) × Full k × (load_named l s model ≡ no k))
  lent_decides l = of (by_rows large_enough.rows large_enough.settled)
    where
      reach : (m : Lent) → Larger m m
      reach m = record { blocks = omega arith; tones = omega arith }

      by_rows : (r : Lent) → ((m : Lent) → Larger r m → load_named m s model ≡ boundless_load s model)
          → Near no (load_named l s model) (boundless_load s model)
      by_rows r settled =
          let m = both l r in
          let x : Near no (load_named l s model) (load_named m s model) = load_tends.larger l m (for_first l r m (reach m)) in
          subst (Near no (load_named l s model)) (settled m (for_second l r m (reach m))) x

      of : {x y : Load} → Near no x y → (x ≡ y) ⊎ ((k : ℕ) × Full k × (x ≡ no k))
      of same = inl refl
      of (short {k = k} n) = inr (k, n, refl)

  -- ACCEPTED IS ACCEPTED IN LARGER TABLES, and the load is the same
  pub larger_load : {l m : Lent} → Larger l m → {t : Parsed} → Accepts (load_named l s model) t
      → load_named m s model ≡ load_named l s model
  larger_load {l} {m} h r = of (load_tends.larger l m h) r
    where
      of : {x y : Load} {t : Parsed} → Near no x y → Accepts x t → y ≡ x
      of same r = refl
      of (short n) r = absurd (refuses r refl)

  -- .. and the one without tables
  pub accepted_load : (l : Lent) {t : Parsed} → Accepts (load_named l s model) t → load_named l s model ≡ boundless_load s model
  accepted_load l r = of (lent_decides l) r
    where
      of : {x y : Load} {t : Parsed} → (x ≡ y) ⊎ ((k : ℕ) × Full k × (x ≡ no k)) → Accepts x t → x ≡ y
      of (inl e) r = e
      of (inr x) r = absurd (refuses r x.2)

-- without tables no step asks for rows, and no reading is refused for them
data Free : Out → Type 0 where
  goes : {t : Parsed} → Free (on t)
  panicked : Free (halt (Refusal generalised))
  erred : {kind at n : ℕ} → Free (halt (Length kind at n))

data Clear : Verdict → Type 0 where
  whole : {t : Parsed} → Clear (done t)
  fails : {f : Failure} → Clear (failed f)
  four : Clear (refused generalised)
  seven : Clear (refused last_bits)

does_free : (s : List ℕ) (model : ℕ) (origin : Origin) (d : Deed) (t : Parsed) → Free (boundless_does s model origin d t)
unfolding boundless_does pend end_group open_loop
does_free s model origin (adding only48 ds) t = goes
does_free s model origin (groups from size) t = goes
does_free s model origin (texts from size) t = goes
does_free s model origin group_ends t = goes
does_free s model origin (opens n) t = goes
does_free s model origin closes t = goes
does_free s model origin panics t = panicked
does_free s model origin (errs n) t = erred

after_clear : {o : Out} {k : Parsed → Verdict} → Free o → ((t : Parsed) → Clear (k t)) → Clear (read_on o k)
unfolding read_on halted
after_clear (goes {t}) h = h t
after_clear panicked h = four
after_clear erred h = fails

abbrev Passes : (ℕ → See) → Type 0
Passes see = (at : ℕ) (t : Parsed) (k : ℕ → Parsed → Verdict) → ((next : ℕ) (u : Parsed) → Clear (k next u))
    → Clear (seeing (see at) t k)

run_clear : (see : ℕ → See) → Passes see → (n at : ℕ) (t : Parsed) → Clear (fold_from see n at t)
unfolding fold_from
run_clear see w zero at t = whole
run_clear see w (suc n) at t = w at t (fold_from see n) (λ next u. run_clear see w n next u)

judged_clear : {r : Verdict} → Clear r → Clear (bits_judged r)
unfolding bits_judged
judged_clear (whole {t}) = by_bits (too_many_bits t.blocks)
  where
    by_bits : (b : Bool) → Clear (b ⇒ refused last_bits ∣ done t)
    by_bits true = seven
    by_bits false = whole
judged_clear fails = fails
judged_clear four = four
judged_clear seven = seven

-- a number that is not 5 or 6
other_number : (j : ℕ) → (j < tones_full) ⊎ (blocks_full < j) → {k : ℕ} → Full k → j ≡ k → ⊥
other_number j (inl h) tones e = omega (arith, h, e)
other_number j (inl h) blocks e = omega (arith, h, e)
other_number j (inr h) tones e = omega (arith, h, e)
other_number j (inr h) blocks e = omega (arith, h, e)

-- no load so refused
abbrev Roomy : Load → Type 0
Roomy x = (k : ℕ) → Full k → x ≡ no k → ⊥

refused_roomy : (j : ℕ) → (j < tones_full) ⊎ (blocks_full < j) → Roomy (no j)
refused_roomy j h k n e = let z : j ≡ k = cc in other_number j h n z

tzx_roomy : (t : Parsed) → Roomy (tzx t)
tzx_roomy t k n e = let z : ◌≡◌ {A = ℕ} 0 1 = cc in omega arith

tap_roomy : (t : Parsed) → Roomy (tapped t)
tap_roomy t k n e = let z : ◌≡◌ {A = ℕ} 0 1 = cc in omega arith

both_roomy : (f g : Failure) → Roomy (both_err f g)
both_roomy f g k n e = let z : ◌≡◌ {A = ℕ} 0 1 = cc in omega arith

or_tap_roomy : (f : Failure) {q : Verdict} → Clear q → Roomy (or_tap f q)
unfolding or_tap
or_tap_roomy f (whole {t}) = tap_roomy t
or_tap_roomy f (fails {f = g}) = both_roomy f g
or_tap_roomy f four = refused_roomy generalised (inl (omega arith))
or_tap_roomy f seven = refused_roomy last_bits (inr (omega arith))

or_else_roomy : {r q : Verdict} → Clear r → Clear q → Roomy (or_else r q)
unfolding or_else
or_else_roomy (whole {t}) q = tzx_roomy t
or_else_roomy (fails {f}) q = or_tap_roomy f q
or_else_roomy four q = refused_roomy generalised (inl (omega arith))
or_else_roomy seven q = refused_roomy last_bits (inr (omega arith))

named_roomy : (s : List ℕ) (x : Load) → Roomy x → Roomy (named_load s x)
unfolding named_load
named_roomy s (tzx t) h = tzx_roomy _
named_roomy s (tapped t) h = tap_roomy _
named_roomy s (both_err f g) h = both_roomy f g
named_roomy s (no j) h = h

module _ (s : List ℕ) (model : ℕ) where
  tzx-passes : Passes (λ at. boundless_piece s model at (cut_at s at full))
  unfolding boundless_piece seeing read_on
  tzx-passes at t k rest = of (cut_at s at full)
    where
      of : (c : Taken) → Clear (seeing (boundless_piece s model at c) t k)
      of taken.End = whole
      of (taken.Whole kind from next piece) = after_clear (does_free s model (origin_at kind from) (deed_of s piece) t) (rest next)
      of (taken.Unknown kind described) = rest (at + 1) t
      of (taken.Short kind p w) = fails
      of (taken.Overflow kind p) = four

  tap_passes : Passes (λ at. boundless_block s at (tap_at s at))
  unfolding boundless_block seeing read_on
  tap_passes at t k rest = of (tap_at s at)
    where
      of : (c : TakenTap) → Clear (seeing (boundless_block s at c) t k)
      of tap.End = whole
      of tap.Lone = whole
      of (tap.Block from size next) = rest next _
      of (tap.Short p w) = fails

  tzx_clear : (h : Heading) → Clear (boundless_tzx s model h)
  unfolding boundless_tzx
  tzx_clear (heading.Version major minor) = judged_clear (run_clear _ tzx-passes (length s) 10 empty)
  tzx_clear heading.BadSignature = fails
  tzx_clear (heading.Short p w) = fails

  -- WITHOUT TABLES NOTHING LACKS ROWS: 5 and 6 are not given
  pub never_short : (k : ℕ) → Full k → boundless_load s model ≡ no k → ⊥
  unfolding boundless_load boundless_tap
  never_short = named_roomy s _ (by_tests (leb 3 model) (ltb 1048576 (length s)))
    where
      by_tests : (a b : Bool)
          → Roomy (a ⇒ no bad_model ∣ b ⇒ no tape_long ∣ or_else (boundless_tzx s model (head_at s)) (boundless_tap s))
      by_tests true b = refused_roomy bad_model (inl (omega arith))
      by_tests false true = refused_roomy tape_long (inl (omega arith))
      by_tests false false = or_else_roomy (tzx_clear (head_at s)) (run_clear _ tap_passes (length s) 0 empty)
