-- WHERE EACH NUMBER OF A READING IS DUE: 4 at a generalised piece on which the Rust panics, 5 and 6 at a piece that lacks rows,
-- 7 at the end. Assumes nothing.
use Prim.Native.Nat.{ℕ, ◌+◌, ◌≤◌, ◌<◌}
use native.Mathlib.Omega.{arith}
use borrow.Author.Tests.{lt-ltb, ltb-true, eqb-false}
use mathlib.Core.Path.{◌≡◌, refl, sym, ap, subst, ◌∙◌}
use mathlib.Core.Bool.{Bool, true, false, ◌&&◌, not}
use mathlib.Core.Logic.{◌↔◌}
use mathlib.Core.List.{List, [], ◌∷◌}
use lib.ListN.{length}
use lib.Dec.{ltb, eqb}
use Rattle.refusals.specs.Refusals.{generalised, tones_full, blocks_full}
use Rattle.law_base.specs.Rules.{◌⇒◌, ◌∣◌}
use Rattle.law_base.proofs.Tests.{first, second}
use Rattle.rows.specs.declared.Block.{Block}
use Rattle.cut_grammar.specs.declared.GeneralizedData.{GeneralizedData}
use Rattle.cut_grammar.specs.declared.Piece.{Piece}
use Rattle.cut_grammar.specs.declared.Piece.TheVariants.{Standard, Turbo, Tone as PureTone, Pulses, Pure, Generalized, Pause, GroupStart}
use Rattle.cut_grammar.specs.declared.Piece.TheVariants.{GroupEnd, LoopStart, LoopEnd, Stop48, Text, Message, Archive, Hardware}
use Rattle.cut_grammar.specs.declared.Piece.TheVariants.{Custom, Glue}
use Rattle.cut_grammar.specs.declared.Taken.{Taken}
use Rattle.cut_grammar.specs.declared.Taken.TheVariants as taken
use Rattle.cut_grammar.specs.declared.TakenTap.{TakenTap}
use Rattle.cut_grammar.specs.declared.TakenTap.TheVariants as tap
use Rattle.cut_grammar.specs.Cut.{cut_at, tap_at}
use Rattle.cut_grammar.proofs.Cutting.{cut_forward}
use Rattle.cut_grammar.proofs.CuttingTap.{tap_forward}
use Rattle.load_general.specs.General as general
use Rattle.load_state.specs.declared.Halt.{Halt}
use Rattle.load_state.specs.declared.Halt.TheVariants.{Refusal, Length}
use Rattle.load_state.specs.Parser.{Parsed, Out, on, no as halt, pend, end_group, open_loop, close_loop}
use Rattle.load_blocks.specs.declared.Origin.{Origin}
use Rattle.load_blocks.specs.Sounds.{origin_at, add_sound}
use Rattle.load_blocks.specs.Blocks.{standard_header, standard_pause, standard_sound, stop_sound}
use Rattle.load_blocks.specs.Adds.{Lent}
use Rattle.load_blocks.specs.Deeds as deed
use Rattle.load_blocks.specs.Deeds.{Deed, adding, adds48, groups, texts, group_ends, opens, closes, panics, general_deed}
use Rattle.load_blocks.specs.Deeds.{stop48_deed, does as enact}
use Rattle.load_source.specs.Meaning.{deed_of}
use Rattle.load_source.specs.Source.{refuses, thing, Verdict, done, refused, act, halted, too_many_bits, tap_kind, full, tzx_of, tzx_see}
use Rattle.load_source.specs.Source.{tap_of, tap_see}
use Rattle.load_source.proofs.Rest.{tzx-stops, tzx_sees, sees_piece, tap_stops}
use Rattle.law_every_load.proofs.Room.{Within}
use Rattle.law_every_load.proofs.Refusals.{HaltsBy, goes, says, fails, either, sounds_say, closed_says}
use Rattle.law_promises.specs.Numbers.{Comes, here, past, Due, ends, errs, stands, answers, Overlong, this, later}
use Rattle.law_promises.specs.Numbers.{OverlongAt, Bounded}
use Rattle.law_promises.specs.Needs.{NeedsPiece, at_piece, NeedsBlock, at_block}
use Rattle.law_promises.proofs.Lacking.{Adding, standard_adds, act-adds}
use Rattle.law_promises.proofs.Runs.{comes_map}

-- a generalised piece that the definition refuses by 4: where it is cut, or by what it gives
pub data Panics (s : List ℕ) (at : ℕ) (t : Parsed) : Type 0 where
  before : {kind p : ℕ} → cut_at s at full ≡ taken.Overflow kind p → Panics s at t
  within : {kind from next : ℕ} {g : GeneralizedData} → cut_at s at full ≡ taken.Whole kind from next (Generalized g)
      → general.general_of s g ≡ general.refused4 → Panics s at t

-- a block is not refused by 4
never_four : {A : Type 0} {o : Out} → HaltsBy tones_full blocks_full o → o ≡ halt (Refusal generalised) → A
never_four goes e = let z : ◌≡◌ {A = ℕ} 0 1 = cc in absurd (omega arith)
never_four (says {k = k} b) e = let z : k ≡ generalised = cc in absurd (omega (arith, b.low))
never_four (fails h) e = absurd (omega arith)

-- nor does it err
pub never_errs : {A : Type 0} {o : Out} {k a n : ℕ} → HaltsBy tones_full blocks_full o → o ≡ halt (Length k a n) → A
never_errs goes e = let z : ◌≡◌ {A = ℕ} 0 1 = cc in absurd (omega arith)
never_errs (says b) e = let z : ◌≡◌ {A = ℕ} 0 1 = cc in absurd (omega arith)
never_errs (fails h) e = absurd (omega arith)

-- a refused reading that halted did so by that refusal, and no reading that halted is done
halted-by : (j : Halt) (k : ℕ) → halted j ≡ refused k → j ≡ Refusal k
unfolding halted
halted-by (Refusal j) k e = let z : j ≡ k = cc in ap Refusal z
halted-by (Length kind at n) k e = let z : ◌≡◌ {A = ℕ} 0 1 = cc in absurd (omega arith)

halted_never : (j : Halt) {u : Parsed} → halted j ≡ done u → ⊥
unfolding halted
halted_never (Refusal j) e = let z : ◌≡◌ {A = ℕ} 0 1 = cc in omega arith
halted_never (Length kind at n) e = let z : ◌≡◌ {A = ℕ} 0 1 = cc in omega arith

-- a deed that halts by itself: a panic, an error
unfoldable stops : Deed → Bool
stops (adding only48 ds) = false
stops (groups from size) = false
stops (texts from size) = false
stops group_ends = false
stops (opens n) = false
stops closes = false
stops panics = true
stops (deed.errs n) = true

-- a piece whose deed panics, and one whose deed errs; no other halts by itself
data Refused4 (s : List ℕ) : Piece → Type 0 where
  is : {g : GeneralizedData} → general.general_of s g ≡ general.refused4 → Refused4 s (Generalized g)

data ByItself (s : List ℕ) : Piece → Deed → Type 0 where
  never : {p : Piece} {d : Deed} → stops d ≡ false → ByItself s p d
  four : {p : Piece} → Refused4 s p → ByItself s p panics
  wrong : {n : ℕ} → (n ≡ 0 → ⊥) → ByItself s (Stop48 n) (deed.errs n)

general_itself : (s : List ℕ) (g : GeneralizedData) (x : general.Given) → general.general_of s g ≡ x
    → ByItself s (Generalized g) (general_deed g x)
unfolding general_deed stops
general_itself s g general.refused4 e = four (is e)
general_itself s g general.stop e = never refl
general_itself s g (general.plain ts nil one last) e = never refl
general_itself s g (general.toned ts) e = never refl

-- of the table's deeds a 19's alone panics, and a 2A's alone errs
itself : (s : List ℕ) (p : Piece) → ByItself s p (deed_of s p)
unfolding deed_of stops stop48_deed
itself s (Standard pause from size) = never refl
itself s (Turbo d) = never refl
itself s (PureTone half count) = never refl
itself s (Pulses count from) = never refl
itself s (Pure nil one last pause from size) = never refl
itself s (Generalized g) = general_itself s g (general.general_of s g) refl
itself s (Pause n) = never refl
itself s (GroupStart from size) = never refl
itself s GroupEnd = never refl
itself s (LoopStart times) = never refl
itself s LoopEnd = never refl
itself s (Stop48 n) = of (eqb n 0) refl
  where
    of : (z : Bool) → eqb n 0 ≡ z → ByItself s (Stop48 n) (z ⇒ adds48 (stop_sound ∷ []) ∣ deed.errs n)
    of true e = never refl
    of false e = wrong (eqb-false n 0 e)
itself s (Text from size) = never refl
itself s Message = never refl
itself s Archive = never refl
itself s Hardware = never refl
itself s Custom = never refl
itself s Glue = never refl

-- what a piece is whose step errs, and where the step says that it stands
pub record Erred (p : Piece) (origin : Origin) (k a n : ℕ) : Type 0 where
  pub piece : p ≡ Stop48 n
  pub length : n ≡ 0 → ⊥
  pub kind : k ≡ origin.kind
  pub place : a ≡ origin.place

module _ (lent : Lent) (s : List ℕ) (model : ℕ) where
  -- any other deed halts by 5 or 6 alone
  others_say : (origin : Origin) (d : Deed) (t : Parsed) → stops d ≡ false → HaltsBy tones_full blocks_full (enact lent s model origin d t)
  unfolding enact stops pend end_group open_loop close_loop
  others_say origin (adding only48 ds) t e =
      either (HaltsBy tones_full blocks_full) (only48 && not (eqb model 0)) goes (sounds_say lent s origin ds t)
  others_say origin (groups from size) t e = goes
  others_say origin (texts from size) t e = goes
  others_say origin group_ends t e = goes
  others_say origin (opens n) t e = goes
  others_say origin closes t e = closed_says lent.blocks t.body t
  others_say origin panics t e = absurd (let z : ◌≡◌ {A = ℕ} 0 1 = ap (λ (b : Bool). b ⇒ 0 ∣ 1) e in omega arith)
  others_say origin (deed.errs n) t e = absurd (let z : ◌≡◌ {A = ℕ} 0 1 = ap (λ (b : Bool). b ⇒ 0 ∣ 1) e in omega arith)

  act_four : (origin : Origin) (p : Piece) (t : Parsed) → act lent s model origin p t ≡ halt (Refusal generalised) → Refused4 s p
  unfolding act enact
  act_four origin p t e = of (itself s p) e
    where
      of : {q : Piece} {d : Deed} → ByItself s q d → enact lent s model origin d t ≡ halt (Refusal generalised) → Refused4 s q
      of (never {d = d} h) x = never_four (others_say origin d t h) x
      of (four h) x = h
      of (wrong h) x = let z : ◌≡◌ {A = ℕ} 0 1 = cc in absurd (omega arith)

  pub act-errs : (origin : Origin) (p : Piece) (t : Parsed) {k a n : ℕ} → act lent s model origin p t ≡ halt (Length k a n)
      → Erred p origin k a n
  unfolding act enact
  act-errs origin p t {k} {a} {n} e = of (itself s p) e
    where
      of : {q : Piece} {d : Deed} → ByItself s q d → enact lent s model origin d t ≡ halt (Length k a n) → Erred q origin k a n
      of (never {d = d} h) x = never_errs (others_say origin d t h) x
      of (four h) x = let z : ◌≡◌ {A = ℕ} 0 1 = cc in absurd (omega arith)
      of (wrong {n = m} h) x =
          let z : m ≡ n = cc in
          let i : origin.kind ≡ k = cc in
          let j : origin.place ≡ a = cc in
          record { piece = ap Stop48 z; length = λ y. h (z ∙ y); kind = sym i; place = sym j }

  -- a thing of a TZX: a piece, or a kind not named
  pub data Thing (at next : ℕ) (does : Parsed → Out) : Type 0 where
    whole : {kind from : ℕ} {piece : Piece} → cut_at s at full ≡ taken.Whole kind from next piece
        → does ≡ act lent s model (origin_at kind from) piece → Thing at next does
    skip : next ≡ at + 1 → does ≡ on → Thing at next does

  pub tzx-thing : (at next : ℕ) (does : Parsed → Out) → tzx_see lent s model at ≡ thing next does → Thing at next does
  unfolding tzx_see tzx_of
  tzx-thing at next does e = of (cut_at s at full) refl e
    where
      of : (c : Taken) → cut_at s at full ≡ c → tzx_of lent s model at c ≡ thing next does → Thing at next does
      of taken.End q f = let z : ◌≡◌ {A = ℕ} 0 1 = cc in absurd (omega arith)
      of (taken.Whole kind from m piece) q f =
          let z : m ≡ next = cc in
          let d : act lent s model (origin_at kind from) piece ≡ does = cc in
          whole (q ∙ ap (λ (n : ℕ). taken.Whole kind from n piece) z) (sym d)
      of (taken.Unknown kind described) q f = let z : at + 1 ≡ next = cc in let d : on ≡ does = cc in skip (sym z) (sym d)
      of (taken.Short kind p w) q f = let z : ◌≡◌ {A = ℕ} 0 1 = cc in absurd (omega arith)
      of (taken.Overflow kind p) q f = let z : ◌≡◌ {A = ℕ} 0 1 = cc in absurd (omega arith)

  -- a refusal that stands in a TZX
  tzx-stands : (at k : ℕ) (t : Parsed) → tzx_see lent s model at ≡ refuses k → (k ≡ generalised) × Panics s at t
  unfolding tzx_see tzx_of
  tzx-stands at k t e = of (cut_at s at full) refl e
    where
      of : (c : Taken) → cut_at s at full ≡ c → tzx_of lent s model at c ≡ refuses k → (k ≡ generalised) × Panics s at t
      of taken.End q f = let z : ◌≡◌ {A = ℕ} 0 1 = cc in absurd (omega arith)
      of (taken.Whole kind from m piece) q f = let z : ◌≡◌ {A = ℕ} 0 1 = cc in absurd (omega arith)
      of (taken.Unknown kind described) q f = let z : ◌≡◌ {A = ℕ} 0 1 = cc in absurd (omega arith)
      of (taken.Short kind p w) q f = let z : ◌≡◌ {A = ℕ} 0 1 = cc in absurd (omega arith)
      of (taken.Overflow kind p) q f = let z : generalised ≡ k = cc in (sym z, before q)

  pub tzx_bounded : Bounded (length s) (tzx_see lent s model)
  tzx_bounded = record { stops = tzx-stops lent s model; moves = λ at next does e. of at next does (tzx-thing at next does e) }
    where
      of : (at next : ℕ) (does : Parsed → Out) → Thing at next does → at < next
      of at next does (whole q d) = (cut_forward s at full q).0
      of at next does (skip z d) = omega arith

  -- 4
  due_four : {r : Verdict} {at : ℕ} {t : Parsed} → Due (tzx_see lent s model) r at t → r ≡ refused generalised → Panics s at t
  due_four (ends e) f = let z : ◌≡◌ {A = ℕ} 0 1 = cc in absurd (omega arith)
  due_four (errs e) f = let z : ◌≡◌ {A = ℕ} 0 1 = cc in absurd (omega arith)
  due_four (stands {at = at} {k = k} {t = t} e) f = (tzx-stands at k t e).1
  due_four (answers {at = at} {next = next} {k = k} {does = does} {t = t} e d) f =
      of (tzx-thing at next does e) (d ∙ ap halt (halted-by k generalised f))
    where
      of : Thing at next does → does t ≡ halt (Refusal generalised) → Panics s at t
      of (whole {piece = piece} q x) y = by_piece piece q (act_four _ piece t (ap (λ (h : Parsed → Out). h t) (sym x) ∙ y))
        where
          by_piece : {kind from : ℕ} (p : Piece) → cut_at s at full ≡ taken.Whole kind from next p → Refused4 s p → Panics s at t
          by_piece p c (is h) = within c h
      of (skip q x) y =
          let u : on t ≡ halt (Refusal generalised) = ap (λ (h : Parsed → Out). h t) (sym x) ∙ y in
          let z : ◌≡◌ {A = ℕ} 0 1 = cc in
          absurd (omega arith)

  four_due : {at : ℕ} {t : Parsed} → Panics s at t → Due (tzx_see lent s model) (refused generalised) at t
  unfolding tzx_of act deed_of general_deed enact halted
  four_due {at} (before q) = stands (tzx_sees lent s model at (sym q))
  four_due {at} {t} (within {kind = kind} {from = from} {g = g} q e) = answers {k = Refusal generalised}
      (sees_piece lent s model at (sym q)) (ap (λ (x : general.Given). enact lent s model (origin_at kind from) (general_deed g x) t) e)

  -- 5 and 6
  due_needs : (k : ℕ) → tones_full ≤ k → {r : Verdict} {at : ℕ} {t : Parsed} → Within lent t → Due (tzx_see lent s model) r at t
      → r ≡ refused k
      → NeedsPiece lent s model k at t
  due_needs k h w (ends e) f = let z : ◌≡◌ {A = ℕ} 0 1 = cc in absurd (omega arith)
  due_needs k h w (errs e) f = let z : ◌≡◌ {A = ℕ} 0 1 = cc in absurd (omega arith)
  due_needs k h w (stands {at = at} {k = j} {t = t} e) f = let z : j ≡ k = cc in absurd (omega (arith, (tzx-stands at j t e).0))
  due_needs k h w (answers {at = at} {next = next} {k = j} {does = does} {t = t} e d) f =
      of (tzx-thing at next does e) (d ∙ ap halt (halted-by j k f))
    where
      of : Thing at next does → does t ≡ halt (Refusal k) → NeedsPiece lent s model k at t
      of (whole {piece = p} q x) y =
          at_piece q (((act-adds lent s model _ p t w).lacking k h).0 (ap (λ (f : Parsed → Out). f t) (sym x) ∙ y))
      of (skip q x) y =
          let u : on t ≡ halt (Refusal k) = ap (λ (f : Parsed → Out). f t) (sym x) ∙ y in
          let z : ◌≡◌ {A = ℕ} 0 1 = cc in
          absurd (omega arith)

  needs_due : (k : ℕ) → tones_full ≤ k → {at : ℕ} {t : Parsed} → Within lent t → NeedsPiece lent s model k at t
      → Due (tzx_see lent s model) (refused k) at t
  unfolding halted
  needs_due k h {at} {t} w (at_piece {kind = kind} {from = from} {p = p} q l) =
      answers {k = Refusal k} (sees_piece lent s model at (sym q)) (((act-adds lent s model (origin_at kind from) p t w).lacking k h).1 l)

  -- a thing of a TZX leaves no more rows in use than are lent
  pub tzx-within : (at next : ℕ) (does : Parsed → Out) (t u : Parsed) → tzx_see lent s model at ≡ thing next does → does t ≡ on u
      → Within lent t → Within lent u
  tzx-within at next does t u e d w = of (tzx-thing at next does e)
    where
      of : Thing at next does → Within lent u
      of (whole {piece = p} q x) = (act-adds lent s model _ p t w).keeps u (ap (λ (f : Parsed → Out). f t) (sym x) ∙ d)
      of (skip q x) =
          let y : on t ≡ on u = ap (λ (f : Parsed → Out). f t) (sym x) ∙ d in
          let z : t ≡ u = cc in
          subst (Within lent) z w

  pub panics_due : (at : ℕ) (t : Parsed) → Due (tzx_see lent s model) (refused generalised) at t ↔ Panics s at t
  panics_due at t = (λ d. due_four d refl, λ p. four_due p)

  pub piece_due : (k : ℕ) → tones_full ≤ k → (at : ℕ) (t : Parsed) → Within lent t
      → Due (tzx_see lent s model) (refused k) at t ↔ NeedsPiece lent s model k at t
  piece_due k h at t w = (λ d. due_needs k h w d refl, λ p. needs_due k h w p)

-- a TAP's things are blocks
module _ (lent : Lent) (s : List ℕ) where
  abbrev block_does : ℕ → ℕ → ℕ → Parsed → Out
  block_does at from size = add_sound lent s (origin_at tap_kind at)
      (standard_sound (standard_header s from size) from size (standard_pause (standard_header s from size)))

  data TapThing (at next : ℕ) (does : Parsed → Out) : Type 0 where
    is_block : {from size : ℕ} → tap_at s at ≡ tap.Block from size next → does ≡ block_does at from size → TapThing at next does

  tap_thing : (at next : ℕ) (does : Parsed → Out) → tap_see lent s at ≡ thing next does → TapThing at next does
  unfolding tap_see tap_of
  tap_thing at next does e = of (tap_at s at) refl e
    where
      of : (c : TakenTap) → tap_at s at ≡ c → tap_of lent s at c ≡ thing next does → TapThing at next does
      of tap.End q f = let z : ◌≡◌ {A = ℕ} 0 1 = cc in absurd (omega arith)
      of tap.Lone q f = let z : ◌≡◌ {A = ℕ} 0 1 = cc in absurd (omega arith)
      of (tap.Block from size m) q f =
          let z : m ≡ next = cc in
          let d : block_does at from size ≡ does = cc in
          is_block (q ∙ ap (λ (n : ℕ). tap.Block from size n) z) (sym d)
      of (tap.Short p w) q f = let z : ◌≡◌ {A = ℕ} 0 1 = cc in absurd (omega arith)

  tap_stands : (at k : ℕ) → tap_see lent s at ≡ refuses k → ⊥
  unfolding tap_see tap_of
  tap_stands at k e = of (tap_at s at) e
    where
      of : (c : TakenTap) → tap_of lent s at c ≡ refuses k → ⊥
      of tap.End f = let z : ◌≡◌ {A = ℕ} 0 1 = cc in absurd (omega arith)
      of tap.Lone f = let z : ◌≡◌ {A = ℕ} 0 1 = cc in absurd (omega arith)
      of (tap.Block from size m) f = let z : ◌≡◌ {A = ℕ} 0 1 = cc in absurd (omega arith)
      of (tap.Short p w) f = let z : ◌≡◌ {A = ℕ} 0 1 = cc in absurd (omega arith)

  pub tap_bounded : Bounded (length s) (tap_see lent s)
  tap_bounded = record { stops = tap_stops lent s; moves = λ at next does e. of at next does (tap_thing at next does e) }
    where
      of : (at next : ℕ) (does : Parsed → Out) → TapThing at next does → at < next
      of at next does (is_block q d) = omega (arith, (tap_forward s at q).0)

  block-adds : (at from size : ℕ) (t : Parsed) → Within lent t → Adding lent (2 ∷ []) t (block_does at from size t)
  block-adds at from size t w = standard_adds lent s (origin_at tap_kind at) (standard_header s from size) from size _ t w

  due_tap : (k : ℕ) → tones_full ≤ k → {r : Verdict} {at : ℕ} {t : Parsed} → Within lent t → Due (tap_see lent s) r at t
      → r ≡ refused k
      → NeedsBlock lent s k at t
  due_tap k h w (ends e) f = let z : ◌≡◌ {A = ℕ} 0 1 = cc in absurd (omega arith)
  due_tap k h w (errs e) f = let z : ◌≡◌ {A = ℕ} 0 1 = cc in absurd (omega arith)
  due_tap k h w (stands {at = at} {k = j} e) f = absurd (tap_stands at j e)
  due_tap k h w (answers {at = at} {next = next} {k = j} {does = does} {t = t} e d) f =
      of (tap_thing at next does e) (d ∙ ap halt (halted-by j k f))
    where
      of : TapThing at next does → does t ≡ halt (Refusal k) → NeedsBlock lent s k at t
      of (is_block {from = from} {size = size} q x) y =
          at_block q (((block-adds at from size t w).lacking k h).0 (ap (λ (f : Parsed → Out). f t) (sym x) ∙ y))

  tap_due : (k : ℕ) → tones_full ≤ k → {at : ℕ} {t : Parsed} → Within lent t → NeedsBlock lent s k at t
      → Due (tap_see lent s) (refused k) at t
  unfolding halted tap_see tap_of
  tap_due k h {at} {t} w (at_block {from = from} {size = size} q l) =
      answers {k = Refusal k} (ap (tap_of lent s at) q) (((block-adds at from size t w).lacking k h).1 l)

  pub tap_within : (at next : ℕ) (does : Parsed → Out) (t u : Parsed) → tap_see lent s at ≡ thing next does → does t ≡ on u
      → Within lent t → Within lent u
  tap_within at next does t u e d w = of (tap_thing at next does e)
    where
      of : TapThing at next does → Within lent u
      of (is_block {from = from} {size = size} q x) = (block-adds at from size t w).keeps u (ap (λ (f : Parsed → Out). f t) (sym x) ∙ d)

  pub block_due : (k : ℕ) → tones_full ≤ k → (at : ℕ) (t : Parsed) → Within lent t
      → Due (tap_see lent s) (refused k) at t ↔ NeedsBlock lent s k at t
  block_due k h at t w = (λ d. due_tap k h w d refl, λ p. tap_due k h w p)

-- 7: a block with data has last bits above 8
bits_long_lem : (rs : List Block) → too_many_bits rs ≡ true → Overlong rs
unfolding too_many_bits
bits_long_lem [] e = let z : ◌≡◌ {A = ℕ} 0 1 = cc in absurd (omega arith)
bits_long_lem (r ∷ rs) e = of (ltb 0 r.size && ltb 8 r.last) refl e (λ f. bits_long_lem rs f)
  where
    of : (b : Bool) → (ltb 0 r.size && ltb 8 r.last) ≡ b → (b ⇒ true ∣ too_many_bits rs) ≡ true
        → (too_many_bits rs ≡ true → Overlong rs) → Overlong (r ∷ rs)
    of true q f more =
        this (ltb-true _ _ (first (ltb 0 r.size) (ltb 8 r.last) q)) (ltb-true _ _ (second (ltb 0 r.size) (ltb 8 r.last) q))
    of false q f more = later (more f)

long_bits : {rs : List Block} → Overlong rs → too_many_bits rs ≡ true
unfolding too_many_bits
long_bits (this {r = r} a b) = rw (lt-ltb 0 r.size a, lt-ltb 8 r.last b)
long_bits (later {r = r} {rs = rs} h) = of (ltb 0 r.size && ltb 8 r.last) (long_bits h)
  where
    of : (b : Bool) → too_many_bits rs ≡ true → (b ⇒ true ∣ too_many_bits rs) ≡ true
    of true e = refl
    of false e = e

module _ (lent : Lent) (s : List ℕ) (model : ℕ) where
  -- a tape that is read whole and judged
  abbrev Late : ℕ → Parsed → Type 0
  Late at t = (u : Parsed) × (too_many_bits u.blocks ≡ true) × Comes (tzx_see lent s model) (Due (tzx_see lent s model) (done u)) at t

  late_judged : {u : Parsed} → too_many_bits u.blocks ≡ true → {r : Verdict} {at : ℕ} {t : Parsed}
      → Due (tzx_see lent s model) r at t → r ≡ done u → OverlongAt lent s model at t
  late_judged {u} b (ends {t = t} e) f =
      let z : t ≡ u = cc in
      record { whole = e; bits = bits_long_lem _ (ap (λ (x : Parsed). too_many_bits x.blocks) z ∙ b) }
  late_judged b (errs e) f = let z : ◌≡◌ {A = ℕ} 0 1 = cc in absurd (omega arith)
  late_judged b (stands e) f = let z : ◌≡◌ {A = ℕ} 0 1 = cc in absurd (omega arith)
  late_judged b (answers {k = k} e d) f = absurd (halted_never k f)

  judged_late : {at : ℕ} {t : Parsed} → Comes (tzx_see lent s model) (OverlongAt lent s model) at t → Late at t
  judged_late (here {t = t} j) = (t, long_bits j.bits, here (ends j.whole))
  judged_late (past e d c) = let x = judged_late c in (x.0, x.1, past e d x.2)

  pub end_due : (at : ℕ) (t : Parsed) → Late at t ↔ Comes (tzx_see lent s model) (OverlongAt lent s model) at t
  end_due at t = (λ x. comes_map (λ p u d. late_judged x.1 d refl) x.2, λ c. judged_late c)
