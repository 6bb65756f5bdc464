-- WHAT BOTH ATTEMPTS MET IS HANDED ON EXACTLY WHERE BOTH ERR, and each report says what the bytes say. Assumes nothing.
use Prim.Native.Nat.{ℕ, ◌+◌, ◌≤◌, ◌<◌}
use native.Mathlib.Omega.{arith}
use borrow.Author.Tests.{le-leb, lt-leb, le-ltb, leb-true, leb-false, ltb-false, ne_eqb}
use mathlib.Core.Path.{◌≡◌, refl, sym, ap, subst, ◌∙◌}
use mathlib.Core.Bool.{Bool, true, false}
use mathlib.Core.Logic.{◌↔◌, ⊎_elim}
use mathlib.Core.List.{List, ◌∷◌, ◌++◌}
use lib.ListN.{length, get_or}
use lib.Dec.{leb, ltb}
use Rattle.std.specs.Prelude.{Ok, Err}
use Rattle.refusals.specs.Refusals.{bad_model, tape_long, tape_bad}
use Rattle.law_base.specs.Rules.{◌⇒◌, ◌∣◌}
use Rattle.law_base.proofs.Numbers.{lt_or_ge}
use Rattle.cut_grammar.specs.declared.Piece.{Piece}
use Rattle.cut_grammar.specs.declared.Piece.TheVariants.{Stop48}
use Rattle.cut_grammar.specs.declared.NotCut.TheVariants as not_cut
use Rattle.cut_grammar.specs.Grammar.{Body}
use Rattle.cut_grammar.specs.declared.Taken.{Taken}
use Rattle.cut_grammar.specs.declared.Taken.TheVariants as taken
use Rattle.cut_grammar.specs.declared.TakenTap.{TakenTap}
use Rattle.cut_grammar.specs.declared.TakenTap.TheVariants as tap
use Rattle.cut_grammar.specs.declared.Heading.{Heading}
use Rattle.cut_grammar.specs.declared.Heading.TheVariants as heading
use Rattle.cut_grammar.specs.Kinds.{kind_of}
use Rattle.cut_grammar.specs.Cut.{signature, starts_at, head_at, taken_as, cut_at, tap_at}
use Rattle.cut_grammar.specs.Trace.{Field, trace, head_trace, tap_trace, FirstShort, this, later, AllThere}
use Rattle.cut_grammar.specs.Trace.{nil as no_field, cons}
use Rattle.cut_grammar.proofs.Cutting.{cut_there, cut_inside, cut_kind}
use Rattle.cut_grammar.proofs.Stops.{cut_stop, stop_cut}
use Rattle.cut_grammar.proofs.First.{cut_first, whole_there, unknown_kind, unknown_there}
use Rattle.cut_grammar.proofs.FirstHeads.{head_first, tap_first, tap_place, tap_there_all}
use Rattle.load_state.specs.declared.Halt.{Halt}
use Rattle.load_state.specs.declared.Halt.TheVariants.{Refusal, Length}
use Rattle.load_state.specs.Parser.{Parsed, Out, no as halt, empty}
use Rattle.load_blocks.specs.Sounds.{origin_at, add_sound}
use Rattle.load_blocks.specs.Blocks.{standard_header, standard_pause, standard_sound}
use Rattle.load_blocks.specs.Adds.{Lent}
use Rattle.load_blocks.specs.Deeds.{stop48_deed, does as enact}
use Rattle.load_source.specs.declared.Failure.{Failure}
use Rattle.load_source.specs.declared.Failure.TheVariants as failure
use Rattle.load_source.specs.Meaning.{deed_of}
use Rattle.load_source.specs.Source.{See, bad, thing, Verdict, done, failed, refused, act, halted, fold_from, bits_judged, tap_kind, full}
use Rattle.load_source.specs.Source.{tzx_of, tzx_see, headed, read_tzx, tap_of, tap_see, read_tap, Load, tzx, tapped, both_err, no, or_tap}
use Rattle.load_source.specs.Source.{or_else, load_of}
use Rattle.load_source.proofs.Rest.{tzx_sees, sees_piece, tap_sees}
use Rattle.load_tape.specs.declared.NotLoaded.TheVariants.{Unread, Refused}
use Rattle.load_tape.specs.Load.{named_load, load_named, answer_of, refusal_no}
use Rattle.law_every_load.proofs.Refusals.{sound_says}
use Rattle.law_promises.specs.Numbers.{Admitted, Headed, ByTzx, Comes, here, past, Due, ends, errs, stands, answers}
use Rattle.law_promises.specs.Unread.{PieceMet, field-short, length48, TzxMet, head_short, head_other, at_piece, BlockMet, TapMet}
use Rattle.law_promises.specs.Unread.{data_short, ShortAt, attempt_trace, piece_trace}
use Rattle.law_promises.proofs.Runs.{comes_map, run_due}
use Rattle.law_promises.proofs.Loads.{tzx-headed}
use Rattle.law_promises.proofs.Dues.{Thing, whole, skip, never_errs, act-errs, tzx-thing, tzx_bounded, tap_bounded}
use Rattle.law_promises.proofs.Errors.{judged-bad}
use Rattle.law_promises.proofs.Numbers.{given_3}

-- a head of ten bytes or more that has another signature
head_bad : (s : List ℕ) → head_at s ≡ heading.BadSignature → (10 ≤ length s) × (starts_at s 0 signature ≡ false)
unfolding head_at
head_bad s e = of (leb 10 (length s)) refl (starts_at s 0 signature) e
  where
    of : (a : Bool) → leb 10 (length s) ≡ a → (b : Bool)
        → (a ⇒ (b ⇒ heading.Version (get_or s 8 0) (get_or s 9 0) ∣ heading.BadSignature) ∣ heading.Short 0 10) ≡ heading.BadSignature
        → (10 ≤ length s) × (b ≡ false)
    of true q true x = let z : ◌≡◌ {A = ℕ} 0 1 = cc in absurd (omega arith)
    of true q false x = (leb-true _ _ q, refl)
    of false q b x = let z : ◌≡◌ {A = ℕ} 0 1 = cc in absurd (omega arith)

bad_head : (s : List ℕ) → 10 ≤ length s → starts_at s 0 signature ≡ false → head_at s ≡ heading.BadSignature
unfolding head_at
bad_head s h e = rw (le-leb 10 (length s) h, e)

above : {n : ℕ} → (n ≡ 0 → ⊥) → 0 < n
above {n} h = ⊎_elim (λ (t : 0 < n). t) (λ (t : n ≤ 0). absurd (h (omega arith))) (lt_or_ge 0 n)

halted-errs : (j : Halt) {f : Failure} → halted j ≡ failed f
    → (kind : ℕ) × ((at : ℕ) × ((n : ℕ) × ((j ≡ Length kind at n) × (failure.Length kind at n ≡ f))))
unfolding halted
halted-errs (Refusal k) e = let z : ◌≡◌ {A = ℕ} 0 1 = cc in absurd (omega arith)
halted-errs (Length kind at n) {f} e = let z : failure.Length kind at n ≡ f = cc in (kind, (at, (n, (refl, z))))

-- a piece stands where it was cut
named_from : (kind at : ℕ) (x : Body) {k p next : ℕ} {piece : Piece} → taken_as kind at x ≡ taken.Whole k p next piece → p ≡ at
unfolding taken_as
named_from kind at (Ok y) e = cc
named_from kind at (Err (not_cut.Unknown described)) e = absurd (let z : ◌≡◌ {A = ℕ} 0 1 = cc in omega arith)
named_from kind at (Err (not_cut.Short x)) e = absurd (let z : ◌≡◌ {A = ℕ} 0 1 = cc in omega arith)
named_from kind at (Err (not_cut.Overflow q)) e = absurd (let z : ◌≡◌ {A = ℕ} 0 1 = cc in omega arith)

cut_from : (s : List ℕ) (at : ℕ) {k p next : ℕ} {piece : Piece} → cut_at s at full ≡ taken.Whole k p next piece → p ≡ at
cut_from s at e = named_from (get_or s at 0) at _ (sym (cut_there s at full (cut_inside s at full e)) ∙ e)

-- behind fields that are all there, the first short field of the others is the first of all
behind : {xs ys : List Field} {f : Field} → AllThere xs → FirstShort ys f → FirstShort (xs ++ ys) f
behind no_field m = m
behind (cons h rest) m = later h (behind rest m)

-- where all that is passed is there, the first short field of the place that it comes to is the first of the attempt
attempt_first : (fields : ℕ → List Field) {see : ℕ → See} {P : ℕ → Parsed → Type 0} {p w : ℕ}
    → ((at next : ℕ) (does : Parsed → Out) → see at ≡ thing next does → AllThere (fields at))
    → ((at : ℕ) (t : Parsed) → P at t → ShortAt (fields at) p w)
    → {at : ℕ} {t : Parsed} (c : Comes see P at t) → ShortAt (attempt_trace fields c) p w
unfolding attempt_trace
attempt_first fields there short (here {at = at} {t = t} m) = short at t m
attempt_first fields there short (past {at = at} {next = next} {does = does} e d c) =
    let x = attempt_first fields there short c in (x.0, behind (there at next does e) x.1)

-- the head of a TZX that has a version is there
headed_there : (s : List ℕ) → Headed s → AllThere (head_trace s)
unfolding head_trace
headed_there s h =
    ⊎_elim
    (λ (t : length s < 10). absurd (not_short (sym ((head_first s 0 10).1 (this t)) ∙ h.2)))
    (λ (t : 10 ≤ length s). cons t no_field)
    (lt_or_ge (length s) 10)
  where
    not_short : {p w major minor : ℕ} → heading.Short p w ≡ heading.Version major minor → ⊥
    not_short q = let z : ◌≡◌ {A = ℕ} 0 1 = cc in omega arith

piece_short : (s : List ℕ) {f : Failure} {at : ℕ} → PieceMet s f at → {kind from p w : ℕ} → f ≡ failure.ShortPiece kind from p w
    → ShortAt (piece_trace s at) p w
piece_short s (field-short {kind = k} {at = at} {p = q} {w = v} h i x) {p = p} {w} e =
    let a : q ≡ p = cc in
    let b : v ≡ w = cc in
    let l : at + 1 ≤ length s = omega arith in
    let y = subst (λ (j : ℕ). ShortAt (trace (kind_of full j) s (at + 1)) q v) i x in
    rw (← a, ← b) (y.0, later l y.1)
piece_short s (length48 b h q z) e = let z : ◌≡◌ {A = ℕ} 0 1 = cc in absurd (omega arith)

module _ (lent : Lent) (s : List ℕ) (model : ℕ) where
  -- WHAT A READING PASSES IS ALL THERE, its kind byte too: a whole piece, or an unknown kind
  pub passed_piece : (at next : ℕ) (does : Parsed → Out) → tzx_see lent s model at ≡ thing next does → AllThere (piece_trace s at)
  unfolding tzx_see tzx_of
  passed_piece at next does e = of (cut_at s at full) refl e
    where
      of : (c : Taken) → cut_at s at full ≡ c → tzx_of lent s model at c ≡ thing next does
          → AllThere (piece_trace s at)
      of taken.End q x = let z : ◌≡◌ {A = ℕ} 0 1 = cc in absurd (omega arith)
      of (taken.Whole kind from m piece) q x =
          let h : at + 1 ≤ length s = omega (arith, cut_inside s at full q) in
          cons h (subst (λ (k : ℕ). AllThere (trace (kind_of full k) s (at + 1))) (cut_kind s at full q) (whole_there s at full q))
      of (taken.Unknown kind described) q x =
          let i = unknown_kind s at full q in
          let h : at + 1 ≤ length s = omega (arith, i.0) in
          cons h (subst (λ (k : ℕ). AllThere (trace (kind_of full k) s (at + 1))) i.1 (unknown_there s at full q))
      of (taken.Short kind p w) q x = let z : ◌≡◌ {A = ℕ} 0 1 = cc in absurd (omega arith)
      of (taken.Overflow kind p) q x = let z : ◌≡◌ {A = ℕ} 0 1 = cc in absurd (omega arith)

  -- and so are the fields of its kind
  pub passed_there : (at next : ℕ) (does : Parsed → Out) → tzx_see lent s model at ≡ thing next does
      → AllThere (trace (kind_of full (get_or s at 0)) s (at + 1))
  passed_there at next does e = of (passed_piece at next does e)
    where
      of : {f : Field} {fs : List Field} → AllThere (f ∷ fs) → AllThere fs
      of (cons h m) = m

  -- THE FIELD THAT A TZX ATTEMPT TELLS IS THE FIRST OF THE WHOLE ATTEMPT that is not all there: behind the head, in reading order
  pub told-first : {kind at p w : ℕ} (h : ByTzx lent s model (λ from t. PieceMet s (failure.ShortPiece kind at p w) from))
      → ShortAt (head_trace s ++ attempt_trace (piece_trace s) h.1) p w
  told-first h =
      let x = attempt_first (piece_trace s) passed_piece (λ from t m. piece_short s m refl) h.1 in
      (x.0, behind (headed_there s h.0) x.1)

  -- what errs at a place
  bad_met : (at : ℕ) (f : Failure) → tzx_see lent s model at ≡ bad f → PieceMet s f at
  unfolding tzx_see tzx_of
  bad_met at f e = of (cut_at s at full) refl e
    where
      of : (c : Taken) → cut_at s at full ≡ c → tzx_of lent s model at c ≡ bad f → PieceMet s f at
      of taken.End q x = let z : ◌≡◌ {A = ℕ} 0 1 = cc in absurd (omega arith)
      of (taken.Whole kind from m piece) q x = let z : ◌≡◌ {A = ℕ} 0 1 = cc in absurd (omega arith)
      of (taken.Unknown kind described) q x = let z : ◌≡◌ {A = ℕ} 0 1 = cc in absurd (omega arith)
      of (taken.Short kind p w) q x =
          let z : failure.ShortPiece kind at p w ≡ f = cc in
          let y = (cut_first s at full kind p w).0 q in
          subst (λ (g : Failure). PieceMet s g at) z (field-short y.0 y.1.0 y.1.1)
      of (taken.Overflow kind p) q x = let z : ◌≡◌ {A = ℕ} 0 1 = cc in absurd (omega arith)

  thing_met : (at next : ℕ) (does : Parsed → Out) (t : Parsed) {kind from n : ℕ} → Thing lent s model at next does
      → does t ≡ halt (Length kind from n) → PieceMet s (failure.Length kind from n) at
  thing_met at next does t {kind} {from} {n} (whole {kind = k} {from = p} {piece = piece} q x) y =
      let a = act-errs lent s model (origin_at k p) piece t (ap (λ (h : Parsed → Out). h t) (sym x) ∙ y) in
      let c = q ∙ ap (λ (z : Piece). taken.Whole k p next z) a.piece in
      let i = cut_stop s at full c in
      let m = length48 (sym (cut_kind s at full c) ∙ i.0) i.1.1.1 i.1.0 (above a.length) in
      subst (λ (z : Failure). PieceMet s z at)
      (ap (λ (b : ℕ). failure.Length b at n) (sym (a.kind ∙ i.0)) ∙ ap (λ (b : ℕ). failure.Length kind b n) (sym (a.place ∙ cut_from s at q))) m
  thing_met at next does t (skip q x) y =
      let u = ap (λ (h : Parsed → Out). h t) (sym x) ∙ y in let z : ◌≡◌ {A = ℕ} 0 1 = cc in absurd (omega arith)

  due_met : {r : Verdict} {f : Failure} {at : ℕ} {t : Parsed} → Due (tzx_see lent s model) r at t → r ≡ failed f → PieceMet s f at
  due_met (ends e) q = let z : ◌≡◌ {A = ℕ} 0 1 = cc in absurd (omega arith)
  due_met {f = f} (errs {at = at} {f = g} e) q = let z : g ≡ f = cc in bad_met at f (e ∙ ap bad z)
  due_met (stands e) q = let z : ◌≡◌ {A = ℕ} 0 1 = cc in absurd (omega arith)
  due_met (answers {at = at} {next = next} {k = j} {does = does} {t = t} e d) q =
      let x = halted-errs j q in
      subst (λ (g : Failure). PieceMet s g at) x.1.1.1.1
      (thing_met at next does t (tzx-thing lent s model at next does e) (d ∙ ap halt x.1.1.1.0))

  met_due : {f : Failure} {at : ℕ} {t : Parsed} → PieceMet s f at → Due (tzx_see lent s model) (failed f) at t
  unfolding tzx_of act deed_of stop48_deed enact halted
  met_due (field-short {kind = kind} {at = at} {p = p} {w = w} h q x) =
      errs (tzx_sees lent s model at (sym ((cut_first s at full kind p w).1 (h, (q, x)))))
  met_due {t = t} (length48 {at = at} {n = n} b h e z) =
      let c = stop_cut s at full b h ∙ ap (λ (m : ℕ). taken.Whole 0x2A at (at + 5) (Stop48 m)) (sym e) in
      answers {k = Length 0x2A at n} {t = t} (sees_piece lent s model at (sym c)) (rw (ne_eqb n 0 (λ q. omega arith)))

  run : (f : Failure) → (fold_from (tzx_see lent s model) (length s) 10 empty ≡ failed f)
      ↔ Comes (tzx_see lent s model) (λ at t. PieceMet s f at) 10 empty
  run f =
      let y = run_due (tzx_bounded lent s model) (length s) 10 empty (failed f) (omega arith) in
      (λ e. comes_map (λ at t d. due_met d refl) (y.0 e), λ c. y.1 (comes_map (λ at t m. met_due m) c))

  -- THE TZX ATTEMPT errs by f exactly when it met f
  pub tzx_met : (f : Failure) → (read_tzx lent s model ≡ failed f) ↔ TzxMet lent s model f
  unfolding read_tzx headed bits_judged
  tzx_met f = (λ e. there (head_at s) refl e, back)
    where
      there : (h : Heading) → head_at s ≡ h → headed lent s model h ≡ failed f → TzxMet lent s model f
      there (heading.Version major minor) q e = at_piece ((major, minor, q), (run f).0 (judged-bad _ e))
      there heading.BadSignature q e =
          let z : failure.BadSignature ≡ f = cc in
          let x = head_bad s q in
          subst (λ (g : Failure). TzxMet lent s model g) z (head_other x.0 x.1)
      there (heading.Short p w) q e =
          let z : failure.Short p w ≡ f = cc in
          subst (λ (g : Failure). TzxMet lent s model g) z (head_short ((head_first s p w).0 q))

      back : {g : Failure} → TzxMet lent s model g → read_tzx lent s model ≡ failed g
      back (head_short {p = p} {w = w} x) = rw ((head_first s p w).1 x)
      back (head_other h e) = rw (bad_head s h e)
      back (at_piece {f = g} x) = tzx-headed lent s model x.0 ∙ ap bits_judged ((run g).1 x.1)

module _ (lent : Lent) (s : List ℕ) where
  tap_bad : (at : ℕ) (f : Failure) → tap_see lent s at ≡ bad f → BlockMet s f at
  unfolding tap_see tap_of
  tap_bad at f e = of (tap_at s at) refl e
    where
      of : (c : TakenTap) → tap_at s at ≡ c → tap_of lent s at c ≡ bad f → BlockMet s f at
      of tap.End q x = let z : ◌≡◌ {A = ℕ} 0 1 = cc in absurd (omega arith)
      of tap.Lone q x = let z : ◌≡◌ {A = ℕ} 0 1 = cc in absurd (omega arith)
      of (tap.Block from size next) q x = let z : ◌≡◌ {A = ℕ} 0 1 = cc in absurd (omega arith)
      of (tap.Short p w) q x =
          let z : failure.Short p w ≡ f = cc in
          let y = (tap_first s at p w).0 q in
          let b = tap_place s at q in
          subst (λ (g : Failure). BlockMet s g at) z (data_short y.0 b.0 b.1 y.1)

  -- WHAT A READING PASSES IS ALL THERE: a block of a TAP
  pub tap_passed_there : (at next : ℕ) (does : Parsed → Out) → tap_see lent s at ≡ thing next does → AllThere (tap_trace s at)
  unfolding tap_see tap_of
  tap_passed_there at next does e = of (tap_at s at) refl e
    where
      of : (c : TakenTap) → tap_at s at ≡ c → tap_of lent s at c ≡ thing next does → AllThere (tap_trace s at)
      of tap.End q x = let z : ◌≡◌ {A = ℕ} 0 1 = cc in absurd (omega arith)
      of tap.Lone q x = let z : ◌≡◌ {A = ℕ} 0 1 = cc in absurd (omega arith)
      of (tap.Block from size m) q x = tap_there_all s at q
      of (tap.Short p w) q x = let z : ◌≡◌ {A = ℕ} 0 1 = cc in absurd (omega arith)

  block-short : {f : Failure} {at : ℕ} → BlockMet s f at → {p w : ℕ} → f ≡ failure.Short p w → ShortAt (tap_trace s at) p w
  block-short (data_short {p = q} {w = v} h a b x) {p} {w} e =
      let i : q ≡ p = cc in let j : v ≡ w = cc in rw (← i, ← j) (length s, x)

  -- THE FIELD THAT A TAP ATTEMPT TELLS IS THE FIRST OF THE WHOLE ATTEMPT that is not all there
  pub tap_told_first : {p w : ℕ} (c : TapMet lent s (failure.Short p w)) → ShortAt (attempt_trace (tap_trace s) c) p w
  tap_told_first c = attempt_first (tap_trace s) tap_passed_there (λ at t m. block-short m refl) c

  -- a block of a TAP does not err by what it adds
  tap_thing : (at next : ℕ) (does : Parsed → Out) (t : Parsed) {kind from n : ℕ} → tap_see lent s at ≡ thing next does
      → does t ≡ halt (Length kind from n) → ⊥
  unfolding tap_see tap_of
  tap_thing at next does t {kind} {from} {n} e d = of (tap_at s at) e
    where
      of : (c : TakenTap) → tap_of lent s at c ≡ thing next does → ⊥
      of tap.End x = let z : ◌≡◌ {A = ℕ} 0 1 = cc in omega arith
      of tap.Lone x = let z : ◌≡◌ {A = ℕ} 0 1 = cc in omega arith
      of (tap.Block first size m) x =
          let header = standard_header s first size in
          let g : add_sound lent s (origin_at tap_kind at) (standard_sound header first size (standard_pause header)) ≡ does = cc in
          never_errs (sound_says lent s (origin_at tap_kind at) (standard_sound header first size (standard_pause header)) t)
          (ap (λ (h : Parsed → Out). h t) g ∙ d)
      of (tap.Short p w) x = let z : ◌≡◌ {A = ℕ} 0 1 = cc in omega arith

  tap_due : {r : Verdict} {f : Failure} {at : ℕ} {t : Parsed} → Due (tap_see lent s) r at t → r ≡ failed f → BlockMet s f at
  tap_due (ends e) q = let z : ◌≡◌ {A = ℕ} 0 1 = cc in absurd (omega arith)
  tap_due {f = f} (errs {at = at} {f = g} e) q = let z : g ≡ f = cc in tap_bad at f (e ∙ ap bad z)
  tap_due (stands e) q = let z : ◌≡◌ {A = ℕ} 0 1 = cc in absurd (omega arith)
  tap_due (answers {at = at} {next = next} {k = j} {does = does} {t = t} e d) q =
      let x = halted-errs j q in absurd (tap_thing at next does t e (d ∙ ap halt x.1.1.1.0))

  due_tap : {f : Failure} {at : ℕ} {t : Parsed} → BlockMet s f at → Due (tap_see lent s) (failed f) at t
  unfolding tap_of
  due_tap (data_short {at = at} {p = p} {w = w} h a b x) = errs (tap_sees lent s at (sym ((tap_first s at p w).1 (h, x))))

  -- THE TAP ATTEMPT errs by g exactly when it met g
  pub tap_met : (g : Failure) → (read_tap lent s ≡ failed g) ↔ TapMet lent s g
  unfolding read_tap
  tap_met g =
      let y = run_due (tap_bounded lent s) (length s) 0 empty (failed g) (omega arith) in
      (λ e. comes_map (λ at t d. tap_due d refl) (y.0 e), λ c. y.1 (comes_map (λ at t m. due_tap m) c))

  -- which is a field that came up short, behind a length: at 2 or later
  short_data : {see : ℕ → See} {g : Failure} {at : ℕ} {t : Parsed} → Comes see (λ at t. BlockMet s g at) at t
      → (p : ℕ) × ((w : ℕ) × ((g ≡ failure.Short p w) × (2 ≤ p)))
  short_data (here (data_short {at = at} {p = p} {w = w} h a b x)) = (p, (w, (refl, omega arith)))
  short_data (past e d c) = short_data c

  pub tap_short : {g : Failure} → read_tap lent s ≡ failed g → (p : ℕ) × ((w : ℕ) × ((g ≡ failure.Short p w) × (2 ≤ p)))
  tap_short {g} e = short_data ((tap_met g).0 e)

-- A LOAD
module _ (lent : Lent) (s : List ℕ) (model : ℕ) where
  named-both : (l : Load) (f g : Failure) → (answer_of (named_load s l) ≡ Err (Unread f g)) ↔ (l ≡ both_err f g)
  unfolding answer_of named_load
  named-both (tzx t) f g =
      (λ e. let z : ◌≡◌ {A = ℕ} 0 1 = cc in absurd (omega arith), λ e. let z : ◌≡◌ {A = ℕ} 0 1 = cc in absurd (omega arith))
  named-both (tapped t) f g =
      (λ e. let z : ◌≡◌ {A = ℕ} 0 1 = cc in absurd (omega arith), λ e. let z : ◌≡◌ {A = ℕ} 0 1 = cc in absurd (omega arith))
  named-both (both_err x y) f g = (
    λ e. let a : x ≡ f = cc in let b : y ≡ g = cc in ap (λ (i : Failure). both_err i y) a ∙ ap (both_err f) b,
    λ e. let a : x ≡ f = cc in
        let b : y ≡ g = cc in
        ap (λ (i : Failure). answer_of (both_err i y)) a ∙ ap (λ (i : Failure). answer_of (both_err f i)) b,
  )
  named-both (no k) f g =
      (λ e. let z : ◌≡◌ {A = ℕ} 0 1 = cc in absurd (omega arith), λ e. let z : ◌≡◌ {A = ℕ} 0 1 = cc in absurd (omega arith))

  both-failed : (r q : Verdict) (f g : Failure) → or_else r q ≡ both_err f g → (r ≡ failed f) × (q ≡ failed g)
  unfolding or_else or_tap
  both-failed (done t) q f g e = let z : ◌≡◌ {A = ℕ} 0 1 = cc in absurd (omega arith)
  both-failed (failed x) (done t) f g e = let z : ◌≡◌ {A = ℕ} 0 1 = cc in absurd (omega arith)
  both-failed (failed x) (failed y) f g e = let a : x ≡ f = cc in let b : y ≡ g = cc in (ap failed a, ap failed b)
  both-failed (failed x) (refused j) f g e = let z : ◌≡◌ {A = ℕ} 0 1 = cc in absurd (omega arith)
  both-failed (refused j) q f g e = let z : ◌≡◌ {A = ℕ} 0 1 = cc in absurd (omega arith)

  -- BOTH FAILURES ARE HANDED ON exactly where neither 1 nor 2 is given, the TZX reading fails by f and the TAP reading by g
  pub unread_exactly : (f g : Failure) → (answer_of (load_named lent s model) ≡ Err (Unread f g))
      ↔ (Admitted 1048576 s model × ((read_tzx lent s model ≡ failed f) × (read_tap lent s ≡ failed g)))
  unfolding load_named load_of or_else or_tap
  unread_exactly f g = (
    λ e. of (leb 3 model) refl (ltb 1048576 (length s)) refl ((named-both (load_of lent s model) f g).0 e),
    λ h. (named-both (load_of lent s model) f g).1
        (rw (lt-leb 3 model h.0.known, le-ltb 1048576 (length s) h.0.short, h.1.0, h.1.1)),
  )
    where
      of : (a : Bool) → leb 3 model ≡ a → (b : Bool) → ltb 1048576 (length s) ≡ b
          → (a ⇒ no bad_model ∣ b ⇒ no tape_long ∣ or_else (read_tzx lent s model) (read_tap lent s)) ≡ both_err f g
          → Admitted 1048576 s model × ((read_tzx lent s model ≡ failed f) × (read_tap lent s ≡ failed g))
      of true p b q e = let z : ◌≡◌ {A = ℕ} 0 1 = cc in absurd (omega arith)
      of false p true q e = let z : ◌≡◌ {A = ℕ} 0 1 = cc in absurd (omega arith)
      of false p false q e =
          (record { known = leb-false _ _ p; short = ltb-false _ _ q }, both-failed (read_tzx lent s model) (read_tap lent s) f g e)

  -- THE REPORT SAYS WHAT THE BYTES SAY
  pub unread_met : (f g : Failure) → (answer_of (load_named lent s model) ≡ Err (Unread f g))
      ↔ (Admitted 1048576 s model × (TzxMet lent s model f × TapMet lent s g))
  unread_met f g =
      let x = unread_exactly f g in
      let y = tzx_met lent s model f in
      let z = tap_met lent s g in
      (λ e. let h = x.0 e in (h.0, (y.0 h.1.0, z.0 h.1.1)), λ h. x.1 (h.0, (y.1 h.1.0, z.1 h.1.1)))

  -- so a short field of a piece that a load tells is the first of the whole attempt, and a TAP's is the first of that one
  pub load_told_first : {kind at p w : ℕ} {g : Failure} → answer_of (load_named lent s model) ≡ Err (Unread (failure.ShortPiece kind at p w) g)
      → (h : ByTzx lent s model (λ from t. PieceMet s (failure.ShortPiece kind at p w) from))
      × ShortAt (head_trace s ++ attempt_trace (piece_trace s) h.1) p w
  load_told_first {kind} {at} {p} {w} {g} e = of ((unread_met (failure.ShortPiece kind at p w) g).0 e).1.0 refl
    where
      of : {f : Failure} → TzxMet lent s model f → f ≡ failure.ShortPiece kind at p w
          → (h : ByTzx lent s model (λ from t. PieceMet s (failure.ShortPiece kind at p w) from))
          × ShortAt (head_trace s ++ attempt_trace (piece_trace s) h.1) p w
      of (head_short x) q = let z : ◌≡◌ {A = ℕ} 0 1 = cc in absurd (omega arith)
      of (head_other x y) q = let z : ◌≡◌ {A = ℕ} 0 1 = cc in absurd (omega arith)
      of (at_piece {f = f} x) q =
          let h = subst (λ (c : Failure). ByTzx lent s model (λ from t. PieceMet s c from)) q x in (h, told-first lent s model h)

  pub load_told_first_tap : {p w : ℕ} {f : Failure} → answer_of (load_named lent s model) ≡ Err (Unread f (failure.Short p w))
      → (c : TapMet lent s (failure.Short p w)) × ShortAt (attempt_trace (tap_trace s) c) p w
  load_told_first_tap {p} {w} {f} e = let c = ((unread_met f (failure.Short p w)).0 e).1.1 in (c, tap_told_first lent s c)

  -- 3 is never given without it
  pub three_unread : answer_of (load_named lent s model) ≡ Err (Refused tape_bad) → ⊥
  unfolding load_named
  three_unread e =
      let x = (given_3 lent s model).0 (unfold refusal_no in ap refusal_no e) in
      let y = (unread_exactly x.1.0.0 x.1.1.0).1 (x.0, (x.1.0.1, x.1.1.1)) in
      let z : ◌≡◌ {A = ℕ} 0 1 = cc in
      omega arith
