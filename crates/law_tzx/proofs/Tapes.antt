-- A TAPE OF KEPT PIECES is played, in lengths, as the format says: its pieces one after the other. Assumes nothing.
use Prim.Native.Nat.{ℕ, zero, suc, ◌+◌}
use native.Mathlib.Omega.{arith}
use mathlib.Core.Path.{◌≡◌, refl, sym, ap}
use mathlib.Core.Bool.{Bool, true, false, ◌&&◌, not}
use mathlib.Core.List.{List, []}
use lib.ListN.{length, get_or}
use lib.Dec.{leb, ltb, eqb}
use Rattle.std.specs.Prelude.{Ok, Err}
use Rattle.refusals.specs.Refusals.{bad_model, tape_long, last_bits}
use Rattle.law_base.specs.Rules.{◌⇒◌, ◌∣◌}
use Rattle.law_base.proofs.Tests.{first, second}
use Rattle.cut_grammar.specs.declared.NotCut.TheVariants as not_cut
use Rattle.cut_grammar.specs.declared.Taken.{Taken}
use Rattle.cut_grammar.specs.declared.Taken.TheVariants as taken
use Rattle.cut_grammar.specs.declared.Heading.{Heading}
use Rattle.cut_grammar.specs.declared.Heading.TheVariants as heading
use Rattle.cut_grammar.specs.Grammar.{Body, read_at}
use Rattle.cut_grammar.specs.Kinds.{kind_of}
use Rattle.cut_grammar.specs.Cut.{taken_as, cut_at, head_at}
use Rattle.load_state.specs.declared.Halt.TheVariants.{Refusal, Length}
use Rattle.load_state.specs.Parser.{Parsed, Out, empty}
use Rattle.load_state.specs.Kept.{Sure, sure, none}
use Rattle.load_blocks.specs.Adds.{Lent}
use Rattle.load_blocks.specs.Sounds.{origin_at}
use Rattle.load_source.specs.Source.{Verdict, done, failed, refused, read_on, seeing, fold_from, halted, too_many_bits, bits_judged, tzx_of}
use Rattle.load_source.specs.Source.{tzx_see, headed, read_tzx, read_tap, tzx, no, or_tap, or_else, load_of}
use Rattle.load_source.specs.Source as source
use Rattle.load_source.specs.declared.Failure.{Failure}
use Rattle.law_tzx.specs.Format.{Said, lasting}
use Rattle.law_tzx.specs.Cut.{layout_of, format_cut}
use Rattle.law_tzx.specs.Kept.{kept, Plays, Keeps, as_said}
use Rattle.law_tzx.specs.Tapes.{Open, none_open, loop_opened, nests, kept_then, kept_from, kept_tape, said_of, said_then}
use Rattle.law_tzx.specs.Tapes.{format_from, format_tape}
use Rattle.law_tzx.proofs.Adds.{plays-none, plays_then}
use Rattle.law_tzx.proofs.Cuts.{cut_keeps}

nothing-heard : lasting [] ≡ []
unfolding lasting
nothing-heard = refl

read_same : {t u : Parsed} → done t ≡ done u → t ≡ u
read_same e = cc

-- where a reading is done, nothing was played
done_none : {s : List ℕ} {t u : Parsed} → done t ≡ done u → Plays s [] t u
done_none {t = t} {u} e =
    let q : t ≡ u = read_same e in
    plays-none (ap (λ (x : Parsed). x.blocks) (sym q)) (ap (λ (x : Parsed). x.tones) (sym q)) nothing-heard

keeps_said : {s : List ℕ} {t u : Parsed} {said : Said} → Keeps s t u said → Plays s (said_of said) t u
unfolding said_of
keeps_said (as_said p) = p

-- a step that went on
record Went (K : Parsed → Type 0) (k : Parsed → Verdict) (u : Parsed) : Type 0 where
  tape : Parsed
  has : K tape
  then : k tape ≡ done u

went : {K : Parsed → Type 0} {o : Out} {u : Parsed} (k : Parsed → Verdict) → Sure K o → read_on o k ≡ done u → Went K k u
unfolding read_on halted
went k (sure {t = t} h) e = record { tape = t; has = h; then = e }
went k (none {k = Refusal j}) e = absurd (let z : ◌≡◌ {A = ℕ} 0 1 = cc in omega arith)
went k (none {k = Length kind at n}) e = absurd (let z : ◌≡◌ {A = ℕ} 0 1 = cc in omega arith)

-- the end is the end to both
named-on : (kind at : ℕ) (b : Body) → taken_as kind at b ≡ taken.End → ⊥
unfolding taken_as
named-on kind at (Ok x) e = let z : ◌≡◌ {A = ℕ} 0 1 = cc in omega arith
named-on kind at (Err (not_cut.Unknown described)) e = let z : ◌≡◌ {A = ℕ} 0 1 = cc in omega arith
named-on kind at (Err (not_cut.Short x)) e = let z : ◌≡◌ {A = ℕ} 0 1 = cc in omega arith
named-on kind at (Err (not_cut.Overflow p)) e = let z : ◌≡◌ {A = ℕ} 0 1 = cc in omega arith

end_same : (s : List ℕ) (at : ℕ) → cut_at s at source.full ≡ taken.End → format_cut s at ≡ taken.End
unfolding cut_at
end_same s at e = by_cases (leb (length s) at) e
  where
    by_cases : (b : Bool)
        → (b ⇒ taken.End ∣ taken_as (get_or s at 0) at (read_at (kind_of source.full (get_or s at 0)) s (Ok (at + 1)))) ≡ taken.End
        → (b ⇒ taken.End ∣ taken_as (get_or s at 0) at (read_at (layout_of (get_or s at 0)) s (Ok (at + 1)))) ≡ taken.End
    by_cases true q = refl
    by_cases false q = absurd (named-on (get_or s at 0) at (read_at (kind_of source.full (get_or s at 0)) s (Ok (at + 1))) q)

module _ (lent : Lent) (s : List ℕ) (model : ℕ) where
  -- one piece, then the others
  piece_then : (n at : ℕ) (o : Open) (t u : Parsed) (x : Taken) → cut_at s at source.full ≡ x
      → kept_then s o x (kept_from s n) ≡ true
      → seeing (tzx_of lent s model at x) t (fold_from (tzx_see lent s model) n) ≡ done u
      → ((next : ℕ) (p : Open) (v : Parsed) → kept_from s n next p ≡ true → fold_from (tzx_see lent s model) n next v ≡ done u
      → Plays s (format_from (eqb model 0) s n next) v u)
      → Plays s (said_then (eqb model 0) s (format_cut s at) (format_from (eqb model 0) s n)) t u
  unfolding kept_then seeing tzx_of said_then
  piece_then n at o t u taken.End q e f later = rw (end_same s at q) (done_none f)
  piece_then n at o t u (taken.Whole kind from next piece) q e f later =
      let p = loop_opened kind o in
      let k = first (kept s piece && not (nests kind o)) (kept_from s n next p) e in
      let c = cut_keeps lent (origin_at kind from) s model at t q (first (kept s piece) (not (nests kind o)) k) in
      let w = went (fold_from (tzx_see lent s model) n next) c.plays f in
      let rest = second (kept s piece && not (nests kind o)) (kept_from s n next p) e in
      rw c.cut (plays_then (keeps_said w.has) (later next p w.tape rest w.then))
  piece_then n at o t u (taken.Unknown kind described) q e f later = absurd (let z : ◌≡◌ {A = ℕ} 0 1 = cc in omega arith)
  piece_then n at o t u (taken.Short kind p w) q e f later = absurd (let z : ◌≡◌ {A = ℕ} 0 1 = cc in omega arith)
  piece_then n at o t u (taken.Overflow kind p) q e f later = absurd (let z : ◌≡◌ {A = ℕ} 0 1 = cc in omega arith)

  run_keeps : (n at : ℕ) (o : Open) (t u : Parsed) → kept_from s n at o ≡ true → fold_from (tzx_see lent s model) n at t ≡ done u
      → Plays s (format_from (eqb model 0) s n at) t u
  unfolding kept_from fold_from format_from tzx_see
  run_keeps zero at o t u e f = absurd (let z : ◌≡◌ {A = ℕ} 0 1 = cc in omega arith)
  run_keeps (suc n) at o t u e f = piece_then n at o t u (cut_at s at source.full) refl e f (λ next p v. run_keeps n next p v u)

  judged-done : {r : Verdict} {u : Parsed} → bits_judged r ≡ done u → r ≡ done u
  unfolding bits_judged
  judged-done {r} {u} e = by_read r e
    where
      by_bits : (t : Parsed) (b : Bool) → (b ⇒ refused last_bits ∣ done t) ≡ done u → done t ≡ done u
      by_bits t true q = absurd (let z : ◌≡◌ {A = ℕ} 0 1 = cc in omega arith)
      by_bits t false q = q

      by_read : (r : Verdict) → bits_judged r ≡ done u → r ≡ done u
      by_read (done t) q = by_bits t (too_many_bits t.blocks) q
      by_read (failed f) q = absurd (let z : ◌≡◌ {A = ℕ} 0 1 = cc in omega arith)
      by_read (refused k) q = absurd (let z : ◌≡◌ {A = ℕ} 0 1 = cc in omega arith)

  -- a load that read a TZX went through its pieces
  tzx-run : {u : Parsed} → load_of lent s model ≡ tzx u → fold_from (tzx_see lent s model) (length s) 10 empty ≡ done u
  unfolding load_of or_else or_tap read_tzx headed
  tzx-run {u} e = by_model (leb 3 model) (ltb 1048576 (length s)) e
    where
      by_tap : (f : Failure) (r : Verdict) → or_tap f r ≡ tzx u → ⊥
      by_tap f (done t) q = let z : ◌≡◌ {A = ℕ} 0 1 = cc in omega arith
      by_tap f (failed g) q = let z : ◌≡◌ {A = ℕ} 0 1 = cc in omega arith
      by_tap f (refused k) q = let z : ◌≡◌ {A = ℕ} 0 1 = cc in omega arith

      by_read : (r : Verdict) → or_else r (read_tap lent s) ≡ tzx u → r ≡ done u
      by_read (done t) q = let i : t ≡ u = cc in ap done i
      by_read (failed f) q = absurd (by_tap f (read_tap lent s) q)
      by_read (refused k) q = absurd (let z : ◌≡◌ {A = ℕ} 0 1 = cc in omega arith)

      by_head : (h : Heading) → headed lent s model h ≡ done u → fold_from (tzx_see lent s model) (length s) 10 empty ≡ done u
      by_head (heading.Version major minor) q = judged-done q
      by_head heading.BadSignature q = absurd (let z : ◌≡◌ {A = ℕ} 0 1 = cc in omega arith)
      by_head (heading.Short p w) q = absurd (let z : ◌≡◌ {A = ℕ} 0 1 = cc in omega arith)

      by_model : (b c : Bool) → (b ⇒ no bad_model ∣ c ⇒ no tape_long ∣ or_else (read_tzx lent s model) (read_tap lent s)) ≡ tzx u
          → fold_from (tzx_see lent s model) (length s) 10 empty ≡ done u
      by_model true c q = absurd (let z : ◌≡◌ {A = ℕ} 0 1 = cc in omega arith)
      by_model false true q = absurd (let z : ◌≡◌ {A = ℕ} 0 1 = cc in omega arith)
      by_model false false q = by_head (head_at s) (by_read (read_tzx lent s model) q)

  -- THE TAPE: where every piece is kept, a load's blocks play what the format says of the pieces, one after the other
  pub tape_keeps : {u : Parsed} → load_of lent s model ≡ tzx u → kept_tape s ≡ true → Plays s (format_tape (eqb model 0) s) empty u
  unfolding kept_tape format_tape
  tape_keeps {u} e k = run_keeps (length s) 10 none_open empty u k (tzx-run e)
