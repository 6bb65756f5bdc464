-- Models 1 and 2 read every tape alike; all three do so where no 2A is reached. Assumes nothing.
use Prim.Native.Nat.{ℕ, zero, suc, ◌+◌}
use mathlib.Core.Path.{◌≡◌, refl, sym, ap, ◌∙◌, fun_ext}
use mathlib.Core.Bool.{Bool, true, false, ◌||◌, false≢true}
use mathlib.Core.List.{List}
use lib.ListN.{length}
use lib.Dec.{ltb, eqb}
use Rattle.refusals.specs.Refusals.{tape_long}
use Rattle.law_base.specs.Rules.{◌⇒◌, ◌∣◌}
use Rattle.law_base.proofs.Tests.{neither}
use Rattle.cut_grammar.specs.declared.Piece.{Piece}
use Rattle.cut_grammar.specs.declared.Taken.{Taken}
use Rattle.cut_grammar.specs.declared.Taken.TheVariants as taken
use Rattle.cut_grammar.specs.declared.Heading.{Heading}
use Rattle.cut_grammar.specs.declared.Heading.TheVariants as heading
use Rattle.cut_grammar.specs.Cut.{cut_at, head_at}
use Rattle.load_state.specs.Parser.{Parsed, Out, on, no as halt, empty}
use Rattle.load_blocks.specs.declared.Origin.{Origin}
use Rattle.load_blocks.specs.Adds.{Lent}
use Rattle.load_blocks.specs.Sounds.{origin_at}
use Rattle.load_blocks.specs.Deeds.{asks48}
use Rattle.load_blocks.proofs.Models.{does_model}
use Rattle.load_source.specs.Meaning.{deed_of}
use Rattle.load_source.specs.Source.{See, thing, Verdict, act, read_on, seeing, fold_from, full, bits_judged, tzx_of, tzx_see, headed}
use Rattle.load_source.specs.Source.{read_tzx, read_tap, or_else, no, load_of}
use Rattle.load_source.specs.Reached.{stops_at, going_on, passing, reached_from, reached_behind, reached_by, reaches_2a}

module _ (lent : Lent) (s : List ℕ) where
  -- only a 2A asks for the model, and only whether it is the 48K
  act_model : (m m' : ℕ) (origin : Origin) (p : Piece) (t : Parsed) → (asks48 (deed_of s p) ≡ true → eqb m 0 ≡ eqb m' 0)
      → act lent s m origin p t ≡ act lent s m' origin p t
  unfolding act
  act_model m m' origin p t e = does_model lent s m m' origin (deed_of s p) t e

  see_equal : (at : ℕ) (k : Taken) → tzx_of lent s 1 at k ≡ tzx_of lent s 2 at k
  unfolding tzx_of
  see_equal at taken.End = refl
  see_equal at (taken.Whole kind from next piece) =
      ap (thing next) (fun_ext (λ (t : Parsed). act_model 1 2 (origin_at kind from) piece t (λ _. refl)))
  see_equal at (taken.Unknown kind described) = refl
  see_equal at (taken.Short kind p w) = refl
  see_equal at (taken.Overflow kind p) = refl

  headed_equal : (h : Heading) → headed lent s 1 h ≡ headed lent s 2 h
  unfolding headed tzx_see
  headed_equal (heading.Version major minor) =
      ap (λ (f : ℕ → See). bits_judged (fold_from f (length s) 10 empty)) (fun_ext (λ (at : ℕ). see_equal at (cut_at s at full)))
  headed_equal heading.BadSignature = refl
  headed_equal (heading.Short p w) = refl

  pub models_equal : load_of lent s 1 ≡ load_of lent s 2
  unfolding load_of read_tzx
  models_equal = rw (headed_equal (head_at s))

  -- a piece that is no 2A
  other : (origin : Origin) (p : Piece) (t : Parsed) → asks48 (deed_of s p) ≡ false
      → act lent s 0 origin p t ≡ act lent s 1 origin p t
  other origin p t e = act_model 0 1 origin p t (λ i. absurd (false≢true (sym e ∙ i)))

  -- one thing of two runs: alike where it is no 2A of length 0 and what follows is alike
  module _ (t : Parsed) (k k' : ℕ → Parsed → Verdict) (r : ℕ → Parsed → Bool)
      (alike : (x : ℕ) (u : Parsed) → r x u ≡ false → k x u ≡ k' x u) where
    on_agree : (o : Out) (next : ℕ) → going_on o (r next) ≡ false → read_on o (k next) ≡ read_on o (k' next)
    unfolding read_on going_on
    on_agree (on u) next e = alike next u e
    on_agree (halt j) next e = refl

    taken_agree : (at : ℕ) (c : Taken) → stops_at s c ≡ false → passing (tzx_of lent s 1 at c) t r ≡ false
        → seeing (tzx_of lent s 0 at c) t k ≡ seeing (tzx_of lent s 1 at c) t k'
    unfolding tzx_of stops_at seeing passing
    taken_agree at taken.End e g = refl
    taken_agree at (taken.Whole kind from next piece) e g =
        ap (λ (o : Out). read_on o (k next)) (other (origin_at kind from) piece t e)
        ∙ on_agree (act lent s 1 (origin_at kind from) piece t) next g
    taken_agree at (taken.Unknown kind described) e g = on_agree (on t) (at + 1) g
    taken_agree at (taken.Short kind p w) e g = refl
    taken_agree at (taken.Overflow kind p) e g = refl

  run_agree : (n at : ℕ) (t : Parsed) → reached_from lent s 1 n at t ≡ false
      → fold_from (tzx_see lent s 0) n at t ≡ fold_from (tzx_see lent s 1) n at t
  unfolding fold_from reached_from tzx_see
  run_agree zero at t e = refl
  run_agree (suc n) at t e =
      let f = neither (stops_at s (cut_at s at full)) (passing (tzx_of lent s 1 at (cut_at s at full)) t (reached_from lent s 1 n)) e in
      taken_agree t (fold_from (tzx_see lent s 0) n) (fold_from (tzx_see lent s 1) n) (reached_from lent s 1 n) (run_agree n)
      at (cut_at s at full) f.0 f.1

  headed_agree : (h : Heading) → reached_behind lent s 1 h ≡ false → headed lent s 0 h ≡ headed lent s 1 h
  unfolding headed reached_behind
  headed_agree (heading.Version major minor) e = ap bits_judged (run_agree (length s) 10 empty e)
  headed_agree heading.BadSignature e = refl
  headed_agree (heading.Short p w) e = refl

  load_agree : (long : Bool) → (long ⇒ false ∣ reached_behind lent s 1 (head_at s)) ≡ false
      → (long ⇒ no tape_long ∣ or_else (read_tzx lent s 0) (read_tap lent s))
      ≡ (long ⇒ no tape_long ∣ or_else (read_tzx lent s 1) (read_tap lent s))
  unfolding read_tzx
  load_agree true e = refl
  load_agree false e = ap (λ (r : Verdict). or_else r (read_tap lent s)) (headed_agree (head_at s) e)

  pub models_agree : reaches_2a lent s ≡ false → load_of lent s 0 ≡ load_of lent s 1
  unfolding load_of reaches_2a reached_by
  models_agree e = load_agree (ltb 1048576 (length s)) e

  -- whether a 2A is reached is no matter of the model: up to the first one the runs are the same
  whole-reached : (i : Bool) (origin : Origin) (p : Piece) (next : ℕ) (t : Parsed) (r : ℕ → Parsed → Bool)
      → asks48 (deed_of s p) ≡ i
      → (i || passing (thing next (act lent s 0 origin p)) t r) ≡ (i || passing (thing next (act lent s 1 origin p)) t r)
  unfolding passing
  whole-reached true origin p next t r e = refl
  whole-reached false origin p next t r e = ap (λ (o : Out). going_on o (r next)) (other origin p t e)

  taken_reached : (at : ℕ) (c : Taken) (t : Parsed) (r : ℕ → Parsed → Bool)
      → (stops_at s c || passing (tzx_of lent s 0 at c) t r) ≡ (stops_at s c || passing (tzx_of lent s 1 at c) t r)
  unfolding tzx_of stops_at
  taken_reached at taken.End t r = refl
  taken_reached at (taken.Whole kind from next piece) t r = whole-reached (asks48 (deed_of s piece)) (origin_at kind from) piece next t r refl
  taken_reached at (taken.Unknown kind described) t r = refl
  taken_reached at (taken.Short kind p w) t r = refl
  taken_reached at (taken.Overflow kind p) t r = refl

  reached-run : (n : ℕ) → reached_from lent s 0 n ≡ reached_from lent s 1 n
  unfolding reached_from tzx_see
  reached-run zero = refl
  reached-run (suc n) =
      fun_ext (λ (at : ℕ). fun_ext (λ (t : Parsed).
      taken_reached at (cut_at s at full) t (reached_from lent s 0 n)
      ∙ ap (λ (r : ℕ → Parsed → Bool). stops_at s (cut_at s at full) || passing (tzx_of lent s 1 at (cut_at s at full)) t r)
      (reached-run n)))

  reached-behind : (h : Heading) → reached_behind lent s 0 h ≡ reached_behind lent s 1 h
  unfolding reached_behind
  reached-behind (heading.Version major minor) = ap (λ (r : ℕ → Parsed → Bool). r 10 empty) (reached-run (length s))
  reached-behind heading.BadSignature = refl
  reached-behind (heading.Short p w) = refl

  pub reached_any : reached_by lent s 0 ≡ reaches_2a lent s
  unfolding reached_by reaches_2a
  reached_any = rw (reached-behind (head_at s))
