-- ONE INDUCTION OVER THE LOAD: what its steps keep holds of every tape that a load reads. Assumes nothing but that bytes are below 256.
use Prim.Native.Nat.{ℕ, zero, suc}
use mathlib.Core.Path.{◌≡◌, refl, sym, ap, ◌∙◌}
use mathlib.Core.Bool.{Bool, true, false}
use mathlib.Core.List.Memᴰ
use mathlib.Core.List.{List}
use lib.ListN.{length, get_or}
use lib.Dec.{leb, ltb}
use Rattle.refusals.specs.Refusals.{bad_model, tape_long, last_bits}
use Rattle.law_base.specs.Rules.{◌⇒◌, ◌∣◌}
use Rattle.cut_grammar.specs.declared.Taken.{Taken}
use Rattle.cut_grammar.specs.declared.Taken.TheVariants as taken
use Rattle.cut_grammar.specs.declared.TakenTap.{TakenTap}
use Rattle.cut_grammar.specs.declared.TakenTap.TheVariants as tap
use Rattle.cut_grammar.specs.declared.Heading.{Heading}
use Rattle.cut_grammar.specs.declared.Heading.TheVariants as heading
use Rattle.cut_grammar.specs.Cut.{cut_at, tap_at, head_at}
use Rattle.load_state.specs.declared.Halt.TheVariants.{Refusal, Length}
use Rattle.load_state.specs.Parser.{Parsed, Out, empty}
use Rattle.load_state.specs.Kept.{Sure, sure, none}
use Rattle.load_blocks.specs.declared.Origin.{Origin}
use Rattle.load_blocks.specs.Adds.{Lent}
use Rattle.load_blocks.specs.Sounds.{origin_at}
use Rattle.load_source.specs.declared.Failure.{Failure}
use Rattle.load_source.specs.Source as source
use Rattle.load_source.specs.Source.{See, thing, Verdict, read_on, seeing, fold_from, halted, tap_kind, full, too_many_bits, bits_judged, tzx_of}
use Rattle.load_source.specs.Source.{tzx_see, headed, read_tzx, tap_of, tap_see, read_tap, Load, or_tap, or_else, load_of}
use Rattle.law_every_load.specs.Sizes.{Bytes}
use Rattle.law_every_load.specs.Made.{Pends, OfPiece, of}
use Rattle.law_every_load.specs.OfSource.{source_table, tap_table, Reads, as_tzx, as_tap}
use Rattle.law_every_load.specs.Keeps.{Invariant, LetThrough}
use Rattle.law_every_load.proofs.Sizes.{cut_named, cut_sized, tap_sized}
use Rattle.law_every_load.proofs.Keeps.{sound_keeps}
use Rattle.law_every_load.proofs.Steps.{act_keeps}

-- the origin that a cut piece names
abbrev origin_in : Taken → Origin
origin_in taken.End = origin_at 0 0
origin_in (taken.Whole kind from next piece) = origin_at kind from
origin_in (taken.Unknown kind described) = origin_at 0 0
origin_in (taken.Short kind p w) = origin_at 0 0
origin_in (taken.Overflow kind p) = origin_at 0 0

-- what stands at a place keeps K
data Safe (K : Parsed → Type 0) : See → Type 0 where
  over : Safe K source.the_end
  bad : {f : Failure} → Safe K (source.bad f)
  refuses : {j : ℕ} → Safe K (source.refuses j)
  does : {next : ℕ} {f : Parsed → Out} → ((t : Parsed) → K t → Sure K (f t)) → Safe K (thing next f)

-- where a reading is done, its tape has K
data Final (K : Parsed → Type 0) : Verdict → Type 0 where
  done : {t : Parsed} → K t → Final K (source.done t)
  failed : {f : Failure} → Final K (source.failed f)
  refused : {j : ℕ} → Final K (source.refused j)

-- a load's tape has K where it was read as TZX, L where it was read as TAP
data Answers (K L : Parsed → Type 0) : Load → Type 0 where
  tzx : {t : Parsed} → K t → Answers K L (source.tzx t)
  tapped : {t : Parsed} → L t → Answers K L (source.tapped t)
  both : {f g : Failure} → Answers K L (source.both_err f g)
  no : {j : ℕ} → Answers K L (source.no j)

module _ {K : Parsed → Type 0} where
  after_keeps : {o : Out} (k : Parsed → Verdict) → Sure K o → ((t : Parsed) → K t → Final K (k t)) → Final K (read_on o k)
  unfolding read_on halted
  after_keeps k (sure {t = t} h) f = f t h
  after_keeps k (none {k = Refusal j}) f = refused
  after_keeps k (none {k = Length kind at n}) f = failed

  seeing_keeps : {x : See} (k : ℕ → Parsed → Verdict) → Safe K x → ((at : ℕ) (t : Parsed) → K t → Final K (k at t))
      → (t : Parsed) → K t → Final K (seeing x t k)
  unfolding seeing
  seeing_keeps k over f t h = done h
  seeing_keeps k bad f t h = failed
  seeing_keeps k refuses f t h = refused
  seeing_keeps k (does {next = next} g) f t h = after_keeps (k next) (g t h) (f next)

  fold_keeps : (see : ℕ → See) → ((at : ℕ) → Safe K (see at)) → (n at : ℕ) (t : Parsed) → K t
      → Final K (fold_from see n at t)
  unfolding fold_from
  fold_keeps see safe zero at t h = done h
  fold_keeps see safe (suc n) at t h = seeing_keeps (fold_from see n) (safe at) (fold_keeps see safe n) t h

judged_keeps : {K : Parsed → Type 0} {r : Verdict} → Final K r → Final (LetThrough K) (bits_judged r)
unfolding bits_judged
judged_keeps {K} (done {t = t} h) = by_cases (too_many_bits t.blocks) refl
  where
    by_cases : (b : Bool) → too_many_bits t.blocks ≡ b → Final (LetThrough K) (b ⇒ source.refused last_bits ∣ source.done t)
    by_cases true e = refused
    by_cases false e = done (record { kept = h; bits = e })
judged_keeps failed = failed
judged_keeps refused = refused

module _ {lent : Lent} {s : List ℕ} (b : Bytes s) where
  module _ {K : Parsed → Type 0} (k : Invariant lent s (OfPiece (source_table s)) (Pends (source_table s)) K) where
    tzx_safe : (model at : ℕ) → Safe K (tzx_see lent s model at)
    unfolding tzx_see tzx_of
    tzx_safe model at = by_cut (cut_at s at full) refl
      where
        by_cut : (x : Taken) → cut_at s at full ≡ x → Safe K (tzx_of lent s model at x)
        by_cut taken.End e = over
        by_cut (taken.Whole kind from next piece) e =
            let c = cut_named s at e in
            let o : origin_at kind from ≡ origin_at (get_or s at 0) at = ap (λ (x : Taken). origin_in x) (sym e ∙ c) in
            rw o (does (act_keeps k model at piece (record { next = next; cut = c; sized = cut_sized s at e b })))
        by_cut (taken.Unknown kind described) e = does (λ t h. sure h)
        by_cut (taken.Short kind p w) e = bad
        by_cut (taken.Overflow kind p) e = refuses

    tzx_keeps : (model : ℕ) → Final (LetThrough K) (read_tzx lent s model)
    unfolding read_tzx headed
    tzx_keeps model = by_head (head_at s)
      where
        by_head : (x : Heading) → Final (LetThrough K) (headed lent s model x)
        by_head (heading.Version major minor) =
            judged_keeps (fold_keeps (tzx_see lent s model) (tzx_safe model) (length s) 10 empty k.begins)
        by_head heading.BadSignature = failed
        by_head (heading.Short p w) = failed

  module _ {L : Parsed → Type 0} (l : Invariant lent s (OfPiece (tap_table s)) (Pends (source_table s)) L) where
    tap_safe : (at : ℕ) → Safe L (tap_see lent s at)
    unfolding tap_see tap_of
    tap_safe at = by_cut (tap_at s at) refl
      where
        by_cut : (x : TakenTap) → tap_at s at ≡ x → Safe L (tap_of lent s at x)
        by_cut tap.End e = over
        by_cut tap.Lone e = over
        by_cut (tap.Block from size next) e =
            does (λ t h. sound_keeps l (origin_at tap_kind at) _ t (of {piece = record { from = from; size = size }}
            (record { next = next; cut = e; range = tap_sized s at e b }) (Memᴰ.head refl)) h)
        by_cut (tap.Short p w) e = bad

    tap_read : Final L (read_tap lent s)
    unfolding read_tap
    tap_read = fold_keeps (tap_see lent s) tap_safe (length s) 0 empty l.begins

or_tap_lem : {K L : Parsed → Type 0} (f : Failure) {r : Verdict} → Final L r → Answers K L (or_tap f r)
unfolding or_tap
or_tap_lem f (done h) = tapped h
or_tap_lem f failed = both
or_tap_lem f refused = no

or_else_lem : {K L : Parsed → Type 0} {r q : Verdict} → Final K r → Final L q → Answers K L (or_else r q)
unfolding or_else
or_else_lem (done h) f = tzx h
or_else_lem failed f = or_tap_lem _ f
or_else_lem refused f = no

load_answers : {K L : Parsed → Type 0} (lent : Lent) (s : List ℕ) (model : ℕ) → Final K (read_tzx lent s model)
    → Final L (read_tap lent s) → Answers K L (load_of lent s model)
unfolding load_of
load_answers {K} {L} lent s model f g = by_cases (leb 3 model) (ltb 1048576 (length s))
  where
    by_cases : (a b : Bool)
        → Answers K L (a ⇒ source.no bad_model ∣ b ⇒ source.no tape_long ∣ or_else (read_tzx lent s model) (read_tap lent s))
    by_cases true b = no
    by_cases false true = no
    by_cases false false = or_else_lem f g

answered : {K L M : Parsed → Type 0} {a : Load} {t : Parsed} → ((u : Parsed) → K u → M u) → ((u : Parsed) → L u → M u)
    → Answers K L a → Reads a t → M t
answered f g (tzx h) as_tzx = f _ h
answered f g (tapped h) as_tap = g _ h
answered {K = K} {L = L} {M = M} {t = t} f g both x5 = elim x5 [ ]
answered {K = K} {L = L} {M = M} {t = t} f g (no {j = j}) x6 = elim x6 [ ]

-- THE INDUCTION: where a TZX's pieces keep K, a TAP's blocks keep L, and each gives M, every tape that a load reads has M
module _ {K L M : Parsed → Type 0} (lent : Lent) (s : List ℕ) (model : ℕ) {t : Parsed} where
  pub load_keeps : Bytes s → Invariant lent s (OfPiece (source_table s)) (Pends (source_table s)) K
      → Invariant lent s (OfPiece (tap_table s)) (Pends (source_table s)) L → ((u : Parsed) → LetThrough K u → M u)
      → ((u : Parsed) → L u → M u)
      → Reads (load_of lent s model) t → M t
  load_keeps b k l f g r = answered f g (load_answers lent s model (tzx_keeps b k model) (tap_read b l)) r
