-- The source reading (rules 41 to 43, 47): what each piece does to the tape read so far, the run over a TZX, the run over a TAP.
-- Refusals stand where rule 34 puts them: within one piece short bytes, 4, then block by block 5, 6; 7 last. Assumes nothing.
use Rattle.std.specs.Prelude.{ℕ, zero, suc, ◌+◌, Bool, true, false, ◌&&◌, List, [], ◌∷◌, length, ltb, leb}
use Rattle.refusals.specs.Refusals.{bad_model, tape_long, generalised, last_bits}
use Rattle.law_base.specs.Rules.{◌⇒◌, ◌∣◌}
use Rattle.rows.specs.declared.Block.{Block}
use Rattle.cut_grammar.specs.declared.Piece.{Piece}
use Rattle.cut_grammar.specs.declared.Taken.{Taken}
use Rattle.cut_grammar.specs.declared.Taken.TheVariants as taken
use Rattle.cut_grammar.specs.declared.TakenTap.{TakenTap}
use Rattle.cut_grammar.specs.declared.TakenTap.TheVariants as tap
use Rattle.cut_grammar.specs.declared.Heading.{Heading}
use Rattle.cut_grammar.specs.declared.Heading.TheVariants as heading
use Rattle.cut_grammar.specs.Cut.{cut_at, tap_at, head_at}
use Rattle.load_state.specs.declared.Halt.{Halt}
use Rattle.load_state.specs.declared.Halt.TheVariants.{Refusal, Length}
use Rattle.load_state.specs.Parser.{Parsed, Out, on, no as halt, empty}
use Rattle.load_blocks.specs.declared.Origin.{Origin}
use Rattle.load_blocks.specs.Adds.{Lent}
use Rattle.load_blocks.specs.Sounds.{origin_at, add_sound}
use Rattle.load_blocks.specs.Blocks.{standard_header, standard_sound, standard_pause}
use Rattle.load_blocks.specs.Deeds.{does}
use Rattle.load_source.specs.declared.Failure.{Failure}
use Rattle.load_source.specs.declared.Failure.TheVariants as failure
use Rattle.load_source.specs.Meaning.{deed_of}

-- what a piece of this origin does
unfoldable pub act : Lent → List ℕ → ℕ → Origin → Piece → Parsed → Out
act lent s model origin p t = does lent s model origin (deed_of s p) t

-- what stands at a place: the end; a failure; a refusal; or a thing, the place past it and what it does
pub data See : Type 0 where
  the_end : See
  bad : Failure → See
  refuses : ℕ → See
  thing : ℕ → (Parsed → Out) → See

-- a reading's answer
pub data Verdict : Type 0 where
  done : Parsed → Verdict
  failed : Failure → Verdict
  refused : ℕ → Verdict

-- a reading that halts: by a refusal, or by a failure
unfoldable pub halted : Halt → Verdict
halted (Refusal j) = refused j
halted (Length kind at n) = failed (failure.Length kind at n)

unfoldable pub read_on : Out → (Parsed → Verdict) → Verdict
read_on (on t) k = k t
read_on (halt j) k = halted j

unfoldable pub seeing : See → Parsed → (ℕ → Parsed → Verdict) → Verdict
seeing the_end t k = done t
seeing (bad f) t k = failed f
seeing (refuses j) t k = refused j
seeing (thing next does) t k = read_on (does t) (k next)

-- things from a place to the end, n of them at the most: each takes one byte at least, so as many as there are bytes are enough
unfoldable pub fold_from : (ℕ → See) → ℕ → ℕ → Parsed → Verdict
fold_from see zero at t = done t
fold_from see (suc n) at t = seeing (see at) t (fold_from see n)

-- the kind of a standard block: 10
abbrev pub tap_kind : ℕ
tap_kind = 0x10

-- an alphabet size of 0 means 255
abbrev pub full : ℕ
full = 255

-- 7 last: TZX was read whole, but a block with data has last bits above 8
unfoldable pub too_many_bits : List Block → Bool
too_many_bits [] = false
too_many_bits (r ∷ rs) = (ltb 0 r.size && ltb 8 r.last) ⇒ true ∣ too_many_bits rs

unfoldable pub bits_judged : Verdict → Verdict
bits_judged (done t) = too_many_bits t.blocks ⇒ refused last_bits ∣ done t
bits_judged (failed f) = failed f
bits_judged (refused j) = refused j

module _ (lent : Lent) (s : List ℕ) where
  -- a kind not named is skipped as one byte; the overflow of 19 is a 4
  unfoldable pub tzx_of : ℕ → ℕ → Taken → See
  tzx_of model at taken.End = the_end
  tzx_of model at (taken.Whole kind from next piece) = thing next (act lent s model (origin_at kind from) piece)
  tzx_of model at (taken.Unknown kind described) = thing (at + 1) on
  tzx_of model at (taken.Short kind p w) = bad (failure.ShortPiece kind at p w)
  tzx_of model at (taken.Overflow kind p) = refuses generalised

  unfoldable pub tzx_see : ℕ → ℕ → See
  tzx_see model at = tzx_of model at (cut_at s at full)

  -- TZX: a head, version ignored; then pieces up to the end
  unfoldable pub headed : ℕ → Heading → Verdict
  headed model (heading.Version major minor) = bits_judged (fold_from (tzx_see model) (length s) 10 empty)
  headed model heading.BadSignature = failed failure.BadSignature
  headed model (heading.Short p w) = failed (failure.Short p w)

  unfoldable pub read_tzx : ℕ → Verdict
  read_tzx model = headed model (head_at s)

  -- TAP: standard blocks; zero or one byte left ends the list; short data errs
  unfoldable pub tap_of : ℕ → TakenTap → See
  tap_of at tap.End = the_end
  tap_of at tap.Lone = the_end
  tap_of at (tap.Block from size next) =
      let header = standard_header s from size in
      thing next (add_sound lent s (origin_at tap_kind at) (standard_sound header from size (standard_pause header)))
  tap_of at (tap.Short p w) = bad (failure.Short p w)

  unfoldable pub tap_see : ℕ → See
  tap_see at = tap_of at (tap_at s at)

  unfoldable pub read_tap : Verdict
  read_tap = fold_from tap_see (length s) 0 empty

-- a load's answer: the tape in its format; why TZX and TAP reading err, where both do, which is 3; or the refusal's number alone
pub data Load : Type 0 where
  tzx : Parsed → Load
  tapped : Parsed → Load
  both_err : Failure → Failure → Load
  no : ℕ → Load

-- the TAP reading of what failed as TZX by f
unfoldable pub or_tap : Failure → Verdict → Load
or_tap f (done t) = tapped t
or_tap f (failed g) = both_err f g
or_tap f (refused j) = no j

-- a short read or bad signature is an error, and the same bytes are read as TAP; 4 to 7 don't fall back
unfoldable pub or_else : Verdict → Verdict → Load
or_else (done t) other = tzx t
or_else (failed f) other = or_tap f other
or_else (refused j) other = no j

-- load checks 1, 2, then reads
unfoldable pub load_of : Lent → List ℕ → ℕ → Load
load_of lent s model =
    leb 3 model ⇒ no bad_model
    ∣ ltb 1048576 (length s) ⇒ no tape_long
    ∣ or_else (read_tzx lent s model) (read_tap lent s)
