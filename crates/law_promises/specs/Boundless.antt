-- THE LOAD WITHOUT TABLES: the source reading where every row has room, so that no capacity enters. It is that of load_state, load_blocks
-- and load_source but for their tests of room; `large_enough` of proofs/Capacity holds it to them. Definitions alone; assumes nothing.
use Rattle.std.specs.Prelude.{ℕ, zero, suc, ◌+◌, ◌≤◌, ◌≡◌, ◌&&◌, not, List, [], ◌∷◌, length, drop, leb, ltb, eqb}
use Rattle.std.specs.Prelude.{Option, None, Some}
use Rattle.refusals.specs.Refusals.{bad_model, tape_long, generalised, tones_full, blocks_full}
use Rattle.law_base.specs.Rules.{◌⇒◌, ◌∣◌}
use Rattle.rows.specs.declared.Block.{Block}
use Rattle.cut_grammar.specs.declared.Taken.{Taken}
use Rattle.cut_grammar.specs.declared.Taken.TheVariants as taken
use Rattle.cut_grammar.specs.declared.TakenTap.{TakenTap}
use Rattle.cut_grammar.specs.declared.TakenTap.TheVariants as tap
use Rattle.cut_grammar.specs.declared.Heading.{Heading}
use Rattle.cut_grammar.specs.declared.Heading.TheVariants as heading
use Rattle.cut_grammar.specs.Cut.{cut_at, tap_at, head_at}
use Rattle.load_state.specs.declared.Body.{Body}
use Rattle.load_state.specs.declared.Pending.TheVariants.{First, Text}
use Rattle.load_state.specs.declared.Halt.TheVariants.{Refusal, Length}
use Rattle.load_state.specs.Parser.{Parsed, Out, on, no as halt, empty, with_tones, with_block, with_body, nameless, pend, end_group, open_loop}
use Rattle.load_blocks.specs.declared.Origin.{Origin}
use Rattle.load_blocks.specs.Adds.{Lent}
use Rattle.load_blocks.specs.Sounds.{Sound, origin_at, row_of}
use Rattle.load_blocks.specs.Blocks.{standard_header, standard_sound, standard_pause}
use Rattle.load_blocks.specs.Deeds.{Deed, adding, groups, texts, group_ends, opens, closes, panics, errs}
use Rattle.load_source.specs.declared.Failure.TheVariants as failure
use Rattle.load_source.specs.Meaning.{deed_of}
use Rattle.load_source.specs.Source.{See, the_end, bad, refuses, thing, Verdict, failed, fold_from, bits_judged, tap_kind, full, Load}
use Rattle.load_source.specs.Source.{no, or_else}
use Rattle.load_tape.specs.Load.{named_load}

-- a block: its tone rows behind those that were read, its row behind the blocks
unfoldable pub with_rows : List ℕ → Origin → Sound → Parsed → Parsed
with_rows s origin d t = with_block (row_of s origin d (length t.tones)) (with_tones d.tones t)

unfoldable pub with_all_rows : List ℕ → Origin → List Sound → Parsed → Parsed
with_all_rows s origin [] t = t
with_all_rows s origin (d ∷ ds) t = with_all_rows s origin ds (with_rows s origin d t)

-- a loop's body once more; n times more; at a loop's end
unfoldable pub with_copy : List Block → Parsed → Parsed
with_copy [] t = t
with_copy (r ∷ rs) t = with_copy rs (with_block (nameless r) t)

unfoldable pub with_copies : ℕ → List Block → Parsed → Parsed
with_copies zero rs t = t
with_copies (suc n) rs t = with_copies n rs (with_copy rs t)

unfoldable pub with_looped : Option Body → Parsed → Parsed
with_looped None t = t
with_looped (Some b) t = with_copies b.times (drop b.start t.blocks) (with_body None t)

-- what a piece of this origin does
unfoldable pub boundless_does : List ℕ → ℕ → Origin → Deed → Parsed → Out
boundless_does s model origin (adding only48 ds) t = on ((only48 && not (eqb model 0)) ⇒ t ∣ with_all_rows s origin ds t)
boundless_does s model origin (groups from size) t = pend (First from size) t
boundless_does s model origin (texts from size) t = pend (Text from size) t
boundless_does s model origin group_ends t = end_group t
boundless_does s model origin (opens n) t = open_loop n t
boundless_does s model origin closes t = on (with_looped t.body t)
boundless_does s model origin panics t = halt (Refusal generalised)
boundless_does s model origin (errs n) t = halt (Length origin.kind origin.place n)

module _ (s : List ℕ) where
  unfoldable pub boundless_piece : ℕ → ℕ → Taken → See
  boundless_piece model at taken.End = the_end
  boundless_piece model at (taken.Whole kind from next piece) = thing next (boundless_does s model (origin_at kind from) (deed_of s piece))
  boundless_piece model at (taken.Unknown kind described) = thing (at + 1) on
  boundless_piece model at (taken.Short kind p w) = bad (failure.ShortPiece kind at p w)
  boundless_piece model at (taken.Overflow kind p) = refuses generalised

  unfoldable pub boundless_tzx : ℕ → Heading → Verdict
  boundless_tzx model (heading.Version major minor) =
      bits_judged (fold_from (λ at. boundless_piece model at (cut_at s at full)) (length s) 10 empty)
  boundless_tzx model heading.BadSignature = failed failure.BadSignature
  boundless_tzx model (heading.Short p w) = failed (failure.Short p w)

  unfoldable pub boundless_block : ℕ → TakenTap → See
  boundless_block at tap.End = the_end
  boundless_block at tap.Lone = the_end
  boundless_block at (tap.Block from size next) =
      let header = standard_header s from size in
      thing next (λ t. on (with_rows s (origin_at tap_kind at) (standard_sound header from size (standard_pause header)) t))
  boundless_block at (tap.Short p w) = bad (failure.Short p w)

  unfoldable pub boundless_tap : Verdict
  boundless_tap = fold_from (λ at. boundless_block at (tap_at s at)) (length s) 0 empty

  -- 1, 2, then TZX and, where that errs, TAP; then the naming pass
  unfoldable pub boundless_load : ℕ → Load
  boundless_load model =
      named_load s
      (leb 3 model ⇒ no bad_model ∣ ltb 1048576 (length s) ⇒ no tape_long ∣ or_else (boundless_tzx model (head_at s)) boundless_tap)

-- no fewer rows of either sort
pub record Larger (l m : Lent) : Type 0 where
  pub blocks : l.blocks ≤ m.blocks
  pub tones : l.tones ≤ m.tones

-- TABLES THAT ARE LARGE ENOUGH: with so many rows, or more, f is x
pub record Enough {A : Type 0} (f : Lent → A) (x : A) : Type 0 where
  pub rows : Lent
  pub settled : (m : Lent) → Larger rows m → f m ≡ x

-- refusals 5 and 6: rows are short
pub data Full : ℕ → Type 0 where
  tones : Full tones_full
  blocks : Full blocks_full
