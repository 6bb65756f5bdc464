-- A LOOP'S BODY is played n + 1 times: a loop's end adds n further copies of the body's blocks, which play what it plays. Assumes nothing.
use Prim.Native.Nat.{ℕ, zero, suc, ◌+◌}
use native.Mathlib.Omega.{arith}
use mathlib.Core.Path.{◌≡◌, refl, sym, ap, ap₂, subst, ◌∙◌}
use mathlib.Core.Bool.{Bool, true, false}
use mathlib.Core.List.{List, [], ◌∷◌, ◌++◌, append_assoc, append-nil}
use lib.ListN.{length, drop, length-append}
use lib.Seq.{drop_at}
use lib.Dec.{ltb}
use Rattle.std.specs.Prelude.{Option, None, Some}
use Rattle.refusals.specs.Refusals.{blocks_full}
use Rattle.law_base.specs.Rules.{◌⇒◌, ◌∣◌}
use Rattle.law_pulses.specs.Play.{Entry}
use Rattle.rows.specs.Table.{table_of}
use Rattle.rows.specs.Rows.{tone}
use Rattle.rows.specs.declared.Block.{Block}
use Rattle.rows.specs.declared.Tone.{Tone}
use Rattle.play_entries.specs.Entries.{Label}
use Rattle.cut_grammar.specs.declared.Piece.TheVariants.{LoopEnd}
use Rattle.load_state.specs.declared.Halt.TheVariants.{Refusal}
use Rattle.load_state.specs.declared.Body.{Body}
use Rattle.load_state.specs.Parser.{Parsed, on, no, named, nameless, with_block, with_body, add_block, copy_rows, copies}
use Rattle.load_state.specs.Parser.{closed, close_loop}
use Rattle.load_state.specs.Kept.{Sure, sure, none}
use Rattle.load_state.proofs.Kept.{sure_then, sure_also}
use Rattle.load_blocks.specs.declared.Origin.{Origin}
use Rattle.load_blocks.specs.Adds.{Lent}
use Rattle.load_blocks.specs.Deeds.{does}
use Rattle.load_source.specs.Meaning.{deed_of}
use Rattle.load_source.specs.Source.{act}
use Rattle.law_tzx.specs.Format.{PulseLength, lasting}
use Rattle.law_tzx.specs.Kept.{lengths, entries_from, Plays}
use Rattle.law_tzx.specs.Departs.{repeated_lengths, source_times}
use Rattle.law_tzx.proofs.Adds.{list_append, plays-none, plays_then, plays_as}
use Rattle.law_tzx.proofs.Unheard.{copy_same}

-- blocks that were added, with the entries of the rows rs, over the tones that were there
record Copied (s : List ℕ) (rs : List Block) (t u : Parsed) : Type 0 where
  blocks : List Block
  added : u.blocks ≡ t.blocks ++ blocks
  under : u.tones ≡ t.tones
  many : length blocks ≡ length rs
  alike : (tt : List ℕ) (b : ℕ) → entries_from s tt b blocks ≡ entries_from s tt b rs

copied_one : (s : List ℕ) (most : ℕ) (r : Block) (t : Parsed) → Sure (Copied s (r ∷ []) t) (add_block most (nameless r) t)
unfolding add_block entries_from
copied_one s most r t = by_room (ltb (length t.blocks) most)
  where
    one : Copied s (r ∷ []) t (with_block (nameless r) t)
    one = record {
      blocks = named t.pending (nameless r) ∷ [];
      added = refl;
      under = refl;
      many = refl;
      alike = λ tt b. ap (λ (es : List (Entry Label)). es ++ []) (copy_same s tt b t.pending r);
    }

    by_room : (c : Bool) → Sure (Copied s (r ∷ []) t) (c ⇒ on (with_block (nameless r) t) ∣ no (Refusal blocks_full))
    by_room true = sure one
    by_room false = none

copied_then : {s : List ℕ} {rs qs : List Block} {t u v : Parsed} → Copied s rs t u → Copied s qs u v → Copied s (rs ++ qs) t v
copied_then {s} {rs} {qs} {t} {u} {v} p q =
    record {
      blocks = p.blocks ++ q.blocks;
      added = q.added ∙ ap (λ (l : List Block). l ++ q.blocks) p.added ∙ append_assoc t.blocks p.blocks q.blocks;
      under = q.under ∙ p.under;
      many = length-append p.blocks q.blocks ∙ ap₂ (λ (x y : ℕ). x + y) p.many q.many ∙ sym (length-append rs qs);
      alike = λ tt b.
          list_append s tt b p.blocks q.blocks
          ∙ ap₂ (λ (x y : List (Entry Label)). x ++ y) (p.alike tt b)
          (q.alike tt (b + length p.blocks) ∙ ap (λ (k : ℕ). entries_from s tt (b + k) qs) p.many)
          ∙ sym (list_append s tt b rs qs);
    }

copied_rows : (s : List ℕ) (most : ℕ) (rs : List Block) (t : Parsed) → Sure (Copied s rs t) (copy_rows most rs t)
unfolding copy_rows
copied_rows s most [] t =
    sure (record { blocks = []; added = sym (append-nil t.blocks); under = refl; many = refl; alike = λ tt b. refl })
copied_rows s most (r ∷ rs) t =
    sure_then (copy_rows most rs) (copied_one s most r t) (λ u p. sure_also (λ v q. copied_then p q) (copied_rows s most rs u))

module _ (s : List ℕ) (ls : List PulseLength) (rs : List Block) where
  -- these rows play these lengths over the tones ts, whatever stands behind
  abbrev Heard : List Tone → Type 0
  Heard ts = (more : List Tone) (N b : ℕ) → lasting (lengths (entries_from s (table_of tone (ts ++ more) N) b rs)) ≡ lasting ls

  copied_plays : {t u : Parsed} → Heard t.tones → Copied s rs t u → Plays s ls t u
  copied_plays {t} {u} h p =
      record {
        blocks = p.blocks;
        tones = [];
        added = p.added;
        under = p.under ∙ sym (append-nil t.tones);
        plays = λ more N b.
            ap (λ es. lasting (lengths es)) (p.alike (table_of tone (u.tones ++ more) N) b)
            ∙ ap (λ (ts : List Tone). lasting (lengths (entries_from s (table_of tone (ts ++ more) N) b rs))) p.under
            ∙ h more N b;
      }

  copies_play : (most n : ℕ) (t : Parsed) → Heard t.tones → Sure (Plays s (repeated_lengths n ls) t) (copies most n rs t)
  unfolding copies repeated_lengths lasting
  copies_play most zero t h = sure (plays-none refl refl refl)
  copies_play most (suc n) t h =
      sure_then (copies most n rs) (copied_rows s most rs t) (λ u p.
      sure_also (λ v q. plays_then (copied_plays h p) q) (copies_play most n u (subst Heard (sym p.under) h)))

-- a loop that is open: its body begins at a block, and its end adds so many more
abbrev pub opened_at : ℕ → ℕ → Option Body
opened_at start times = Some (record { start = start; times = times })

-- WHAT A LOOP'S END ADDS: n further copies of the body, which stands from block `start` on
pub end_plays : (lent : Lent) (origin : Origin) (s : List ℕ) (model start n : ℕ) (ls : List PulseLength) (u : Parsed)
    → u.body ≡ opened_at start n
    → Heard s ls (drop start u.blocks) u.tones → Sure (Plays s (repeated_lengths n ls) u) (act lent s model origin LoopEnd u)
unfolding act deed_of does close_loop closed
end_plays lent origin s model start n ls u e h =
    subst (Sure (Plays s (repeated_lengths n ls) u)) (sym (ap (λ (l : Option Body). closed lent.blocks l u) e))
    (sure_also (λ v p. record { blocks = p.blocks; tones = p.tones; added = p.added; under = p.under; plays = p.plays })
    (copies_play s ls (drop start u.blocks) lent.blocks n (with_body None u) h))

-- A LOOP OF n, which began at the tape t: what was played since, one body, is played n + 1 times when the loop has ended
pub loop_plays : (lent : Lent) (origin : Origin) (s : List ℕ) (model n : ℕ) (ls : List PulseLength) (t u : Parsed)
    → u.body ≡ opened_at (length t.blocks) n → Plays s ls t u
    → Sure (Plays s (repeated_lengths (source_times n) ls) t) (act lent s model origin LoopEnd u)
unfolding repeated_lengths source_times
loop_plays lent origin s model n ls t u e p =
    let d : drop (length t.blocks) u.blocks ≡ p.blocks =
    ap (drop (length t.blocks)) p.added ∙ drop_at t.blocks p.blocks (length t.blocks) refl in
    let m : source_times n ≡ suc n = omega arith in
    sure_also (λ v q. plays_as (ap (λ (k : ℕ). lasting (repeated_lengths k ls)) (sym m)) (plays_then p q))
    (end_plays lent origin s model (length t.blocks) n ls u e
    (subst (λ (rs : List Block). Heard s ls rs u.tones) (sym d) p.plays))
