-- EVERY LOOP: from a 24 where none is open, past any pieces but a 25, to the 25: it stays open as it was opened, so its body is played
-- n + 1 times. Assumes nothing.
use Prim.Native.Nat.{ℕ, ◌+◌, ◌/◌}
use native.Mathlib.Omega.{arith}
use mathlib.Core.Path.{◌≡◌, refl, sym, ap, ◌∙◌}
use mathlib.Core.Bool.{Bool, true, false}
use mathlib.Core.List.{List, [], ◌∷◌}
use lib.ListN.{length}
use lib.Dec.{ltb, leb, eqb}
use Rattle.std.specs.Prelude.{Option, None, Some}
use Rattle.refusals.specs.Refusals.{tones_full, blocks_full}
use Rattle.law_base.specs.Rules.{◌⇒◌, ◌∣◌}
use Rattle.rows.specs.declared.Block.{Block}
use Rattle.rows.specs.declared.Tone.{Tone}
use Rattle.cut_grammar.specs.declared.GeneralizedData.{GeneralizedData}
use Rattle.cut_grammar.specs.declared.Piece.{Piece}
use Rattle.cut_grammar.specs.declared.Piece.TheVariants.{Standard, Turbo, Tone as PureTone, Pulses, Pure, Generalized, Pause, GroupStart}
use Rattle.cut_grammar.specs.declared.Piece.TheVariants.{GroupEnd, LoopStart, LoopEnd, Stop48, Text, Message, Archive, Hardware}
use Rattle.cut_grammar.specs.declared.Piece.TheVariants.{Custom, Glue}
use Rattle.cut_grammar.specs.declared.Taken.{Taken}
use Rattle.cut_grammar.specs.declared.Taken.TheVariants as taken
use Rattle.cut_grammar.specs.Cut.{cut_at}
use Rattle.load_general.specs.General.{Given, refused4, stop, plain, toned, general_of}
use Rattle.load_state.specs.declared.Halt.TheVariants.{Refusal}
use Rattle.load_state.specs.declared.Body.{Body}
use Rattle.load_state.specs.Parser.{Parsed, Out, on, no, ◌⟫◌, with_tones, with_block, with_body, opened, add_tones, add_block, pend}
use Rattle.load_state.specs.Parser.{end_group, open_loop}
use Rattle.load_state.specs.Kept.{Sure, sure, none}
use Rattle.load_state.proofs.Kept.{sure-of, sure_then, sure_also}
use Rattle.load_blocks.specs.declared.Origin.{Origin}
use Rattle.load_blocks.specs.Adds.{Lent, add_rows}
use Rattle.load_blocks.specs.Sounds.{origin_at, Sound, add_sound, add_sounds}
use Rattle.load_blocks.specs.Blocks.{pair_sounds, stop_sound}
use Rattle.load_blocks.specs.Deeds.{adds48, errs, general_deed, stop48_deed, does}
use Rattle.load_source.specs.Meaning.{deed_of}
use Rattle.load_source.specs.Source.{act, full, thing, tzx_of, tzx_see}
use Rattle.law_tzx.specs.Format.{PulseLength}
use Rattle.law_tzx.specs.Kept.{Plays}
use Rattle.law_tzx.specs.Departs.{repeated_lengths, source_times, Between, nothing_more, one_more}
use Rattle.law_tzx.proofs.Loops.{opened_at, loop_plays}

-- a step that leaves the loop as it is
abbrev Stays : Parsed → Out → Type 0
Stays t o = Sure (λ u. u.body ≡ t.body) o

stays_then : (t : Parsed) {o : Out} (f : Parsed → Out) → Stays t o → ((u : Parsed) → Stays u (f u)) → Stays t (o ⟫ f)
stays_then t f s h = sure_then f s (λ u e. sure_also (λ v q. q ∙ e) (h u))

module _ (lent : Lent) (origin : Origin) (s : List ℕ) where
  tones_stay : (ts : List Tone) (t : Parsed) → Stays t (add_tones lent.tones ts t)
  unfolding add_tones
  tones_stay ts t = by_room (leb (length t.tones + length ts) lent.tones)
    where
      by_room : (b : Bool) → Stays t (b ⇒ on (with_tones ts t) ∣ no (Refusal tones_full))
      by_room true = sure refl
      by_room false = none

  block-stays : (r : Block) (t : Parsed) → Stays t (add_block lent.blocks r t)
  unfolding add_block
  block-stays r t = by_room (ltb (length t.blocks) lent.blocks)
    where
      by_room : (b : Bool) → Stays t (b ⇒ on (with_block r t) ∣ no (Refusal blocks_full))
      by_room true = sure refl
      by_room false = none

  sounds_stay : (ds : List Sound) (t : Parsed) → Stays t (add_sounds lent s origin ds t)
  unfolding add_sounds add_sound add_rows
  sounds_stay [] t = sure refl
  sounds_stay (d ∷ ds) t =
      stays_then t (add_sounds lent s origin ds)
      (stays_then t (add_block lent.blocks _) (tones_stay d.tones t) (block-stays _)) (sounds_stay ds)

  general_stays : (model : ℕ) (g : GeneralizedData) (x : Given) (t : Parsed) → Stays t (does lent s model origin (general_deed g x) t)
  unfolding general_deed does
  general_stays model g refused4 t = none
  general_stays model g stop t = sounds_stay (_ ∷ []) t
  general_stays model g (plain ts off one last) t = sounds_stay (_ ∷ []) t
  general_stays model g (toned ts) t = sounds_stay (_ ∷ []) t

  stop-stays : (model n : ℕ) (t : Parsed) → Stays t (does lent s model origin (stop48_deed n) t)
  unfolding stop48_deed does
  stop-stays model n t = by_length (eqb n 0) (eqb model 0) refl
    where
      by_length : (b c : Bool) → eqb model 0 ≡ c → Stays t (does lent s model origin (b ⇒ adds48 (stop_sound ∷ []) ∣ errs n) t)
      by_length true true e = rw e (sounds_stay (stop_sound ∷ []) t)
      by_length true false e = rw e (sure refl)
      by_length false c e = none

-- a 24 in an open loop is ignored
nested_same : (k m start n : ℕ) (l : Option Body) → l ≡ opened_at start n → opened k m l ≡ l
nested_same k m start n None e = absurd (let z : ◌≡◌ {A = ℕ} 0 1 = cc in omega arith)
nested_same k m start n (Some b) e = refl

piece_stays : (lent : Lent) (origin : Origin) (s : List ℕ) (model start n : ℕ) (piece : Piece) (t : Parsed) → t.body ≡ opened_at start n
    → (piece ≡ LoopEnd → ⊥) → Stays t (act lent s model origin piece t)
unfolding act deed_of does pend end_group open_loop add_sounds
piece_stays lent origin s model start n (Standard pause from size) t o h = sounds_stay lent origin s (_ ∷ []) t
piece_stays lent origin s model start n (Turbo d) t o h = sounds_stay lent origin s (_ ∷ []) t
piece_stays lent origin s model start n (PureTone half count) t o h = sounds_stay lent origin s (_ ∷ []) t
piece_stays lent origin s model start n (Pulses count from) t o h = sounds_stay lent origin s (pair_sounds s from 0 (count / 2)) t
piece_stays lent origin s model start n (Pure off one last pause from size) t o h = sounds_stay lent origin s (_ ∷ []) t
piece_stays lent origin s model start n (Generalized g) t o h = general_stays lent origin s model g (general_of s g) t
piece_stays lent origin s model start n (Pause m) t o h = sounds_stay lent origin s (_ ∷ []) t
piece_stays lent origin s model start n (GroupStart from size) t o h = sure refl
piece_stays lent origin s model start n GroupEnd t o h = sure refl
piece_stays lent origin s model start n (LoopStart times) t o h = sure (nested_same (length t.blocks) times start n t.body o)
piece_stays lent origin s model start n LoopEnd t o h = absurd (h refl)
piece_stays lent origin s model start n (Stop48 m) t o h = stop-stays lent origin s model m t
piece_stays lent origin s model start n (Text from size) t o h = sure refl
piece_stays lent origin s model start n Message t o h = sure refl
piece_stays lent origin s model start n Archive t o h = sure refl
piece_stays lent origin s model start n Hardware t o h = sure refl
piece_stays lent origin s model start n Custom t o h = sure refl
piece_stays lent origin s model start n Glue t o h = sure refl

module _ (lent : Lent) (s : List ℕ) (model start n : ℕ) where
  -- what stands at a place, no 25
  seen_stays : (at : ℕ) {next : ℕ} {d : Parsed → Out} {t u : Parsed} (x : Taken) → tzx_of lent s model at x ≡ thing next d
      → ((kind from past : ℕ) → x ≡ taken.Whole kind from past LoopEnd → ⊥) → t.body ≡ opened_at start n → d t ≡ on u
      → u.body ≡ opened_at start n
  unfolding tzx_of
  seen_stays at taken.End e h o q = absurd (let z : ◌≡◌ {A = ℕ} 0 1 = cc in omega arith)
  seen_stays at {d = d} {t} {u} (taken.Whole kind from past piece) e h o q =
      let i : act lent s model (origin_at kind from) piece ≡ d = cc in
      let c = piece_stays lent (origin_at kind from) s model start n piece t o
      (λ k. h kind from past (ap (taken.Whole kind from past) k)) in
      sure-of c (ap (λ (f : Parsed → Out). f t) i ∙ q) ∙ o
  seen_stays at {d = d} {t} {u} (taken.Unknown kind described) e h o q =
      let i : on ≡ d = cc in
      let j : on t ≡ on u = ap (λ (f : Parsed → Out). f t) i ∙ q in
      let k : t ≡ u = cc in
      ap (λ (v : Parsed). v.body) (sym k) ∙ o
  seen_stays at (taken.Short kind p w) e h o q = absurd (let z : ◌≡◌ {A = ℕ} 0 1 = cc in omega arith)
  seen_stays at (taken.Overflow kind p) e h o q = absurd (let z : ◌≡◌ {A = ℕ} 0 1 = cc in omega arith)

  between_stays : {at end : ℕ} {t u : Parsed} → Between lent s model at t end u → t.body ≡ opened_at start n
      → u.body ≡ opened_at start n
  unfolding tzx_see
  between_stays nothing_more o = o
  between_stays (one_more {at = at} e h q rest) o = between_stays rest (seen_stays at (cut_at s at full) e h o q)

-- a 24 where no loop is open
opens : {start n : ℕ} {l : Option Body} → l ≡ None → opened start n l ≡ opened_at start n
opens {start} {n} e = ap (opened start n) e

-- THE THEOREM: a 24 of n where no loop is open, then pieces but no 25, then a 25: what they played is played n + 1 times
pub every_loop : (lent : Lent) (s : List ℕ) (model n next end : ℕ) (first last : Origin) (ls : List PulseLength) (t t₀ u : Parsed)
    → t.body ≡ None → act lent s model first (LoopStart n) t ≡ on t₀ → Between lent s model next t₀ end u
    → Plays s ls t₀ u
    → Sure (Plays s (repeated_lengths (source_times n) ls) t₀) (act lent s model last LoopEnd u)
unfolding act deed_of does open_loop
every_loop lent s model n next end first last ls t t₀ u c e b p =
    let i : with_body (opened (length t.blocks) n t.body) t ≡ t₀ = cc in
    let bs : t.blocks ≡ t₀.blocks = ap (λ (v : Parsed). v.blocks) i in
    let o : t₀.body ≡ opened_at (length t.blocks) n = ap (λ (v : Parsed). v.body) (sym i) ∙ opens c in
    let w : t₀.body ≡ opened_at (length t₀.blocks) n = o ∙ ap (λ (l : List Block). opened_at (length l) n) bs in
    loop_plays lent last s model n ls t₀ u (between_stays lent s model (length t₀.blocks) n b w) p
