-- WHAT IS DONE AT A PLACE IS REFUSED BY 5 OR 6 EXACTLY WHEN one of the blocks that it adds needs more tone rows, or block rows, than
-- remain. Assumes nothing.
use Prim.Native.Nat.{ℕ, zero, suc, ◌+◌, ◌*◌, ◌≤◌, ◌<◌}
use native.Mathlib.Omega.{arith}
use native.Mathlib.Nat.{zero-mul, suc-mul}
use borrow.Author.Tests.{le-leb, lt-leb, lt-ltb, le-ltb}
use mathlib.Core.Path.{◌≡◌, refl, sym, ap, subst, ◌∙◌}
use mathlib.Core.Bool.{Bool, true, false, ◌&&◌, not}
use mathlib.Core.Logic.{◌↔◌, ⊎_elim}
use mathlib.Core.List.{List, [], ◌∷◌, ◌++◌, map}
use lib.ListN.{length, length-append, drop, replicate, replicate-append-replicate}
use lib.Dec.{eqb}
use Rattle.refusals.specs.Refusals.{generalised, tones_full, blocks_full}
use Rattle.law_base.proofs.Numbers.{lt_or_ge}
use Rattle.std.specs.Prelude.{Option, None, Some}
use Rattle.law_base.specs.Rules.{◌⇒◌, ◌∣◌}
use Rattle.law_pulses.specs.Play.{sum}
use Rattle.rows.specs.declared.Block.{Block}
use Rattle.rows.specs.Table.{zeros}
use Rattle.cut_grammar.specs.declared.Piece.{Piece}
use Rattle.load_state.specs.declared.Body.{Body}
use Rattle.load_state.specs.declared.Halt.{Halt}
use Rattle.load_state.specs.declared.Halt.TheVariants.{Refusal, Length}
use Rattle.load_state.specs.Parser.{Parsed, Out, on, no as halt, ◌⟫◌, with_tones, with_block, with_body, nameless, add_tones, add_block, pend}
use Rattle.load_state.specs.Parser.{end_group, open_loop, copy_rows, copies, closed, close_loop}
use Rattle.load_state.proofs.Adds.{paused-length}
use Rattle.load_blocks.specs.Adds.{Lent, add_rows}
use Rattle.load_blocks.specs.Blocks.{standard_tones, standard_sound}
use Rattle.load_blocks.specs.declared.Origin.{Origin}
use Rattle.load_blocks.specs.Sounds.{Sound, row_of, add_sound, add_sounds}
use Rattle.load_blocks.specs.Deeds.{Deed, adding, groups, texts, group_ends, opens, closes, panics, errs, does}
use Rattle.load_source.specs.Meaning.{deed_of}
use Rattle.load_source.specs.Source.{act}
use Rattle.law_every_load.proofs.Room.{Within}
use Rattle.law_promises.specs.Needs.{Lack, tones, rows, Lacks, copy_needs, needs_of}

then_on : (o : Out) → (o ⟫ on) ≡ o
unfolding ◌⟫◌
then_on (on t) = refl
then_on (halt k) = refl

then_then : (o : Out) (f g : Parsed → Out) → ((o ⟫ f) ⟫ g) ≡ (o ⟫ (λ u. f u ⟫ g))
unfolding ◌⟫◌
then_then (on t) f g = refl
then_then (halt k) f g = refl

then_by : {o p : Out} (g : Parsed → Out) → o ≡ p → (o ⟫ g) ≡ (p ⟫ g)
then_by g e = ap (λ (x : Out). x ⟫ g) e

not-halted : {A : Type 0} {t : Parsed} {k : Halt} → on t ≡ halt k → A
not-halted e = let z : ◌≡◌ {A = ℕ} 0 1 = cc in absurd (omega arith)

same_number : {j k : ℕ} → halt (Refusal j) ≡ halt (Refusal k) → j ≡ k
same_number e = cc

same_tape : {t u : Parsed} → on t ≡ on u → t ≡ u
same_tape e = cc

module _ (lent : Lent) where
  lack_by : {u v need x y m k : ℕ} → u ≡ x → v ≡ y → need ≡ m → Lack lent u v need k → Lack lent x y m k
  lack_by p q r (tones h) = tones (omega arith)
  lack_by p q r (rows h g) = rows (omega arith) (omega arith)

  none_lacks : {k u v : ℕ} → Lacks lent k u v [] → ⊥
  none_lacks l = omega (arith, ap length l.split, length-append l.fit (l.need ∷ l.more))

  module _ (k u v need : ℕ) (needs : List ℕ) where
    -- the first lacks rows; or it fits, and a later one does
    first_lacks : u ≤ lent.tones → v ≤ lent.blocks → Lack lent u v need k → Lacks lent k u v (need ∷ needs)
    unfolding sum
    first_lacks p q l =
        record {
          fit = [];
          need = need;
          more = needs;
          split = refl;
          fits = (omega arith, omega arith);
          lacks = lack_by (omega arith) (omega arith) refl l;
        }

    later_lacks : Lacks lent k (u + need) (v + 1) needs → Lacks lent k u v (need ∷ needs)
    unfolding sum
    later_lacks l =
        record {
          fit = need ∷ l.fit;
          need = l.need;
          more = l.more;
          split = ap (λ (ns : List ℕ). need ∷ ns) l.split;
          fits = (omega (arith, l.fits.0), omega (arith, l.fits.1));
          lacks = lack_by (omega arith) (omega arith) refl l.lacks;
        }

    data Way : Type 0 where
      first : Lack lent u v need k → Way
      later : u + need ≤ lent.tones → v < lent.blocks → Lacks lent k (u + need) (v + 1) needs → Way

    way : Lacks lent k u v (need ∷ needs) → Way
    unfolding sum
    way l = of l.fit l.need l.more l.split l.fits.0 l.fits.1 l.lacks
      where
        of : (fit : List ℕ) (m : ℕ) (more : List ℕ) → need ∷ needs ≡ fit ++ m ∷ more
            → u + sum fit ≤ lent.tones → v + length fit ≤ lent.blocks → Lack lent (u + sum fit) (v + length fit) m k → Way
        of [] m more e p q h = let z : m ≡ need = cc in first (lack_by (omega arith) (omega arith) z h)
        of (x ∷ fit) m more e p q h =
            let z : x ≡ need = cc in
            let y : needs ≡ fit ++ m ∷ more = cc in
            later (omega arith) (omega arith)
            (record {
              fit = fit;
              need = m;
              more = more;
              split = y;
              fits = (omega arith, omega arith);
              lacks = lack_by (omega arith) (omega arith) refl h;
            })

  -- A STEP THAT ADDS ONE BLOCK, which needs so many tone rows: 5, 6, or the block
  record One (need : ℕ) (t : Parsed) (o : Out) : Type 0 where
    five : lent.tones < length t.tones + need → o ≡ halt (Refusal tones_full)
    six : length t.tones + need ≤ lent.tones → lent.blocks ≤ length t.blocks → o ≡ halt (Refusal blocks_full)
    next : Parsed
    goes : length t.tones + need ≤ lent.tones → length t.blocks < lent.blocks → o ≡ on next
    more_tones : length next.tones ≡ length t.tones + need
    more_blocks : length next.blocks ≡ length t.blocks + 1

  -- STEPS THAT ADD BLOCKS, with u tone rows and v block rows in use: refused exactly where one lacks rows; where they are not, no more rows
  -- than are lent are in use
  pub record Adds (needs : List ℕ) (u v : ℕ) (o : Out) : Type 0 where
    pub lacking : (k : ℕ) → tones_full ≤ k → (o ≡ halt (Refusal k)) ↔ Lacks lent k u v needs
    pub keeps : (x : Parsed) → o ≡ on x → Within lent x

  -- with those of a tape in use
  abbrev pub Adding : List ℕ → Parsed → Out → Type 0
  Adding needs t o = Adds needs (length t.tones) (length t.blocks) o

  adds_none : {u v : ℕ} {t : Parsed} → Within lent t → Adds [] u v (on t)
  adds_none w =
      record { lacking = λ k h. (λ e. not-halted e, λ l. absurd (none_lacks l)); keeps = λ x e. subst (Within lent) (same_tape e) w }

  adds-halted : {u v : ℕ} (j : Halt) → ((k : ℕ) → tones_full ≤ k → j ≡ Refusal k → ⊥) → Adds [] u v (halt j)
  adds-halted j f =
      record {
        lacking = λ k h. (λ e. let z : j ≡ Refusal k = cc in absurd (f k h z), λ l. absurd (none_lacks l));
        keeps = λ x e. not-halted (sym e);
      }

  -- one block, then others
  one_then : (need : ℕ) (needs : List ℕ) (t : Parsed) (o : Out) (g : Parsed → Out) → Within lent t → One need t o
      → ((u : Parsed) → Within lent u → Adding needs u (g u))
      → Adding (need ∷ needs) t (o ⟫ g)
  unfolding ◌⟫◌
  one_then need needs t o g w one rest =
      ⊎_elim
      five
      (λ l. ⊎_elim (goes l) (six l) (lt_or_ge (length t.blocks) lent.blocks))
      (lt_or_ge lent.tones (length t.tones + need))
    where
      Goal : Type 0
      Goal = Adding (need ∷ needs) t (o ⟫ g)

      -- it is refused by j, and no other is due
      refused : (j : ℕ) → (o ⟫ g) ≡ halt (Refusal j) → Lack lent (length t.tones) (length t.blocks) need j
          → ((k : ℕ) → Way k (length t.tones) (length t.blocks) need needs → j ≡ k) → Goal
      refused j p l only =
          record {
            lacking = λ k h. (
              λ e. first_lacks k _ _ need needs w.tones w.blocks (subst (Lack lent _ _ need) (same_number (sym p ∙ e)) l),
              λ x. p ∙ ap (λ (i : ℕ). halt (Refusal i)) (only k (way k _ _ need needs x)),
            );
            keeps = λ x e. not-halted (sym e ∙ p);
          }

      five : lent.tones < length t.tones + need → Goal
      five h = refused tones_full (then_by g (one.five h)) (tones h) only
        where
          only : (k : ℕ) → Way k (length t.tones) (length t.blocks) need needs → tones_full ≡ k
          only k (first (tones x)) = refl
          only k (first (rows x y)) = absurd (omega arith)
          only k (later x y l) = absurd (omega arith)

      six : length t.tones + need ≤ lent.tones → lent.blocks ≤ length t.blocks → Goal
      six l h = refused blocks_full (then_by g (one.six l h)) (rows l h) only
        where
          only : (k : ℕ) → Way k (length t.tones) (length t.blocks) need needs → blocks_full ≡ k
          only k (first (tones x)) = absurd (omega arith)
          only k (first (rows x y)) = refl
          only k (later x y z) = absurd (omega arith)

      goes : length t.tones + need ≤ lent.tones → length t.blocks < lent.blocks → Goal
      goes l h =
          let p : (o ⟫ g) ≡ g one.next = then_by g (one.goes l h) in
          let a : Adds needs (length t.tones + need) (length t.blocks + 1) (g one.next) =
          rw (← one.more_tones, ← one.more_blocks)
          (rest one.next (record { blocks = omega (arith, one.more_blocks); tones = omega (arith, one.more_tones) })) in
          record {
            lacking = λ k c. (
              λ e. later_lacks k _ _ need needs ((a.lacking k c).0 (sym p ∙ e)),
              λ x. p ∙ (a.lacking k c).1 (only k (way k _ _ need needs x)),
            );
            keeps = λ x e. a.keeps x (sym p ∙ e);
          }
        where
          only : (k : ℕ) → Way k (length t.tones) (length t.blocks) need needs
              → Lacks lent k (length t.tones + need) (length t.blocks + 1) needs
          only k (first (tones x)) = absurd (omega arith)
          only k (first (rows x y)) = absurd (omega arith)
          only k (later x y z) = z

  sound_one : (s : List ℕ) (origin : Origin) (d : Sound) (t : Parsed) → One (length d.tones) t (add_sound lent s origin d t)
  unfolding add_sound add_rows add_tones add_block ◌⟫◌
  sound_one s origin d t =
      record {
        five = λ h. rw (lt-leb (length t.tones + length d.tones) lent.tones h);
        six = λ l h. rw (le-leb (length t.tones + length d.tones) lent.tones l, le-ltb (length t.blocks) lent.blocks h);
        next = with_block (row_of s origin d (length t.tones)) (with_tones d.tones t);
        goes = λ l h. rw (le-leb (length t.tones + length d.tones) lent.tones l, lt-ltb (length t.blocks) lent.blocks h);
        more_tones = length-append t.tones d.tones;
        more_blocks = length-append t.blocks _;
      }

  sounds_add : (s : List ℕ) (origin : Origin) (ds : List Sound) (t : Parsed) → Within lent t
      → Adding (map (λ d. length d.tones) ds) t (add_sounds lent s origin ds t)
  unfolding add_sounds
  sounds_add s origin [] t w = adds_none w
  sounds_add s origin (d ∷ ds) t w =
      one_then (length d.tones) _ t (add_sound lent s origin d t) (add_sounds lent s origin ds) w (sound_one s origin d t)
      (sounds_add s origin ds)

  -- a TAP's block
  pub standard_adds : (s : List ℕ) (origin : Origin) (header : Bool) (from size pause : ℕ) (t : Parsed) → Within lent t
      → Adding (2 ∷ []) t (add_sound lent s origin (standard_sound header from size pause) t)
  unfolding standard_sound standard_tones
  standard_adds s origin header from size pause t w =
      let d = standard_sound header from size pause in
      subst (Adding (2 ∷ []) t) (then_on (add_sound lent s origin d t))
      (one_then 2 [] t (add_sound lent s origin d t) on w (sound_one s origin d t) (λ u x. adds_none x))

  copy_one : (r : Block) (t : Parsed) → Within lent t → One 0 t (add_block lent.blocks (nameless r) t)
  unfolding add_block
  copy_one r t w =
      record {
        five = λ h. absurd (omega (arith, w.tones));
        six = λ l h. rw (le-ltb (length t.blocks) lent.blocks h);
        next = with_block (nameless r) t;
        goes = λ l h. rw (lt-ltb (length t.blocks) lent.blocks h);
        more_tones = omega arith;
        more_blocks = length-append t.blocks _;
      }

  rows_add : (rs : List Block) (needs : List ℕ) (g : Parsed → Out)
      → ((u : Parsed) → Within lent u → Adding needs u (g u))
      → (t : Parsed) → Within lent t → Adding (replicate (length rs) 0 ++ needs) t (copy_rows lent.blocks rs t ⟫ g)
  unfolding copy_rows ◌⟫◌
  rows_add [] needs g rest t w = rest t w
  rows_add (r ∷ rs) needs g rest t w =
      subst (Adding (0 ∷ replicate (length rs) 0 ++ needs) t)
      (sym (then_then (add_block lent.blocks (nameless r) t) (copy_rows lent.blocks rs) g))
      (one_then 0 (replicate (length rs) 0 ++ needs) t (add_block lent.blocks (nameless r) t) (λ u. copy_rows lent.blocks rs u ⟫ g) w
      (copy_one r t w) (rows_add rs needs g rest))

  copies_add : (n : ℕ) (rs : List Block) (t : Parsed) → Within lent t
      → Adding (replicate (n * length rs) 0) t (copies lent.blocks n rs t)
  unfolding copies
  copies_add zero rs t w = rw (zero-mul (length rs)) (adds_none w)
  copies_add (suc n) rs t w =
      let m = length rs in
      let c : m + n * m ≡ suc n * m = omega (arith, suc-mul n m) in
      let e : zeros m ++ zeros (n * m) ≡ zeros (suc n * m) = replicate-append-replicate m (n * m) 0 ∙ ap (λ (x : ℕ). zeros x) c in
      subst (λ (ns : List ℕ). Adding ns t (copy_rows lent.blocks rs t ⟫ copies lent.blocks n rs)) e
      (rows_add rs (zeros (n * m)) (copies lent.blocks n rs) (copies_add n rs) t w)

  deed_adds : (s : List ℕ) (model : ℕ) (origin : Origin) (d : Deed) (t : Parsed) → Within lent t
      → Adding (needs_of model d t) t (does lent s model origin d t)
  unfolding does needs_of copy_needs pend end_group open_loop close_loop closed
  deed_adds s model origin (adding only48 ds) t w = of (only48 && not (eqb model 0))
    where
      of : (b : Bool) → Adding (b ⇒ [] ∣ map (λ d. length d.tones) ds) t (b ⇒ on t ∣ add_sounds lent s origin ds t)
      of true = adds_none w
      of false = sounds_add s origin ds t w
  deed_adds s model origin (groups from size) t w = adds_none (record { blocks = w.blocks; tones = w.tones })
  deed_adds s model origin (texts from size) t w = adds_none (record { blocks = w.blocks; tones = w.tones })
  deed_adds s model origin group_ends t w = adds_none (record { blocks = rw (paused-length t.blocks) w.blocks; tones = w.tones })
  deed_adds s model origin (opens n) t w = adds_none (record { blocks = w.blocks; tones = w.tones })
  deed_adds s model origin closes t w = of t.body
    where
      of : (l : Option Body) → Adding (copy_needs l t.blocks) t (closed lent.blocks l t)
      of None = adds_none w
      of (Some b) =
          copies_add b.times (drop b.start t.blocks) (with_body None t) (record { blocks = w.blocks; tones = w.tones })
  deed_adds s model origin panics t w = adds-halted (Refusal generalised) (λ k h e. let z : generalised ≡ k = cc in omega arith)
  deed_adds s model origin (errs n) t w =
      adds-halted (Length origin.kind origin.place n) (λ k h e. let z : ◌≡◌ {A = ℕ} 0 1 = cc in omega arith)

  -- a piece
  pub act-adds : (s : List ℕ) (model : ℕ) (origin : Origin) (p : Piece) (t : Parsed) → Within lent t
      → Adding (needs_of model (deed_of s p) t) t (act lent s model origin p t)
  unfolding act
  act-adds s model origin p t w = deed_adds s model origin (deed_of s p) t w
