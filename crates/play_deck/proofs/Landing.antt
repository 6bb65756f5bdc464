-- WHERE A CALL LEAVES THE HEAD, what the next one begins with is known. Assumes nothing.
use Rattle.std.specs.Prelude.{Result}
use Rattle.play_walk.specs.declared.Fault.{Fault}
use Rattle.play_walk.specs.Heads.{came}
use Prim.Native.Nat.{ℕ, ◌+◌, ◌-◌, ◌*◌, ◌≤◌, ◌<◌, min}
use native.Mathlib.Omega.{arith}
use borrow.Author.Tests.{lt-ltb}
use mathlib.Core.Path.{◌≡◌, refl, sym, ap, subst, ◌∙◌}
use mathlib.Core.Bool.{Bool, true, false}
use mathlib.Core.Logic.{⊎_elim}
use lib.ListN.{length}
use Rattle.law_base.specs.Rules.{◌⇒◌, ◌∣◌}
use Rattle.law_base.proofs.Numbers.{lt_or_ge}
use Rattle.rows.specs.Rows.{tone, tone_most, block}
use Rattle.rows.specs.Table.{capacity_of}
use Rattle.rows.specs.declared.Block.{Block}
use Rattle.rows_well.specs.Seen.{seen_of}
use Rattle.play_entries.specs.declared.Duration.{Duration}
use Rattle.play_entries.specs.declared.Duration.TheVariants.{T, Endless}
use Rattle.play_entries.specs.Places.{Tape, block_in, level_in, is_start}
use Rattle.play_entries.specs.Mounted.{well_row}
use Rattle.play_entries.proofs.Lent.{row_lent}
use Rattle.play_entries.proofs.Valid.{below_stands}
use Rattle.play_voice.specs.declared.Heard.{Heard}
use Rattle.play_voice.specs.Voice.{ToldSeen, heard_to, row_at, rows_below}
use Rattle.play_walk.specs.declared.Position.{Position}
use Rattle.play_walk.specs.declared.Stand.{Stand}
use Rattle.play_walk.specs.declared.Reached.{Reached}
use Rattle.play_walk.specs.declared.How.TheVariants.{At}
use Rattle.play_walk.specs.Heads.{placed, stand, Walkable, GoesOn, Lands}
use Rattle.play_walk.proofs.Turns.{walkable_less}
use Rattle.play_walk.proofs.Landing.{lands_here}
use Rattle.play_deck.specs.Deck.{all_fine, judged, stays}
use Rattle.play_deck.specs.Assay.{finding, Found}
use Rattle.play_deck.specs.Inside.{ends_inside, less_by, in_place}
use Rattle.play_deck.proofs.Checks.{judged_fine, fine_below, fine_start, stays_at, stays-past, stays-endless}
use Rattle.play_deck.proofs.Inside.{inside_less}

-- a walkable position is a fine one
pub walkable_fine : (w : Tape) (q : Position) → Walkable w q → judged w q ≡ all_fine
walkable_fine w q a =
    let s = below_stands w q.block q.phase q.left a.below a.stands in
    judged_fine w q a.lent a.below a.row (rw (s.entry, s.some))

-- its row and its tone rows are lent
pub lent_row : (w : Tape) (q : Position) → Walkable w q → q.block * block.width + block.width ≤ length w.blocks
lent_row w q a = omega (arith, a.below, a.lent)

-- what hearing on asks of the row that the code read, and what it tells
abbrev Hears : Tape → ℕ → Heard → Block → Type 0
Hears w b h r = (r.tone + r.tones ≤ capacity_of tone tone_most w.tones)
    × (h.block ≡ b → h.seen ≡ seen_of w.tones r.tone h.rows)

pub hears_on : (w : Tape) (q : Position) → Walkable w q → (h : Heard) → ToldSeen w.tones w.blocks h
    → (r : Block) → r ≡ row_at w.blocks q.block → Hears w q.block h r
unfolding well_row
hears_on w q a h t r e =
    subst (Hears w q.block h) (sym e) (
      (row_lent w.bytes w.tones (block_in w q.block) a.row).rows,
      λ z. t ∙ ap (λ (b : ℕ). seen_of w.tones (row_at w.blocks b).tone h.rows) z,
    )

pub heard-on : (w : Tape) (q : Position) (r : Block) → r ≡ row_at w.blocks q.block → (h : Heard)
    → h ≡ heard_to w.tones r q.block (min (rows_below r q.phase) r.tones)
    → ToldSeen w.tones w.blocks h
heard-on w q r e h g =
    subst (ToldSeen w.tones w.blocks)
    (sym (g ∙ ap (λ (y : Block). heard_to w.tones y q.block (min (rows_below y q.phase) y.tones)) e)) refl

-- what is known of a stand inside a block is what its position comes to
pub found_on : (w : Tape) (s : Stand) → GoesOn w s → (h : Heard) → ToldSeen w.tones w.blocks h → Found w s.position (finding s.level h)
found_on w s g h t =
    record {
      fine = walkable_fine w s.position g.there;
      level = g.level ∙ rw (lt-ltb s.position.block w.count g.there.below);
      told = t;
    }

-- a start lands nowhere inside
never : true ≡ false → ⊥
never e = let y : ◌≡◌ {A = ℕ} 0 1 = ap (λ (t : Bool). t ⇒ 0 ∣ 1) e in absurd (omega arith)

-- a call of 0 leaves it where it is
module _ (w : Tape) (q : Position) (fine : judged w q ≡ all_fine) where
  stay_left : (left : Duration) → q.left ≡ left → q.block < w.count → Walkable w q → Lands w (stays w q)
  stay_left (T t) e h a = lands_here w q 0 (stays_at w q fine t e h) a
  stay_left Endless e h a = lands_here w q 0 (stays-endless w q fine e) a

  pub lands_stay : Lands w (stays w q)
  unfolding Lands
  lands_stay =
      ⊎_elim
      (λ h. stay_left q.left refl h (fine_below w q fine h))
      (λ h. subst (Lands w) (sym (stays-past w q fine h)) (λ e. absurd (never (sym (ap is_start (fine_start w q fine h)) ∙ e))))
      (lt_or_ge q.block w.count)

-- a call that ends inside its entry
module _ (w : Tape) (q : Position) (n : ℕ) (a : Walkable w q) (r : Result Reached Fault) (e : r ≡ in_place w q n) where
  inside_left_lem : (left : Duration) → q.left ≡ left → ends_inside left n ≡ true → Lands w r
  unfolding less_by ends_inside
  inside_left_lem (T t) l i =
      let h = inside_less (T t) t n refl i in
      let b = q.block in
      let f = q.phase in
      lands_here w (placed b f (T (t - n))) 0
      (e ∙ ap (λ (d : Duration). came At (stand (placed b f (less_by d n)) 0 (level_in w b f))) l)
      (walkable_less w b f t (t - n) (subst (λ (d : Duration). Walkable w (placed b f d)) l a) (omega arith) (omega arith))
  inside_left_lem Endless l i = absurd (never (sym i))

  pub lands_inside : ends_inside q.left n ≡ true → Lands w r
  lands_inside i = inside_left_lem q.left refl i
