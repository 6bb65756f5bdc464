-- 5 AND 6 (rules 25, 26), block by block: what each block needs that is added, and which lacks rows. Definitions alone; assumes
-- nothing.
use Rattle.std.specs.Prelude.{ℕ, ◌+◌, ◌*◌, ◌≤◌, ◌<◌, ◌≡◌, ◌&&◌, not, ◌⊎◌, List, [], ◌∷◌, ◌++◌, map, length, drop, replicate, eqb}
use Rattle.std.specs.Prelude.{Option, None, Some}
use Rattle.law_base.specs.Rules.{◌⇒◌, ◌∣◌}
use Rattle.law_pulses.specs.Play.{sum}
use Rattle.refusals.specs.Refusals.{tones_full, blocks_full}
use Rattle.rows.specs.declared.Block.{Block}
use Rattle.cut_grammar.specs.declared.Piece.{Piece}
use Rattle.cut_grammar.specs.declared.Taken.TheVariants as taken
use Rattle.cut_grammar.specs.declared.TakenTap.TheVariants as tap
use Rattle.cut_grammar.specs.Cut.{cut_at, tap_at}
use Rattle.load_state.specs.declared.Body.{Body}
use Rattle.load_state.specs.Parser.{Parsed}
use Rattle.load_blocks.specs.Adds.{Lent}
use Rattle.load_blocks.specs.Deeds.{Deed, adding, groups, texts, group_ends, opens, closes, panics, errs}
use Rattle.load_source.specs.Meaning.{deed_of}
use Rattle.load_source.specs.Source.{full, read_tzx}
use Rattle.law_promises.specs.Numbers.{Errs, ByTzx, ByTap}

-- with u tone rows and v block rows in use, a block needs more tone rows than remain of those lent: 5. Its tone rows fit, but no block row
-- remains: 6
pub data Lack (lent : Lent) (u v need : ℕ) : ℕ → Type 0 where
  tones : lent.tones < u + need → Lack lent u v need tones_full
  rows : u + need ≤ lent.tones → lent.blocks ≤ v → Lack lent u v need blocks_full

-- blocks are added one after the other, which need so many tone rows each: behind those that fit, one lacks rows
pub record Lacks (lent : Lent) (k u v : ℕ) (needs : List ℕ) : Type 0 where
  pub fit : List ℕ
  pub need : ℕ
  pub more : List ℕ
  pub split : needs ≡ fit ++ need ∷ more
  pub fits : (u + sum fit ≤ lent.tones) × (v + length fit ≤ lent.blocks)
  pub lacks : Lack lent (u + sum fit) (v + length fit) need k

-- A LOOP'S END adds n copies of each block of the body, which need no tone rows: a copy shares its original's
unfoldable pub copy_needs : Option Body → List Block → List ℕ
copy_needs None bs = []
copy_needs (Some b) bs = replicate (b.times * length (drop b.start bs)) 0

-- what the blocks need that a piece adds, over the tape read so far: its own, with their tone rows; on another model than the 48K none of
-- a 2A
unfoldable pub needs_of : ℕ → Deed → Parsed → List ℕ
needs_of model (adding only48 ds) t = (only48 && not (eqb model 0)) ⇒ [] ∣ map (λ d. length d.tones) ds
needs_of model (groups from size) t = []
needs_of model (texts from size) t = []
needs_of model group_ends t = []
needs_of model (opens n) t = []
needs_of model closes t = copy_needs t.body t.blocks
needs_of model panics t = []
needs_of model (errs n) t = []

-- at a place of a TZX stands a piece, of whose blocks one lacks rows; at one of a TAP a standard block, which needs two tone rows
pub data NeedsPiece (lent : Lent) (s : List ℕ) (model k at : ℕ) (t : Parsed) : Type 0 where
  at_piece : {kind from next : ℕ} {p : Piece} → cut_at s at full ≡ taken.Whole kind from next p
      → Lacks lent k (length t.tones) (length t.blocks) (needs_of model (deed_of s p) t) → NeedsPiece lent s model k at t

pub data NeedsBlock (lent : Lent) (s : List ℕ) (k at : ℕ) (t : Parsed) : Type 0 where
  at_block : {from size next : ℕ} → tap_at s at ≡ tap.Block from size next
      → Lacks lent k (length t.tones) (length t.blocks) (2 ∷ []) → NeedsBlock lent s k at t

-- .. to which the TZX reading comes or, where it errs, the TAP reading
abbrev pub Lacking : Lent → List ℕ → ℕ → ℕ → Type 0
Lacking lent s model k =
    ByTzx lent s model (NeedsPiece lent s model k) ⊎ (Errs (read_tzx lent s model) × ByTap lent s (NeedsBlock lent s k))
