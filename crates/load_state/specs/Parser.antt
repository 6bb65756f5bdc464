-- What the parser does with blocks, names and loops (rules 25, 26, 57 to 60, 66, 67), over lists of rows. Assumes nothing.
use Rattle.std.specs.Prelude.{ℕ, zero, suc, ◌+◌, Bool, true, false, ◌&&◌, List, [], ◌∷◌, ◌++◌, length, drop, leb, ltb, eqb}
use Rattle.std.specs.Prelude.{Option, Some, None}
use Rattle.std.specs.Option.{option_or}
use Rattle.refusals.specs.Refusals.{tones_full, blocks_full}
use Rattle.law_base.specs.Rules.{◌⇒◌, ◌∣◌}
use Rattle.rows.specs.declared.Block.{Block}
use Rattle.rows.specs.declared.Tone.{Tone}
use Rattle.rows.specs.Rows.{with_name, with_pause, with_mark}
use Rattle.load_state.specs.declared.Pending.{Pending}
use Rattle.load_state.specs.declared.Pending.TheVariants.{Nothing, First, Later, Text}
use Rattle.load_state.specs.declared.Body.{Body}
use Rattle.load_state.specs.declared.Halt.{Halt}
use Rattle.load_state.specs.declared.Halt.TheVariants.{Refusal}

-- what was read so far: the blocks, the tone rows, the pending name, the open loop
pub record Parsed : Type 0 where
  pub blocks : List Block
  pub tones : List Tone
  pub pending : Pending
  pub body : Option Body

abbrev pub parsed_of : List Block → List Tone → Pending → Option Body → Parsed
parsed_of bs ts p l = record { blocks = bs; tones = ts; pending = p; body = l }

unfoldable pub empty : Parsed
empty = parsed_of [] [] Nothing None

-- a step's answer: the tape read so far, or why there is none
pub data Out : Type 0 where
  on : Parsed → Out
  no : Halt → Out

infixl 30 ◌⟫◌
unfoldable pub ◌⟫◌ : Out → (Parsed → Out) → Out
◌⟫◌ (on t) f = f t
◌⟫◌ (no k) f = no k

-- a block with another name and selectable mark
abbrev pub renamed : ℕ → ℕ → ℕ → ℕ → Block → Block
renamed selectable case text chars r = with_mark selectable (with_name case text chars r)

-- each added block takes a pending name: group first (selectable), group later (unselectable), text (selectable)
abbrev pub named : Pending → Block → Block
named Nothing r = r
named (First text chars) r = renamed 1 3 text chars r
named (Later text chars) r = renamed 0 4 text chars r
named (Text text chars) r = renamed 1 2 text chars r

-- a text is used up, and a group's first block is followed by its later ones
abbrev pub used : Pending → Pending
used Nothing = Nothing
used (First text chars) = Later text chars
used (Later text chars) = Later text chars
used (Text text chars) = Nothing

abbrev pub with_tones : List Tone → Parsed → Parsed
with_tones ts t = parsed_of t.blocks (t.tones ++ ts) t.pending t.body

abbrev pub with_block : Block → Parsed → Parsed
with_block r t = parsed_of (t.blocks ++ named t.pending r ∷ []) t.tones (used t.pending) t.body

-- tone rows, where no more than `most` are then used: otherwise 5
unfoldable pub add_tones : ℕ → List Tone → Parsed → Out
add_tones most ts t = leb (length t.tones + length ts) most ⇒ on (with_tones ts t) ∣ no (Refusal tones_full)

-- a block, where one row at least remains of `most`: otherwise 6
unfoldable pub add_block : ℕ → Block → Parsed → Out
add_block most r t = ltb (length t.blocks) most ⇒ on (with_block r t) ∣ no (Refusal blocks_full)

abbrev pub in_group : Pending → Bool
in_group Nothing = false
in_group (First text chars) = true
in_group (Later text chars) = true
in_group (Text text chars) = false

-- group start or a new text drops a pending text; text or start inside a group is ignored
abbrev pub pended : Pending → Pending → Pending
pended new p = in_group p ⇒ p ∣ new

-- group end: an open group closes, a pending text stays
abbrev pub group_ended : Pending → Pending
group_ended p = in_group p ⇒ Nothing ∣ p

abbrev pub with_pending : Pending → Parsed → Parsed
with_pending p t = parsed_of t.blocks t.tones p t.body

unfoldable pub pend : Pending → Parsed → Out
pend new t = on (with_pending (pended new t.pending) t)

-- then, if the last block, if any, has finite pause 0, it becomes 3,500, group open or not
unfoldable pub paused : Block → Block
paused r = (eqb r.endless 0 && eqb r.pause 0) ⇒ with_pause 3500 r ∣ r

unfoldable pub last_paused : List Block → List Block
last_paused [] = []
last_paused (r ∷ []) = paused r ∷ []
last_paused (r ∷ q ∷ rs) = r ∷ last_paused (q ∷ rs)

unfoldable pub end_group : Parsed → Out
end_group t = on (parsed_of (last_paused t.blocks) t.tones (group_ended t.pending) t.body)

-- a loop start; a nested start is ignored
abbrev pub opened : ℕ → ℕ → Option Body → Option Body
opened start times b = option_or b (Some (record { start = start; times = times }))

abbrev pub with_body : Option Body → Parsed → Parsed
with_body l t = parsed_of t.blocks t.tones t.pending l

unfoldable pub open_loop : ℕ → Parsed → Out
open_loop times t = on (with_body (opened (length t.blocks) times t.body) t)

-- a copy is nameless and unselectable before naming, and shares its original's tone rows
abbrev pub nameless : Block → Block
nameless r = renamed 0 0 0 0 r

unfoldable pub copy_rows : ℕ → List Block → Parsed → Out
copy_rows most [] t = on t
copy_rows most (r ∷ rs) t = add_block most (nameless r) t ⟫ copy_rows most rs

-- n further copies of the body
unfoldable pub copies : ℕ → ℕ → List Block → Parsed → Out
copies most zero rs t = on t
copies most (suc n) rs t = copy_rows most rs t ⟫ copies most n rs

-- a loop end appends them; an end without a start is ignored
unfoldable pub closed : ℕ → Option Body → Parsed → Out
closed most None t = on t
closed most (Some b) t = copies most b.times (drop b.start t.blocks) (with_body None t)

unfoldable pub close_loop : ℕ → Parsed → Out
close_loop most t = closed most t.body t
