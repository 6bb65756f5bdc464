-- Worked examples by computation: steps from an empty tape over room for six blocks and three tone rows, and what is then read.
-- Assumes nothing.
use Prim.Native.Nat.{ℕ}
use mathlib.Core.Path.{◌≡◌, refl}
use mathlib.Core.List.{List, [], ◌∷◌, map}
use Rattle.rows.specs.declared.Block.{Block}
use Rattle.rows.specs.declared.Tone.{Tone}
use Rattle.rows.specs.Rows.{decode_tone, decode_block}
use Rattle.load_state.specs.declared.Pending.TheVariants.{First, Text}
use Rattle.load_state.specs.declared.Halt.TheVariants.{Refusal, Length}
use Rattle.load_state.specs.Parser.{Parsed, empty, Out, on, no, ◌⟫◌, paused, last_paused, add_tones, add_block, pend, end_group}
use Rattle.load_state.specs.Parser.{open_loop, copy_rows, copies, closed, close_loop}

-- a block as it is born, with tone rows from row n on, and these words: pause, endless, selectable, case of name
abbrev born : ℕ → ℕ → ℕ → ℕ → ℕ → Parsed → Out
born n pause endless selectable case =
    add_block 6 (decode_block (n ∷ 2 ∷ 0 ∷ 0 ∷ 0 ∷ 0 ∷ 0 ∷ pause ∷ endless ∷ selectable ∷ case ∷ []))

-- selectable, with a pause; not selectable, with pause 0; a stop
abbrev a : Parsed → Out
a = born 7 9 0 1 0

abbrev b : Parsed → Out
b = born 8 0 0 0 0

abbrev stop : Parsed → Out
stop = born 9 0 1 1 1

abbrev three : Parsed → Out
three t = a t ⟫ a ⟫ a

abbrev group : Parsed → Out
group = pend (First 50 4)

abbrev text : Parsed → Out
text = pend (Text 40 3)

abbrev close : Parsed → Out
close = close_loop 6

abbrev tones : List Tone → Parsed → Out
tones = add_tones 3

abbrev tone : Tone
tone = decode_tone (1 ∷ 2 ∷ 3 ∷ [])

abbrev after : List (Parsed → Out) → Out → Out
after [] o = o
after (f ∷ fs) o = after fs (o ⟫ f)

-- first tone row, how many, pause, endless, selectable, case of name, its place and length
abbrev words : Block → List ℕ
words r = r.tone ∷ r.tones ∷ r.pause ∷ r.endless ∷ r.selectable ∷ r.named ∷ r.text ∷ r.chars ∷ []

-- a refusal's number or 0, and the blocks
abbrev shown : Out → ℕ × List (List ℕ)
shown (on t) = (0, map words t.blocks)
shown (no (Refusal k)) = (k, [])
shown (no (Length kind at n)) = (0, [])

-- the words of a, of b (and of its copy, which is no different), of a stop, and of a copy of a and of a stop
abbrev A : List ℕ
A = 7 ∷ 2 ∷ 9 ∷ 0 ∷ 1 ∷ 0 ∷ 0 ∷ 0 ∷ []

abbrev B : List ℕ
B = 8 ∷ 2 ∷ 0 ∷ 0 ∷ 0 ∷ 0 ∷ 0 ∷ 0 ∷ []

abbrev Stop : List ℕ
Stop = 9 ∷ 2 ∷ 0 ∷ 1 ∷ 1 ∷ 1 ∷ 0 ∷ 0 ∷ []

abbrev A' : List ℕ
A' = 7 ∷ 2 ∷ 9 ∷ 0 ∷ 0 ∷ 0 ∷ 0 ∷ 0 ∷ []

abbrev Stop' : List ℕ
Stop' = 9 ∷ 2 ∷ 0 ∷ 1 ∷ 0 ∷ 0 ∷ 0 ∷ 0 ∷ []

-- steps, and what is read
abbrev table : List (List (Parsed → Out) × ℕ × List (List ℕ))
table =
    -- a loop of 2 round one block gives three rows; copies share tone rows
    (open_loop 2 ∷ a ∷ close ∷ [], 0, A ∷ A' ∷ A' ∷ []) ∷
    -- a copy is nameless and unselectable
    (open_loop 1 ∷ a ∷ stop ∷ close ∷ [], 0, A ∷ Stop ∷ A' ∷ Stop' ∷ []) ∷
    -- what stood before the loop isn't copied; a loop of 0, and one round nothing
    (b ∷ open_loop 1 ∷ a ∷ close ∷ [], 0, B ∷ A ∷ A' ∷ []) ∷
    (open_loop 0 ∷ a ∷ close ∷ [], 0, A ∷ []) ∷
    (a ∷ open_loop 100 ∷ close ∷ [], 0, A ∷ []) ∷
    -- a copy takes a pending text's name, and a group's
    (open_loop 2 ∷ a ∷ text ∷ close ∷ [], 0, A ∷ (7 ∷ 2 ∷ 9 ∷ 0 ∷ 1 ∷ 2 ∷ 40 ∷ 3 ∷ []) ∷ A' ∷ []) ∷ (
      open_loop 2 ∷ a ∷ group ∷ close ∷ [],
      0,
      A ∷ (7 ∷ 2 ∷ 9 ∷ 0 ∷ 1 ∷ 3 ∷ 50 ∷ 4 ∷ []) ∷ (7 ∷ 2 ∷ 9 ∷ 0 ∷ 0 ∷ 4 ∷ 50 ∷ 4 ∷ []) ∷ [],
    ) ∷
    -- a nested start is ignored, and so is an end without a start
    (open_loop 1 ∷ a ∷ open_loop 9 ∷ b ∷ close ∷ [], 0, A ∷ B ∷ A' ∷ B ∷ []) ∷
    (close ∷ a ∷ close ∷ [], 0, A ∷ []) ∷
    (open_loop 1 ∷ a ∷ close ∷ close ∷ [], 0, A ∷ A' ∷ []) ∷
    -- a group's first block is selectable, a later one isn't, one after the group is as it is born
    (
      group ∷ b ∷ a ∷ end_group ∷ a ∷ [],
      0,
      (8 ∷ 2 ∷ 0 ∷ 0 ∷ 1 ∷ 3 ∷ 50 ∷ 4 ∷ []) ∷ (7 ∷ 2 ∷ 9 ∷ 0 ∷ 0 ∷ 4 ∷ 50 ∷ 4 ∷ []) ∷ A ∷ [],
    ) ∷
    -- a text names one block
    (text ∷ b ∷ b ∷ [], 0, (8 ∷ 2 ∷ 0 ∷ 0 ∷ 1 ∷ 2 ∷ 40 ∷ 3 ∷ []) ∷ B ∷ []) ∷
    -- and replaces the name of a stop; a name may be empty
    (pend (Text 60 0) ∷ stop ∷ [], 0, (9 ∷ 2 ∷ 0 ∷ 1 ∷ 1 ∷ 2 ∷ 60 ∷ 0 ∷ []) ∷ []) ∷
    -- a group start drops a pending text, and so does a new text
    (text ∷ group ∷ a ∷ end_group ∷ a ∷ [], 0, (7 ∷ 2 ∷ 9 ∷ 0 ∷ 1 ∷ 3 ∷ 50 ∷ 4 ∷ []) ∷ A ∷ []) ∷
    (pend (Text 60 5) ∷ text ∷ a ∷ a ∷ [], 0, (7 ∷ 2 ∷ 9 ∷ 0 ∷ 1 ∷ 2 ∷ 40 ∷ 3 ∷ []) ∷ A ∷ []) ∷
    -- text or start inside a group is ignored, before its first block and after
    (group ∷ text ∷ pend (First 60 5) ∷ a ∷ [], 0, (7 ∷ 2 ∷ 9 ∷ 0 ∷ 1 ∷ 3 ∷ 50 ∷ 4 ∷ []) ∷ []) ∷ (
      group ∷ a ∷ text ∷ pend (First 60 5) ∷ a ∷ [],
      0,
      (7 ∷ 2 ∷ 9 ∷ 0 ∷ 1 ∷ 3 ∷ 50 ∷ 4 ∷ []) ∷ (7 ∷ 2 ∷ 9 ∷ 0 ∷ 0 ∷ 4 ∷ 50 ∷ 4 ∷ []) ∷ [],
    ) ∷
    -- a group end keeps a pending text
    (text ∷ end_group ∷ a ∷ [], 0, (7 ∷ 2 ∷ 9 ∷ 0 ∷ 1 ∷ 2 ∷ 40 ∷ 3 ∷ []) ∷ []) ∷
    -- and the last block's finite pause 0 becomes 3,500, group open or not; no other, and no endless one
    (b ∷ b ∷ end_group ∷ [], 0, B ∷ (8 ∷ 2 ∷ 3500 ∷ 0 ∷ 0 ∷ 0 ∷ 0 ∷ 0 ∷ []) ∷ []) ∷
    (group ∷ b ∷ end_group ∷ [], 0, (8 ∷ 2 ∷ 3500 ∷ 0 ∷ 1 ∷ 3 ∷ 50 ∷ 4 ∷ []) ∷ []) ∷
    (a ∷ end_group ∷ stop ∷ end_group ∷ [], 0, A ∷ Stop ∷ []) ∷
    (end_group ∷ a ∷ [], 0, A ∷ []) ∷
    -- a copy has its original's new pause
    (
      open_loop 1 ∷ b ∷ end_group ∷ close ∷ [],
      0,
      (8 ∷ 2 ∷ 3500 ∷ 0 ∷ 0 ∷ 0 ∷ 0 ∷ 0 ∷ []) ∷ (8 ∷ 2 ∷ 3500 ∷ 0 ∷ 0 ∷ 0 ∷ 0 ∷ 0 ∷ []) ∷ [],
    ) ∷
    -- refusal 6 from the seventh block on, a copy or not
    (three ∷ three ∷ [], 0, A ∷ A ∷ A ∷ A ∷ A ∷ A ∷ []) ∷
    (three ∷ three ∷ a ∷ [], 6, []) ∷
    (open_loop 1 ∷ three ∷ close ∷ [], 0, A ∷ A ∷ A ∷ A' ∷ A' ∷ A' ∷ []) ∷
    (open_loop 6 ∷ a ∷ close ∷ [], 6, []) ∷
    -- refusal 5 from the fourth tone row on
    (tones (tone ∷ tone ∷ []) ∷ tones (tone ∷ []) ∷ a ∷ [], 0, A ∷ []) ∷
    (tones (tone ∷ tone ∷ []) ∷ tones (tone ∷ tone ∷ []) ∷ a ∷ [], 5, []) ∷
    -- the first refusal stands
    (open_loop 6 ∷ a ∷ close ∷ tones (tone ∷ tone ∷ tone ∷ tone ∷ []) ∷ [], 6, []) ∷
    []

examples : map (λ e. shown (after e.0 (on empty))) table ≡ map (λ e. (e.1, e.2)) table
unfolding empty ◌⟫◌ add_tones add_block pend end_group last_paused paused open_loop copy_rows copies closed close_loop
examples = refl
