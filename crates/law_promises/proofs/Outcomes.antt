-- DETERMINED: for each public operation, any two outcomes that its contract permits are equal, refusals too. Assumes nothing.
use mathlib.Core.Path.{◌≡◌, sym, ap₂, ◌∙◌}
use mathlib.Core.List.{List, []}
use Prim.Native.Nat.{ℕ}
use Rattle.std.specs.Prelude.{Result}
use Rattle.law_promises.specs.Determined.{Determined, Answered, HeadAnswered}
use Rattle.load_tape.proofs.load.Kinds as load_kinds
use Rattle.load_tape.proofs.load.Reads as load
use Rattle.ask.proofs.len.Kinds as len_kinds
use Rattle.ask.proofs.len.Reads as len
use Rattle.ask.proofs.block_size.Kinds as block_size_kinds
use Rattle.ask.proofs.block_size.Reads as block_size
use Rattle.ask.proofs.block_selectable.Kinds as block_selectable_kinds
use Rattle.ask.proofs.block_selectable.Reads as block_selectable
use Rattle.ask.proofs.block_time.Kinds as block-time-kinds
use Rattle.ask.proofs.block_time.Reads as block-time
use Rattle.ask.proofs.block_name.Kinds as block_name_kinds
use Rattle.ask.proofs.block_name.Reads as block_name
use Rattle.ask.proofs.loading_time.Kinds as loading_time_kinds
use Rattle.ask.proofs.loading_time.Reads as loading_time
use Rattle.play_deck.proofs.play_measured.Kinds as play_measured-kinds
use Rattle.play_deck.proofs.play_measured.Reads as play_measured
use Rattle.play_deck.proofs.play.Kinds as play_kinds
use Rattle.play_deck.proofs.play.Reads as play
use Rattle.play_menu.proofs.block.Kinds as block-kinds
use Rattle.play_menu.proofs.block.Reads as block
use Rattle.play_head.proofs.play_mounted.Kinds as play_mounted-kinds
use Rattle.play_head.proofs.play_mounted.Reads as play_mounted
use Rattle.play_head.proofs.play_head.Kinds as play_head_kinds
use Rattle.play_head.proofs.play_head.Reads as play_head
use Rattle.play_head.proofs.play_once.Kinds as play_local_kinds
use Rattle.play_head.proofs.play_once.Reads as play_local
use Rattle.play_walk.proofs.Position.new_at_block.Kinds as new_at_block_kinds
use Rattle.play_walk.proofs.Position.new_at_block.Reads as new_at_block
use Rattle.play_walk.proofs.Position.mic.Kinds as mic_kinds
use Rattle.play_walk.proofs.Position.mic.Reads as mic
use Rattle.play_walk.proofs.Position.real_block.Kinds as real_block_kinds
use Rattle.play_walk.proofs.Position.real_block.Reads as real_block
use Rattle.play_walk.proofs.Position.position.Kinds as position-kinds
use Rattle.play_walk.proofs.Position.position.Reads as position
use Rattle.listing.proofs.glyvrask_listing.Kinds as c_listing_kinds
use Rattle.listing.proofs.glyvrask_listing.Reads as c_listing
use Rattle.export.proofs.glyvrask_load.Kinds as c_load_kinds
use Rattle.export.proofs.glyvrask_load.Reads as c_load
use Rattle.export.proofs.glyvrask_len.Kinds as c_len_kinds
use Rattle.export.proofs.glyvrask_len.Reads as c_len
use Rattle.export.proofs.glyvrask_block_name.Kinds as c_block_name_kinds
use Rattle.export.proofs.glyvrask_block_name.Reads as c_block_name
use Rattle.export.proofs.glyvrask_block_size.Kinds as c_block_size_kinds
use Rattle.export.proofs.glyvrask_block_size.Reads as c_block_size
use Rattle.export.proofs.glyvrask_block_selectable.Kinds as c_block_selectable_kinds
use Rattle.export.proofs.glyvrask_block_selectable.Reads as c_block_selectable
use Rattle.export.proofs.glyvrask_block_time.Kinds as c_block_time_kinds
use Rattle.export.proofs.glyvrask_block_time.Reads as c_block_time
use Rattle.export.proofs.glyvrask_loading_time.Kinds as c_loading_time_kinds
use Rattle.export.proofs.glyvrask_loading_time.Reads as c_loading_time
use Rattle.export.proofs.glyvrask_new_at_block.Kinds as c_new_at_block_kinds
use Rattle.export.proofs.glyvrask_new_at_block.Reads as c_new_at_block
use Rattle.export.proofs.glyvrask_position_block.Kinds as c_position_block_kinds
use Rattle.export.proofs.glyvrask_position_block.Reads as c_position_block
use Rattle.export.proofs.glyvrask_play.Kinds as c_play_kinds
use Rattle.export.proofs.glyvrask_play.Reads as c_play
use Rattle.export.proofs.glyvrask_play_measured.Kinds as c_play_measured_kinds
use Rattle.export.proofs.glyvrask_play_measured.Reads as c_play_measured
use Rattle.host_run.proofs.play_run.Kinds as play_run_kinds
use Rattle.host_run.proofs.play_run.Reads as play_run
use Rattle.export.proofs.glyvrask_play_run.Kinds as c_play_run_kinds
use Rattle.export.proofs.glyvrask_play_run.Reads as c_play_run
use Rattle.export.proofs.glyvrask_play_head.Kinds as c_play_head_kinds
use Rattle.export.proofs.glyvrask_play_head.Reads as c_play_head
use Rattle.play_entries.specs.Places.{Tape}
use Rattle.play_walk.specs.declared.Reached.{Reached}
use Rattle.play_walk.specs.declared.Fault.{Fault}
use Rattle.play_deck.specs.declared.Head.{Head}

-- the load: its answer, and every word of both tables
pub load_determined : Determined {W = (List ℕ) × (List ℕ)} 3 load_kinds.ps load_kinds.r load.Post
    (λ κs e. (e.1.1.0.now, e.1.1.1.0.now))
load_determined κs a z z' e e' p q =
    (p.answer ∙ sym q.answer, ap₂ (λ (x y : List ℕ). (x, y)) (p.blocks ∙ sym q.blocks) (p.tones ∙ sym q.tones))

pub len_determined : Answered 1 len_kinds.ps len_kinds.r len.Post
len_determined κs a z z' e e' p q = p [] [] ∙ sym (q [] [])

pub block_size_determined : Answered 2 block_size_kinds.ps block_size_kinds.r block_size.Post
block_size_determined κs a z z' e e' p q = p ∙ sym q

pub block_selectable_determined : Answered 2 block_selectable_kinds.ps block_selectable_kinds.r block_selectable.Post
block_selectable_determined κs a z z' e e' p q = p ∙ sym q

pub block_time_determined : Answered 2 block-time-kinds.ps block-time-kinds.r block-time.Post
block_time_determined κs a z z' e e' p q = p ∙ sym q

pub loading_time_determined : Answered 2 loading_time_kinds.ps loading_time_kinds.r loading_time.Post
loading_time_determined κs a z z' e e' p q = p ∙ sym q

-- a name: its answer, and every output byte
pub block_name_determined : Determined 3 block_name_kinds.ps block_name_kinds.r block_name.Post (λ κs e. e.1.1.0.now)
block_name_determined κs a z z' e e' p q = (p.0 ∙ sym q.0, p.1 ∙ sym q.1)

pub play_measured_determined : Answered 2 play_measured-kinds.ps play_measured-kinds.r play_measured.Post
play_measured_determined κs a z z' e e' p q = p ∙ sym q

pub play_determined : Answered 2 play_kinds.ps play_kinds.r play.Post
play_determined κs a z z' e e' p q = p ∙ sym q

pub block_determined : Answered 2 block-kinds.ps block-kinds.r block.Post
block_determined κs a z z' e e' p q = p ∙ sym q

-- a run: its number, and every word of the table
pub play_run_determined : Determined 4 play_run_kinds.ps play_run_kinds.r play_run.Post (λ κs e. e.1.1.1.1.0.now)
play_run_determined κs a z z' e e' p q = (p.0 ∙ sym q.0, p.1 ∙ sym q.1)

-- positions
pub new_at_block_determined : Answered 0 new_at_block_kinds.ps new_at_block_kinds.r new_at_block.Post
new_at_block_determined κs a z z' e e' p q = p ∙ sym q

pub mic_determined : Answered 0 mic_kinds.ps mic_kinds.r mic.Post
mic_determined κs a z z' e e' p q = p ∙ sym q

pub real_block_determined : Answered 0 real_block_kinds.ps real_block_kinds.r real_block.Post
real_block_determined κs a z z' e e' p q = p ∙ sym q

pub position_determined : Answered 0 position-kinds.ps position-kinds.r position.Post
position_determined κs a z z' e e' p q = p ∙ sym q

-- the mounted head, by value, and lent from a local
pub play_mounted_determined : Answered 2 play_mounted-kinds.ps play_mounted-kinds.r play_mounted.Post
play_mounted_determined κs a z z' e e' p q = p ∙ sym q

pub play_local_determined : Answered 2 play_local_kinds.ps play_local_kinds.r play_local.Post
play_local_determined κs a z z' e e' p q = p ∙ sym q

-- and lent
pub play_head_determined : (w : Tape) (h : Head) (n : ℕ) {r r' : Result Reached Fault} {x x' : Head} → HeadAnswered w h n r x
    → HeadAnswered w h n r' x'
    → (r ≡ r') × (x ≡ x')
play_head_determined w h n p q = (p.0 ∙ sym q.0, p.1 ∙ sym q.1)

-- .. on the contract itself
pub play_head_lent : Determined 3 play_head_kinds.ps play_head_kinds.r play_head.Post (λ κs e. e.1.0.now)
play_head_lent κs a z z' e e' p q = (p.0 ∙ sym q.0, p.1 ∙ sym q.1)

-- for C hosts: the result, and every row that may be written
pub load_once_blocks : Determined 4 c_load_kinds.ps c_load_kinds.r c_load.Post (λ κs e. e.1.1.0.now)
load_once_blocks κs a z z' e e' p q = (p.0 ∙ sym q.0, p.1.0 ∙ sym q.1.0)

pub load_once_tones : Determined 4 c_load_kinds.ps c_load_kinds.r c_load.Post (λ κs e. e.1.1.1.0.now)
load_once_tones κs a z z' e e' p q = (p.0 ∙ sym q.0, p.1.1.0 ∙ sym q.1.1.0)

pub load_once_answer : Determined 4 c_load_kinds.ps c_load_kinds.r c_load.Post (λ κs e. e.1.1.1.1.0.now)
load_once_answer κs a z z' e e' p q = (p.0 ∙ sym q.0, p.1.1.1 ∙ sym q.1.1.1)

pub len_once : Determined 2 c_len_kinds.ps c_len_kinds.r c_len.Post (λ κs e. e.1.1.0.now)
len_once κs a z z' e e' p q = (p.0 [] [] ∙ sym (q.0 [] []), p.1 [] [] ∙ sym (q.1 [] []))

pub block_name_once_out : Determined 5 c_block_name_kinds.ps c_block_name_kinds.r c_block_name.Post (λ κs e. e.1.1.1.1.1.0.now)
block_name_once_out κs a z z' e e' p q = (p.0 ∙ sym q.0, p.1.0 ∙ sym q.1.0)

pub block_name_once_answer : Determined 5 c_block_name_kinds.ps c_block_name_kinds.r c_block_name.Post
    (λ κs e. e.1.1.1.1.1.1.0.now)
block_name_once_answer κs a z z' e e' p q = (p.0 ∙ sym q.0, p.1.1 ∙ sym q.1.1)

pub block_size_once : Determined 4 c_block_size_kinds.ps c_block_size_kinds.r c_block_size.Post (λ κs e. e.1.1.1.1.1.0.now)
block_size_once κs a z z' e e' p q = (p.0 ∙ sym q.0, p.1 ∙ sym q.1)

pub block_selectable_once : Determined 4 c_block_selectable_kinds.ps c_block_selectable_kinds.r c_block_selectable.Post
    (λ κs e. e.1.1.1.1.1.0.now)
block_selectable_once κs a z z' e e' p q = (p.0 ∙ sym q.0, p.1 ∙ sym q.1)

pub block_time_once : Determined 4 c_block_time_kinds.ps c_block_time_kinds.r c_block_time.Post (λ κs e. e.1.1.1.1.1.0.now)
block_time_once κs a z z' e e' p q = (p.0 ∙ sym q.0, p.1 ∙ sym q.1)

pub loading_time_once : Determined 4 c_loading_time_kinds.ps c_loading_time_kinds.r c_loading_time.Post (λ κs e. e.1.1.1.1.0.now)
loading_time_once κs a z z' e e' p q = (p.0 ∙ sym q.0, p.1 ∙ sym q.1)

pub new_at_block_once : Determined 1 c_new_at_block_kinds.ps c_new_at_block_kinds.r c_new_at_block.Post (λ κs e. e.1.0.now)
new_at_block_once κs a z z' e e' p q = (p.0 ∙ sym q.0, p.1 ∙ sym q.1)

pub position_block_once : Determined 5 c_position_block_kinds.ps c_position_block_kinds.r c_position_block.Post
    (λ κs e. e.1.1.1.1.1.0.now)
position_block_once κs a z z' e e' p q = (p.0 ∙ sym q.0, p.1 ∙ sym q.1)

pub play_once : Determined 5 c_play_kinds.ps c_play_kinds.r c_play.Post (λ κs e. e.1.1.1.1.1.1.0.now)
play_once κs a z z' e e' p q = (p.0 ∙ sym q.0, p.1 ∙ sym q.1)

pub play_measured_once : Determined 5 c_play_measured_kinds.ps c_play_measured_kinds.r c_play_measured.Post
    (λ κs e. e.1.1.1.1.1.1.0.now)
play_measured_once κs a z z' e e' p q = (p.0 ∙ sym q.0, p.1 ∙ sym q.1)

pub play_run_once : Determined 6 c_play_run_kinds.ps c_play_run_kinds.r c_play_run.Post
    (λ κs e. e.1.1.1.1.1.1.1.0.now)
play_run_once κs a z z' e e' p q = (p.0 ∙ sym q.0, p.1 ∙ sym q.1)

pub play_head_once_head : Determined 5 c_play_head_kinds.ps c_play_head_kinds.r c_play_head.Post (λ κs e. e.1.1.1.1.0.now)
play_head_once_head κs a z z' e e' p q = (p.0 ∙ sym q.0, p.1.0 ∙ sym q.1.0)

pub play_head_once_answer : Determined 5 c_play_head_kinds.ps c_play_head_kinds.r c_play_head.Post
    (λ κs e. e.1.1.1.1.1.1.0.now)
play_head_once_answer κs a z z' e e' p q = (p.0 ∙ sym q.0, p.1.1 ∙ sym q.1.1)

-- the listing: its number, and every output byte
pub listing_once : Determined 2 c_listing_kinds.ps c_listing_kinds.r c_listing.Post (λ κs e. e.1.1.0.now)
listing_once κs a z z' e e' p q = (p.0 ∙ sym q.0, p.1 ∙ sym q.1)
