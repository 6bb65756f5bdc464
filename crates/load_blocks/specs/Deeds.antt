-- WHAT A PIECE MEANS IN THE SOURCE READING, AS DATA: a deed, and one interpreter for all of them. Assumes nothing.
use Rattle.std.specs.Prelude.{ℕ, Bool, true, false, ◌&&◌, not, List, [], ◌∷◌, eqb}
use Rattle.refusals.specs.Refusals.{generalised}
use Rattle.law_base.specs.Rules.{◌⇒◌, ◌∣◌}
use Rattle.cut_grammar.specs.declared.GeneralizedData.{GeneralizedData}
use Rattle.load_general.specs.General.{Given, refused4, stop, plain, toned}
use Rattle.load_state.specs.declared.Pending.{Pending}
use Rattle.load_state.specs.declared.Pending.TheVariants.{Nothing, First, Text}
use Rattle.load_state.specs.declared.Halt.TheVariants.{Refusal, Length}
use Rattle.load_state.specs.Parser.{Parsed, Out, on, no, pend, end_group, open_loop, close_loop}
use Rattle.load_blocks.specs.declared.Origin.{Origin}
use Rattle.load_blocks.specs.Adds.{Lent}
use Rattle.load_blocks.specs.Sounds.{Sound, ms, data_bits, no_bits, add_sounds}
use Rattle.load_blocks.specs.Blocks.{data_sound, stop_sound}

pub data Deed : Type 0 where
  -- blocks, in order: on the 48K alone, or on every model
  adding : Bool → List Sound → Deed
  -- the name of a group, a text: where it stands, and how many bytes it has
  groups : ℕ → ℕ → Deed
  texts : ℕ → ℕ → Deed
  group_ends : Deed
  opens : ℕ → Deed
  closes : Deed
  -- the Rust panics: 4
  panics : Deed
  -- the reading errs: a 2A of this length
  errs : ℕ → Deed

abbrev pub adds : List Sound → Deed
adds ds = adding false ds

abbrev pub adds48 : List Sound → Deed
adds48 ds = adding true ds

abbrev pub no_deed : Deed
no_deed = adds []

-- THE INTERPRETER, for a piece of this origin in the tape s
unfoldable pub does : Lent → List ℕ → ℕ → Origin → Deed → Parsed → Out
does lent s model origin (adding only48 ds) t = (only48 && not (eqb model 0)) ⇒ on t ∣ add_sounds lent s origin ds t
does lent s model origin (groups from size) t = pend (First from size) t
does lent s model origin (texts from size) t = pend (Text from size) t
does lent s model origin group_ends t = end_group t
does lent s model origin (opens n) t = open_loop n t
does lent s model origin closes t = close_loop lent.blocks t
does lent s model origin panics t = no (Refusal generalised)
does lent s model origin (errs n) t = no (Length origin.kind origin.place n)

-- the blocks of a deed
unfoldable pub sounds_of : Deed → List Sound
sounds_of (adding only48 ds) = ds
sounds_of (groups from size) = []
sounds_of (texts from size) = []
sounds_of group_ends = []
sounds_of (opens n) = []
sounds_of closes = []
sounds_of panics = []
sounds_of (errs n) = []

-- the name that it brings
unfoldable pub brings : Deed → Pending
brings (adding only48 ds) = Nothing
brings (groups from size) = First from size
brings (texts from size) = Text from size
brings group_ends = Nothing
brings (opens n) = Nothing
brings closes = Nothing
brings panics = Nothing
brings (errs n) = Nothing

-- only a deed of the 48K asks for the model
unfoldable pub asks48 : Deed → Bool
asks48 (adding only48 ds) = only48
asks48 (groups from size) = false
asks48 (texts from size) = false
asks48 group_ends = false
asks48 (opens n) = false
asks48 closes = false
asks48 panics = false
asks48 (errs n) = false

-- 19: 4, a stop, ordinary data, or tones
unfoldable pub general_deed : GeneralizedData → Given → Deed
general_deed g refused4 = panics
general_deed g stop = adds (stop_sound ∷ [])
general_deed g (plain ts nil one last) = adds (data_sound ts (data_bits g.from g.size nil one last) (ms g.pause) ∷ [])
general_deed g (toned ts) = adds (data_sound ts no_bits (ms g.pause) ∷ [])

-- 2A: nonzero errs; a stop block on 48K only
unfoldable pub stop48_deed : ℕ → Deed
stop48_deed length = eqb length 0 ⇒ adds48 (stop_sound ∷ []) ∣ errs length
