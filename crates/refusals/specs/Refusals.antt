-- THE NUMBERS FOR NO (rules 20 to 31), each under its name: the number that a definition or a law says. Definitions alone; assumes nothing.
use Rattle.std.specs.Prelude.{ℕ, Result, Ok, Err}
use Rattle.refusals.specs.declared.Refusal.{Refusal}
use Rattle.refusals.specs.declared.Refusal.TheVariants.{BadModel, TapeLong, TapeBad, Generalised, TonesFull, BlocksFull, LastBits, NoBlock, NoPosition, NoRoom, BadRow}

-- model is not 0 (48K), 1 (128K), 2 (Plus3)
abbrev pub bad_model : ℕ
bad_model = 1

-- tape over 1,048,576 bytes (in the listing, over 65,535)
abbrev pub tape_long : ℕ
tape_long = 2

-- TZX and TAP reading both err
abbrev pub tape_bad : ℕ
tape_bad = 3

-- a generalised piece on which the Rust panics
abbrev pub generalised : ℕ
generalised = 4

-- a block needs more tone rows than remain
abbrev pub tones_full : ℕ
tones_full = 5

-- more block rows than remain
abbrev pub blocks_full : ℕ
blocks_full = 6

-- TZX was read whole, but a block with data has last bits above 8
abbrev pub last_bits : ℕ
last_bits = 7

-- block number not below the count
abbrev pub no_block : ℕ
no_block = 8

-- position not valid on this tape, or words that name no position
abbrev pub no_position : ℕ
no_position = 9

-- output buffer shorter than the text, or the answer's row shorter than its values
abbrev pub no_room : ℕ
no_room = 10

-- a needed row is not well formed, or the count exceeds capacity
abbrev pub bad_row : ℕ
bad_row = 11

-- the number of each
abbrev pub number : Refusal → ℕ
number BadModel = bad_model
number TapeLong = tape_long
number TapeBad = tape_bad
number Generalised = generalised
number TonesFull = tones_full
number BlocksFull = blocks_full
number LastBits = last_bits
number NoBlock = no_block
number NoPosition = no_position
number NoRoom = no_room
number BadRow = bad_row

-- the number for no of an answer (rule 20); 0 where it isn't refused
abbrev pub answer_no : {A : Type 0} → Result A Refusal → ℕ
answer_no (Ok a) = 0
answer_no (Err k) = number k
