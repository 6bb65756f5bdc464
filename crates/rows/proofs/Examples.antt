-- Worked examples by computation: rows as words, appending, capacity, and each clause of well-formedness at its limit and past it.
-- Assumes nothing.
use Prim.Native.Nat.{ℕ, zero, suc, ◌*◌, ◌-◌}
use mathlib.Core.Path.{◌≡◌, refl}
use mathlib.Core.Bool.{Bool, true, false}
use mathlib.Core.List.{List, [], ◌∷◌, map}
use lib.ListN.{set}
use Rattle.rows.specs.Table.{zeros, capacity_of, appended}
use Rattle.rows.specs.Rows.{tone, tone_most, encode_tone, decode_tone, block, block_most, encode_block, decode_block}
use Rattle.rows.specs.Well.{well_tone, well_tones, well_ranges, well_numbers, well_cases, well_block}

-- n numbers, each one more than the one before it
abbrev up_from : ℕ → ℕ → List ℕ
up_from k zero = []
up_from k (suc n) = k ∷ up_from (suc k) n

-- the words of a tone and of a block, read and written back
tone_words_lem : encode_tone (decode_tone (7 ∷ 8 ∷ 9 ∷ 6 ∷ [])) ≡ 7 ∷ 8 ∷ 9 ∷ 6 ∷ []
tone_words_lem = refl

block_words : encode_block (decode_block (up_from 1 block.width)) ≡ up_from 1 block.width
block_words = refl

-- ten words are two tone rows and a broken one: row 1 is appended, row 2 is not
appends : map (λ n. appended tone tone_most (zeros 10) n (decode_tone (7 ∷ 8 ∷ 9 ∷ 6 ∷ []))) (1 ∷ 2 ∷ [])
    ≡ (0 ∷ 0 ∷ 0 ∷ 0 ∷ 7 ∷ 8 ∷ 9 ∷ 6 ∷ 0 ∷ 0 ∷ []) ∷ zeros 10 ∷ []
appends = refl

-- whole rows alone count, and no more than the limit
block_capacities : map (λ n. capacity_of block block_most (zeros n))
    ((block.width - 1) ∷ block.width ∷ (4096 * block.width - 1) ∷ 4096 * block.width ∷ 4097 * block.width ∷ [])
    ≡ 0 ∷ 1 ∷ 4095 ∷ 4096 ∷ 4096 ∷ []
block_capacities = refl

tone_capacities : map (λ n. capacity_of tone tone_most (zeros n)) ((tone.width - 1) ∷ tone.width ∷ 65537 * tone.width ∷ [])
    ≡ 0 ∷ 1 ∷ 65536 ∷ []
tone_capacities = refl

-- tones, and whether they are well formed
tones-judged :
    map (λ w. well_tone (decode_tone w)) ((65535 ∷ 65535 ∷ 65535 ∷ 11 ∷ []) ∷ (65536 ∷ 0 ∷ 0 ∷ 0 ∷ []) ∷
    (0 ∷ 65536 ∷ 0 ∷ 0 ∷ []) ∷ (0 ∷ 0 ∷ 65536 ∷ 0 ∷ []) ∷ (0 ∷ 0 ∷ 0 ∷ 12 ∷ []) ∷ [])
    ≡ true ∷ false ∷ false ∷ false ∷ false ∷ []
unfolding well_tone
tones-judged = refl

-- a blank row is well formed over an empty tape and an empty table
blank_well : well_block 0 [] (decode_block (zeros block.width)) ≡ true
unfolding well_block well_ranges well_numbers well_cases well_tones
blank_well = refl

-- a block with 19 bytes of a tape of 20 and two tone rows; the table's third row is bad, its fourth broken
abbrev row : List ℕ
row = 0 ∷ 2 ∷ 1 ∷ 19 ∷ 855 ∷ 1710 ∷ 8 ∷ 3500000 ∷ 0 ∷ 1 ∷ 0 ∷ 0 ∷ 0 ∷ 0 ∷ 0 ∷ 0 ∷ 17484154 ∷ []

abbrev table : List ℕ
table = 65535 ∷ 65535 ∷ 65535 ∷ 0 ∷ 0 ∷ 0 ∷ 0 ∷ 0 ∷ 1 ∷ 1 ∷ 65536 ∷ 0 ∷ 1 ∷ []

-- the row with some words changed
abbrev changed : List (ℕ × ℕ) → List ℕ
changed [] = row
changed (w ∷ ws) = set (changed ws) w.0 w.1

-- words changed, and whether the block is then well formed
abbrev blocks : List (List (ℕ × ℕ) × Bool)
blocks =
    -- the row as it stands: a bad tone row stands outside its range
    ([], true) ∷
    -- zero
    ((4, 65535) ∷ [], true) ∷
    ((4, 65536) ∷ [], false) ∷
    -- one
    ((5, 65535) ∷ [], true) ∷
    ((5, 65536) ∷ [], false) ∷
    -- pause, and any word for it where it is endless
    ((7, 229372500) ∷ [], true) ∷
    ((7, 229372501) ∷ [], false) ∷
    ((7, 18446744073709551615) ∷ (8, 1) ∷ [], true) ∷
    -- last bits with data and without
    ((6, 8) ∷ [], true) ∷
    ((6, 9) ∷ [], false) ∷
    ((6, 255) ∷ (3, 0) ∷ [], true) ∷
    -- flags
    ((8, 2) ∷ [], false) ∷
    ((9, 0) ∷ [], true) ∷
    ((9, 2) ∷ [], false) ∷
    -- name cases
    ((10, 4) ∷ [], true) ∷
    ((10, 5) ∷ [], false) ∷
    -- sorts
    ((13, 1) ∷ [], true) ∷
    ((13, 2) ∷ [], false) ∷
    -- levels, also of a document row
    ((13, 1) ∷ (14, 1) ∷ (15, 1) ∷ [], true) ∷
    ((14, 2) ∷ [], false) ∷
    ((15, 2) ∷ [], false) ∷
    -- sound, of a stop too, whatever the list says
    ((16, 1125899906842623) ∷ [], true) ∷
    ((16, 1125899906842624) ∷ [], false) ∷
    ((16, 1125899906842623) ∷ (8, 1) ∷ [], true) ∷
    ((16, 1125899906842624) ∷ (8, 1) ∷ [], false) ∷
    -- data range
    ((3, 19) ∷ [], true) ∷
    ((3, 20) ∷ [], false) ∷
    ((2, 18446744073709551615) ∷ [], false) ∷
    -- name range
    ((11, 15) ∷ (12, 5) ∷ [], true) ∷
    ((11, 15) ∷ (12, 6) ∷ [], false) ∷
    ((11, 20) ∷ [], true) ∷
    ((11, 21) ∷ [], false) ∷
    -- tone range, and a bad tone row inside it
    ((0, 3) ∷ (1, 0) ∷ [], true) ∷
    ((0, 4) ∷ (1, 0) ∷ [], false) ∷
    ((1, 3) ∷ [], false) ∷
    ((0, 2) ∷ (1, 1) ∷ [], false) ∷
    ((0, 3) ∷ (1, 1) ∷ [], false) ∷
    []

blocks-judged : map (λ e. well_block 20 table (decode_block (changed e.0))) blocks ≡ map (λ e. e.1) blocks
unfolding well_block well_ranges well_numbers well_cases well_tones well_tone
blocks-judged = refl
