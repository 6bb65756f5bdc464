-- What a run's description names. Definitions alone; assumes nothing.
use Rattle.std.specs.Prelude.{ℕ, zero, suc, ◌+◌, ◌*◌, Bool, ◌&&◌, ◌||◌, List, [], ◌∷◌, ◌++◌, leb, eqb, length, get_or, drop, Ok}
use Rattle.cut_fields.specs.Field.{field_at}

-- `m`, `s`
unfoldable pub is_player : ℕ → Bool
is_player b = eqb b 0x6D || eqb b 0x73

-- the number that w bytes from a place on spell, the lowest first; 0 where they are not all there
abbrev pub number_in : List ℕ → ℕ → ℕ → ℕ
number_in s p w = (field_at s (Ok p) w).value

-- how many calls there are, where the tape begins, and the tape
abbrev pub calls_in : List ℕ → ℕ
calls_in s = number_in s 6 2

abbrev pub tape_from : List ℕ → ℕ
tape_from s = 8 + 4 * calls_in s

abbrev pub tape_in : List ℕ → List ℕ
tape_in s = drop (tape_from s) s

-- the counts of the first n calls, 4 bytes each
unfoldable pub counts_in : List ℕ → ℕ → List ℕ
counts_in s zero = []
counts_in s (suc n) = counts_in s n ++ (number_in s (4 * n) 4 ∷ [])

-- A DESCRIPTION: 8 bytes, of which the second names a player, at most 1,000 calls, and the count of each
unfoldable pub is_description : List ℕ → Bool
is_description s = leb 8 (length s) && (is_player (get_or s 1 0) && (leb (calls_in s) 1000 && leb (tape_from s) (length s)))
