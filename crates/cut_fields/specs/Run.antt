-- Runs of fields, one field after the other. Assumes nothing.
use Rattle.std.specs.Prelude.{ℕ, zero, suc, ◌+◌, ◌*◌, ◌-◌, ◌≤◌, ◌<◌, List, Ok, Err}
use Rattle.cut_fields.specs.Field.{Cursor, field_at}

-- the same step n times; a cursor that came up short stays
unfoldable pub times : (Cursor → Cursor) → ℕ → Cursor → Cursor
times f zero c = c
times f (suc n) (Ok p) = times f n (f (Ok p))
times f (suc n) (Err e) = Err e

-- n fields of w bytes
unfoldable pub each_at : List ℕ → Cursor → ℕ → ℕ → Cursor
each_at s c n w = times (λ c. (field_at s c w).cursor) n c

-- n groups of a field of h bytes and k fields of w bytes
unfoldable pub groups_at : List ℕ → Cursor → ℕ → ℕ → ℕ → ℕ → Cursor
groups_at s c n h k w = times (λ c. each_at s (field_at s c h).cursor k w) n c

-- q of n things of g bytes are whole from p on in l bytes: they are there, and where they are not all, one more is not
pub record Wholes (l p n g q : ℕ) : Type 0 where
  pub few : q ≤ n
  pub there : 0 < q → p ≤ l
  pub fits : q * g ≤ l - p
  pub most : q < n → l < p + q * g + g
