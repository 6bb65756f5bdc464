-- What theorems of every layout say: where a cursor stands, where a piece ends, and that two answers are one.
-- Definitions alone; assumes nothing.
use Rattle.std.specs.Prelude.{ℕ, ◌+◌, ◌≤◌, Bool, Ok, Err}
use Rattle.cut_fields.specs.declared.Short.{Short}
use Rattle.cut_fields.specs.Field.{Cursor}
use Rattle.cut_grammar.specs.declared.Whole.{Whole}
use Rattle.cut_grammar.specs.declared.NotCut.TheVariants as not_cut
use Rattle.cut_grammar.specs.Grammar.{Body}

-- a cursor that stands from a to b, or came up short
pub data StandsIn (a b : ℕ) : Cursor → Type 0 where
  stands : {p : ℕ} → a ≤ p → p ≤ b → StandsIn a b (Ok p)
  stuck : {e : Short} → StandsIn a b (Err e)

-- a piece that ends from a to b, or none
pub data Ends (a b : ℕ) : Body → Type 0 where
  ends : {x : Whole} → a ≤ x.next → x.next ≤ b → Ends a b (Ok x)
  none : {described : Bool} → Ends a b (Err (not_cut.Unknown described))
  short : {e : Short} → Ends a b (Err (not_cut.Short e))
  wide : {p : ℕ} → Ends a b (Err (not_cut.Overflow p))

-- two answers of which the first, where it is a piece that ends at or before k, is the second
pub data Own (l k : ℕ) : Body → Body → Type 0 where
  same : {x : Body} → Own l k x x
  beyond : {x y : Body} → Ends (k + 1) l x → Own l k x y
