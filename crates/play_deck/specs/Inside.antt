-- A call that ends inside the entry where the head stands: a shortcut of the code, which no public contract cites.
-- Definitions alone; assumes nothing.
use Rattle.std.specs.Prelude.{ℕ, ◌-◌, Bool, false, Result, ltb}
use Rattle.play_entries.specs.declared.Duration.{Duration}
use Rattle.play_entries.specs.declared.Duration.TheVariants.{T, Endless}
use Rattle.play_entries.specs.Places.{Tape, level_in}
use Rattle.play_walk.specs.declared.Position.{Position}
use Rattle.play_walk.specs.declared.Reached.{Reached}
use Rattle.play_walk.specs.declared.How.TheVariants.{At}
use Rattle.play_walk.specs.declared.Fault.{Fault}
use Rattle.play_walk.specs.Heads.{placed, stand, came}

-- n T-states are less than what is left
unfoldable pub ends_inside : Duration → ℕ → Bool
ends_inside (T t) n = ltb n t
ends_inside Endless n = false

unfoldable pub less_by : Duration → ℕ → Duration
less_by (T t) n = T (t - n)
less_by Endless n = Endless

-- the head stands in the same entry, with n T-states less
abbrev pub in_place : Tape → Position → ℕ → Result Reached Fault
in_place w q n = came At (stand (placed q.block q.phase (less_by q.left n)) 0 (level_in w q.block q.phase))
