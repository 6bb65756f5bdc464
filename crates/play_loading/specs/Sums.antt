-- What the contracts of the summing cite: the loading time by the rows' words, a row at a time. Definitions alone; assumes nothing.
use Rattle.std.specs.Prelude.{ℕ, zero, suc, ◌+◌, true, false, ltb, eqb}
use Rattle.law_base.specs.Rules.{◌⇒◌, ◌∣◌}
use Rattle.rows.specs.declared.Block.{Block}
use Rattle.play_entries.specs.Places.{Tape, block_in}
use Rattle.play_loading.specs.declared.Loading.{Loading}

-- nothing summed up
abbrev pub no_loading : Loading
no_loading = record { sum = 0; end = 0; over = false }

-- where the last sound ends: behind all that is summed up, if one comes later; else where it ended so far
abbrev pub end_with : Loading → ℕ → ℕ
end_with s later = ltb 0 later ⇒ s.sum + later ∣ s.end

-- ONE ROW MORE: what stands behind a stop isn't counted, and of a stop its sound alone
unfoldable pub one_more : Loading → Block → Loading
one_more s r =
    s.over ⇒ s
    ∣ eqb r.endless 1 ⇒ record { sum = s.sum; end = end_with s r.sound; over = true }
    ∣ record { sum = s.sum + r.sound + r.pause; end = end_with s r.sound; over = false }

-- the first n rows of a tape
unfoldable pub loading_after : Tape → ℕ → Loading
loading_after w zero = no_loading
loading_after w (suc n) = one_more (loading_after w n) (block_in w n)
