-- What a writer leaves of the bytes that are lent to it. Assumes nothing.
use Rattle.std.specs.Prelude.{ℕ, ◌≡◌, List}
use Rattle.text_out.specs.declared.Writer.{Writer}
use Rattle.text_out.specs.Out.{Wrote}

-- w' is w with `text` written: over the same lent bytes
pub record Writes (w : Writer) (text : List ℕ) (w' : Writer) : Type 0 where
  pub same : w'.out.ghost_name ≡ w.out.ghost_name
  pub wrote : Wrote w.out.now w.at text w'.out.now w'.at
