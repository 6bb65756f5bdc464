-- Words that name no position, as a host is told of them. Assumes nothing.
use Rattle.std.specs.Prelude.{None}
use Rattle.std.proofs.Common.{◌≡◌, ℕ, List, ◌∙◌}
use Rattle.play_entries.specs.Places.{Tape}
use Rattle.play_walk.specs.declared.Position.{Position}
use Rattle.host_answers.specs.Answers.{Reply, number_of, values_of}
use Rattle.export.specs.Export.{misplaced_no, with_place}
use Rattle.host_answers.proofs.Telling.{tell_refused}

module _ (w : Tape) where
  -- whatever is asked of the position
  pub tell_misplaced : (f : Position → Reply) (ws : List ℕ) {k : ℕ} (row : List ℕ) → k ≡ misplaced_no w ws
      → (k ≡ number_of (with_place f w ws None) row) × (row ≡ values_of (with_place f w ws None) row)
  unfolding with_place
  tell_misplaced f ws row e = (e ∙ (tell_refused (misplaced_no w ws) row).0, (tell_refused (misplaced_no w ws) row).1)
