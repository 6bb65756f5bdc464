-- The loop of `back`.
use Rattle.std.proofs.Common.{◌≡◌}
use Rattle.play_entries.specs.Mounted.{mounted_tape}
use Rattle.play_deck.specs.Deck.{back_to}
use Rattle.play_menu.proofs.back.Given as goal

abbrev pub invariant-loop-b : goal.invariant-loop-b
invariant-loop-b l = back_to (mounted_tape l.m) l.b ≡ back_to (mounted_tape l.m) l.from
