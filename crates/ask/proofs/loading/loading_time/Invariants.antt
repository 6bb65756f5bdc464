-- The loop of `loading.loading_time`.
use Rattle.std.proofs.Common.{◌≤◌}
use Rattle.rows.specs.Table.{capacity_of}
use Rattle.rows.specs.Rows.{block, block_most}
use Rattle.play_entries.specs.Mounted.{mounted_tape}
use Rattle.ask.proofs.Loads.{Loads}
use Rattle.ask.proofs.loading.loading_time.Given as goal

abbrev pub invariant-loop-b : goal.invariant-loop-b
invariant-loop-b l = (l.m.count ≤ capacity_of block block_most l.m.blocks.now) × Loads (mounted_tape l.m) l.b l.s
