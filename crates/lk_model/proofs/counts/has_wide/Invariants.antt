use Rattle.std.proofs.Common.{◌≡◌, drop}
use Rattle.std.specs.List.{list_any}
use Rattle.lk_model.specs.Counts.{is_wide}
use Rattle.lk_model.proofs.counts.has_wide.Given as goal

abbrev pub invariant-loop-table : goal.invariant-loop-table
invariant-loop-table l = list_any is_wide (drop l.table-index l.tables) ≡ list_any is_wide l.tables
