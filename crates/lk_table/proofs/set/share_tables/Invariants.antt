use Rattle.std.proofs.Common.{◌≡◌, take}
use Rattle.lk_table.proofs.set.share_tables.Given as goal

abbrev pub invariant-loop-table : goal.invariant-loop-table
invariant-loop-table l = l.shared ≡ take l.table-index l.tables
