use Rattle.std.proofs.Common.{◌≡◌, map, take}
use Rattle.lk_stored.specs.Reads.{row_of}
use Rattle.lk_stored.proofs.reads.read_rows.Given as goal

abbrev pub invariant-loop-table : goal.invariant-loop-table
invariant-loop-table l = l.rows ≡ map (row_of l.m) (take l.table-index l.table-items)
