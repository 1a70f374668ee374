use Rattle.std.proofs.Common.{◌≡◌, take}
use Rattle.lk_table.specs.Columns.{IsBuilt, built}
use Rattle.lk_table.specs.Versions.{followed}
use Rattle.lk_table.proofs.load.add_rows.Given as goal

abbrev pub invariant-loop-row : goal.invariant-loop-row
invariant-loop-row l = record {
  held : IsBuilt l.rows;
  rows : built l.rows ≡ followed (built l.initial.rows) (take l.row l.block.rows);
}
