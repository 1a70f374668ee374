use Rattle.std.proofs.Common.{◌≡◌, take}
use Rattle.lk_table.specs.Columns.{IsBuilt, built}
use Rattle.lk_table.specs.Versions.{followed, rows_of}
use Rattle.lk_table.proofs.load.add_parts.Given as goal

abbrev pub invariant-loop-part : goal.invariant-loop-part
invariant-loop-part l = record {
  held : IsBuilt l.rows;
  rows : built l.rows ≡ followed (built l.initial.rows) (rows_of (take l.part-index l.parts));
}
