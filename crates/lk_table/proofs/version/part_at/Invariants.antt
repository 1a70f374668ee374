use Rattle.std.proofs.Common.{◌≡◌, ◌<◌, length, drop}
use Rattle.lk_table.specs.Contents.{row_at}
use Rattle.lk_table.specs.Versions.{rows_of}
use Rattle.lk_table.proofs.version.part_at.Given as goal

abbrev pub invariant-loop-part : goal.invariant-loop-part
invariant-loop-part l = record {
  within : l.behind < length (rows_of (drop l.part-index l.parts));
  row : row_at (rows_of (drop l.part-index l.parts)) l.behind ≡ row_at (rows_of l.parts) l.fn.row;
}
