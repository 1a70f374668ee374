use Rattle.std.proofs.Common.{map}
use Rattle.lk_table.specs.Contents.{kind_of}
use Rattle.lk_table.specs.Versions.{IsShaped}
use Rattle.unit_cases.proofs.tables.appended.Given as goal

-- the table is of its definition's shape
abbrev pub invariant-loop-id : goal.invariant-loop-id
invariant-loop-id l = IsShaped (map kind_of l.def.columns) l.def.key l.table
