use Rattle.std.proofs.Common.{◌≡◌, take}
use Rattle.lk_val.specs.ValueRefs.{value_of_ref}
use Rattle.lk_types.specs.Tables.{column_values}
use Rattle.lk_semantics.specs.Measures.{greatest_of}
use Rattle.lk_table.proofs.greatest.greatest_in.Given as goal

-- the greatest value so far
abbrev pub invariant-loop-row : goal.invariant-loop-row
invariant-loop-row l = value_of_ref l.most ≡ greatest_of (column_values (take l.row l.block.rows) l.column)
