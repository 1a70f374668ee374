use Rattle.std.proofs.Common.{◌≡◌, take}
use Rattle.lk_val.specs.ValueRefs.{value_of_ref}
use Rattle.lk_types.specs.Tables.{column_values}
use Rattle.lk_semantics.specs.Measures.{greatest_of}
use Rattle.lk_table.specs.Versions.{rows_of}
use Rattle.lk_table.proofs.greatest.greatest_of.Given as goal

-- the greatest value of the parts so far
abbrev pub invariant-loop-part : goal.invariant-loop-part
invariant-loop-part l = value_of_ref l.most ≡ greatest_of (column_values (rows_of (take l.part-index l.parts)) l.column)
