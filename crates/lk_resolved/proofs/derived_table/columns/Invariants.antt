use Rattle.std.proofs.Common.{◌≡◌, ◌++◌, drop}
use Rattle.std.specs.List.{flat_map}
use Rattle.lk_resolved.specs.DerivedTables.{column_of}
use Rattle.lk_resolved.proofs.derived_table.columns.Given as goal

abbrev pub invariant-loop-column : goal.invariant-loop-column
invariant-loop-column l =
    l.made ++ flat_map (column_of l.fields.views.now l.fields.scope.now) (drop l.column-index l.columns) ≡ flat_map (column_of l.fields.views.now l.fields.scope.now) l.columns
