use Rattle.std.proofs.Common.{◌≡◌, ◌++◌, map, drop}
use Rattle.lk_view.specs.DerivedTables.{column_of}
use Rattle.lk_view.proofs.derived_table.columns_of.Given as goal

abbrev pub invariant-loop-name : goal.invariant-loop-name
invariant-loop-name l =
    l.columns ++ map (column_of l.source) (drop l.name-index l.names) ≡ map (column_of l.source) l.names
