use Rattle.std.proofs.Common.{◌≡◌, ◌++◌, map, drop}
use Rattle.std.specs.List.{filter}
use Rattle.lk_written.specs.Blocks.{block_name}
use Rattle.lk_view.specs.DerivedTables.{is_column}
use Rattle.lk_view.proofs.derived_table.column_names.Given as goal

abbrev pub invariant-loop-item : goal.invariant-loop-item
invariant-loop-item l =
    l.names ++ map block_name (filter is_column (drop l.item-index l.source)) ≡ map block_name (filter is_column l.source)
