use Rattle.std.proofs.Common.{◌≡◌, map, take}
use Rattle.lk_val.specs.ValueRefs.{value_of_ref}
use Rattle.lk_table.specs.Contents.{cell_at}
use Rattle.lk_table.specs.Columns.{values_in}
use Rattle.lk_table.proofs.block.Block.row.Given as goal

abbrev pub invariant-loop-column : goal.invariant-loop-column
invariant-loop-column l =
    map value_of_ref l.cells.items
    ≡ map (λ cells. cell_at cells l.row) (map (values_in l.self-inside.region) (take l.column-index l.self-inside.columns.items))
