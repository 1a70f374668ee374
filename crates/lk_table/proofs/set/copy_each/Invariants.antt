use Rattle.std.proofs.Common.{◌≡◌, map, take}
use Rattle.lk_val.specs.ValueRefs.{value_of_ref}
use Rattle.lk_table.proofs.set.copy_each.Given as goal

abbrev pub invariant-loop-cell : goal.invariant-loop-cell
invariant-loop-cell l = l.values ≡ map value_of_ref (take l.cell-index l.cells)
