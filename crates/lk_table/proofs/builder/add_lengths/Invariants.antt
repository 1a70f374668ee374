use Rattle.std.proofs.Common.{◌≡◌, ◌+◌, map, take}
use Rattle.std.specs.List.{sum_by}
use Rattle.lk_val.specs.ValueRefs.{value_of_ref}
use Rattle.lk_table.specs.Contents.{text_length}
use Rattle.lk_table.proofs.builder.add_lengths.Given as goal

abbrev pub invariant-loop-cell : goal.invariant-loop-cell
invariant-loop-cell l = l.text ≡ l.initial.text + sum_by text_length (map value_of_ref (take l.cell-index l.cells))
