use Rattle.std.proofs.Common.{◌≡◌, ◌++◌, map}
use Rattle.std.specs.Vec.Iter.{into_iter_items}
use Rattle.lk_semantics.specs.Derived.{value_of_cell}
use Rattle.lk_rollup.proofs.values.values_of.Given as goal

abbrev pub invariant-loop-cell : goal.invariant-loop-cell
invariant-loop-cell l = record {
  can_go_on : goal.iterator-loop-cell.can_next l.cell-iterator;
  will_end : goal.iterator-loop-cell.is_finite l.cell-iterator;
  rest : l.values ++ map value_of_cell (into_iter_items l.cell-iterator) ≡ map value_of_cell l.fn.cells;
}
