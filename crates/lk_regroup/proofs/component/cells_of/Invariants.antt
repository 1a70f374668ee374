use Rattle.std.proofs.Common.{◌≡◌, ◌++◌, map}
use Rattle.std.specs.Vec.Iter.{into_iter_items}
use Rattle.lk_regroup.specs.ComponentParts.{cell_of}
use Rattle.lk_regroup.proofs.component.cells_of.Given as goal

abbrev pub invariant-loop-one : goal.invariant-loop-one
invariant-loop-one l = record {
  can_go_on : goal.iterator-loop-one.can_next l.one-iterator;
  will_end : goal.iterator-loop-one.is_finite l.one-iterator;
  made : l.cells ++ map cell_of (into_iter_items l.one-iterator) ≡ map cell_of l.fn.has;
}
