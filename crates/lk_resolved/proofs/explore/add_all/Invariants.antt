use Rattle.std.proofs.Common.{◌≡◌, ◌++◌}
use Rattle.std.specs.Vec.Iter.{into_iter_items}
use Rattle.lk_resolved.proofs.explore.add_all.Given as goal

abbrev pub invariant-loop-filter : goal.invariant-loop-filter
invariant-loop-filter l = record {
  can_go_on : goal.iterator-loop-filter.can_next l.filter-iterator;
  will_end : goal.iterator-loop-filter.is_finite l.filter-iterator;
  rest : l.always ++ into_iter_items l.filter-iterator ≡ l.fn.always ++ l.fn.read;
}
