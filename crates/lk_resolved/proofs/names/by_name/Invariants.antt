use Rattle.std.proofs.Common.{◌≡◌}
use Rattle.std.specs.List.{fold}
use Rattle.std.specs.Vec.Iter.{into_iter_items}
use Rattle.lk_resolved.specs.Names.{by_name, put_in}
use Rattle.lk_resolved.proofs.names.by_name.Given as goal

abbrev pub invariant-loop-dimension : goal.invariant-loop-dimension
invariant-loop-dimension l = record {
  can_go_on : goal.iterator-loop-dimension.can_next l.dimension-iterator;
  will_end : goal.iterator-loop-dimension.is_finite l.dimension-iterator;
  rest : fold put_in l.named.items (into_iter_items l.dimension-iterator) ≡ by_name l.fn.made;
}
