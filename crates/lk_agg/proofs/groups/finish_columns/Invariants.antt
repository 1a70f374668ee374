use Rattle.std.proofs.Common.{◌≡◌, ◌++◌, map, length}
use Rattle.std.specs.Vec.Iter.{into_iter_items}
use Rattle.lk_agg.specs.Finishing.{conflict_from, part_of}
use Rattle.lk_agg.proofs.groups.finish_columns.Given as goal

abbrev pub invariant-loop-column : goal.invariant-loop-column
invariant-loop-column l = record {
  can_go_on : goal.iterator-loop-column.can_next l.column-iterator;
  will_end : goal.iterator-loop-column.is_finite l.column-iterator;
  made : l.parts ++ map part_of (into_iter_items l.column-iterator) ≡ map part_of l.fn.columns;
  conflict : conflict_from (length l.parts) (into_iter_items l.column-iterator) ≡ conflict_from 0 l.fn.columns;
}
