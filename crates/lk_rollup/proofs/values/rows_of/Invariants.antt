use Rattle.std.proofs.Common.{◌≡◌, ◌++◌, map}
use Rattle.std.specs.Vec.Iter.{into_iter_items}
use Rattle.lk_semantics.specs.Derived.{value_of_cell}
use Rattle.lk_rollup.proofs.values.rows_of.Given as goal

abbrev pub invariant-loop-line : goal.invariant-loop-line
invariant-loop-line l = record {
  can_go_on : goal.iterator-loop-line.can_next l.line-iterator;
  will_end : goal.iterator-loop-line.is_finite l.line-iterator;
  rest : l.rows ++ map (λ line. map value_of_cell line.cells) (into_iter_items l.line-iterator) ≡ map (λ line. map value_of_cell line.cells) l.fn.lines;
}
