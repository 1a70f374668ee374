use Rattle.std.proofs.Common.{◌≡◌, drop}
use Rattle.std.specs.Vec.Iter.{into_iter_items}
use Rattle.lk_types.specs.FormulaNodes.{operand}
use Rattle.lk_types.specs.Unfolded.{any_equal, or_equal}
use Rattle.lk_dated.specs.DatedNodes.{equations_beside}
use Rattle.lk_dated.proofs.written_out.any_equal.Given as goal

abbrev pub invariant-loop-other : goal.invariant-loop-other
invariant-loop-other l = record {
  can_go_on : goal.iterator-loop-other.can_next l.other-iterator;
  will_end : goal.iterator-loop-other.is_finite l.other-iterator;
  first : operand l.first.items 0 ≡ operand l.fn.operands.items 0;
  made : or_equal l.made (equations_beside (operand l.fn.operands.items 0) l.left (into_iter_items l.other-iterator))
      ≡ any_equal (equations_beside (operand l.fn.operands.items 0) (drop 1 l.sides) (drop 1 l.fn.operands.items));
}
