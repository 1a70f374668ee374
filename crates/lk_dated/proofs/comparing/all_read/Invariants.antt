use Rattle.std.proofs.Common.{◌≡◌, ◌++◌, map}
use Rattle.std.specs.Vec.Iter.{into_iter_items}
use Rattle.lk_dated.specs.Dated.{read_beside}
use Rattle.lk_dated.proofs.comparing.all_read.Given as goal

abbrev pub invariant-loop-operand : goal.invariant-loop-operand
invariant-loop-operand l = record {
  can_go_on : goal.iterator-loop-operand.can_next l.operand-iterator;
  will_end : goal.iterator-loop-operand.is_finite l.operand-iterator;
  read : l.read.items ++ map (read_beside l.kinds) (into_iter_items l.operand-iterator) ≡ map (read_beside l.kinds) l.fn.operands.items;
}
