use Rattle.std.proofs.Common.{◌≡◌, true, [], Some, length, take, drop, map}
use Rattle.std.specs.List.{list_all}
use Rattle.lk_postfix.specs.Postfix.{after_nodes, depth_after}
use Rattle.lk_types.specs.Dates.{is_dated}
use Rattle.lk_types.specs.FormulaNodes.{arity}
use Rattle.lk_eval.specs.NodeValues.{value_made}
use Rattle.lk_eval.specs.Operands.{operand_value}
use Rattle.lk_eval.proofs.evaluation.values.Given as goal

abbrev pub invariant-loop-node : goal.invariant-loop-node
invariant-loop-node g l = record {
  made : map operand_value l.stack ≡ after_nodes arity (value_made (g.R.HasCells.row_of l.row)) [] (take l.node-index l.nodes);
  dated : list_all is_dated (map operand_value l.stack) ≡ true;
  left : depth_after arity (length l.stack) (drop l.node-index l.nodes) ≡ Some 1;
}
