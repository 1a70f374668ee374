use Rattle.std.proofs.Common.{◌≡◌, [], take}
use Rattle.lk_postfix.specs.Postfix.{after_nodes}
use Rattle.lk_types.specs.FormulaNodes.{arity}
use Rattle.lk_resolved.specs.Columns.{column_made}
use Rattle.lk_resolved.proofs.column.columns_left.Given as goal

abbrev pub invariant-loop-node : goal.invariant-loop-node
invariant-loop-node l = l.stack ≡ after_nodes arity column_made [] (take l.node-index l.nodes)
