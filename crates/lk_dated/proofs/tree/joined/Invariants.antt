use Rattle.std.proofs.Common.{◌≡◌, ◌++◌, List}
use Rattle.std.specs.Vec.Iter.{into_iter_items}
use Rattle.lk_postfix.specs.Postfix.{Builds}
use Rattle.lk_types.specs.Formula.{Formula}
use Rattle.lk_types.specs.FormulaNodes.{arity, made}
use Rattle.lk_dated.proofs.tree.joined.Given as goal

abbrev pub invariant-loop-tree : goal.invariant-loop-tree
invariant-loop-tree l = record {
  can_go_on : goal.iterator-loop-tree.can_next l.tree-iterator;
  will_end : goal.iterator-loop-tree.is_finite l.tree-iterator;
  built : (done : List Formula) × (done ++ into_iter_items l.tree-iterator ≡ l.fn.trees.items) × Builds arity made l.nodes.items done;
}
