use Rattle.std.proofs.Common.{◌≡◌, ℕ, [], Some, length, take, drop, map}
use Rattle.lk_postfix.specs.Postfix.{after_nodes, depth_after}
use Rattle.lk_types.specs.FormulaNodes.{arity}
use Rattle.lk_types.specs.declared.kind_set.KindSet.{KindSet}
use Rattle.lk_dated.specs.Sides.{side_made, side_of}
use Rattle.lk_dated.proofs.PassLaws.{dated_stack}
use Rattle.lk_dated.proofs.dating.trees_left.Given as goal

abbrev pub invariant-loop-node : goal.invariant-loop-node
invariant-loop-node l = record {
  sides : l.stack ≡ after_nodes arity (side_made l.sides) [] (take l.node-index l.nodes);
  trees : (leaf : ℕ → ℕ → KindSet) → l.sides ≡ map (side_of leaf) l.by → l.trees.items ≡ dated_stack leaf l.by (take l.node-index l.nodes);
  left : depth_after arity (length l.trees.items) (drop l.node-index l.nodes) ≡ Some 1;
}
