use Rattle.std.proofs.Common.{◌+◌, ◌∙◌, [], ap, arith, drop, length, take}
use Rattle.lk_postfix.specs.Postfix.{after_nodes, depth_after, operands}
use Rattle.lk_types.specs.FormulaNodes.{arity}
use Rattle.lk_eval.proofs.ValueSteps.{depth_at, length-puts}
use Rattle.lk_dated.specs.Dated.{stands_at}
use Rattle.lk_dated.specs.DatedNodes.{tree_made}
use Rattle.lk_dated.specs.Sides.{side_made}
use Rattle.lk_dated.proofs.PassLaws.{goes_on, sides_on}
use Rattle.lk_dated.proofs.dating.trees_left.Goals as goal

pub loop-node-preserved : goal.loop-node-preserved
loop-node-preserved c =
    let ns = c.args.nodes.now in
    let by = c.args.by.now in
    let i = c.loop-node.node-index in
    let n = c.node-item.result in
    let inv = c.loop-node.invariant in
    let stack = c.loop-node.stack in
    let trees = c.loop-node.trees.items in
    let here = depth_at (length trees) 1 ns i n (omega arith) c.node-item.is inv.left in
    let made = tree_made (stands_at by) n (operands (arity n) stack) (operands (arity n) trees) in
    record {
      sides = sides_on c.args.sides.now ns i n stack c.add_node.new.stack (omega arith) c.node-item.is inv.sides c.in_ok-add_node.ensures.sides;
      trees = λ leaf is.
          goes_on leaf by ns i n stack trees c.add_node.new.trees.items (omega arith) c.node-item.is
          (inv.sides ∙ ap (λ ss. after_nodes arity (side_made ss) [] (take i ns)) is) (inv.trees leaf is) here.0 c.in_ok-add_node.ensures.trees;
      left =
          ap (λ s. depth_after arity (length s) (drop (i + 1) ns)) c.in_ok-add_node.ensures.trees
          ∙ ap (λ m. depth_after arity m (drop (i + 1) ns)) (length-puts (arity n) made trees)
          ∙ here.1;
    }
