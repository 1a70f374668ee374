use Rattle.lk_types.proofs.NodeLaws.{tree, whole}
use Rattle.lk_dated.proofs.NodeLaws.{of_operands}
use Rattle.lk_dated.proofs.tree.Tree.of.Goals as goal

pub invariant_of-result : goal.invariant_of-result
invariant_of-result c =
    whole (of_operands c.in_ok-nodes.nodes.items c.push_back.new.self.items c.args.node c.args.operands.items c.in_ok-nodes.ensures c.requires c.in_ok-push_back.ensures.items)

pub returns : goal.returns
returns c = tree (of_operands c.in_ok-nodes.nodes.items c.push_back.new.self.items c.args.node c.args.operands.items c.in_ok-nodes.ensures c.requires c.in_ok-push_back.ensures.items)
