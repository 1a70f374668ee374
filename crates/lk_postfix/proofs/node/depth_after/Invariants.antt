use Rattle.std.proofs.Common.{◌≡◌, ◌≤◌, drop}
use Rattle.lk_postfix.specs.Postfix.{depth_after}
use Rattle.lk_postfix.proofs.node.depth_after.Given as goal

abbrev pub invariant-loop-node : goal.invariant-loop-node
invariant-loop-node g l = (l.depth ≤ l.node-index) × (depth_after g.N.TakesOperands.takes l.depth (drop l.node-index l.nodes) ≡ depth_after g.N.TakesOperands.takes 0 l.nodes)
