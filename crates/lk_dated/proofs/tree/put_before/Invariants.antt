use Rattle.std.proofs.Common.{◌≡◌, ◌++◌, length}
use Rattle.lk_dated.proofs.tree.put_before.Given as goal

abbrev pub invariant-loop-node : goal.invariant-loop-node
invariant-loop-node l = l.left.items ++ l.all.items ≡ l.fn.nodes.items ++ l.fn.others.items

abbrev pub decreases-loop-node : goal.decreases-loop-node
decreases-loop-node l = length l.left.items
