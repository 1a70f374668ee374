use Rattle.std.proofs.Common.{◌≡◌, ◌++◌, drop}
use Rattle.lk_dated.proofs.tree.add_copies.Given as goal

abbrev pub invariant-loop-node : goal.invariant-loop-node
invariant-loop-node l = l.nodes.items ++ drop l.node-index l.added ≡ l.fn.nodes.items ++ l.added
