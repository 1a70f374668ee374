use Rattle.std.proofs.Common.{◌≡◌, ◌++◌, drop}
use Rattle.lk_plan.proofs.tier.add_copies.Given as goal

abbrev pub invariant-loop-node : goal.invariant-loop-node
invariant-loop-node l = l.nodes ++ drop l.node-index l.added ≡ l.fn.nodes ++ l.added
