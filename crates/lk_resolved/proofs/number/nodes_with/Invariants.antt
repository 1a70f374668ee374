use Rattle.std.proofs.Common.{◌≡◌, map, take}
use Rattle.lk_resolved.specs.NumberNodes.{node_renumbered, number_at}
use Rattle.lk_resolved.proofs.number.nodes_with.Given as goal

abbrev pub invariant-loop-node : goal.invariant-loop-node
invariant-loop-node l = l.made ≡ map (node_renumbered (number_at l.numbers)) (take l.node-index l.nodes)
