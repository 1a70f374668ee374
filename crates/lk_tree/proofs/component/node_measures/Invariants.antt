use Rattle.std.proofs.Common.{◌≡◌, ◌++◌, drop}
use Rattle.std.specs.Prelude.{flat_map}
use Rattle.lk_tree.specs.Components.{node_measures}
use Rattle.lk_tree.proofs.component.node_measures.Given as goal

abbrev pub invariant-loop-node : goal.invariant-loop-node
invariant-loop-node l = l.measures ++ flat_map node_measures (drop l.node-index l.nodes) ≡ flat_map node_measures l.nodes
