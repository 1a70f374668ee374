use Rattle.lk_written.proofs.SkeletonPasses.{IsAt}
use Rattle.lk_written.proofs.skeleton.written_of.Given as goal

abbrev pub invariant-loop-node : goal.invariant-loop-node
invariant-loop-node l = IsAt l.raw l.node-index l.references l.nodes
