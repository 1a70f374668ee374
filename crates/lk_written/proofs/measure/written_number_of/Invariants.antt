use Rattle.lk_written.proofs.MeasurePasses.{IsAt}
use Rattle.lk_written.proofs.measure.written_number_of.Given as goal

abbrev pub invariant-loop-node : goal.invariant-loop-node
invariant-loop-node l = IsAt l.raw l.node-index l.references l.nodes
