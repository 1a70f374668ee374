use Rattle.std.proofs.Common.{◌≡◌, Some, length, drop, map}
use Rattle.lk_postfix.specs.Postfix.{Builds, depth_after}
use Rattle.lk_types.specs.CalculationNodes.{arity, made}
use Rattle.lk_lines.specs.Nesting.{put_in}
use Rattle.lk_lines.proofs.NestingLaws.{trees}
use Rattle.lk_lines.proofs.nesting.put_in.Given as goal

abbrev pub invariant-loop-node : goal.invariant-loop-node
invariant-loop-node l = record {
  built : Builds arity made l.nodes (map (put_in l.x) (trees l.x l.node-index l.node-items));
  left : depth_after arity (length (trees l.x l.node-index l.node-items)) (drop l.node-index l.node-items) ≡ Some 1;
}
