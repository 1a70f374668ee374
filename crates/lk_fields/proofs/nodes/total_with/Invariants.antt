use Rattle.std.proofs.Common.{◌≡◌, ◌-◌, ◌^◌, min, take}
use Rattle.std.specs.List.{sum_by}
use Rattle.lk_fields.specs.SubstitutedNodes.{count_with}
use Rattle.lk_fields.proofs.nodes.total_with.Given as goal

abbrev pub invariant-loop-node : goal.invariant-loop-node
invariant-loop-node l = l.total ≡ min (sum_by (count_with l.counts) (take l.node-index l.nodes)) (2 ^ 64 - 1)
