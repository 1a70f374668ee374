use Rattle.std.proofs.Common.{◌≡◌, ◌-◌, ◌^◌, min, take}
use Rattle.std.specs.List.{sum_by}
use Rattle.lk_formulas.specs.NumberNodes.{count_number}
use Rattle.lk_formulas.proofs.number_size.total_by.Given as goal

abbrev pub invariant-loop-node : goal.invariant-loop-node
invariant-loop-node l = l.total ≡ min (sum_by (count_number l.counts) (take l.node-index l.nodes)) (2 ^ 64 - 1)
