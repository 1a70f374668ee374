use Rattle.std.proofs.Common.{◌≡◌, drop}
use Rattle.lk_lines.specs.Values.{first_known}
use Rattle.lk_lines.proofs.calculating.first_known.Given as goal

abbrev pub invariant-loop-value : goal.invariant-loop-value
invariant-loop-value l = first_known (drop l.value-index l.operands) ≡ first_known l.operands
