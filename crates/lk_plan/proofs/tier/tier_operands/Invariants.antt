use Rattle.std.proofs.Common.{◌≡◌, ◌++◌, ◌^◌, drop, pos, neg_ℤ}
use Rattle.lk_plan.specs.TierOperands.{tier_operands}
use Rattle.lk_plan.proofs.tier.tier_operands.Given as goal

abbrev pub invariant-loop-bound : goal.invariant-loop-bound
invariant-loop-bound l = l.operands ++ tier_operands l.e l.low.0 (drop l.bound-index l.bounds) ≡ tier_operands l.e (neg_ℤ (pos (2 ^ 63))) l.bounds
