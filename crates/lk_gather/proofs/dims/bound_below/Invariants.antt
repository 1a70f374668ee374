use Rattle.std.proofs.Common.{◌≡◌, drop, pos, neg_ℤ, ◌^◌}
use Rattle.lk_types.specs.Shapes.{bound_below}
use Rattle.lk_gather.proofs.dims.bound_below.Given as goal

abbrev pub invariant-loop-bound : goal.invariant-loop-bound
invariant-loop-bound l = bound_below l.number (drop l.bound-index l.bounds) l.low ≡ bound_below l.number l.bounds (neg_ℤ (pos (2 ^ 63)))
