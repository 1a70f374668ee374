use Rattle.std.proofs.Common.{◌≡◌}
use Rattle.lk_val.specs.Fractions.{gcd}
use Rattle.lk_val.proofs.divisor.gcd.Given as goal

abbrev pub invariant-loop-by : goal.invariant-loop-by
invariant-loop-by l = gcd l.divided l.by ≡ gcd l.a l.b

abbrev pub decreases-loop-by : goal.decreases-loop-by
decreases-loop-by l = l.by
