use Rattle.std.proofs.Common.{◌≡◌, drop, fold, map}
use Rattle.lk_types.specs.Formula.{And}
use Rattle.lk_plan.specs.Joining.{joined, with_next}
use Rattle.lk_plan.specs.TestConditions.{compares_with}
use Rattle.lk_plan.proofs.number_test.compared_condition.Given as goal

abbrev pub invariant-loop-comparison : goal.invariant-loop-comparison
invariant-loop-comparison l =
    fold (with_next And) l.all (map (λ c. compares_with l.x c.0 c.1) (drop l.comparison-index l.comparisons))
    ≡ joined And (map (λ c. compares_with l.x c.0 c.1) l.comparisons)
