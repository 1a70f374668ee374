use Rattle.std.proofs.Common.{◌≡◌, drop, fold, map}
use Rattle.lk_types.specs.Formula.{And}
use Rattle.lk_plan.specs.Joining.{joined, with_next}
use Rattle.lk_plan.specs.FilterConditions.{exclude_condition}
use Rattle.lk_plan.proofs.filter.excludes_condition.Given as goal

abbrev pub invariant-loop-test : goal.invariant-loop-test
invariant-loop-test l =
    fold (with_next And) l.all (map (exclude_condition l.kind l.x) (drop l.test-index l.tests)) ≡ joined And (map (exclude_condition l.kind l.x) l.tests)
