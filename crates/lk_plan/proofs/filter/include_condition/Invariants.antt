use Rattle.std.proofs.Common.{◌≡◌, drop, fold, map}
use Rattle.lk_types.specs.Formula.{Or}
use Rattle.lk_plan.specs.Joining.{joined, with_next}
use Rattle.lk_plan.specs.TestConditions.{test_condition}
use Rattle.lk_plan.proofs.filter.include_condition.Given as goal

abbrev pub invariant-loop-test : goal.invariant-loop-test
invariant-loop-test l =
    fold (with_next Or) l.some (map (test_condition l.kind l.x) (drop l.test-index l.tests)) ≡ joined Or (map (test_condition l.kind l.x) l.tests)
