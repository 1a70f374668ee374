use Rattle.lk_plan.proofs.FilterLaws.{test_is}
use Rattle.lk_plan.proofs.laws.tests_are_conditions.Goals as goal

pub returns : goal.returns
returns c = λ k x row of dated t. test_is x row k of dated t
