use Rattle.lk_plan.proofs.PlanLaws.{passing_is, visible_is}
use Rattle.lk_plan.proofs.laws.conditions_are_filters.Goals as goal

pub returns-clause-visible : goal.returns-clause-visible
returns-clause-visible c = λ m x b row resolved has dated. visible_is m x resolved row has dated b

pub returns-clause-passing : goal.returns-clause-passing
returns-clause-passing c = λ m x b row resolved has dated. passing_is m x resolved row has dated b
