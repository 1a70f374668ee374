use Rattle.lk_plan.proofs.PlanLaws.{passing_dated, visible_dated}
use Rattle.lk_plan.proofs.laws.conditions_are_dated.Goals as goal

pub returns-clause-visible : goal.returns-clause-visible
returns-clause-visible c = λ m x b resolved. visible_dated m x resolved b

pub returns-clause-passing : goal.returns-clause-passing
returns-clause-passing c = λ m x b resolved. passing_dated m x resolved b
