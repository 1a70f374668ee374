use Rattle.lk_plan.proofs.PlanLaws.{field_is}
use Rattle.lk_plan.proofs.laws.fields_are_expressions.Goals as goal

pub returns : goal.returns
returns c = λ m x row resolved has f. field_is m x resolved row has f
