use Rattle.lk_plan.proofs.FilterLaws.{filter_is}
use Rattle.lk_plan.proofs.laws.filters_are_conditions.Goals as goal

pub returns : goal.returns
returns c = λ k x row of dated f. filter_is x row k of dated f
