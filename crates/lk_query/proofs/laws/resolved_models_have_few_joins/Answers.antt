use Rattle.lk_query.proofs.ModelLaws.{all_few}
use Rattle.lk_query.proofs.laws.resolved_models_have_few_joins.Goals as goal

pub returns : goal.returns
returns c = λ m is. all_few m m.explores is.explores
