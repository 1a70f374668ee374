use Rattle.lk_model_laws.proofs.ModelLaws.{have_groups}
use Rattle.lk_model_laws.proofs.laws.timeframes_are_of_one_group.Goals as goal

pub returns : goal.returns
returns c = have_groups
