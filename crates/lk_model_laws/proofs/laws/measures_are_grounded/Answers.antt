use Rattle.lk_model_laws.proofs.ModelLaws.{have_grounded_measures}
use Rattle.lk_model_laws.proofs.laws.measures_are_grounded.Goals as goal

pub returns : goal.returns
returns c = have_grounded_measures
