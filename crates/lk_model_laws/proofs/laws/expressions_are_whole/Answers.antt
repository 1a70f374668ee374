use Rattle.lk_model_laws.proofs.ModelLaws.{are_whole}
use Rattle.lk_model_laws.proofs.laws.expressions_are_whole.Goals as goal

pub returns : goal.returns
returns c = are_whole
