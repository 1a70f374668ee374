use Rattle.lk_model_laws.proofs.ModelLaws.{have_tiers}
use Rattle.lk_model_laws.proofs.laws.tiers_ascend.Goals as goal

pub returns : goal.returns
returns c = have_tiers
