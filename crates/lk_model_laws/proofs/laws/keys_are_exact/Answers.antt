use Rattle.lk_model_laws.proofs.ModelLaws.{have_exact_keys}
use Rattle.lk_model_laws.proofs.laws.keys_are_exact.Goals as goal

pub returns : goal.returns
returns c = have_exact_keys
