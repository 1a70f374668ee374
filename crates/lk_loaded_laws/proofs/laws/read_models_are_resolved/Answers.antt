use Rattle.lk_loaded_laws.proofs.LoadedLaws.{read_model_resolved}
use Rattle.lk_loaded_laws.proofs.laws.read_models_are_resolved.Goals as goal

pub returns : goal.returns
returns c = read_model_resolved
