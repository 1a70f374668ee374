use Rattle.lk_loaded_laws.proofs.LoadedLaws.{loaded_resolved}
use Rattle.lk_loaded_laws.proofs.laws.loaded_models_are_resolved.Goals as goal

pub returns : goal.returns
returns c = loaded_resolved
