use Rattle.lk_loaded_laws.proofs.GatheredLaws.{project_fine}
use Rattle.lk_loaded_laws.proofs.laws.texts_are_spelled.Goals as goal

pub returns : goal.returns
returns c = project_fine
