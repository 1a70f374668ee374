use Rattle.lk_loaded_laws.proofs.LoadedLaws.{merged_objects}
use Rattle.lk_loaded_laws.proofs.laws.objects_are_spelled.Goals as goal

pub returns : goal.returns
returns c = merged_objects
